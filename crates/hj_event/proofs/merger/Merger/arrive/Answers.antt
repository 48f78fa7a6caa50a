use Rattle.std.proofs.lemmas.Result.{err_from_is_err_and}
use Rattle.hj_event.proofs.MergerLemmas.{steps_last}
use Rattle.hj_event.proofs.merger.Merger.arrive.Goals as goal

pub returns-in_err-side-clause-arrives : goal.returns-in_err-side-clause-arrives
returns-in_err-side-clause-arrives g c =
    let p = err_from_is_err_and c.from_residual.result c.from_residual.ensures.1 in
    let none = rw (← c.self.view_is) at c.requires.none in
    rw (p.1, p.2, ← c.self.view_is)
    (steps_last c.in_err-side.field-0.0 c.self.inside.arrivals c.next_arrival.new.self c.self.inside.over c.self.inside.numbering (g.O.Outside.state c.args.outside.now) (g.O.Outside.state c.next_arrival.new.outside) none c.in_err-side.ensures.takes)
