use Rattle.std.proofs.Common.{sym, subst}
use Rattle.std.proofs.lemmas.Result.{err_from_is_err_and}
use Rattle.std.specs.declared.option.Option.{Option}
use Rattle.hj_event.specs.declared.stop.MergeEnd.{MergeEnd}
use Rattle.hj_event.specs.Merger.{IsDue, Merging, StepsToAnswer}
use Rattle.hj_event.proofs.MergerLemmas.{steps_arrival}
use Rattle.hj_event.proofs.merger.Merger.give_next.Goals as goal

pub returns-in_err-arrive-clause-steps : goal.returns-in_err-arrive-clause-steps
returns-in_err-arrive-clause-steps g c =
    let p = err_from_is_err_and c.from_residual.result c.from_residual.ensures.1 in
    rw (p.1, p.2) c.in_err-arrive.ensures.arrives

pub returns-clause-steps : goal.returns-clause-steps
returns-clause-steps g c =
    let before = g.O.Outside.state c.args.outside.now in
    let now = g.O.Outside.state c.arrive.new.outside in
    let old = c.args.self.now in
    let new = c.self.inside in
    let due = subst (λ (mid : Merging). IsDue old mid before now) (sym c.self.view_is) c.in_ok-arrive.ensures.arrives in
    subst (λ (over : Option MergeEnd). StepsToAnswer c.give.result old (record { sides = new.arrivals; numbering = c.give.new.self; over = over }) before now) (sym due.over)
    (steps_arrival due.arrival c.give.result old.sides new.arrivals old.over old.numbering new.numbering c.give.new.self before now
    c.requires.none due.takes due.numbers c.give.ensures)
