use Rattle.hj_event.proofs.MergerLemmas.{steps_due}
use Rattle.hj_event.proofs.merger.Merger.step.Goals as goal

pub returns-then-has_due-clause-steps : goal.returns-then-has_due-clause-steps
returns-then-has_due-clause-steps g c =
    let left = rw (← c.self.view_is) at c.requires.left in
    let right = rw (← c.self.view_is) at c.requires.right in
    rw (← c.self.view_is) (steps_due c.give.result c.self.inside.arrivals c.self.inside.over c.self.inside.numbering c.give.new.self (g.O.Outside.state c.args.outside.now) left right c.give.ensures)
