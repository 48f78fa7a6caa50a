use Rattle.std.proofs.Common.{sym, ◌∙◌}
use Rattle.hj_event.specs.Timed.{timed_rows}
use Rattle.hj_event.proofs.TimedLemmas.{pop_timed}
use Rattle.hj_event.proofs.WaitingLemmas.{test_is, takes_late}
use Rattle.hj_event.proofs.waiting.WaitingRows.take.Goals as goal

pub returns-then-is_before : goal.returns-then-is_before
returns-then-is_before c =
    rw (← c.self.view_is)
    (takes_late c.take.result (timed_rows c.self.inside.queue.items) c.self.inside.late c.take.new.self c.self.invariant.1
    (test_is c.first_time.result c.first_time-2.result c.is_before.result _ _ c.first_time.ensures c.first_time-2.ensures c.is_before.ensures ∙ c.if-is_before.true) c.take.ensures)

pub invariant_of-self-else-is_before : goal.invariant_of-self-else-is_before
invariant_of-self-else-is_before c =
    let ge = test_is c.first_time.result c.first_time-2.result c.is_before.result _ _ c.first_time.ensures c.first_time-2.ensures c.is_before.ensures ∙ c.if-is_before.false in
    (pop_timed c.self.inside.queue.items c.pop_front.new.self.items c.self.inside.late c.in_ok-first.first c.in_ok-first.ensures.items c.self.invariant.0 c.self.invariant.1 ge).0

pub returns-in_ok-first : goal.returns-in_ok-first
returns-in_ok-first c =
    let ge = test_is c.first_time.result c.first_time-2.result c.is_before.result _ _ c.first_time.ensures c.first_time-2.ensures c.is_before.ensures ∙ c.if-is_before.false in
    sym c.self.view_is ∙ (pop_timed c.self.inside.queue.items c.pop_front.new.self.items c.self.inside.late c.in_ok-first.first c.in_ok-first.ensures.items c.self.invariant.0 c.self.invariant.1 ge).1
