use Rattle.std.proofs.Common.{true, false, Some, refl, sym, ◌∙◌}
use Rattle.hj_event.specs.Timed.{timed_rows}
use Rattle.hj_event.proofs.TimedLemmas.{pop_timed}
use Rattle.hj_event.proofs.WaitingLemmas.{first_sure, in_order_all, takes_late, takes_sure, test_is}
use Rattle.hj_event.proofs.waiting.WaitingRows.take_sure.Goals as goal

pub returns-then-not-has_sure-clause-takes : goal.returns-then-not-has_sure-clause-takes
returns-then-not-has_sure-clause-takes c = (refl, first_sure c.args.slack c.args.greatest (timed_rows c.self.inside.queue.items) c.self.inside.late c.args.self.now c.first_time-late.result c.first_time-queue.result c.is_before.result true c.has_sure.result c.self.invariant.1 c.self.view_is c.first_time-late.ensures c.first_time-queue.ensures c.is_before.ensures c.if-is_before.true c.has_sure.ensures ∙ c.if-not-has_sure.true)

pub returns-then-not-has_sure-clause-in_order : goal.returns-then-not-has_sure-clause-in_order
returns-then-not-has_sure-clause-in_order c = rw (← c.self.view_is) (in_order_all (timed_rows c.self.inside.queue.items) c.self.inside.late c.self.invariant.1)

pub returns-then-is_before-clause-takes : goal.returns-then-is_before-clause-takes
returns-then-is_before-clause-takes c =
    let queue = timed_rows c.self.inside.queue.items in
    let sure = first_sure c.args.slack c.args.greatest (timed_rows c.self.inside.queue.items) c.self.inside.late c.args.self.now c.first_time-late.result c.first_time-queue.result c.is_before.result true c.has_sure.result c.self.invariant.1 c.self.view_is c.first_time-late.ensures c.first_time-queue.ensures c.is_before.ensures c.if-is_before.true c.has_sure.ensures ∙ c.if-not-has_sure.false in
    takes_sure c.take.result c.args.slack c.args.greatest c.args.self.now _ sure
    (rw (← c.self.view_is) (takes_late c.take.result queue c.self.inside.late c.take.new.self c.self.invariant.1 (test_is c.first_time-late.result c.first_time-queue.result c.is_before.result _ _ c.first_time-late.ensures c.first_time-queue.ensures c.is_before.ensures ∙ c.if-is_before.true) c.take.ensures))

pub returns-then-is_before-clause-in_order : goal.returns-then-is_before-clause-in_order
returns-then-is_before-clause-in_order c = rw (← c.self.view_is) (in_order_all (timed_rows c.self.inside.queue.items) c.self.inside.late c.self.invariant.1)

pub returns-then-not-has_sure-2-clause-takes : goal.returns-then-not-has_sure-2-clause-takes
returns-then-not-has_sure-2-clause-takes c = (refl, first_sure c.args.slack c.args.greatest (timed_rows c.self.inside.queue.items) c.self.inside.late c.args.self.now c.first_time-late.result c.first_time-queue.result c.is_before.result false c.has_sure-2.result c.self.invariant.1 c.self.view_is c.first_time-late.ensures c.first_time-queue.ensures c.is_before.ensures c.if-is_before.false c.has_sure-2.ensures ∙ c.if-not-has_sure-2.true)

pub returns-then-not-has_sure-2-clause-in_order : goal.returns-then-not-has_sure-2-clause-in_order
returns-then-not-has_sure-2-clause-in_order c = rw (← c.self.view_is) (in_order_all (timed_rows c.self.inside.queue.items) c.self.inside.late c.self.invariant.1)

pub invariant_of-self-2 : goal.invariant_of-self-2
invariant_of-self-2 c =
    let ge = test_is c.first_time-late.result c.first_time-queue.result c.is_before.result _ _ c.first_time-late.ensures c.first_time-queue.ensures c.is_before.ensures ∙ c.if-is_before.false in
    (pop_timed c.self.inside.queue.items c.pop_front.new.self.items c.self.inside.late c.in_ok-first.first c.in_ok-first.ensures.items c.self.invariant.0 c.self.invariant.1 ge).0

pub returns-clause-takes : goal.returns-clause-takes
returns-clause-takes c =
    let sure = first_sure c.args.slack c.args.greatest (timed_rows c.self.inside.queue.items) c.self.inside.late c.args.self.now c.first_time-late.result c.first_time-queue.result c.is_before.result false c.has_sure-2.result c.self.invariant.1 c.self.view_is c.first_time-late.ensures c.first_time-queue.ensures c.is_before.ensures c.if-is_before.false c.has_sure-2.ensures ∙ c.if-not-has_sure-2.false in
    let ge = test_is c.first_time-late.result c.first_time-queue.result c.is_before.result _ _ c.first_time-late.ensures c.first_time-queue.ensures c.is_before.ensures ∙ c.if-is_before.false in
    takes_sure (Some c.in_ok-first.first.row) c.args.slack c.args.greatest c.args.self.now _ sure (sym c.self.view_is ∙ (pop_timed c.self.inside.queue.items c.pop_front.new.self.items c.self.inside.late c.in_ok-first.first c.in_ok-first.ensures.items c.self.invariant.0 c.self.invariant.1 ge).1)

pub returns-clause-in_order : goal.returns-clause-in_order
returns-clause-in_order c = rw (← c.self.view_is) (in_order_all (timed_rows c.self.inside.queue.items) c.self.inside.late c.self.invariant.1)
