use Rattle.std.proofs.Common.{Some, heap_items, sym, ◌∙◌}
use Rattle.hj_event.specs.Days.{all_late, late_on}
use Rattle.hj_event.proofs.LateLemmas.{late_taken, row_taken, takes_row_of_first, takes_second}
use Rattle.hj_event.proofs.late.LateRows.take.Goals as goal

pub invariant_of-self-then-is_on_day : goal.invariant_of-self-then-is_on_day
invariant_of-self-then-is_on_day c =
    let others = heap_items c.self.inside.others in
    let takes = takes_second (Some c.in_ok-first.first) others (late_on c.self.inside.days) (late_on c.take.new.self) (c.is_on_day.ensures.day c.if-is_on_day.true) c.in_ok-first.ensures.takes in
    (c.self.invariant.0, c.in_ok-first.ensures.days, late_taken c.self.inside.next (all_late others c.self.inside.days) c.self.invariant.2 c.in_ok-first.first (all_late others c.take.new.self) takes.0)

pub returns-then-is_on_day : goal.returns-then-is_on_day
returns-then-is_on_day c =
    let others = heap_items c.self.inside.others in
    let takes = takes_second (Some c.in_ok-first.first) others (late_on c.self.inside.days) (late_on c.take.new.self) (c.is_on_day.ensures.day c.if-is_on_day.true) c.in_ok-first.ensures.takes in
    sym c.self.view_is ∙ row_taken c.self.inside.next (all_late others c.self.inside.days) c.self.invariant.2 c.in_ok-first.first (all_late others c.take.new.self) takes.0 takes.1.first

pub invariant_of-self-2 : goal.invariant_of-self-2
invariant_of-self-2 c = (
  c.take_from.ensures.heap,
  c.self.invariant.1,
  (takes_row_of_first c.self.inside.next c.take_from.result (heap_items c.self.inside.others) (heap_items c.take_from.new.others) (late_on c.self.inside.days) c.args.self.now c.self.invariant.2 c.self.view_is
      (c.is_on_day.ensures.other c.if-is_on_day.false) c.take_from.ensures.takes).0,
)

pub returns : goal.returns
returns c =
    (takes_row_of_first c.self.inside.next c.take_from.result (heap_items c.self.inside.others) (heap_items c.take_from.new.others) (late_on c.self.inside.days) c.args.self.now c.self.invariant.2 c.self.view_is
    (c.is_on_day.ensures.other c.if-is_on_day.false) c.take_from.ensures.takes).1
