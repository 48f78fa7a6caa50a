use Rattle.std.proofs.Common.{◌≡◌, Ok, true, false}
use Rattle.hj_event.specs.declared.stop.ReadStep.TheVariants as read_step
use Rattle.hj_event.specs.Taking.{late_side, SideGoesOn}
use Rattle.hj_event.specs.Waiting.{has_sure}
use Rattle.hj_event.proofs.row_source.read_lines.Given as goal

abbrev pub invariant-loop : goal.invariant-loop
invariant-loop l = record {
  goes_on : SideGoesOn (Ok read_step.NoRecord) (late_side l.initial.reader l.initial.waiting) (late_side l.reader l.waiting);
  slack : l.reader.slack ≡ l.initial.reader.slack;
  none_sure : l.none_sure ≡ true → has_sure l.reader.slack l.reader.time l.waiting ≡ false;
}
