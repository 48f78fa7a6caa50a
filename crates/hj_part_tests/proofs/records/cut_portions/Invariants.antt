use Rattle.std.proofs.Common.{◌≡◌, ◌-◌, ◌≤◌, false, None, length}
use Rattle.hj_part_tests.proofs.records.cut_portions.Given as goal

abbrev pub invariant-loop-at : goal.invariant-loop-at
invariant-loop-at g l = (l.at ≤ length l.stream) × (l.cutter.whole ≡ false) × (l.cutter.fault ≡ None)

abbrev pub decreases-loop-at : goal.decreases-loop-at
decreases-loop-at g l = length l.stream - l.at
