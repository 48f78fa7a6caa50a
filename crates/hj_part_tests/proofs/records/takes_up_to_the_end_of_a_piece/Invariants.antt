use Rattle.std.proofs.Common.{◌≡◌, false}
use Rattle.hj_part_tests.proofs.records.takes_up_to_the_end_of_a_piece.Given as goal

abbrev pub invariant-loop-line : goal.invariant-loop-line
invariant-loop-line g l = l.cutter.whole ≡ false
