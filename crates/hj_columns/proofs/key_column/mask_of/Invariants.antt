use Rattle.std.proofs.Common.{◌≡◌, ◌<◌, ◌+◌, ℕ}
use Rattle.std.specs.Int.{bit_at}
use Rattle.hj_columns.proofs.Covering.{AreInBelow}
use Rattle.hj_columns.proofs.key_column.mask_of.Given as goal

abbrev pub invariant-loop-at : goal.invariant-loop-at
invariant-loop-at g l = (k : ℕ) → k < 64 → AreInBelow l.at l.columns l.ranges (l.from + k) → bit_at l.mask k ≡ 1
