use Rattle.std.proofs.Common.{◌≡◌, take}
use Rattle.hj_value.proofs.columns.Columns.copy.Given as goal

abbrev pub invariant-loop-column : goal.invariant-loop-column
invariant-loop-column l = l.copy ≡ take l.column-index l.self
