use Rattle.std.proofs.Common.{◌≡◌, ◌++◌, take}
use Rattle.hj_emit.specs.Cells.{cells}
use Rattle.hj_emit.proofs.fill.push_row.Given as goal

abbrev pub invariant-loop-at : goal.invariant-loop-at
invariant-loop-at l = l.text.items ≡ l.initial.text.items ++ cells (take l.at l.row)
