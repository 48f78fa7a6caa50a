use Rattle.std.proofs.Common.{◌≡◌, ◌+◌, ◌*◌, ◌≤◌, ◌++◌, length, map, drop}
use Rattle.hj_emit.specs.Cells.{cells}
use Rattle.hj_value.specs.declared.field.Field.TheVariants as field
use Rattle.hj_emit.proofs.numbers.write_numbers.Given as goal

abbrev pub invariant-loop-left : goal.invariant-loop-left
invariant-loop-left l =
    (l.left ≤ length l.numbers) × (l.at ≤ l.end) × (l.end + 21 * l.left ≤ l.at + 21 * length l.numbers)
    × (drop l.at l.bytes ≡ cells (map field.Int (drop l.left l.numbers)) ++ drop l.end l.fn.bytes)

abbrev pub decreases-loop-left : goal.decreases-loop-left
decreases-loop-left l = l.left
