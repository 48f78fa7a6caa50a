use Rattle.std.proofs.Common.{◌≡◌, map, take}
use Rattle.hj_value.specs.declared.field.Field.TheVariants as field
use Rattle.hj_value.proofs.row.stored_of.Given as goal

abbrev pub invariant-loop-number : goal.invariant-loop-number
invariant-loop-number l = l.stored ≡ map field.Int (take l.number-index l.numbers)
