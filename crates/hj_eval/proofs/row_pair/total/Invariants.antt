use Rattle.std.proofs.Common.{◌≡◌, ◌+◌, ◌≤◌, Some, drop, length}
use Rattle.hj_eval.specs.Holds.{with_parts}
use Rattle.hj_eval.specs.Values.{value_in, IsTotalOf}
use Rattle.hj_value.specs.declared.field.Field.TheVariants as field
use Rattle.hj_eval.proofs.row_pair.total.Given as goal

abbrev pub invariant-loop-at : goal.invariant-loop-at
invariant-loop-at l =
    (with_parts (value_in l.rows) (Some (field.Int l.total)) (drop l.at l.rest) ≡ with_parts (value_in l.rows) (Some (field.Int l.front)) l.rest)
    × IsTotalOf (l.at + 1) l.total × (l.at ≤ length l.rest)
