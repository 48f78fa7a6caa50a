-- Values while a condition is evaluated.
use Rattle.std.specs.Prelude.{ℕ, ◌*◌, ◌^◌, ℤ, pos, neg_ℤ, ◌≤ℤ◌, ◌<ℤ◌, Option, FitsSigned}
use Rattle.std.specs.Int.{w64}
use Rattle.hj_value.specs.declared.field.Field.{Field}
use Rattle.hj_value.specs.declared.field.Field.TheVariants as field
use Rattle.hj_query.specs.declared.sum.Term.{Term}
use Rattle.hj_query.specs.Grammar.{columns_of}
use Rattle.hj_query.specs.Sides.{by_side}
use Rattle.hj_eval.specs.declared.value.SumValue.{SumValue}
use Rattle.hj_eval.specs.declared.value.SumValue.TheVariants as values
use Rattle.hj_eval.specs.declared.row_pair.RowPair.{RowPair}
use Rattle.hj_eval.specs.Holds.{term_value}

-- the number or the text that a value is
abbrev pub field_of : SumValue → Field
field_of (values.Number number) = field.Int number
field_of (values.Text text) = field.Text text.now

-- a value that is a number has at most 64 bits
abbrev pub IsSmall : SumValue → Type 0
IsSmall (values.Number number) = FitsSigned w64 number
IsSmall (values.Text text) = Unit {0}

-- what so many numbers of 64 bits with sign, added up or taken off one another, may come to
abbrev pub IsTotalOf : ℕ → ℤ → Type 0
IsTotalOf terms total = (neg_ℤ (pos (2 ^ 63 * terms)) ≤ℤ total) × (total <ℤ pos (2 ^ 63 * terms))

-- the value of a term in two rows
abbrev pub value_in : RowPair → Term → Option Field
value_in rows = term_value (columns_of rows.query.now) (by_side rows.left.now rows.right.now)
