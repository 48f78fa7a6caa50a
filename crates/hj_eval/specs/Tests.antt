-- The parts of a condition that compare a column of each side, and the condition as the list of all its parts.
use Rattle.std.specs.Prelude.{◌≡◌, ℕ, Bool, true, false, not, ◌&&◌, List, [], Option, Some, None, slice_get, if◌then◌else◌}
use Rattle.std.specs.List.{list_all}
use Rattle.hj_base.specs.declared.numbers.Side.{Side}
use Rattle.hj_base.specs.declared.numbers.Side.TheVariants.{Left, Right}
use Rattle.hj_value.specs.declared.column.Column.{Column}
use Rattle.hj_value.specs.declared.column.ColumnType.{ColumnType}
use Rattle.hj_value.specs.declared.field.Field.{Field}
use Rattle.hj_value.specs.declared.field.Field.TheVariants as field
use Rattle.hj_query.specs.declared.pred.Op.{Op}
use Rattle.hj_query.specs.declared.sum.Sum.{Sum}
use Rattle.hj_query.specs.declared.sum.Term.TheVariants as terms
use Rattle.hj_query.specs.QueryParts.{QueryParts}
use Rattle.hj_eval.specs.declared.column_test.ColumnPair.{ColumnPair}
use Rattle.hj_eval.specs.declared.column_test.NumberTest.{NumberTest}
use Rattle.hj_eval.specs.declared.conjuncts.Conjuncts.{Conjuncts}
use Rattle.hj_eval.specs.declared.filter.Need.{Need}
use Rattle.hj_eval.specs.declared.filter.Need.TheVariants as needs
use Rattle.hj_eval.specs.Filter.{pred_on}
use Rattle.hj_eval.specs.Holds.{compares, is_within}

-- Columns of both sides.

-- a relation of two values, or that of the second and the first
abbrev pub in_turn : (Option Field → Option Field → Bool) → Bool → Option Field → Option Field → Bool
in_turn relates true left right = relates right left
in_turn relates false left right = relates left right

-- the sum of a column alone
abbrev pub column_sum : Side → ℕ → Sum
column_sum side at = record { first = terms.Column side at; rest = [] }

-- what stands first, and what stands second
abbrev pub operands : ColumnPair → Bool → Sum × Sum
operands columns true = (column_sum Right columns.right, column_sum Left columns.left)
operands columns false = (column_sum Left columns.left, column_sum Right columns.right)

-- two sums are these columns
pub record AreOperands (first second : Sum) (columns : ColumnPair) : Type 0 where
  pub first_is : first ≡ (operands columns columns.is_turned).0
  pub second_is : second ≡ (operands columns columns.is_turned).1

-- there is a column, of this type
abbrev pub HasKind : ColumnType → Option Column → Type 0
HasKind kind None = ⊥
HasKind kind (Some column) = column.kind ≡ kind

-- two sums are these columns, which are of this type
pub record ArePair (columns_of : Side → List Column) (kind : ColumnType) (first second : Sum) (columns : ColumnPair) : Type 0 where
  pub operands : AreOperands first second columns
  pub left : HasKind kind (slice_get (columns_of Left) columns.left)
  pub right : HasKind kind (slice_get (columns_of Right) columns.right)

-- Tests.

-- what two values have to meet
abbrev pub meets : Need → Option Field → Option Field → Bool
meets (needs.Compare op) = compares op
meets (needs.Within distance) = is_within distance

-- a field that is a number
abbrev pub number_field : Option Field → Option Field
number_field (Some (field.Int number)) = Some (field.Int number)
number_field _ = None

-- a field that is a text
abbrev pub text_field : Option Field → Option Field
text_field (Some (field.Text text)) = Some (field.Text text)
text_field _ = None

-- the numbers of two columns meet this
abbrev pub numbers_meet : Need → ColumnPair → List Field → List Field → Bool
numbers_meet need columns left right =
    in_turn (meets need) columns.is_turned (number_field (slice_get left columns.left)) (number_field (slice_get right columns.right))

-- the texts of two columns compare so
abbrev pub texts_meet : Op → ColumnPair → List Field → List Field → Bool
texts_meet op columns left right =
    in_turn (compares op) columns.is_turned (text_field (slice_get left columns.left)) (text_field (slice_get right columns.right))

abbrev pub number_holds : NumberTest → List Field → List Field → Bool
number_holds test left right =
    if test.is_negated then not (numbers_meet test.need test.columns left right) else numbers_meet test.need test.columns left right

-- all parts of a condition hold
abbrev pub all_hold : QueryParts → Conjuncts → List Field → List Field → Bool
all_hold query conjuncts left right =
    list_all (λ test. number_holds test left right) conjuncts.numbers.items
    && (list_all (λ test. texts_meet test.op test.columns left right) conjuncts.texts.items
    && list_all (λ pred. pred_on query pred.now left right) conjuncts.others.items)
