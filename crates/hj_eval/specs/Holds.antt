-- What a condition says of a left and a right row. Numbers have no bound here, and a text is the list of its bytes.
use Rattle.std.specs.Prelude.{ℕ, ◌+ℤ◌, ◌-ℤ◌, nat_abs, Bool, false, not, ◌&&◌, ◌||◌, List, [], ◌∷◌, Option, Some, None, nat_le, slice_get, if◌then◌else◌}
use Rattle.std.specs.Cmp.Lexicographic.{slice_cmp}
use Rattle.std.specs.Ordering.{nat_cmp, int_cmp, is_eq, is_ne, is_lt, is_le, is_gt, is_ge}
use Rattle.std.specs.declared.cmp.Ordering.{Ordering}
use Rattle.hj_base.specs.declared.numbers.Side.{Side}
use Rattle.hj_value.specs.declared.column.Column.{Column}
use Rattle.hj_value.specs.declared.field.Field.{Field}
use Rattle.hj_value.specs.declared.field.Field.TheVariants as field
use Rattle.hj_value.specs.Schema.{is_int}
use Rattle.hj_query.specs.declared.pred.Op.{Op}
use Rattle.hj_query.specs.declared.pred.Op.TheVariants as ops
use Rattle.hj_query.specs.declared.pred.Pred.{Pred, Or', And', Not', Compare, Within}
use Rattle.hj_query.specs.declared.sum.SignedTerm.{SignedTerm}
use Rattle.hj_query.specs.declared.sum.Sum.{Sum}
use Rattle.hj_query.specs.declared.sum.Term.{Term}
use Rattle.hj_query.specs.declared.sum.Term.TheVariants as terms
use Rattle.hj_query.specs.Grammar.{columns_of}
use Rattle.hj_query.specs.QueryParts.{QueryParts}
use Rattle.hj_query.specs.Sides.{by_side}

-- Values of terms. The columns and the fields of each side are known.

-- a field is of the column's type
abbrev pub has_type : Column → Field → Bool
has_type column (field.Int number) = is_int column.kind
has_type column (field.Text text) = not (is_int column.kind)

-- the value of a column in a row: its field; none where the row lacks it, or has another type there
abbrev pub column_value : Option Column → Option Field → Option Field
column_value (Some column) (Some value) = if has_type column value then Some value else None
column_value (Some column) None = None
column_value None value = None

abbrev pub term_value : (Side → List Column) → (Side → List Field) → Term → Option Field
term_value columns rows (terms.Column side at) = column_value (slice_get (columns side) at) (slice_get (rows side) at)
term_value columns rows (terms.Number number) = Some (field.Int number)
term_value columns rows (terms.Text text) = Some (field.Text text)

-- Values of sums.

-- a number more, where both values are numbers
abbrev pub plus : Option Field → Option Field → Option Field
plus (Some (field.Int a)) (Some (field.Int b)) = Some (field.Int (a +ℤ b))
plus _ _ = None

-- a number less, where both values are numbers
abbrev pub minus : Option Field → Option Field → Option Field
minus (Some (field.Int a)) (Some (field.Int b)) = Some (field.Int (a -ℤ b))
minus _ _ = None

-- a value with a term added to it or taken off it
abbrev pub with_part : (Term → Option Field) → Option Field → SignedTerm → Option Field
with_part value front part = if part.plus then plus front (value part.term) else minus front (value part.term)

-- a value with terms added to it and taken off it
abbrev pub with_parts : (Term → Option Field) → Option Field → List SignedTerm → Option Field
with_parts value front [] = front
with_parts value front (part ∷ parts) = with_parts value (with_part value front part) parts

abbrev pub sum_value : (Term → Option Field) → Sum → Option Field
sum_value value sum = with_parts value (value sum.first) sum.rest

-- Conditions.

-- two values in this order compare so
abbrev pub accepts : Op → Ordering → Bool
accepts ops.Eq = is_eq
accepts ops.Ne = is_ne
accepts ops.Lt = is_lt
accepts ops.Le = is_le
accepts ops.Gt = is_gt
accepts ops.Ge = is_ge

-- two numbers, or the bytes of two texts, compare so
abbrev pub compares : Op → Option Field → Option Field → Bool
compares op (Some (field.Int a)) (Some (field.Int b)) = accepts op (int_cmp a b)
compares op (Some (field.Text a)) (Some (field.Text b)) = accepts op (slice_cmp nat_cmp a b)
compares op _ _ = false

-- two numbers differ by at most so much
abbrev pub is_within : ℕ → Option Field → Option Field → Bool
is_within distance (Some (field.Int a)) (Some (field.Int b)) = nat_le (nat_abs (a -ℤ b)) distance
is_within distance _ _ = false

abbrev pub pred_holds : (Term → Option Field) → Pred → Bool
pred_holds value (Or' p left q right) = pred_holds value left || pred_holds value right
pred_holds value (And' p left q right) = pred_holds value left && pred_holds value right
pred_holds value (Not' p inner) = not (pred_holds value inner)
pred_holds value (Compare op left right) = compares op (sum_value value left) (sum_value value right)
pred_holds value (Within distance left right) = is_within distance (sum_value value left) (sum_value value right)

-- the condition of a query, for a left and a right row
abbrev pub holds : QueryParts → List Field → List Field → Bool
holds query left right = pred_holds (term_value (columns_of query) (by_side left right)) query.pred
