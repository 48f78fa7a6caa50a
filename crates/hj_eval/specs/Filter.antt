-- Keys of rows: where a condition compares two sums, each row has a number for its own part of them, and a row of the other side
-- tells from it whether the two may match.
use Rattle.std.specs.Prelude.{◌≡◌, ℕ, ◌+◌, ◌-◌, ◌^◌, min, ℤ, pos, negsuc, neg_ℤ, ◌+ℤ◌, ◌-ℤ◌, ◌≤ℤ◌, Bool, true, false, List, [], ◌∷◌, Option, Some, None, option_map, slice_get, if◌then◌else◌}
use Rattle.std.specs.List.{flat_map}
use Rattle.hj_base.specs.declared.numbers.Side.{Side}
use Rattle.hj_base.specs.declared.numbers.Side.TheVariants.{Left, Right}
use Rattle.hj_value.specs.declared.column.Column.{Column}
use Rattle.hj_value.specs.declared.field.Field.{Field}
use Rattle.hj_value.specs.declared.field.Field.TheVariants as field
use Rattle.hj_query.specs.declared.pred.Op.TheVariants as ops
use Rattle.hj_query.specs.declared.pred.Pred.{Pred, Compare, Within}
use Rattle.hj_query.specs.declared.sum.SignedTerm.{SignedTerm}
use Rattle.hj_query.specs.declared.sum.Sum.{Sum}
use Rattle.hj_query.specs.declared.sum.Term.{Term}
use Rattle.hj_query.specs.declared.sum.Term.TheVariants as terms
use Rattle.hj_query.specs.Grammar.{columns_of, is_text}
use Rattle.hj_query.specs.QueryParts.{QueryParts}
use Rattle.hj_query.specs.Sides.{by_side}
use Rattle.hj_msg.specs.Quiet.{other_side}
use Rattle.hj_rows.specs.declared.key_filter.KeyRange.{KeyRange}
use Rattle.hj_rows.specs.Keys.{KeepsKeys}
use Rattle.hj_eval.specs.declared.filter.Filter.{Filter}
use Rattle.hj_eval.specs.declared.filter.Need.{Need}
use Rattle.hj_eval.specs.declared.filter.Need.TheVariants as needs
use Rattle.hj_eval.specs.Holds.{pred_holds, term_value}
use Rattle.hj_eval.specs.Plan.{conjuncts}

-- What one row adds to a sum.

-- the number that a field is
abbrev pub number_in : Option Field → Option ℤ
number_in (Some (field.Int number)) = Some number
number_in _ = None

-- What a term adds to a sum where only the columns of this side count, which has this row, and numbers only where so said.
abbrev pub number_of : Side → List Field → Bool → Term → Option ℤ
number_of Left row numbers (terms.Column Left at) = number_in (slice_get row at)
number_of Left row numbers (terms.Column Right at) = Some (pos 0)
number_of Right row numbers (terms.Column Left at) = Some (pos 0)
number_of Right row numbers (terms.Column Right at) = number_in (slice_get row at)
number_of side row true (terms.Number number) = Some number
number_of side row false (terms.Number number) = Some (pos 0)
number_of side row numbers (terms.Text text) = None

abbrev pub more : Option ℤ → Option ℤ → Option ℤ
more (Some a) (Some b) = Some (a +ℤ b)
more _ _ = None

abbrev pub less : Option ℤ → Option ℤ → Option ℤ
less (Some a) (Some b) = Some (a -ℤ b)
less _ _ = None

-- a number with a term added to it or taken off it
abbrev pub with_number : (Term → Option ℤ) → Option ℤ → SignedTerm → Option ℤ
with_number number front part = if part.plus then more front (number part.term) else less front (number part.term)

-- a number with terms added to it and taken off it
abbrev pub with_numbers : (Term → Option ℤ) → Option ℤ → List SignedTerm → Option ℤ
with_numbers number front [] = front
with_numbers number front (part ∷ parts) = with_numbers number (with_number number front part) parts

abbrev pub total : (Term → Option ℤ) → Sum → Option ℤ
total number sum = with_numbers number (number sum.first) sum.rest

-- what the one sum is more than the other
abbrev pub difference : (Term → Option ℤ) → Sum → Sum → Option ℤ
difference number first second = less (total number first) (total number second)

-- Keys.

-- the number of 64 bits that is nearest to this one and 2 ^ 63 more
abbrev pub key_of : ℤ → ℕ
key_of (pos number) = min (number + 2 ^ 63) (2 ^ 64 - 1)
key_of (negsuc number) = 2 ^ 63 - (number + 1)

-- the key of a number; 0 where there is none
abbrev pub key_or_zero : Option ℤ → ℕ
key_or_zero None = 0
key_or_zero (Some number) = key_of number

-- the key of a row of this side: by what it adds to the first sum of a filter and not to the second
abbrev pub own_key : Filter → Side → List Field → ℕ
own_key filter side row = key_or_zero (difference (number_of side row false) filter.first.now filter.second.now)

-- Ranges.

-- what the first sum is at least more than the second; none where there is no such bound
abbrev pub least_of : Need → Option ℤ
least_of (needs.Compare ops.Eq) = Some (pos 0)
least_of (needs.Compare ops.Gt) = Some (pos 1)
least_of (needs.Compare ops.Ge) = Some (pos 0)
least_of (needs.Compare _) = None
least_of (needs.Within distance) = Some (neg_ℤ (pos distance))

-- what the first sum is at most more than the second; none where there is no such bound
abbrev pub most_of : Need → Option ℤ
most_of (needs.Compare ops.Eq) = Some (pos 0)
most_of (needs.Compare ops.Lt) = Some (negsuc 0)
most_of (needs.Compare ops.Le) = Some (pos 0)
most_of (needs.Compare _) = None
most_of (needs.Within distance) = Some (pos distance)

-- the lowest key of a row whose part of a difference, with this other part, is at least so much
abbrev pub low_key : Option ℤ → ℤ → ℕ
low_key None other = 0
low_key (Some least) other = key_of (least -ℤ other)

-- the highest key of a row whose part of a difference, with this other part, is at most so much
abbrev pub high_key : Option ℤ → ℤ → ℕ
high_key None other = 2 ^ 64 - 1
high_key (Some most) other = key_of (most -ℤ other)

-- the keys of rows of this side that may match this row of the other one; none where it lacks a value
abbrev pub range_of : Filter → Side → List Field → Option KeyRange
range_of filter side against =
    option_map (λ other. record { low = low_key (least_of filter.need) other; high = high_key (most_of filter.need) other })
    (difference (number_of (other_side side) against true) filter.first.now filter.second.now)

-- what a filter asks, and of which two sums
abbrev pub asked_by : Filter → Need × (Sum × Sum)
asked_by filter = (filter.need, (filter.first.now, filter.second.now))

-- What a filter asks that a part of a condition gives: a comparison of two sums of numbers, but `!=`, or a distance of them. No
-- other part gives one.
abbrev pub ask_of : (Side → List Column) → Pred → List (Need × (Sum × Sum))
ask_of columns (Compare ops.Ne first second) = []
ask_of columns (Compare op first second) = if is_text columns first.first then [] else (needs.Compare op, (first, second)) ∷ []
ask_of columns (Within distance first second) = (needs.Within distance, (first, second)) ∷ []
ask_of columns pred = []

-- what the filters of a condition ask, in the order of its parts
abbrev pub asks_of : (Side → List Column) → Pred → List (Need × (Sum × Sum))
asks_of columns pred = flat_map (ask_of columns) (conjuncts pred)

-- a filter lets through all rows that match
abbrev pub KeepsMatches : (List Field → List Field → Bool) → Filter → Type 0
KeepsMatches matches filter = KeepsKeys matches (own_key filter) (range_of filter)

-- Conditions.

-- a part of a query's condition, as a predicate of a left and a right row
abbrev pub pred_on : QueryParts → Pred → List Field → List Field → Bool
pred_on query pred left right = pred_holds (term_value (columns_of query) (by_side left right)) pred

-- rows that match by the one predicate match by the other
abbrev pub Implies : (List Field → List Field → Bool) → (List Field → List Field → Bool) → Type 0
Implies matches other = (left right : List Field) → matches left right ≡ true → other left right ≡ true

-- a bound of a filter has few bits
abbrev pub IsShort : ℤ → Type 0
IsShort number = (neg_ℤ (pos (2 ^ 64)) ≤ℤ number) × (number ≤ℤ pos (2 ^ 64))
