-- How the rows of one side that may match a row of the other one are found, and what rows that match have in common.
use Rattle.std.specs.Prelude.{◌≡◌, ℕ, ◌-ℤ◌, ◌≤◌, nat_abs, ℤ, List, [], ◌∷◌, ◌++◌, Option, Some, None, option_map, slice_get}
use Rattle.std.specs.Option.{option_or}
use Rattle.hj_base.specs.declared.numbers.Side.{Side}
use Rattle.hj_base.specs.declared.numbers.Side.TheVariants.{Left, Right}
use Rattle.hj_value.specs.declared.field.Field.{Field}
use Rattle.hj_value.specs.declared.field.Field.TheVariants as field
use Rattle.hj_query.specs.declared.pred.Op.TheVariants as ops
use Rattle.hj_query.specs.declared.pred.Pred.{Pred, And', Compare, Within}
use Rattle.hj_query.specs.declared.sum.SignedTerm.{SignedTerm}
use Rattle.hj_query.specs.declared.sum.Sum.{Sum}
use Rattle.hj_query.specs.declared.sum.Term.{Term}
use Rattle.hj_query.specs.declared.sum.Term.TheVariants as terms
use Rattle.hj_eval.specs.declared.store_plan.StorePlan.{StorePlan}
use Rattle.hj_eval.specs.declared.store_plan.StorePlan.TheVariants as plans

-- The plan of a condition.

-- what is left of a condition once all `and`s at its top are taken apart, from left to right
abbrev pub conjuncts : Pred → List Pred
conjuncts (And' p left q right) = conjuncts left ++ conjuncts right
conjuncts pred = pred ∷ []

abbrev pub lone_term : Term → List SignedTerm → Option (Side × ℕ)
lone_term (terms.Column side at) [] = Some (side, at)
lone_term first rest = None

-- the column that a sum is, where it is one alone
abbrev pub lone_column : Sum → Option (Side × ℕ)
lone_column sum = lone_term sum.first sum.rest

abbrev pub paired : Option (Side × ℕ) → Option (Side × ℕ) → Option (ℕ × ℕ)
paired (Some (Left, left)) (Some (Right, right)) = Some (left, right)
paired (Some (Right, right)) (Some (Left, left)) = Some (left, right)
paired first second = None

-- a column of the left rows and one of the right rows, where of two sums each is one column alone, and they are of both sides
abbrev pub column_pair : Sum → Sum → Option (ℕ × ℕ)
column_pair first second = paired (lone_column first) (lone_column second)

-- the columns that a comparison by `=` says are equal
abbrev pub equal_columns : Pred → Option (ℕ × ℕ)
equal_columns (Compare ops.Eq first second) = column_pair first second
equal_columns pred = None

-- the columns that a `within` says are near each other, and how near
abbrev pub near_columns : Pred → Option ((ℕ × ℕ) × ℕ)
near_columns (Within distance first second) = option_map (λ columns. (columns, distance)) (column_pair first second)
near_columns pred = None

-- what the first condition that has something has
abbrev pub first_of : {A : Type 0} → (Pred → Option A) → List Pred → Option A
first_of found [] = None
first_of found (pred ∷ preds) = option_or (found pred) (first_of found preds)

-- equality where there is one, else nearness
abbrev pub plan_by : Option (ℕ × ℕ) → Option ((ℕ × ℕ) × ℕ) → StorePlan
plan_by (Some (left, right)) near = plans.Equal left right
plan_by None (Some ((left, right), within)) = plans.Band left right within
plan_by None None = plans.Scan

-- Equal of the first conjunct that says that two columns are equal; else Band of the first that says that two are near; else
-- Scan
abbrev pub plan_of : Pred → StorePlan
plan_of pred = plan_by (first_of equal_columns (conjuncts pred)) (first_of near_columns (conjuncts pred))

-- Equal, else Band, else Scan; of two that are alike the first
abbrev pub better_plan : StorePlan → StorePlan → StorePlan
better_plan (plans.Equal left right) second = plans.Equal left right
better_plan (plans.Band left right within) (plans.Equal l r) = plans.Equal l r
better_plan (plans.Band left right within) second = plans.Band left right within
better_plan plans.Scan second = second

-- What rows that match have in common.

-- both have the value in their columns
abbrev pub AreEqual : Option Field → Option Field → Type 0
AreEqual left right = (value : Field) × (left ≡ Some value) × (right ≡ Some value)

-- both have numbers there, which differ by at most so much
abbrev pub AreNear : ℕ → Option Field → Option Field → Type 0
AreNear within left right =
    (a b : ℤ) × (left ≡ Some (field.Int a)) × (right ≡ Some (field.Int b)) × (nat_abs (a -ℤ b) ≤ within)

abbrev pub MeetsPlan : StorePlan → List Field → List Field → Type 0
MeetsPlan (plans.Equal left_column right_column) left right = AreEqual (slice_get left left_column) (slice_get right right_column)
MeetsPlan (plans.Band left_column right_column within) left right =
    AreNear within (slice_get left left_column) (slice_get right right_column)
MeetsPlan plans.Scan left right = Unit {0}
