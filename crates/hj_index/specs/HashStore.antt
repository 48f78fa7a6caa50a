-- The rows of a hash store: those whose value in a column has one key are a chain.
use Rattle.std.specs.Prelude.{◌≡◌, ℕ, Bool, true, List, slice_get}
use Rattle.hj_base.specs.declared.numbers.Side.{Side}
use Rattle.hj_value.specs.declared.field.Field.{Field}
use Rattle.hj_query.specs.Sides.{by_side}
use Rattle.hj_eval.specs.declared.store_plan.StorePlan.{StorePlan}
use Rattle.hj_eval.specs.declared.store_plan.StorePlan.TheVariants as plans
use Rattle.hj_eval.specs.Plan.{AreEqual}
use Rattle.hj_msg.specs.Store.{Resting, joins}

-- what a hash store is seen as
pub record HashRows : Type 0 where
  -- the column of the rows at rest, and that of the rows that probe
  pub own : ℕ
  pub other : ℕ
  pub rows : List (Resting (List Field))
  -- how many rows and how many chains more there is room for
  pub room : ℕ
  pub chain_room : ℕ

-- A row of this side joins only with rows that have its value: it in the one column, they in the other.
abbrev pub JoinsEqual : ℕ → ℕ → (List Field → List Field → Bool) → Side → Type 0
JoinsEqual own other predicate side = (row against : List Field) → joins predicate side row against ≡ true → AreEqual (slice_get row own) (slice_get against other)

-- the plan by these columns, of the rows of this side and of those of the other one
abbrev pub equal_plan : ℕ → ℕ → Side → StorePlan
equal_plan own other side = plans.Equal (by_side own other side) (by_side other own side)
