-- The rows of an ordered store: those that have a number in a column are found by it.
use Rattle.std.specs.Prelude.{◌≡◌, ℕ, Bool, true, List, option_and_then, option_map, if◌then◌else◌, None, slice_get}
use Rattle.std.specs.declared.option.Option.{Option}
use Rattle.hj_base.specs.declared.numbers.Side.{Side}
use Rattle.hj_value.specs.declared.field.Field.{Field}
use Rattle.hj_query.specs.Sides.{by_side}
use Rattle.hj_eval.specs.declared.store_plan.StorePlan.{StorePlan}
use Rattle.hj_eval.specs.declared.store_plan.StorePlan.TheVariants as plans
use Rattle.hj_eval.specs.Plan.{AreNear}
use Rattle.hj_msg.specs.Store.{Resting, joins, AreDistinct}
use Rattle.hj_index.specs.declared.ordered_index.OrderedIndex.{OrderedIndex}
use Rattle.hj_rows.specs.declared.place.RestingRow.{RestingRow}
use Rattle.hj_index.specs.OrderedIndex.{is_key, key_of, stands, OrderedKey}
use Rattle.hj_rows.specs.Places.{entry_at, row_at}

-- what an ordered store is seen as
pub record OrderedRows : Type 0 where
  -- the column of the rows at rest, that of the rows that probe, and by how much numbers in them may differ
  pub own : ℕ
  pub other : ℕ
  pub within : ℕ
  pub rows : List (Resting (List Field))
  -- how many more rows there is room for, and the keys for which there is a place
  pub room : ℕ
  pub keys : List OrderedKey

-- the key of the row of a number
abbrev pub key_at : ℕ → List (Resting (List Field)) → ℕ → Option OrderedKey
key_at own rows number = option_and_then (key_of own number) (row_at number rows)

-- the keys that stand in the index are those of the rows
pub record AreOrdered (own : ℕ) (rows : List (Resting (List Field))) (index : OrderedIndex) : Type 0 where
  pub distinct : AreDistinct rows
  pub indexed : (key : OrderedKey) → stands index key ≡ is_key key (key_at own rows key.1)

-- the row of a number
abbrev pub rest_at : ℕ → List (Resting (List Field)) → Option (RestingRow (List Field))
rest_at number rows = option_map (λ entry. record { row = entry.row; settled = entry.settled }) (entry_at number rows)

-- the row for which a key stands in the index; none for a key that stands there for no row
abbrev pub rest_of : List (Resting (List Field)) → Option OrderedKey → OrderedKey → Option (RestingRow (List Field))
rest_of rows reserved key = if is_key key reserved then None else rest_at key.1 rows

-- A row of this side joins only with rows of which the number is near its own: it in the one column, they in the other.
abbrev pub JoinsNear : ℕ → ℕ → ℕ → (List Field → List Field → Bool) → Side → Type 0
JoinsNear own other within predicate side =
    (row against : List Field) → joins predicate side row against ≡ true → AreNear within (slice_get row own) (slice_get against other)

-- the plan by these columns, of the rows of this side and of those of the other one
abbrev pub band_plan : ℕ → ℕ → ℕ → Side → StorePlan
band_plan own other within side = plans.Band (by_side own other side) (by_side other own side) within
