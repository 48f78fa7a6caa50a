-- The stores that a chain begins with.
use Rattle.std.specs.Prelude.{◌≡◌, ℕ, List, [], All, length}
use Rattle.hj_base.specs.declared.numbers.Side.{Side}
use Rattle.hj_base.specs.declared.numbers.Side.TheVariants.{Left, Right}
use Rattle.hj_msg.specs.Store.{Resting}

-- The stores of a side are ready for a chain of this many cores that joins so: each core has one, they have no rows, and probes may be
-- made by the join.
pub record AreReadyOn {P J S : Type 0} (entries : S → List (Resting P)) (suits : S → Side → J → Type 0) (side : Side) (join : J) (cores : ℕ) (stores : List S) : Type 0 where
  pub count : length stores ≡ cores
  pub empty : All (λ store. entries store ≡ []) stores
  pub suit : All (λ store. suits store side join) stores

-- The store of each side may be probed by the join, for its side.
pub record Suits {J S : Type 0} (suits : S → Side → J → Type 0) (join : J) (left right : S) : Type 0 where
  pub on_left : suits left Left join
  pub on_right : suits right Right join
