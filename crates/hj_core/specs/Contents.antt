-- What contracts see of a core: its place among the cores, its join, its two stores, the rows in flight, and which closes it
-- handled. The rows at rest are those of the stores.
use Rattle.std.specs.Prelude.{◌≡◌, ℕ, Bool, List}
use Rattle.hj_msg.specs.Store.{Resting}
use Rattle.hj_msg.specs.Core.{State}
use Rattle.hj_core.specs.Buffer.{Buffer}
use Rattle.hj_core.specs.Homes.{AreAtHome}

pub record Contents (P J S : Type 0) : Type 0 where
  pub place : ℕ
  pub cores : ℕ
  pub join : J
  pub left : S
  pub right : S
  pub flight : Buffer P
  pub closed_left : Bool
  pub closed_right : Bool

-- the state, where this is how a store's rows are seen
abbrev pub state_of : {P J S : Type 0} → (S → List (Resting P)) → Contents P J S → State P
state_of rows core =
    record {
      left = rows core.left;
      right = rows core.right;
      in_flight = core.flight.rows;
      closed_left = core.closed_left;
      closed_right = core.closed_right;
    }

-- each store holds no rows but those whose home is here
pub record HoldsItsOwn {P : Type 0} (place cores : ℕ) (left_rows right_rows : List (Resting P)) : Type 0 where
  pub left : AreAtHome place cores left_rows
  pub right : AreAtHome place cores right_rows

-- a core keeps its place and its join
pub record KeepsPlace {P J S : Type 0} (old new : Contents P J S) : Type 0 where
  pub join : new.join ≡ old.join
  pub place : new.place ≡ old.place
  pub cores : new.cores ≡ old.cores
