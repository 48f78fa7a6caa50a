-- The cores of a chain, each at its place.
use Rattle.std.specs.Prelude.{◌≡◌, ℕ, ◌+◌, List, [], ◌∷◌, ◌++◌}
use Rattle.hj_core.specs.Contents as core
use Rattle.hj_msg.specs.Core.{State, empty_state}

-- The places run upwards from this one; each core is one of n, and has this join.
abbrev pub ArePlaced : {P J S : Type 0} → J → ℕ → ℕ → List (core.Contents P J S) → Type 0
ArePlaced join n place [] = Unit {0}
ArePlaced join n place (one ∷ others) = (one.place ≡ place) × (one.cores ≡ n) × (one.join ≡ join) × ArePlaced join n (place + 1) others

-- One core more stands behind these: it is the one of n at this place, has this join, and handled nothing.
pub record IsOneMore {P J S : Type 0} (view : core.Contents P J S → State P) (join : J) (place n : ℕ) (cores more : List (core.Contents P J S)) : Type 0 where
  pub one : core.Contents P J S
  pub added : more ≡ cores ++ one ∷ []
  pub at_place : one.place ≡ place
  pub among : one.cores ≡ n
  pub joins : one.join ≡ join
  pub empty : view one ≡ empty_state
