-- The right rows that were sent on and aren't acknowledged yet, with the room for more of them.
use Rattle.std.specs.Prelude.{ℕ, ◌≢◌, ◌≤◌, List, map, All, AllPairs}
use Rattle.hj_msg.specs.Core.{InFlight}
use Rattle.hj_core.specs.declared.flying.Flying.{Flying}

pub record Buffer (P : Type 0) : Type 0 where
  pub rows : List (InFlight P)
  pub room : ℕ

abbrev pub rows_of : {P : Type 0} → List (Flying P) → List (InFlight P)
rows_of flying = map (λ one. record { no = one.no.0; row = one.row }) flying

-- no number stands twice, and none is above the highest
pub record IsSoundBuffer {P : Type 0} (highest : ℕ) (rows : List (InFlight P)) : Type 0 where
  pub distinct : AllPairs (λ one later. one.no ≢ later.no) rows
  pub below : All (λ one. one.no ≤ highest) rows
