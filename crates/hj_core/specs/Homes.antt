-- The homes of events, by the place of a core.
use Rattle.std.specs.Prelude.{◌≡◌, ◌≢◌, ◌-◌, ◌^◌, ℕ, true, List, All}
use Rattle.hj_msg.specs.Core.{is_home}
use Rattle.hj_msg.specs.Store.{Resting}

-- a place among so many cores
pub record Among : Type 0 where
  pub place : ℕ
  pub cores : ℕ

-- the mask of those bits that tell a home, where the cores are a power of two; or 0
abbrev pub IsMask : ℕ → ℕ → Type 0
IsMask cores mask = mask ≢ 0 → (k : ℕ) × (cores ≡ 2 ^ k) × (mask ≡ 2 ^ k - 1)

-- the number of each row at rest has its home at this place
abbrev pub AreAtHome : {P : Type 0} → ℕ → ℕ → List (Resting P) → Type 0
AreAtHome place cores entries = All (λ entry. is_home place cores entry.no ≡ true) entries
