-- Where the pairs of a chain go: what the answers of a drain mean.
use Rattle.std.specs.Prelude.{◌≡◌, ℕ, ◌≤◌, List, [], ◌∷◌, ◌++◌, length, map, replicate}
use Rattle.hj_base.specs.Counts.{Rose}
use Rattle.hj_msg.specs.declared.event.Pair.{Pair}
use Rattle.hj_msg.specs.declared.drain.Drained.{Drained}
use Rattle.hj_msg.specs.declared.drain.Drained.TheVariants.{Kept, Refused}

-- The count of refusals never falls, and a pair was refused only where it rose.
abbrev pub CountsRefused : Drained → ℕ → ℕ → Type 0
CountsRefused Kept old new = new ≡ old
CountsRefused Refused old new = (old ≤ new) × Rose old new

-- a pair that was given to a drain, and the answer
pub record Drainage (P : Type 0) : Type 0 where
  pub pair : Pair P
  pub answer : Drained

-- The drain took these pairs one after another, each with its answer.
abbrev pub TakesAll : {D P : Type 0} → (D → Pair P → Drained → D → Type 0) → D → List (Drainage P) → D → Type 0
TakesAll takes old [] new = new ≡ old
TakesAll {D} takes old (first ∷ later) new = (mid : D) × takes old first.pair first.answer mid × TakesAll takes mid later new

-- the pairs that a drain took
abbrev pub pairs_in : {P : Type 0} → List (Drainage P) → List (Pair P)
pairs_in taken = map (λ one. one.pair) taken

-- Every pair was kept.
abbrev pub AreKept : {P : Type 0} → List (Drainage P) → Type 0
AreKept taken = map (λ one. one.answer) taken ≡ replicate (length taken) Kept

-- The last pair was refused, and every other one kept.
abbrev pub IsLastRefused : {P : Type 0} → List (Drainage P) → Type 0
IsLastRefused taken = (kept : ℕ) × (map (λ one. one.answer) taken ≡ replicate kept Kept ++ Refused ∷ [])
