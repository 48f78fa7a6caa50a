-- Where raw items go: what the answers of a drain mean.
use Rattle.std.specs.Prelude.{◌≡◌, ℕ, List, [], ◌∷◌, ◌++◌, length, map, replicate}
use Rattle.hj_msg.specs.declared.drain.Drained.{Drained}
use Rattle.hj_msg.specs.declared.drain.Drained.TheVariants.{Kept, Refused}
use Rattle.hj_raw.specs.Items.{Item}

-- an item that was given to a drain, and the answer
pub record Offer (P : Type 0) : Type 0 where
  pub item : Item P
  pub answer : Drained

-- The drain took these items one after another, each with its answer.
abbrev pub TakesItems : {D P : Type 0} → (D → Item P → Drained → D → Type 0) → D → List (Offer P) → D → Type 0
TakesItems takes old [] new = new ≡ old
TakesItems {D} takes old (first ∷ later) new = (mid : D) × takes old first.item first.answer mid × TakesItems takes mid later new

abbrev pub items_in : {P : Type 0} → List (Offer P) → List (Item P)
items_in offers = map (λ offer. offer.item) offers

-- Every item was kept.
abbrev pub AreKept : {P : Type 0} → List (Offer P) → Type 0
AreKept offers = map (λ offer. offer.answer) offers ≡ replicate (length offers) Kept

-- The last item was refused, and every other one kept.
abbrev pub IsLastRefused : {P : Type 0} → List (Offer P) → Type 0
IsLastRefused offers = (kept : ℕ) × (map (λ offer. offer.answer) offers ≡ replicate kept Kept ++ Refused ∷ [])
