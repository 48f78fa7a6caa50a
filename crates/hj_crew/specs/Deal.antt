-- Items that are dealt to hands.
use Rattle.std.specs.Prelude.{◌≡◌, ℕ, List, [], replicate, reverse, take}
use Rattle.std.specs.List.{flat_map}

-- All that hands hold, in order. Each hand has a run of neighbours: the first hand has the first ones, from the last of them to the
-- first, and so on.
abbrev pub gathered : {A : Type 0} → List (List A) → List A
gathered hands = flat_map reverse hands

-- So many hands, from the first one on, hold nothing.
abbrev pub AreEmpty : {A : Type 0} → ℕ → List (List A) → Type 0
AreEmpty count hands = take count hands ≡ replicate count []
