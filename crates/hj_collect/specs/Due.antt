-- Which of two pairs is due first.
use Rattle.std.specs.Prelude.{◌≡◌, ◌≤◌, ℕ, false, List, [], ◌∷◌, All, map}
use Rattle.std.specs.declared.cmp.Ordering.{Ordering}
use Rattle.std.specs.Ordering.{nat_cmp, on, flip_args, then_cmp}
use Rattle.hj_msg.specs.declared.event.Pair.{Pair}
use Rattle.hj_msg.specs.Emission.{comes_before}
use Rattle.hj_msg.specs.Valid.{later, earlier}
use Rattle.hj_collect.specs.declared.kept.KeptPair.{KeptPair}

-- The greater one is due first: that of the lesser later number, then that of the lesser earlier one.
abbrev pub due_cmp : {P : Type 0} → KeptPair P → KeptPair P → Ordering
due_cmp = flip_args (then_cmp (on (λ kept. later kept.pair) nat_cmp) (on (λ kept. earlier kept.pair) nat_cmp))

-- the pairs that are kept
abbrev pub pairs_in : {P : Type 0} → List (KeptPair P) → List (Pair P)
pairs_in kept = map (λ one. one.pair) kept

-- none of these comes before that pair
abbrev pub NoneBefore : {P : Type 0} → Pair P → List (KeptPair P) → Type 0
NoneBefore pair kept = All (λ one. comes_before one.pair pair ≡ false) kept

-- the later number of none of these is below a number
abbrev pub NoneSooner : {P : Type 0} → ℕ → List (KeptPair P) → Type 0
NoneSooner number kept = All (λ one. number ≤ later one.pair) kept

-- each of them is due no sooner than those ahead of it
abbrev pub AreInOrder : {P : Type 0} → List (KeptPair P) → Type 0
AreInOrder [] = Unit {0}
AreInOrder (one ∷ others) = NoneBefore one.pair others × AreInOrder others
