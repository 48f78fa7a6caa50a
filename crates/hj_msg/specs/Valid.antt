-- Valid pairs, and the law that gives the sequential join its meaning.
use Rattle.std.specs.Prelude.{◌≡◌, ℕ, ◌<◌, ◌⊎◌, ◌↔◌, Bool, true, List, ◌∷◌, ◌++◌, min, max}
use Rattle.std.specs.List.{Contains}
use Rattle.hj_base.specs.declared.numbers.Side.TheVariants.{Left, Right}
use Rattle.hj_msg.specs.declared.event.Event.{Event}
use Rattle.hj_msg.specs.declared.event.Pair.{Pair}
use Rattle.hj_msg.specs.Event.{Arrives, Expires}
use Rattle.hj_msg.specs.Kang.{kang}

-- the numbers of the row of a pair that came later, and of the one that came earlier
abbrev pub later : {P : Type 0} → Pair P → ℕ
later pair = max pair.left_no.0 pair.right_no.0

abbrev pub earlier : {P : Type 0} → Pair P → ℕ
earlier pair = min pair.left_no.0 pair.right_no.0

-- Both rows arrived, each on its side, and the earlier one doesn't expire before the later one comes.
pub record IsValid {P : Type 0} (events : List (Event P)) (pair : Pair P) : Type 0 where
  pub left : Arrives events Left pair.left_no.0 pair.left
  pub right : Arrives events Right pair.right_no.0 pair.right
  pub live : (at : ℕ) → Expires events (earlier pair) at → ¬ (at < later pair)

-- A valid pair whose rows satisfy the predicate.
pub record IsMatch {P : Type 0} (matches : P → P → Bool) (events : List (Event P)) (pair : Pair P) : Type 0 where
  pub valid : IsValid events pair
  pub joined : matches pair.left pair.right ≡ true

-- One pair stands before another: by the later number, then by the earlier one.
abbrev pub Precedes : {P : Type 0} → Pair P → Pair P → Type 0
Precedes p q = (later p < later q) ⊎ ((later p ≡ later q) × (earlier p < earlier q))

-- Each pair precedes all that follow it; so none stands twice.
abbrev pub IsInOrder : {P : Type 0} → List (Pair P) → Type 0
IsInOrder {P} pairs = (before between behind : List (Pair P)) (p q : Pair P) → pairs ≡ before ++ p ∷ (between ++ q ∷ behind) → Precedes p q

-- The join of well-formed events is the list of all valid pairs that satisfy the predicate, each once, in order.
pub record IsListOfMatches {P : Type 0} (matches : P → P → Bool) (events : List (Event P)) : Type 0 where
  pub each : (pair : Pair P) → Contains (kang matches events) pair ↔ IsMatch matches events pair
  pub ordered : IsInOrder (kang matches events)
