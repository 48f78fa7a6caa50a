-- What raw items tell of the join of a run's events.
use Rattle.std.specs.Prelude.{◌≡◌, ℕ, ◌<◌, ◌≤◌, Bool, true, false, List, ◌∷◌, [], ◌++◌, Some}
use Rattle.std.specs.List.{Contains, count_by}
use Rattle.hj_msg.specs.declared.event.Event.{Event}
use Rattle.hj_msg.specs.declared.event.Pair.{Pair}
use Rattle.hj_msg.specs.Emission.{is_within}
use Rattle.hj_msg.specs.Meeting.{is_pair}
use Rattle.hj_msg.specs.Met.{AreReportsOf}
use Rattle.hj_msg.specs.Punctuation.{Mark, up_to, all}
use Rattle.hj_msg.specs.Run.{Run}
use Rattle.hj_msg.specs.Valid.{IsMatch, later}
use Rattle.hj_raw.specs.Items.{Item, TakenReport, joined, marked, lists_of}

-- These reports were taken of the cores of a run: those of each core are the first ones that it reported.
pub record AreTakenOf {P : Type 0} (run : Run P) (taken : List (TakenReport P)) : Type 0 where
  pub known : (one : TakenReport P) → Contains taken one → one.core < run.cores
  pub of_run : AreReportsOf run (lists_of run.cores taken)

-- whether an item is a pair of the rows of these numbers
abbrev pub is_pair_of : {P : Type 0} → ℕ → ℕ → Item P → Bool
is_pair_of i j (joined pair) = is_pair i j pair
is_pair_of i j (marked mark) = false

-- One mark is below another.
abbrev pub IsBelow : Mark → Mark → Type 0
IsBelow (up_to a) (up_to b) = a < b
IsBelow (up_to a) all = Unit {0}
IsBelow all mark = ⊥

-- Each pair among these items is a match, and none stands twice. Before a mark stand all matches within it, and behind it none. Marks rise.
pub record TellsMatches {P : Type 0} (matches : P → P → Bool) (events : List (Event P)) (items : List (Item P)) : Type 0 where
  pub only : (pair : Pair P) → Contains items (joined pair) → IsMatch matches events pair
  pub once : (i j : ℕ) → count_by (is_pair_of i j) items ≤ 1
  pub before : (front back : List (Item P)) (mark : Mark) → items ≡ front ++ marked mark ∷ back
      → (pair : Pair P) → IsMatch matches events pair → is_within (Some mark) (later pair) ≡ true → Contains front (joined pair)
  pub behind : (front back : List (Item P)) (mark : Mark) → items ≡ front ++ marked mark ∷ back
      → (pair : Pair P) → Contains back (joined pair) → is_within (Some mark) (later pair) ≡ false
  pub rising : (front between back : List (Item P)) (first second : Mark) → items ≡ front ++ marked first ∷ (between ++ marked second ∷ back) → IsBelow first second

-- Every match stands among these items, and the last one of them is the mark of all.
pub record TellsAll {P : Type 0} (matches : P → P → Bool) (events : List (Event P)) (items : List (Item P)) : Type 0 where
  pub each : (pair : Pair P) → IsMatch matches events pair → Contains items (joined pair)
  pub front : List (Item P)
  pub last : items ≡ front ++ marked all ∷ []
