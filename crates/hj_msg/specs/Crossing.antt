-- Two rows that cross on their ways along the chain.
use Rattle.std.specs.Prelude.{◌≡◌, ℕ, ◌+◌, ◌<◌, ◌≤◌, Bool, true, List, ◌∷◌, ◌++◌, count_by, IsTrue}
use Rattle.std.specs.List.{list_any}
use Rattle.hj_msg.specs.declared.message.Msg.{Msg}
use Rattle.hj_msg.specs.Messages.{is_R, is_S}
use Rattle.hj_msg.specs.Turns.{handled}
use Rattle.hj_msg.specs.Run.{Run, IsRun}

-- a message that passes the first test, and behind it one that passes the second
pub record HasBefore {P : Type 0} (first second : Msg P → Bool) (messages : List (Msg P)) : Type 0 where
  pub before : List (Msg P)
  pub between : List (Msg P)
  pub behind : List (Msg P)
  pub one : Msg P
  pub other : Msg P
  pub is : messages ≡ before ++ one ∷ (between ++ other ∷ behind)
  pub is_first : first one ≡ true
  pub is_second : second other ≡ true

abbrev pub Has : {P : Type 0} → (Msg P → Bool) → List (Msg P) → Type 0
Has test messages = IsTrue (list_any test messages)

-- Every core handles each row of either stream at most once.
abbrev pub HandlesOnce : {P : Type 0} {run : Run P} → IsRun run → Type 0
HandlesOnce {run = run} is = (k number : ℕ) → k < run.cores → (count_by (is_R number) (handled (is.turns k)) ≤ 1) × (count_by (is_S number) (handled (is.turns k)) ≤ 1)

-- Where a core handled the right arrival j before the left arrival i, its right neighbour, if it handled both, did so too.
abbrev pub KeepsOrder : {P : Type 0} {run : Run P} → IsRun run → Type 0
KeepsOrder {run = run} is =
    (k i j : ℕ) → k + 1 < run.cores → HasBefore (is_S j) (is_R i) (handled (is.turns k))
    → Has (is_R i) (handled (is.turns (k + 1))) → Has (is_S j) (handled (is.turns (k + 1)))
    → HasBefore (is_S j) (is_R i) (handled (is.turns (k + 1)))

-- Two ways to tell the turns of a run have each core handle the same messages.
abbrev pub HandleTheSame : {P : Type 0} {run : Run P} → IsRun run → IsRun run → Type 0
HandleTheSame {run = run} one other = (k : ℕ) → k < run.cores → handled (one.turns k) ≡ handled (other.turns k)
