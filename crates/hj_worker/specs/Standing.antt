-- Where a worker stands: its journals are those of turns of its core, all whole but one that isn't at its end.
use Rattle.std.specs.Prelude.{◌≡◌, ℕ, ◌+◌, ◌<◌, Bool, false, List, [], ◌∷◌, ◌++◌, All, length, map}
use Rattle.std.specs.List.{flat_map}
use Rattle.std.specs.List.Sorted.{IsStrictlyIncreasing}
use Rattle.hj_base.specs.declared.numbers.Side.{Side}
use Rattle.hj_msg.specs.declared.message.Msg.{Msg}
use Rattle.hj_msg.specs.declared.message.Report.TheVariants.{NoMemory}
use Rattle.hj_msg.specs.Core.{State, empty_state, after, state_after}
use Rattle.hj_msg.specs.Turns.{Turn, AreWhole, at_left, at_right, at_reports}
use Rattle.hj_worker.specs.declared.hand.Hand.{Hand}
use Rattle.hj_worker.specs.declared.hand.Hand.TheVariants.{Nothing, Rest, Refused}
use Rattle.hj_worker.specs.Outgoing.{Outgoing, Journals, reported, outgoing, with_puts, with_take}
use Rattle.hj_worker.specs.Hands.{things_of}
use Rattle.hj_worker.specs.Seen.{has_ended}

-- The whole turns of a core, under the numbers from 0 on: what they leave in its journals, and its state after them.
pub record AreTurns {P : Type 0} (matches : P → P → Bool) (place n : ℕ) (turns : List (Turn P)) (state : State P) (journals : Journals P) : Type 0 where
  pub whole : AreWhole matches place n empty_state turns
  pub rising : IsStrictlyIncreasing (map (λ turn. turn.number) turns)
  pub below : All (λ number. number < length turns) (map (λ turn. turn.number) turns)
  pub reached : state ≡ state_after place n (map (λ turn. turn.message) turns)
  pub left : journals.left ≡ flat_map at_left turns
  pub right : journals.right ≡ flat_map at_right turns
  pub reports : journals.reports ≡ flat_map at_reports turns

-- Whole turns, before which a close was still to come, and then the take of a message under the next number.
pub record Begins {P : Type 0} (matches : P → P → Bool) (place n : ℕ) (before : State P) (message : Msg P) (number : ℕ) (journals : Journals P) : Type 0 where
  pub turns : List (Turn P)
  pub earlier : Journals P
  pub are : AreTurns matches place n turns before earlier
  pub unended : has_ended before ≡ false
  pub counted : number ≡ length turns
  pub end : Side
  pub taken : journals ≡ with_take number end message earlier

-- All turns are whole.
pub record IsBetween {P : Type 0} (matches : P → P → Bool) (place n : ℕ) (state : State P) (journals : Journals P) (taken : ℕ) : Type 0 where
  pub turns : List (Turn P)
  pub are : AreTurns matches place n turns state journals
  pub counted : taken ≡ length turns

-- The last turn put all but these things, of which there are some.
pub record IsInTheMidst {P : Type 0} (matches : P → P → Bool) (place n : ℕ) (state : State P) (journals : Journals P) (taken : ℕ) (items : List (Outgoing P)) : Type 0 where
  pub before : State P
  pub message : Msg P
  pub number : ℕ
  pub begun : Journals P
  pub begins : Begins matches place n before message number begun
  pub done : List (Outgoing P)
  pub all : outgoing matches place n before message ≡ done ++ items
  pub some : 0 < length items
  pub put : journals ≡ with_puts number begun done
  pub reached : state ≡ after place n before message
  pub counted : taken ≡ number + 1

-- The last turn took this message, and put a report of no memory alone.
pub record IsOutOfMemory {P : Type 0} (matches : P → P → Bool) (place n : ℕ) (state : State P) (journals : Journals P) (taken : ℕ) (message : Msg P) : Type 0 where
  pub number : ℕ
  pub begun : Journals P
  pub begins : Begins matches place n state message number begun
  pub put : journals ≡ with_puts number begun (reported NoMemory ∷ [])
  pub counted : taken ≡ number + 1

-- By what is in hand.
abbrev pub Stands : {P : Type 0} → (P → P → Bool) → ℕ → ℕ → State P → Journals P → ℕ → Hand P → Type 0
Stands matches place n state journals taken Nothing = IsBetween matches place n state journals taken
Stands matches place n state journals taken (Rest sends) = IsInTheMidst matches place n state journals taken (things_of sends)
Stands matches place n state journals taken (Refused message) = IsOutOfMemory matches place n state journals taken message
