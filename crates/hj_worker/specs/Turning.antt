-- What one call of `turn` does, by its answer.
use Rattle.std.specs.Prelude.{◌≡◌, ℕ, ◌+◌, ◌-◌, ◌<◌, Bool, List, [], ◌∷◌, ◌++◌, length}
use Rattle.hj_base.specs.declared.numbers.Side.{Side}
use Rattle.hj_base.specs.declared.numbers.Side.TheVariants.{Left, Right}
use Rattle.hj_msg.specs.declared.message.Msg.{Msg}
use Rattle.hj_msg.specs.declared.message.Report.TheVariants.{NoMemory as MemoryRanOut}
use Rattle.hj_msg.specs.Core.{after}
use Rattle.hj_msg.specs.Quiet.{other_side}
use Rattle.hj_link.specs.Seen.{KeepsLink}
use Rattle.hj_worker.specs.declared.answers.Place.{Place}
use Rattle.hj_worker.specs.declared.answers.Place.TheVariants.{Link, Reports}
use Rattle.hj_worker.specs.declared.answers.Turn.{Turn}
use Rattle.hj_worker.specs.declared.answers.Turn.TheVariants.{Did, Idle, Blocked, Ended, NoMemory}
use Rattle.hj_worker.specs.declared.ends.WorkerEnds.{WorkerEnds}
use Rattle.hj_worker.specs.Outgoing.{Outgoing, Journals, reported, outgoing, with_puts, with_take}
use Rattle.hj_worker.specs.declared.hand.Hand.{Hand}
use Rattle.hj_worker.specs.declared.hand.Hand.TheVariants.{Nothing, Rest, Refused}
use Rattle.hj_worker.specs.Hands.{unput, refused, things_of}
use Rattle.hj_worker.specs.Seen.{WorkerSeen, journals_of, place_of, full_looks, empty_looks}

module _ {P : Type 0} where
  -- each end stays on its link
  pub record KeepsLinks (old new : WorkerEnds P) : Type 0 where
    pub left : KeepsLink old.left new.left
    pub right : KeepsLink old.right new.right
    pub reports : KeepsLink old.reports new.reports

  -- Of some things the first ones were put under the number of a turn, and these others weren't.
  pub record Puts (number : ℕ) (items : List (Outgoing P)) (old : Journals P) (others : List (Outgoing P)) (new : Journals P) : Type 0 where
    pub done : List (Outgoing P)
    pub all : items ≡ done ++ others
    pub journals : new ≡ with_puts number old done

  -- There are things to put, and the place of the first one was found full.
  pub record AreBlocked (place : Place) (items : List (Outgoing P)) (old new : WorkerEnds P) : Type 0 where
    pub first : Outgoing P
    pub later : List (Outgoing P)
    pub are : items ≡ first ∷ later
    pub at : place_of first ≡ place
    pub full : full_looks place new ≡ full_looks place old + 1

  -- Of some things the first ones were put under the number of a turn, and those that weren't are in hand.
  abbrev pub LeavesInHand : ℕ → List (Outgoing P) → WorkerEnds P → Hand P → WorkerEnds P → Type 0
  LeavesInHand number items old Nothing new = journals_of new ≡ with_puts number (journals_of old) items
  LeavesInHand number items old (Rest sends) new = Puts number items (journals_of old) (things_of sends) (journals_of new) × ((place : Place) × AreBlocked place (things_of sends) old new)
  LeavesInHand number items old (Refused message) new = ⊥

  -- a look at an end found nothing to take
  abbrev pub FindsNone : Side → WorkerEnds P → WorkerEnds P → Type 0
  FindsNone end old new = empty_looks end new ≡ empty_looks end old + 1

  -- A message was taken at an end, under the number of a turn. Where it isn't the end that is looked at first, that one had none.
  pub record Takes (number : ℕ) (first : Side) (message : Msg P) (old new : WorkerEnds P) : Type 0 where
    pub end : Side
    pub journals : journals_of new ≡ with_take number end message (journals_of old)
    pub order : end ≡ other_side first → FindsNone first old new

module _ {P J : Type 0} where
  -- a worker is still that of its core, on its links
  pub record StaysItself (old new : WorkerSeen P J) : Type 0 where
    pub join : new.join ≡ old.join
    pub place : new.place ≡ old.place
    pub cores : new.cores ≡ old.cores
    pub links : KeepsLinks old.ends new.ends

  -- a worker took and put nothing, and its core handled nothing
  pub record IsUnmoved (old new : WorkerSeen P J) : Type 0 where
    pub journals : journals_of new.ends ≡ journals_of old.ends
    pub state : new.state ≡ old.state
    pub hand : new.hand ≡ old.hand
    pub taken : new.taken ≡ old.taken

  -- A worker put what it had in hand, up to these others, under the number of the message that it took last.
  pub record PutsInHand (items : List (Outgoing P)) (old : WorkerSeen P J) (others : List (Outgoing P)) (new : WorkerSeen P J) : Type 0 where
    pub puts : Puts (old.taken - 1) items (journals_of old.ends) others (journals_of new.ends)
    pub state : new.state ≡ old.state
    pub hand : new.hand ≡ unput others
    pub taken : new.taken ≡ old.taken

  -- A worker with these things in hand puts them all, or up to the first one whose place is full.
  abbrev pub PutsOn : List (Outgoing P) → WorkerSeen P J → Turn → WorkerSeen P J → Type 0
  PutsOn items old Did new = PutsInHand items old [] new
  PutsOn items old (Blocked place) new = (others : List (Outgoing P)) × PutsInHand items old others new × AreBlocked place others old.ends new.ends
  PutsOn items old Idle new = ⊥
  PutsOn items old Ended new = ⊥
  PutsOn items old NoMemory new = ⊥

  -- A worker took a message, its core handled it, and all that the core makes of it was put, up to what is then in hand, for
  -- the first of which there was no room.
  pub record Handles (matches : P → P → Bool) (first : Side) (old new : WorkerSeen P J) : Type 0 where
    pub message : Msg P
    pub between : WorkerEnds P
    pub takes : Takes old.taken first message old.ends between
    pub others : List (Outgoing P)
    pub puts : Puts old.taken (outgoing matches old.place old.cores old.state message) (journals_of between) others (journals_of new.ends)
    pub waits : 0 < length others → (place : Place) × AreBlocked place others old.ends new.ends
    pub state : new.state ≡ after old.place old.cores old.state message
    pub hand : new.hand ≡ unput others
    pub taken : new.taken ≡ old.taken + 1

  -- A worker took a message, memory ran out, and it put a report of this alone. It keeps the message.
  pub record RunsOut (first : Side) (old new : WorkerSeen P J) : Type 0 where
    pub message : Msg P
    pub between : WorkerEnds P
    pub takes : Takes old.taken first message old.ends between
    pub journals : journals_of new.ends ≡ with_puts old.taken (journals_of between) (reported MemoryRanOut ∷ [])
    pub state : new.state ≡ old.state
    pub hand : new.hand ≡ refused message
    pub taken : new.taken ≡ old.taken + 1

  -- A worker that has nothing in hand, and whose core hasn't ended, looks for room for a report, and then for a message.
  abbrev pub TurnsOn : (P → P → Bool) → Side → WorkerSeen P J → Turn → WorkerSeen P J → Type 0
  TurnsOn matches first old Did new = Handles matches first old new
  TurnsOn matches first old NoMemory new = RunsOut first old new
  TurnsOn matches first old Idle new = IsUnmoved old new × FindsNone Left old.ends new.ends × FindsNone Right old.ends new.ends
  TurnsOn matches first old (Blocked Reports) new = IsUnmoved old new × (full_looks Reports new.ends ≡ full_looks Reports old.ends + 1)
  TurnsOn matches first old (Blocked (Link side)) new = ⊥
  TurnsOn matches first old Ended new = ⊥
