-- Steps of a chain over a list of events: what they lead to, and the text of a trace, which has the line of each step.
use Rattle.std.specs.Prelude.{◌≡◌, ℕ, Bool, true, false, List, [], ◌∷◌, ◌++◌, drop, length, None, Some}
use Rattle.hj_base.specs.Journals.{IsPrefix}
use Rattle.hj_msg.specs.declared.event.Event.{Event}
use Rattle.hj_msg.specs.declared.feed.Given.TheVariants as given
use Rattle.hj_chain.specs.declared.actor.Actor.{Actor}
use Rattle.hj_chain.specs.declared.serial.Chooser.{Chooser}
use Rattle.hj_chain.specs.Chain.{ChainState, FeedAnswer, after, cause, empty_chain}
use Rattle.hj_chain.specs.Progress.{IsDone}
use Rattle.hj_chain.specs.Serial.{Choosing, chosen, choosing_after, first_choosing}
use Rattle.hj_chain.specs.Steps.{asks}
use Rattle.hj_trace.specs.Line.{line_text}

-- a chain, and the events that its feed is still to give
pub record Playing (P : Type 0) : Type 0 where
  pub chain : ChainState P
  pub coming : List (Event P)

-- What a feed says that is to give these events: the next one is always there, and behind the last one none is to come.
abbrev pub answer_from : {P : Type 0} → List (Event P) → FeedAnswer P
answer_from [] = record { ready = true; given = given.Stop }
answer_from (event ∷ later) = record { ready = true; given = given.Event event }

-- the events that it is to give then, where it was asked
abbrev pub left_behind : {P : Type 0} → Bool → List (Event P) → List (Event P)
left_behind true events = drop 1 events
left_behind false events = events

-- the empty chain, whose feed was asked for the first of these events
abbrev pub at_start : {P : Type 0} → ℕ → ℕ → List (Event P) → Playing P
at_start n flight events = record { chain = empty_chain n flight (answer_from events).given; coming = drop 1 events }

-- a step of an actor
abbrev pub play : {P : Type 0} → (P → P → Bool) → Actor → Playing P → Playing P
play matches actor old = record {
  chain = after matches old.chain actor (answer_from old.coming);
  coming = left_behind (asks actor old.chain.next true) old.coming;
}

-- the steps of a schedule
abbrev pub played : {P : Type 0} → (P → P → Bool) → List Actor → Playing P → Playing P
played matches [] start = start
played matches (actor ∷ later) start = played matches later (play matches actor start)

-- The text of the trace of a schedule: the line of each of its steps, by the chain before the step.
abbrev pub trace_text : {P : Type 0} → (P → P → Bool) → List Actor → Playing P → List ℕ
trace_text matches [] start = []
trace_text matches (actor ∷ later) start = line_text matches start.chain actor ++ trace_text matches later (play matches actor start)

-- Each actor of a schedule is enabled where it makes its step.
abbrev pub AreEnabled : {P : Type 0} → (P → P → Bool) → List Actor → Playing P → Type 0
AreEnabled matches [] start = Unit {0}
AreEnabled matches (actor ∷ later) start = (cause start.chain actor ≡ None) × AreEnabled matches later (play matches actor start)

-- Each actor of a schedule is the one that a rule names, which stands so at the first step.
abbrev pub AreChosen : {P : Type 0} → (P → P → Bool) → Choosing → List Actor → Playing P → Type 0
AreChosen matches choosing [] start = Unit {0}
AreChosen matches choosing (actor ∷ later) start =
    (chosen choosing true start.chain ≡ Some actor) × AreChosen matches (choosing_after (length start.chain.cores) actor choosing) later (play matches actor start)

-- The trace of the run of a rule over these events, on a chain of n cores with at most `flight` events outstanding: the text is that
-- of its steps, behind which the chain is done.
pub record IsTrace {P : Type 0} (matches : P → P → Bool) (rule : Chooser) (n flight : ℕ) (events : List (Event P)) (text : List ℕ) : Type 0 where
  pub schedule : List Actor
  pub chosen : AreChosen matches (first_choosing rule) schedule (at_start n flight events)
  pub is : text ≡ trace_text matches schedule (at_start n flight events)
  pub done : IsDone (played matches schedule (at_start n flight events)).chain

-- The text begins that of the first steps of such a run.
pub record BeginsTrace {P : Type 0} (matches : P → P → Bool) (rule : Chooser) (n flight : ℕ) (events : List (Event P)) (text : List ℕ) : Type 0 where
  pub schedule : List Actor
  pub chosen : AreChosen matches (first_choosing rule) schedule (at_start n flight events)
  pub begins : IsPrefix text (trace_text matches schedule (at_start n flight events))
