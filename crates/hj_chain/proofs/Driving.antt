-- The driver of a chain stands for the log that the steps leave.
use Rattle.std.proofs.Common.{◌≡◌, ℕ, suc, ◌+◌, ◌≤◌, Bool, true, List, [], ◌∷◌, ◌++◌, map, Some, None, Option, refl, ap, sym, ◌∙◌, subst, arith, append-nil, length-append, true≢false}
use Rattle.std.proofs.lemmas.List.{map-append}
use Rattle.hj_base.specs.declared.numbers.Side.{Side}
use Rattle.hj_base.specs.declared.numbers.Side.TheVariants.{Left, Right}
use Rattle.hj_msg.specs.declared.event.Event.{Event}
use Rattle.hj_msg.specs.declared.event.Event.TheVariants.{Arrive, Expire, Quiet}
use Rattle.hj_msg.specs.declared.feed.Given.{Given}
use Rattle.hj_msg.specs.declared.feed.Given.TheVariants as given
use Rattle.hj_msg.specs.declared.message.Msg.{Msg}
use Rattle.hj_msg.specs.declared.message.Msg.TheVariants.{CloseL, CloseR}
use Rattle.hj_msg.specs.Event.{IsWellFormed}
use Rattle.hj_msg.specs.Driver.{DriverTurn, admission, receipt, closing, admitted}
use Rattle.hj_msg.specs.Run.{LogEntry}
use Rattle.hj_msg.proofs.Numbered.{front_is_well_formed}
use Rattle.hj_driver.specs.declared.closes.Closes.{Closes}
use Rattle.hj_driver.specs.declared.closes.Closes.TheVariants.{Unsent, Sent}
use Rattle.hj_driver.specs.Driver.{DriverState, after_put, after_take, after_message, stays, quiet_stays, after_close, count_of, is_sent}
use Rattle.hj_driver.specs.StandsFor.{StandsFor}
use Rattle.hj_driver.proofs.ComingOut.{no_cause, has_come_out, row_cause-not_out}
use Rattle.hj_driver.proofs.Logs.{admitted-push}
use Rattle.hj_driver.proofs.MayClose.{may_close}
use Rattle.hj_driver.proofs.Standing.{closes-put, flight-put, stands-new, stands-admission, stands-receipt, stands-closing}
use Rattle.hj_driver.proofs.States.{length-filter_map, length-filter}
use Rattle.hj_chain.specs.declared.actor.Actor.{Actor}
use Rattle.hj_chain.specs.Chain.{FeedAnswer, ChainState, Action, if_there, asks, drives, after_action, empty_chain}
use Rattle.hj_chain.specs.Reached.{Reached, StepHistory, no_history, recorded, history_of}
use Rattle.hj_msg.specs.Feed.{event_in}
use Rattle.hj_chain.proofs.Doing.{Doing, inquires, admits, shuts, receives, works, gathers, taken_by}
use Rattle.hj_chain.proofs.Shape.{Shape}
use Rattle.hj_chain.proofs.Induction.{by_steps}

-- the turns of a log, without their numbers
abbrev pub turns_of : {P : Type 0} → List (LogEntry P) → List (DriverTurn P)
turns_of log = map (λ entry. entry.turn) log

-- The driver stands for the log, all events were put but the next one, and none is to come once the closes were put.
pub record Driven {P : Type 0} (events : List (Event P)) (chain : ChainState P) (log : List (DriverTurn P)) : Type 0 where
  pub stands : StandsFor chain.driver log
  pub events_are : events ≡ admitted log ++ event_in chain.next
  pub last : is_sent chain.driver.closes ≡ true → chain.next ≡ Some given.Stop
  pub few : count_of chain.driver ≤ chain.driver.flight

abbrev DrivenIfWell : {P : Type 0} → ℕ → List (Event P) → ChainState P → StepHistory P → Type 0
DrivenIfWell number events chain history = IsWellFormed events → Driven events chain (turns_of history.log)

count-put : {P : Type 0} (event : Event P) (driver : DriverState) → count_of (after_put event driver) ≡ count_of driver + 1
count-put (Arrive at Left row) driver = omega (arith, length-append driver.left_arrivals (record { no = at; taken = None } ∷ []))
count-put (Arrive at Right row) driver = omega (arith, length-append driver.right_arrivals (record { no = at; taken = None } ∷ []))
count-put (Expire at Left of) driver = omega (arith, length-append driver.left_expiries (of ∷ []))
count-put (Expire at Right of) driver = omega (arith, length-append driver.right_expiries (of ∷ []))
count-put (Quiet at Left) driver = omega (arith, length-append driver.left_quiets (at ∷ []))
count-put (Quiet at Right) driver = omega (arith, length-append driver.right_quiets (at ∷ []))

pub count-take : {P : Type 0} (port : Side) (message : Msg P) (driver : DriverState) → count_of (after_take port message driver) ≤ count_of driver
count-take port message driver =
    omega (
      arith,
      length-filter_map (after_message Left port message) driver.left_arrivals,
      length-filter (stays Left port message) driver.left_expiries,
      length-filter_map (after_message Right port message) driver.right_arrivals,
      length-filter (stays Right port message) driver.right_expiries,
      length-filter (quiet_stays Left port message) driver.left_quiets,
      length-filter (quiet_stays Right port message) driver.right_quiets,
    )

sent-left : (P : Type 0) (state : Closes) → is_sent (after_close {P = P} Right CloseL state) ≡ is_sent state
sent-left P Unsent = refl
sent-left P (Sent left right) = refl

sent-right : (P : Type 0) (state : Closes) → is_sent (after_close {P = P} Left CloseR state) ≡ is_sent state
sent-right P Unsent = refl
sent-right P (Sent left right) = refl

pub sent-take : {P : Type 0} (port : Side) (message : Msg P) (state : Closes) → is_sent (after_close port message state) ≡ is_sent state
sent-take {P} Right CloseL state = sent-left P state
sent-take {P} Left CloseR state = sent-right P state
sent-take port message state = refl

module _ {P : Type 0} (matches : P → P → Bool) (n most : ℕ) where
  driven-begin : (first : Given P) → DrivenIfWell 0 (event_in (Some first)) (empty_chain n most first) no_history
  driven-begin first well = record {
    stands = stands-new P most;
    events_are = refl;
    last = λ sent. absurd (true≢false (sym sent));
    few = omega arith;
  }

  driven-admission : (number : ℕ) (events : List (Event P)) (chain : ChainState P) (history : StepHistory P) (event : Event P) (answer : FeedAnswer P) → chain.next ≡ Some (given.Event event)
      → Driven events chain (turns_of history.log) → IsWellFormed events → Doing chain (drives (admission event))
      → Driven (events ++ event_in (if_there answer)) (after_action matches chain (Some (drives (admission event))) answer) (turns_of history.log ++ admission event ∷ [])
  driven-admission number events chain history event answer next old well (admits put is free) =
      let log = turns_of history.log in
      let now : events ≡ admitted log ++ event ∷ [] = old.events_are ∙ ap (λ (g : Option (Given P)). admitted log ++ event_in g) next in
      let may = no_cause event chain.driver free in
      let behind : IsWellFormed (admitted log ++ event ∷ []) = subst IsWellFormed now well in
      record {
        stands = stands-admission chain.driver log event old.stands behind may.unsent (omega (arith, may.below, old.few)) (has_come_out event log (sym (row_cause-not_out event chain.driver log old.stands behind) ∙ may.no_row));
        events_are = ap (λ (es : List (Event P)). es ++ event_in (if_there answer)) (now ∙ sym (admitted-push log (admission event)));
        last = λ sent. absurd (true≢false (sym sent ∙ ap is_sent (closes-put event chain.driver) ∙ may.unsent));
        few = omega (arith, may.below, old.few, count-put event chain.driver, flight-put event chain.driver);
      }

  driven-shut : (events : List (Event P)) (chain : ChainState P) (history : StepHistory P) (answer : FeedAnswer P)
      → Driven events chain (turns_of history.log) → Doing chain (drives closing)
      → Driven events (after_action matches chain (Some (drives closing)) answer) (turns_of history.log ++ closing ∷ [])
  driven-shut events chain history answer old (shuts next free) =
      let log = turns_of history.log in
      let may = may_close chain.driver free in
      record {
        stands = stands-closing chain.driver log old.stands may.0 may.1;
        events_are = old.events_are ∙ ap (λ (es : List (Event P)). es ++ event_in chain.next) (sym (append-nil (admitted log)) ∙ sym (admitted-push log closing));
        last = λ sent. next;
        few = old.few;
      }

  driven-asks : (events : List (Event P)) (chain : ChainState P) (log : List (DriverTurn P)) (answer : FeedAnswer P) → chain.next ≡ None
      → Driven events chain log → Driven (events ++ event_in (Some answer.given)) (after_action matches chain (Some asks) answer) log
  driven-asks events chain log answer next old = record {
    stands = old.stands;
    events_are = ap (λ (es : List (Event P)). es ++ event_in (Some answer.given)) (old.events_are ∙ ap (λ (g : Option (Given P)). admitted log ++ event_in g) next ∙ append-nil (admitted log));
    last = λ sent. absurd (cc (old.last sent, next));
    few = old.few;
  }

  driven-receipt : (events : List (Event P)) (chain : ChainState P) (history : StepHistory P) (port : Side) (message : Msg P) (answer : FeedAnswer P)
      → Driven events chain (turns_of history.log)
      → Driven events (after_action matches chain (Some (drives (receipt port message))) answer) (turns_of history.log ++ receipt port message ∷ [])
  driven-receipt events chain history port message answer old =
      let log = turns_of history.log in
      record {
        stands = stands-receipt chain.driver log port message old.stands;
        events_are = old.events_are ∙ ap (λ (es : List (Event P)). es ++ event_in chain.next) (sym (append-nil (admitted log)) ∙ sym (admitted-push log (receipt port message)));
        last = λ sent. old.last (sym (sent-take port message chain.driver.closes) ∙ sent);
        few = omega (arith, old.few, count-take port message chain.driver);
      }

  -- one turn more in the log
  pushed : (events : List (Event P)) (chain : ChainState P) (history : StepHistory P) (number : ℕ) (turn : DriverTurn P)
      → Driven events chain (turns_of history.log ++ turn ∷ []) → Driven events chain (turns_of (history.log ++ record { number = number; turn = turn } ∷ []))
  pushed events chain history number turn d =
      subst (Driven events chain) (sym (map-append (λ (entry : LogEntry P). entry.turn) history.log (record { number = number; turn = turn } ∷ []))) d

  -- no more events
  unchanged : (events : List (Event P)) (chain : ChainState P) (log : List (DriverTurn P)) → Driven events chain log → Driven (events ++ []) chain log
  unchanged events chain log d = subst (λ (es : List (Event P)). Driven es chain log) (sym (append-nil events)) d

  driven-step : (number : ℕ) (events : List (Event P)) (chain : ChainState P) (history : StepHistory P) (action : Action P) (answer : FeedAnswer P)
      → Shape n most chain → Doing chain action → DrivenIfWell number events chain history
      → DrivenIfWell (suc number) (events ++ taken_by action answer) (after_action matches chain (Some action) answer) (recorded matches chain number (Some action) history)
  driven-step number events chain history action answer shape (inquires is) before well =
      driven-asks events chain (turns_of history.log) answer is (before (front_is_well_formed events (event_in (Some answer.given)) well))
  driven-step number events chain history action answer shape (admits event is free) before well =
      let well_before = front_is_well_formed events (event_in (if_there answer)) well in
      pushed _ _ history number (admission event) (driven-admission number events chain history event answer is (before well_before) well_before (admits event is free))
  driven-step number events chain history action answer shape (shuts is free) before well =
      pushed _ _ history number closing (unchanged events _ _ (driven-shut events chain history answer (before (front_is_well_formed events [] well)) (shuts is free)))
  driven-step number events chain history action answer shape (receives port message rest is) before well =
      pushed _ _ history number (receipt port message) (unchanged events _ _ (driven-receipt events chain history port message answer (before (front_is_well_formed events [] well))))
  driven-step number events chain history action answer shape (works place end message rest low is room) before well =
      let old = before (front_is_well_formed events [] well) in
      unchanged events _ _ (record { stands = old.stands; events_are = old.events_are; last = old.last; few = old.few })
  driven-step number events chain history action answer shape (gathers place report rest low is) before well =
      let old = before (front_is_well_formed events [] well) in
      unchanged events _ _ (record { stands = old.stands; events_are = old.events_are; last = old.last; few = old.few })

  pub driven : {schedule : List Actor} {events : List (Event P)} {chain : ChainState P} (reached : Reached matches n most schedule events chain) → IsWellFormed events → Driven events chain (turns_of (history_of reached).log)
  driven reached = by_steps matches n most DrivenIfWell driven-begin driven-step reached
