-- What the driver's calls leave, told by its state alone: a driver that stands for a log keeps what the log leaves.
use Rattle.std.proofs.Common.{◌≡◌, ℕ, ◌<◌, List, [], ◌∷◌, ◌++◌, None, Option, refl, ap, sym, ◌∙◌, arith}
use Rattle.hj_base.specs.declared.numbers.EventNo.{EventNo}
use Rattle.hj_base.specs.declared.numbers.Side.{Side}
use Rattle.hj_msg.specs.declared.event.Event.{Event}
use Rattle.hj_msg.specs.declared.message.Msg.{Msg}
use Rattle.hj_msg.specs.Event.{IsWellFormed}
use Rattle.hj_msg.specs.Driver.{DriverTurn, admission, receipt, admitted, message_of, port_of}
use Rattle.hj_driver.specs.declared.answers.Why.{Why}
use Rattle.hj_driver.specs.declared.answers.Admitted.{Admitted}
use Rattle.hj_driver.specs.declared.answers.Admitted.TheVariants as admitted_as
use Rattle.hj_driver.specs.declared.closes.Closes.{Closes}
use Rattle.hj_driver.specs.declared.lane.OutstandingArrival.{OutstandingArrival}
use Rattle.hj_driver.specs.Driver.{DriverState, after_put, after_take, answer_to, cause_of as wait_of, count_of}
use Rattle.hj_driver.specs.StandsFor.{StandsFor, cause_after}
use Rattle.hj_driver.proofs.ComingOut.{cause_of-same, no_cause, has_come_out, row_cause-not_out}
use Rattle.hj_driver.proofs.Standing.{flight-put, stands-admission, stands-count, stands-receipt}

unique : {P : Type 0} (one other : DriverState) (log : List (DriverTurn P)) → StandsFor one log → StandsFor other log → one.flight ≡ other.flight → one ≡ other
unique one other log a b same =
    ap (λ (f : ℕ). record one { flight = f }) same
    ∙ ap (λ (l : List OutstandingArrival). record one { flight = other.flight; left_arrivals = l }) (a.left_arrivals ∙ sym b.left_arrivals)
    ∙ ap (λ (l : List EventNo). record one { flight = other.flight; left_arrivals = other.left_arrivals; left_expiries = l }) (a.left_expiries ∙ sym b.left_expiries)
    ∙ ap (λ (l : List OutstandingArrival). record other { right_arrivals = l; right_expiries = one.right_expiries; left_quiets = one.left_quiets; right_quiets = one.right_quiets; closes = one.closes }) (a.right_arrivals ∙ sym b.right_arrivals)
    ∙ ap (λ (l : List EventNo). record other { right_expiries = l; left_quiets = one.left_quiets; right_quiets = one.right_quiets; closes = one.closes }) (a.right_expiries ∙ sym b.right_expiries)
    ∙ ap (λ (l : List EventNo). record other { left_quiets = l; right_quiets = one.right_quiets; closes = one.closes }) (a.left_quiets ∙ sym b.left_quiets)
    ∙ ap (λ (l : List EventNo). record other { right_quiets = l; closes = one.closes }) (a.right_quiets ∙ sym b.right_quiets)
    ∙ ap (λ (c : Closes). record other { closes = c }) (a.closes ∙ sym b.closes)

pub took-state : {P : Type 0} (old new : DriverState) (log : List (DriverTurn P)) (port : Side) (message : Msg P) → StandsFor old log
    → ((l : List (DriverTurn P)) → StandsFor old l → StandsFor new (l ++ receipt port message ∷ [])) → new.flight ≡ old.flight → new ≡ after_take port message old
took-state old new log port message stands turn same = unique new (after_take port message old) (log ++ receipt port message ∷ []) (turn log stands) (stands-receipt old log port message stands) same

-- an event that isn't to wait
pub record Sent {P : Type 0} (old new : DriverState) (event : Event P) (port : Side) (message : Msg P) : Type 0 where
  pub port_is : port ≡ port_of event
  pub message_is : message ≡ message_of event
  pub state : new ≡ after_put event old

module _ {P : Type 0} (old : DriverState) (log : List (DriverTurn P)) (event : Event P) (stands : StandsFor old log) (well : IsWellFormed (admitted log ++ event ∷ [])) where
  pub wait-same : (found : Option Why) → ((l : List (DriverTurn P)) → StandsFor old l → IsWellFormed (admitted l ++ event ∷ []) → found ≡ cause_after old.flight event l) → wait_of event old ≡ found
  wait-same found is = cause_of-same event old log stands well ∙ sym (is log stands well)

  answer-is : (found : Admitted P) → wait_of event old ≡ None → ((l : List (DriverTurn P)) → StandsFor old l → IsWellFormed (admitted l ++ event ∷ []) → found ≡ answer_to event (cause_after old.flight event l))
      → found ≡ admitted_as.Send (port_of event) (message_of event)
  answer-is found free is = is log stands well ∙ ap (answer_to event) (sym (cause_of-same event old log stands well) ∙ free)

  pub sent : (new : DriverState) (port : Side) (message : Msg P) → wait_of event old ≡ None → new.flight ≡ old.flight
      → ((l : List (DriverTurn P)) → StandsFor old l → IsWellFormed (admitted l ++ event ∷ []) → admitted_as.Send port message ≡ answer_to event (cause_after old.flight event l))
      → ((l : List (DriverTurn P)) → StandsFor old l → IsWellFormed (admitted l ++ event ∷ []) → StandsFor new (l ++ admission event ∷ [])) → Sent old new event port message
  sent new port message free same answer stands_new =
      let now = stands_new log stands well in
      let may = no_cause event old free in
      let room : count_of old < old.flight = omega (arith, now.lawful.in_flight log [] event refl, same, stands-count old log stands) in
      let put = stands-admission old log event stands well may.unsent room (has_come_out event log (sym (row_cause-not_out event old log stands well) ∙ may.no_row)) in
      let is : admitted_as.Send port message ≡ admitted_as.Send (port_of event) (message_of event) = answer-is (admitted_as.Send port message) free answer in
      record {
        port_is = (cc);
        message_is = (cc);
        state = unique new (after_put event old) (log ++ admission event ∷ []) now put (same ∙ sym (flight-put event old));
      }
