-- Logs of a driver with one more turn.
use Rattle.std.proofs.Common.{◌≡◌, ℕ, ◌+◌, ◌==◌, Bool, true, false, not, ◌&&◌, ◌||◌, cond, List, [], ◌∷◌, ◌++◌, length, Some, None, Option, refl, ap, sym, ◌∙◌, arith, append-nil}
use Rattle.std.specs.List.{filter_map, filter, cons_option, list_any}
use Rattle.std.specs.Option.{option_and_then}
use Rattle.std.proofs.Math.Bool.{or-false, or-true}
use Rattle.std.proofs.lemmas.Bool.{false≢true}
use Rattle.std.proofs.lemmas.List.Folds.{list_any-append}
use Rattle.hj_base.specs.declared.numbers.EventNo.{EventNo}
use Rattle.hj_base.specs.declared.numbers.Side.{Side}
use Rattle.hj_base.specs.declared.numbers.Side.TheVariants.{Left, Right}
use Rattle.hj_msg.specs.declared.event.Event.{Event}
use Rattle.hj_msg.specs.declared.event.Event.TheVariants.{Arrive, Expire, Quiet}
use Rattle.hj_msg.specs.declared.message.Msg.{Msg}
use Rattle.hj_msg.specs.declared.message.Msg.TheVariants.{R, EndS, ExpS, QuietL, CloseL, S, EndR, ExpR, QuietR, CloseR}
use Rattle.hj_msg.specs.Messages.{is_R, is_S, is_EndR, is_EndS, is_ExpR, is_ExpS, is_QuietL, is_QuietR}
use Rattle.hj_msg.specs.Driver.{DriverTurn, admission, receipt, closing, admitted, is_take, took, outstanding}
use Rattle.hj_driver.specs.declared.closes.Closes.TheVariants.{Unsent, Sent}
use Rattle.hj_driver.specs.declared.lane.Departure.TheVariants.{Row, End}
use Rattle.hj_driver.specs.declared.lane.OutstandingArrival.{OutstandingArrival}
use Rattle.hj_driver.specs.Lane.{after_departure, is_other, with_departure}
use Rattle.hj_driver.specs.Driver.{after_message, stays, quiet_stays, after_close, is_sent}
use Rattle.hj_driver.specs.StandsFor.{arrival_with, arrival_after, expiry_after, outstanding_by, quiet_after, arrivals_of, expiries_of, quiets_of, closes_of, is_CloseL, is_CloseR, is_closing}

-- one more turn
pub took-push : {P : Type 0} (port : Side) (test : Msg P → Bool) (log : List (DriverTurn P)) (turn : DriverTurn P) → took port test (log ++ turn ∷ []) ≡ took port test log || is_take port test turn
took-push port test log turn = list_any-append (is_take port test) log (turn ∷ []) ∙ ap (λ b. took port test log || b) (or-false (is_take port test turn))

-- a turn at which no message is taken
abbrev IsIdle : {P : Type 0} → DriverTurn P → Type 0
IsIdle {P} turn = (port : Side) (test : Msg P → Bool) → is_take port test turn ≡ false

idle-admission : {P : Type 0} (event : Event P) → IsIdle (admission event)
idle-admission event Left test = refl
idle-admission event Right test = refl

idle-closing : {P : Type 0} → IsIdle {P = P} closing
idle-closing Left test = refl
idle-closing Right test = refl

took-idle : {P : Type 0} (port : Side) (test : Msg P → Bool) (log : List (DriverTurn P)) (turn : DriverTurn P) → IsIdle turn → took port test (log ++ turn ∷ []) ≡ took port test log
took-idle port test log turn idle = took-push port test log turn ∙ ap (λ b. took port test log || b) (idle port test) ∙ or-false _

pub admitted-push : {P : Type 0} (log : List (DriverTurn P)) (turn : DriverTurn P) → admitted (log ++ turn ∷ []) ≡ admitted log ++ admitted (turn ∷ [])
admitted-push [] turn = refl
admitted-push {P} (admission event ∷ later) turn = ap (λ (events : List (Event P)). event ∷ events) (admitted-push later turn)
admitted-push (receipt port message ∷ later) turn = admitted-push later turn
admitted-push (closing ∷ later) turn = admitted-push later turn

-- an arrival of which one more message was taken, or none
row_more-if : (at : EventNo) (r e b : Bool) → arrival_with at (r || b) (e || false) ≡ option_and_then (λ (a : OutstandingArrival). cond b (with_departure Row a a.taken) (Some a)) (arrival_with at r e)
row_more-if at true true true = refl
row_more-if at true true false = refl
row_more-if at true false true = refl
row_more-if at true false false = refl
row_more-if at false true true = refl
row_more-if at false true false = refl
row_more-if at false false true = refl
row_more-if at false false false = refl

row_more : (at its : EventNo) (r e : Bool) → arrival_with at (r || (its.0 == at.0)) (e || false) ≡ option_and_then (after_departure its.0 Row) (arrival_with at r e)
row_more at its true true = row_more-if at true true (its.0 == at.0)
row_more at its true false = row_more-if at true false (its.0 == at.0)
row_more at its false true = row_more-if at false true (its.0 == at.0)
row_more at its false false = row_more-if at false false (its.0 == at.0)

end_more-if : (at : EventNo) (r e b : Bool) → arrival_with at (r || false) (e || b) ≡ option_and_then (λ (a : OutstandingArrival). cond b (with_departure End a a.taken) (Some a)) (arrival_with at r e)
end_more-if at true true true = refl
end_more-if at true true false = refl
end_more-if at true false true = refl
end_more-if at true false false = refl
end_more-if at false true true = refl
end_more-if at false true false = refl
end_more-if at false false true = refl
end_more-if at false false false = refl

end_more : (at its : EventNo) (r e : Bool) → arrival_with at (r || false) (e || (its.0 == at.0)) ≡ option_and_then (after_departure its.0 End) (arrival_with at r e)
end_more at its true true = end_more-if at true true (its.0 == at.0)
end_more at its true false = end_more-if at true false (its.0 == at.0)
end_more at its false true = end_more-if at false true (its.0 == at.0)
end_more at its false false = end_more-if at false false (its.0 == at.0)

no_more : (at : EventNo) (r e : Bool) → arrival_with at (r || false) (e || false) ≡ option_and_then (λ (a : OutstandingArrival). Some a) (arrival_with at r e)
no_more at true true = refl
no_more at true false = refl
no_more at false true = refl
no_more at false false = refl

left_more : {P : Type 0} (at : EventNo) (port : Side) (m : Msg P) (r e : Bool) → arrival_with at (r || is_take Right (is_R at.0) (receipt port m)) (e || is_take Left (is_EndR at.0) (receipt port m)) ≡ option_and_then (after_message Left port m) (arrival_with at r e)
left_more at Left (EndR its) r e = end_more at its r e
left_more at Right (R its row2) r e = row_more at its r e
left_more at port m r e = no_more at r e

right_more : {P : Type 0} (at : EventNo) (port : Side) (m : Msg P) (r e : Bool) → arrival_with at (r || is_take Left (is_S at.0) (receipt port m)) (e || is_take Right (is_EndS at.0) (receipt port m)) ≡ option_and_then (after_message Right port m) (arrival_with at r e)
right_more at Left (S its row2) r e = row_more at its r e
right_more at Right (EndS its) r e = end_more at its r e
right_more at port m r e = no_more at r e

arrival_after-receipt : {P : Type 0} (side : Side) (event : Event P) (log : List (DriverTurn P)) (port : Side) (m : Msg P)
    → arrival_after side event (log ++ receipt port m ∷ []) ≡ option_and_then (after_message side port m) (arrival_after side event log)
arrival_after-receipt {P} Left (Arrive at Left row) log port m =
    ap (λ b. arrival_with at b (took Left (is_EndR at.0) (log ++ receipt port m ∷ []))) (took-push Right (is_R at.0) log (receipt port m))
    ∙ ap (λ b. arrival_with at (took Right (is_R at.0) log || is_take Right (is_R at.0) (receipt port m)) b) (took-push Left (is_EndR at.0) log (receipt port m))
    ∙ left_more at port m (took Right (is_R at.0) log) (took Left (is_EndR at.0) log)
arrival_after-receipt {P} Right (Arrive at Right row) log port m =
    ap (λ b. arrival_with at b (took Right (is_EndS at.0) (log ++ receipt port m ∷ []))) (took-push Left (is_S at.0) log (receipt port m))
    ∙ ap (λ b. arrival_with at (took Left (is_S at.0) log || is_take Left (is_S at.0) (receipt port m)) b) (took-push Right (is_EndS at.0) log (receipt port m))
    ∙ right_more at port m (took Left (is_S at.0) log) (took Right (is_EndS at.0) log)
arrival_after-receipt side event log port m = refl

-- an expiry of which the message was taken, or not
leaves-if : (of : EventNo) (t b : Bool) → cond (t || b) None (Some of) ≡ option_and_then (λ (x : EventNo). cond (not b) (Some x) None) (cond t None (Some of))
leaves-if of true true = refl
leaves-if of true false = refl
leaves-if of false true = refl
leaves-if of false false = refl

leaves : (of its : EventNo) (t : Bool) → cond (t || (its.0 == of.0)) None (Some of) ≡ option_and_then (λ (x : EventNo). cond (is_other its.0 x) (Some x) None) (cond t None (Some of))
leaves of its true = refl
leaves of its false = leaves-if of false (its.0 == of.0)

lasts : (of : EventNo) (t : Bool) → cond (t || false) None (Some of) ≡ option_and_then (λ (x : EventNo). Some x) (cond t None (Some of))
lasts of true = refl
lasts of false = refl

left_lasts : {P : Type 0} (of : EventNo) (port : Side) (m : Msg P) (t : Bool) → cond (t || is_take Left (is_ExpR of.0) (receipt port m)) None (Some of) ≡ option_and_then (λ (x : EventNo). cond (stays Left port m x) (Some x) None) (cond t None (Some of))
left_lasts of Left (ExpR its) t = leaves of its t
left_lasts of port m t = lasts of t

right_lasts : {P : Type 0} (of : EventNo) (port : Side) (m : Msg P) (t : Bool) → cond (t || is_take Right (is_ExpS of.0) (receipt port m)) None (Some of) ≡ option_and_then (λ (x : EventNo). cond (stays Right port m x) (Some x) None) (cond t None (Some of))
right_lasts of Right (ExpS its) t = leaves of its t
right_lasts of port m t = lasts of t

expiry_after-receipt : {P : Type 0} (side : Side) (event : Event P) (log : List (DriverTurn P)) (port : Side) (m : Msg P)
    → expiry_after side event (log ++ receipt port m ∷ []) ≡ option_and_then (λ (x : EventNo). cond (stays side port m x) (Some x) None) (expiry_after side event log)
expiry_after-receipt Left (Expire at Left of) log port m =
    ap (λ b. cond b None (Some of)) (took-push Left (is_ExpR of.0) log (receipt port m)) ∙ left_lasts of port m (took Left (is_ExpR of.0) log)
expiry_after-receipt Right (Expire at Right of) log port m =
    ap (λ b. cond b None (Some of)) (took-push Right (is_ExpS of.0) log (receipt port m)) ∙ right_lasts of port m (took Right (is_ExpS of.0) log)
expiry_after-receipt side event log port m = refl

-- the same of quiet events
left_quiet_lasts : {P : Type 0} (of : EventNo) (port : Side) (m : Msg P) (t : Bool) → cond (t || is_take Right (is_QuietL of.0) (receipt port m)) None (Some of) ≡ option_and_then (λ (x : EventNo). cond (quiet_stays Left port m x) (Some x) None) (cond t None (Some of))
left_quiet_lasts of Right (QuietL its) t = leaves of its t
left_quiet_lasts of port m t = lasts of t

right_quiet_lasts : {P : Type 0} (of : EventNo) (port : Side) (m : Msg P) (t : Bool) → cond (t || is_take Left (is_QuietR of.0) (receipt port m)) None (Some of) ≡ option_and_then (λ (x : EventNo). cond (quiet_stays Right port m x) (Some x) None) (cond t None (Some of))
right_quiet_lasts of Left (QuietR its) t = leaves of its t
right_quiet_lasts of port m t = lasts of t

quiet_after-receipt : {P : Type 0} (side : Side) (event : Event P) (log : List (DriverTurn P)) (port : Side) (m : Msg P)
    → quiet_after side event (log ++ receipt port m ∷ []) ≡ option_and_then (λ (x : EventNo). cond (quiet_stays side port m x) (Some x) None) (quiet_after side event log)
quiet_after-receipt Left (Quiet at Left) log port m =
    ap (λ b. cond b None (Some at)) (took-push Right (is_QuietL at.0) log (receipt port m)) ∙ left_quiet_lasts at port m (took Right (is_QuietL at.0) log)
quiet_after-receipt Right (Quiet at Right) log port m =
    ap (λ b. cond b None (Some at)) (took-push Left (is_QuietR at.0) log (receipt port m)) ∙ right_quiet_lasts at port m (took Left (is_QuietR at.0) log)
quiet_after-receipt side event log port m = refl

-- what a log leaves, with one more turn behind it
cons-filter_map : {X : Type 0} (f : X → Option X) (o : Option X) (xs : List X) → cons_option (option_and_then f o) (filter_map f xs) ≡ filter_map f (cons_option o xs)
cons-filter_map f None xs = refl
cons-filter_map f (Some x) xs = refl

cons-if : {X : Type 0} (b : Bool) (x : X) (xs : List X) → cons_option (cond b (Some x) None) xs ≡ cond b (x ∷ xs) xs
cons-if true x xs = refl
cons-if false x xs = refl

cons-filter : {X : Type 0} (p : X → Bool) (o : Option X) (xs : List X) → cons_option (option_and_then (λ x. cond (p x) (Some x) None) o) (filter p xs) ≡ filter p (cons_option o xs)
cons-filter p None xs = refl
cons-filter p (Some x) xs = cons-if (p x) x (filter p xs)

cons-append : {X : Type 0} (o : Option X) (xs ys : List X) → cons_option o (xs ++ ys) ≡ cons_option o xs ++ ys
cons-append None xs ys = refl
cons-append (Some x) xs ys = refl

module _ {P X : Type 0} (after : Event P → List (DriverTurn P) → Option X) where
  outstanding-receipt : (port : Side) (m : Msg P) (f : X → Option X) (all : List X → List X) → [] ≡ all [] → ((o : Option X) (xs : List X) → cons_option (option_and_then f o) (all xs) ≡ all (cons_option o xs))
      → ((event : Event P) (log : List (DriverTurn P)) → after event (log ++ receipt port m ∷ []) ≡ option_and_then f (after event log))
      → (log : List (DriverTurn P)) → outstanding_by after (log ++ receipt port m ∷ []) ≡ all (outstanding_by after log)
  outstanding-receipt port m f all none one each [] = none
  outstanding-receipt port m f all none one each (admission event ∷ later) =
      ap (λ o. cons_option o (outstanding_by after (later ++ receipt port m ∷ []))) (each event later)
      ∙ ap (cons_option (option_and_then f (after event later))) (outstanding-receipt port m f all none one each later)
      ∙ one (after event later) (outstanding_by after later)
  outstanding-receipt port m f all none one each (receipt other message ∷ later) = outstanding-receipt port m f all none one each later
  outstanding-receipt port m f all none one each (closing ∷ later) = outstanding-receipt port m f all none one each later

  outstanding-idle : (turn : DriverTurn P) → ((event : Event P) (log : List (DriverTurn P)) → after event (log ++ turn ∷ []) ≡ after event log)
      → (log : List (DriverTurn P)) → outstanding_by after (log ++ turn ∷ []) ≡ outstanding_by after log ++ outstanding_by after (turn ∷ [])
  outstanding-idle turn each [] = refl
  outstanding-idle turn each (admission event ∷ later) =
      ap (λ o. cons_option o (outstanding_by after (later ++ turn ∷ []))) (each event later)
      ∙ ap (cons_option (after event later)) (outstanding-idle turn each later)
      ∙ cons-append (after event later) (outstanding_by after later) (outstanding_by after (turn ∷ []))
  outstanding-idle turn each (receipt other message ∷ later) = outstanding-idle turn each later
  outstanding-idle turn each (closing ∷ later) = outstanding-idle turn each later

pub arrivals_of-receipt : {P : Type 0} (side : Side) (log : List (DriverTurn P)) (port : Side) (m : Msg P) → arrivals_of side (log ++ receipt port m ∷ []) ≡ filter_map (after_message side port m) (arrivals_of side log)
arrivals_of-receipt side log port m =
    let keeps = after_message side port m in
    outstanding-receipt (arrival_after side) port m keeps (filter_map keeps) refl (cons-filter_map keeps) (λ event later. arrival_after-receipt side event later port m) log

pub expiries_of-receipt : {P : Type 0} (side : Side) (log : List (DriverTurn P)) (port : Side) (m : Msg P) → expiries_of side (log ++ receipt port m ∷ []) ≡ filter (stays side port m) (expiries_of side log)
expiries_of-receipt side log port m =
    let keeps = stays side port m in
    outstanding-receipt (expiry_after side) port m (λ (x : EventNo). cond (keeps x) (Some x) None) (filter keeps) refl (cons-filter keeps) (λ event later. expiry_after-receipt side event later port m) log

pub quiets_of-receipt : {P : Type 0} (side : Side) (log : List (DriverTurn P)) (port : Side) (m : Msg P) → quiets_of side (log ++ receipt port m ∷ []) ≡ filter (quiet_stays side port m) (quiets_of side log)
quiets_of-receipt side log port m =
    let keeps = quiet_stays side port m in
    outstanding-receipt (quiet_after side) port m (λ (x : EventNo). cond (keeps x) (Some x) None) (filter keeps) refl (cons-filter keeps) (λ event later. quiet_after-receipt side event later port m) log

-- the closes
unsent_stays : {P : Type 0} (port : Side) (m : Msg P) → Unsent ≡ after_close port m Unsent
unsent_stays Left CloseR = refl
unsent_stays Right CloseL = refl
unsent_stays port m = refl

sent_more : {P : Type 0} (port : Side) (m : Msg P) (l r : Bool) → Sent (l || is_take Right is_CloseL (receipt port m)) (r || is_take Left is_CloseR (receipt port m)) ≡ after_close port m (Sent l r)
sent_more Left CloseR l r = simp (or-false, or-true) refl
sent_more Right CloseL l r = simp (or-false, or-true) refl
sent_more port m l r = simp or-false refl

pub closes_of-receipt : {P : Type 0} (log : List (DriverTurn P)) (port : Side) (m : Msg P) → closes_of (log ++ receipt port m ∷ []) ≡ after_close port m (closes_of log)
closes_of-receipt [] port m = unsent_stays port m
closes_of-receipt (admission event ∷ later) port m = closes_of-receipt later port m
closes_of-receipt (receipt other message ∷ later) port m = closes_of-receipt later port m
closes_of-receipt (closing ∷ later) port m =
    ap (λ b. Sent b (took Left is_CloseR (later ++ receipt port m ∷ []))) (took-push Right is_CloseL later (receipt port m))
    ∙ ap (λ b. Sent (took Right is_CloseL later || is_take Right is_CloseL (receipt port m)) b) (took-push Left is_CloseR later (receipt port m))
    ∙ sent_more port m (took Right is_CloseL later) (took Left is_CloseR later)

-- a turn at which nothing is taken
arrival_after-idle : {P : Type 0} (turn : DriverTurn P) → IsIdle turn → (side : Side) (event : Event P) (log : List (DriverTurn P)) → arrival_after side event (log ++ turn ∷ []) ≡ arrival_after side event log
arrival_after-idle turn idle Left (Arrive at Left row) log =
    ap (λ b. arrival_with at b (took Left (is_EndR at.0) (log ++ turn ∷ []))) (took-idle Right (is_R at.0) log turn idle) ∙ ap (λ b. arrival_with at (took Right (is_R at.0) log) b) (took-idle Left (is_EndR at.0) log turn idle)
arrival_after-idle turn idle Right (Arrive at Right row) log =
    ap (λ b. arrival_with at b (took Right (is_EndS at.0) (log ++ turn ∷ []))) (took-idle Left (is_S at.0) log turn idle) ∙ ap (λ b. arrival_with at (took Left (is_S at.0) log) b) (took-idle Right (is_EndS at.0) log turn idle)
arrival_after-idle turn idle side event log = refl

expiry_after-idle : {P : Type 0} (turn : DriverTurn P) → IsIdle turn → (side : Side) (event : Event P) (log : List (DriverTurn P)) → expiry_after side event (log ++ turn ∷ []) ≡ expiry_after side event log
expiry_after-idle turn idle Left (Expire at Left of) log = ap (λ b. cond b None (Some of)) (took-idle Left (is_ExpR of.0) log turn idle)
expiry_after-idle turn idle Right (Expire at Right of) log = ap (λ b. cond b None (Some of)) (took-idle Right (is_ExpS of.0) log turn idle)
expiry_after-idle turn idle side event log = refl

quiet_after-idle : {P : Type 0} (turn : DriverTurn P) → IsIdle turn → (side : Side) (event : Event P) (log : List (DriverTurn P)) → quiet_after side event (log ++ turn ∷ []) ≡ quiet_after side event log
quiet_after-idle turn idle Left (Quiet at Left) log = ap (λ b. cond b None (Some at)) (took-idle Right (is_QuietL at.0) log turn idle)
quiet_after-idle turn idle Right (Quiet at Right) log = ap (λ b. cond b None (Some at)) (took-idle Left (is_QuietR at.0) log turn idle)
quiet_after-idle turn idle side event log = refl

pub arrivals_of-admission : {P : Type 0} (side : Side) (log : List (DriverTurn P)) (put : Event P) → arrivals_of side (log ++ admission put ∷ []) ≡ arrivals_of side log ++ cons_option (arrival_after side put []) []
arrivals_of-admission side log put = outstanding-idle (arrival_after side) (admission put) (arrival_after-idle (admission put) (idle-admission put) side) log

pub expiries_of-admission : {P : Type 0} (side : Side) (log : List (DriverTurn P)) (put : Event P) → expiries_of side (log ++ admission put ∷ []) ≡ expiries_of side log ++ cons_option (expiry_after side put []) []
expiries_of-admission side log put = outstanding-idle (expiry_after side) (admission put) (expiry_after-idle (admission put) (idle-admission put) side) log

pub quiets_of-admission : {P : Type 0} (side : Side) (log : List (DriverTurn P)) (put : Event P) → quiets_of side (log ++ admission put ∷ []) ≡ quiets_of side log ++ cons_option (quiet_after side put []) []
quiets_of-admission side log put = outstanding-idle (quiet_after side) (admission put) (quiet_after-idle (admission put) (idle-admission put) side) log

pub arrivals_of-closing : {P : Type 0} (side : Side) (log : List (DriverTurn P)) → arrivals_of side (log ++ closing ∷ []) ≡ arrivals_of side log
arrivals_of-closing side log = outstanding-idle (arrival_after side) closing (arrival_after-idle closing idle-closing side) log ∙ append-nil (arrivals_of side log)

pub expiries_of-closing : {P : Type 0} (side : Side) (log : List (DriverTurn P)) → expiries_of side (log ++ closing ∷ []) ≡ expiries_of side log
expiries_of-closing side log = outstanding-idle (expiry_after side) closing (expiry_after-idle closing idle-closing side) log ∙ append-nil (expiries_of side log)

pub quiets_of-closing : {P : Type 0} (side : Side) (log : List (DriverTurn P)) → quiets_of side (log ++ closing ∷ []) ≡ quiets_of side log
quiets_of-closing side log = outstanding-idle (quiet_after side) closing (quiet_after-idle closing idle-closing side) log ∙ append-nil (quiets_of side log)

pub closes_of-admission : {P : Type 0} (log : List (DriverTurn P)) (put : Event P) → closes_of (log ++ admission put ∷ []) ≡ closes_of log
closes_of-admission [] put = refl
closes_of-admission (admission event ∷ later) put = closes_of-admission later put
closes_of-admission (receipt port message ∷ later) put = closes_of-admission later put
closes_of-admission (closing ∷ later) put =
    ap (λ b. Sent b (took Left is_CloseR (later ++ admission put ∷ []))) (took-idle Right is_CloseL later (admission put) (idle-admission put))
    ∙ ap (λ b. Sent (took Right is_CloseL later) b) (took-idle Left is_CloseR later (admission put) (idle-admission put))

pub closes_of-closing : {P : Type 0} (log : List (DriverTurn P)) → list_any is_closing log ≡ false → closes_of (log ++ closing ∷ []) ≡ Sent false false
closes_of-closing [] unclosed = refl
closes_of-closing (admission event ∷ later) unclosed = closes_of-closing later unclosed
closes_of-closing (receipt port message ∷ later) unclosed = closes_of-closing later unclosed
closes_of-closing (closing ∷ later) unclosed = absurd (false≢true (sym unclosed))

-- the closes were sent exactly where the log has them
pub is_sent-closes_of : {P : Type 0} (log : List (DriverTurn P)) → is_sent (closes_of log) ≡ list_any is_closing log
is_sent-closes_of [] = refl
is_sent-closes_of (admission event ∷ later) = is_sent-closes_of later
is_sent-closes_of (receipt port message ∷ later) = is_sent-closes_of later
is_sent-closes_of (closing ∷ later) = refl

-- the outstanding events are those of the six lists
abbrev count_in : {P : Type 0} → List (DriverTurn P) → ℕ
count_in log = ((length (arrivals_of Left log) + length (expiries_of Left log)) + (length (arrivals_of Right log) + length (expiries_of Right log))) + (length (quiets_of Left log) + length (quiets_of Right log))

arrival_counts : {P : Type 0} (event : Event P) (at : EventNo) (r e : Bool) (out : List (Event P)) (here : List OutstandingArrival) (others : ℕ) → length out ≡ length here + others
    → length (cond (r && e) out (event ∷ out)) ≡ length (cons_option (arrival_with at r e) here) + others
arrival_counts event at true true out here others is = is
arrival_counts event at true false out here others is = omega arith
arrival_counts event at false true out here others is = omega arith
arrival_counts event at false false out here others is = omega arith

leaving_counts : {P : Type 0} (event : Event P) (of : EventNo) (t : Bool) (out : List (Event P)) (here : List EventNo) (others : ℕ) → length out ≡ length here + others
    → length (cond t out (event ∷ out)) ≡ length (cons_option (cond t None (Some of)) here) + others
leaving_counts event of true out here others is = is
leaving_counts event of false out here others is = omega arith

pub length-outstanding : {P : Type 0} (log : List (DriverTurn P)) → length (outstanding log) ≡ count_in log
length-outstanding [] = refl
length-outstanding (receipt port message ∷ later) = length-outstanding later
length-outstanding (closing ∷ later) = length-outstanding later
length-outstanding {P} (admission (Arrive at Left row) ∷ later) =
    let event : Event P = Arrive at Left row in
    let all = length-outstanding later in
    omega (arith, arrival_counts event at (took Right (is_R at.0) later) (took Left (is_EndR at.0) later) (outstanding later) (arrivals_of Left later) (length (expiries_of Left later) + (length (arrivals_of Right later) + length (expiries_of Right later)) + (length (quiets_of Left later) + length (quiets_of Right later))) (omega arith))
length-outstanding {P} (admission (Arrive at Right row) ∷ later) =
    let event : Event P = Arrive at Right row in
    let all = length-outstanding later in
    omega (arith, arrival_counts event at (took Left (is_S at.0) later) (took Right (is_EndS at.0) later) (outstanding later) (arrivals_of Right later) ((length (arrivals_of Left later) + length (expiries_of Left later)) + length (expiries_of Right later) + (length (quiets_of Left later) + length (quiets_of Right later))) (omega arith))
length-outstanding {P} (admission (Expire at Left of) ∷ later) =
    let event : Event P = Expire at Left of in
    let all = length-outstanding later in
    omega (arith, leaving_counts event of (took Left (is_ExpR of.0) later) (outstanding later) (expiries_of Left later) (length (arrivals_of Left later) + (length (arrivals_of Right later) + length (expiries_of Right later)) + (length (quiets_of Left later) + length (quiets_of Right later))) (omega arith))
length-outstanding {P} (admission (Expire at Right of) ∷ later) =
    let event : Event P = Expire at Right of in
    let all = length-outstanding later in
    omega (arith, leaving_counts event of (took Right (is_ExpS of.0) later) (outstanding later) (expiries_of Right later) ((length (arrivals_of Left later) + length (expiries_of Left later)) + length (arrivals_of Right later) + (length (quiets_of Left later) + length (quiets_of Right later))) (omega arith))
length-outstanding {P} (admission (Quiet at Left) ∷ later) =
    let event : Event P = Quiet at Left in
    let all = length-outstanding later in
    omega (arith, leaving_counts event at (took Right (is_QuietL at.0) later) (outstanding later) (quiets_of Left later) (((length (arrivals_of Left later) + length (expiries_of Left later)) + (length (arrivals_of Right later) + length (expiries_of Right later))) + length (quiets_of Right later)) (omega arith))
length-outstanding {P} (admission (Quiet at Right) ∷ later) =
    let event : Event P = Quiet at Right in
    let all = length-outstanding later in
    omega (arith, leaving_counts event at (took Left (is_QuietR at.0) later) (outstanding later) (quiets_of Right later) (((length (arrivals_of Left later) + length (expiries_of Left later)) + (length (arrivals_of Right later) + length (expiries_of Right later))) + length (quiets_of Left later)) (omega arith))
