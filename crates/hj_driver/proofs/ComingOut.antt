-- What a driver knows of the row of an expiry, and of a new event, by a log that it stands for.
use Rattle.std.proofs.Common.{◌≡◌, ℕ, ◌+◌, ◌<◌, ◌≤◌, ◌==◌, ◌⊎◌, Bool, true, false, not, ◌&&◌, ◌||◌, cond, List, [], ◌∷◌, ◌++◌, length, get_or, Some, None, Option, All, Contains, IsTrue, refl, ap, sym, ◌∙◌, subst, inl, inr, arith, eq-eqb, ne_eqb}
use Rattle.std.specs.List.{cons_option, list_any}
use Rattle.std.proofs.Math.Bool.{or-false}
use Rattle.std.proofs.lemmas.Bool.{false≢true}
use Rattle.std.proofs.lemmas.Bool.Decides.{eqb_tells}
use Rattle.std.proofs.lemmas.List.Folds.{list_any_none, list_any_at}
use Rattle.std.proofs.lemmas.List.Elements.{All-cons, All-nil, All-weaker}
use Rattle.hj_base.specs.declared.numbers.EventNo.{EventNo}
use Rattle.hj_base.specs.declared.numbers.Side.{Side}
use Rattle.hj_base.specs.declared.numbers.Side.TheVariants.{Left, Right}
use Rattle.hj_msg.specs.declared.event.Event.{Event}
use Rattle.hj_msg.specs.declared.event.Event.TheVariants.{Arrive, Expire, Quiet}
use Rattle.hj_msg.specs.Messages.{is_R, is_S, is_EndR, is_EndS, is_ExpR, is_ExpS, is_QuietL, is_QuietR}
use Rattle.hj_msg.specs.Event.{number, NumbersFrom, Arrives, Expires, NamesLive, IsWellFormed}
use Rattle.hj_msg.specs.Driver.{DriverTurn, admission, receipt, closing, admitted, took, outstanding, is_arrival, row_taken, came_out, HasComeOut, message_of, port_of}
use Rattle.hj_msg.proofs.Members.{Contains-head, Contains-cons, Contains-cons_cases}
use Rattle.hj_msg.specs.declared.message.Msg.{Msg}
use Rattle.hj_driver.specs.declared.answers.Why.{Why}
use Rattle.hj_driver.specs.declared.answers.Why.TheVariants.{Flight, NotMarked, Closed}
use Rattle.hj_driver.specs.declared.answers.Admitted.TheVariants.{Send}
use Rattle.hj_driver.specs.declared.lane.Departure.TheVariants.{Row, End}
use Rattle.hj_driver.specs.declared.lane.OutstandingArrival.{OutstandingArrival}
use Rattle.hj_driver.specs.Lane.{waits_for}
use Rattle.hj_driver.specs.Driver.{DriverState, answer_to, cause_of, row_cause, IsNewEvent, is_sent, count_of}
use Rattle.hj_driver.specs.StandsFor.{StandsFor, arrival_with, arrival_after, arrivals_of, expiries_of, quiets_of, quiet_after, is_closing, not_out, cause_after}
use Rattle.hj_driver.proofs.Logs.{is_sent-closes_of}
use Rattle.hj_driver.proofs.Standing.{stands-count}

-- the outstanding arrivals have the numbers of their events
with_number : (P : ℕ → Type 0) (at : EventNo) (r e : Bool) (rest : List OutstandingArrival) → P at.0 → All (λ (a : OutstandingArrival). P a.no.0) rest → All (λ (a : OutstandingArrival). P a.no.0) (cons_option (arrival_with at r e) rest)
with_number P at true true rest here all = all
with_number P at true false rest here all = All-cons (λ (a : OutstandingArrival). P a.no.0) (record { no = at; taken = Some Row }) rest here all
with_number P at false true rest here all = All-cons (λ (a : OutstandingArrival). P a.no.0) (record { no = at; taken = Some End }) rest here all
with_number P at false false rest here all = All-cons (λ (a : OutstandingArrival). P a.no.0) (record { no = at; taken = None }) rest here all

with_event : {Q : Type 0} (P : ℕ → Type 0) (side : Side) (event : Event Q) (log : List (DriverTurn Q)) (rest : List OutstandingArrival) → P (number event) → All (λ (a : OutstandingArrival). P a.no.0) rest → All (λ (a : OutstandingArrival). P a.no.0) (cons_option (arrival_after side event log) rest)
with_event P Left (Arrive at Left row) log rest here all = with_number P at (took Right (is_R at.0) log) (took Left (is_EndR at.0) log) rest here all
with_event P Right (Arrive at Right row) log rest here all = with_number P at (took Left (is_S at.0) log) (took Right (is_EndS at.0) log) rest here all
with_event P Left (Arrive at Right row) log rest here all = all
with_event P Left (Expire at Left of) log rest here all = all
with_event P Left (Expire at Right of) log rest here all = all
with_event P Left (Quiet at Left) log rest here all = all
with_event P Left (Quiet at Right) log rest here all = all
with_event P Right (Arrive at Left row) log rest here all = all
with_event P Right (Expire at Left of) log rest here all = all
with_event P Right (Expire at Right of) log rest here all = all
with_event P Right (Quiet at Left) log rest here all = all
with_event P Right (Quiet at Right) log rest here all = all

-- numbers are at least the first one, and below the first one behind them
pub numbers_between : {P : Type 0} (side : Side) (low high : ℕ) (log : List (DriverTurn P)) → NumbersFrom low (admitted log) → low + length (admitted log) ≡ high → All (λ (a : OutstandingArrival). (low ≤ a.no.0) × (a.no.0 < high)) (arrivals_of side log)
numbers_between side low high [] numbers is = All-nil (λ (a : OutstandingArrival). (low ≤ a.no.0) × (a.no.0 < high))
numbers_between side low high (receipt port message ∷ later) numbers is = numbers_between side low high later numbers is
numbers_between side low high (closing ∷ later) numbers is = numbers_between side low high later numbers is
numbers_between side low high (admission event ∷ later) numbers is =
    with_event (λ n. (low ≤ n) × (n < high)) side event later (arrivals_of side later) (omega (arith, numbers.0), omega (arith, numbers.0, is))
    (All-weaker (λ (a : OutstandingArrival). (low + 1 ≤ a.no.0) × (a.no.0 < high)) (λ (a : OutstandingArrival). (low ≤ a.no.0) × (a.no.0 < high)) (λ a w. (omega (arith, w.0), w.1)) (arrivals_of side later) (numbers_between side (low + 1) high later numbers.1 (omega (arith, is))))

-- a number below all has neither come out nor is it waited for
unwaited_below : {P : Type 0} (side : Side) (n low : ℕ) (log : List (DriverTurn P)) → NumbersFrom low (admitted log) → n < low → list_any (waits_for n Row) (arrivals_of side log) ≡ false
unwaited_below side n low log numbers below =
    list_any_none (waits_for n Row) (arrivals_of side log) (λ k d lt. let w = numbers_between side low (low + length (admitted log)) log numbers refl k d lt in rw (ne_eqb n (get_or (arrivals_of side log) k d).no.0 (λ same. omega arith)) refl)

not_arrival : {P : Type 0} (side : Side) (n : ℕ) (event : Event P) → (number event ≡ n → ⊥) → is_arrival side n event ≡ false
not_arrival Left n (Arrive at Left row) other = ne_eqb at.0 n other
not_arrival Right n (Arrive at Right row) other = ne_eqb at.0 n other
not_arrival Left n (Arrive at Right row) other = refl
not_arrival Left n (Expire at Left of) other = refl
not_arrival Left n (Expire at Right of) other = refl
not_arrival Left n (Quiet at Left) other = refl
not_arrival Left n (Quiet at Right) other = refl
not_arrival Right n (Arrive at Left row) other = refl
not_arrival Right n (Expire at Left of) other = refl
not_arrival Right n (Expire at Right of) other = refl
not_arrival Right n (Quiet at Left) other = refl
not_arrival Right n (Quiet at Right) other = refl

in_below : {P : Type 0} (side : Side) (n low : ℕ) (log : List (DriverTurn P)) → NumbersFrom low (admitted log) → n < low → came_out side n log ≡ false
in_below side n low [] numbers below = refl
in_below side n low (receipt port message ∷ later) numbers below = in_below side n low later numbers below
in_below side n low (closing ∷ later) numbers below = in_below side n low later numbers below
in_below side n low (admission event ∷ later) numbers below =
    ap (λ b. (b && row_taken event later) || came_out side n later) (not_arrival side n event (λ same. omega (arith, numbers.0))) ∙ in_below side n (low + 1) later numbers.1 (omega arith)

-- at the arrival itself
here_waits : (n : ℕ) (at : EventNo) (r e : Bool) (rest : List OutstandingArrival) → at.0 ≡ n → list_any (waits_for n Row) rest ≡ false → list_any (waits_for n Row) (cons_option (arrival_with at r e) rest) ≡ not r
here_waits n at true true rest same none = none
here_waits n at true false rest same none = rw (eq-eqb n at.0 (sym same)) none
here_waits n at false true rest same none = rw (eq-eqb n at.0 (sym same)) refl
here_waits n at false false rest same none = rw (eq-eqb n at.0 (sym same)) refl

elsewhere_waits : (n : ℕ) (at : EventNo) (r e : Bool) (rest : List OutstandingArrival) → (at.0 ≡ n → ⊥) → list_any (waits_for n Row) (cons_option (arrival_with at r e) rest) ≡ list_any (waits_for n Row) rest
elsewhere_waits n at true true rest other = refl
elsewhere_waits n at true false rest other = rw (ne_eqb n at.0 (λ same. other (sym same))) refl
elsewhere_waits n at false true rest other = rw (ne_eqb n at.0 (λ same. other (sym same))) refl
elsewhere_waits n at false false rest other = rw (ne_eqb n at.0 (λ same. other (sym same))) refl

at_arrival : (n : ℕ) (at : EventNo) (r e out : Bool) (rest : List OutstandingArrival) → (at.0 ≡ n → (list_any (waits_for n Row) rest ≡ false) × (out ≡ false)) → ((at.0 ≡ n → ⊥) → list_any (waits_for n Row) rest ≡ not out)
    → list_any (waits_for n Row) (cons_option (arrival_with at r e) rest) ≡ not (((at.0 == n) && r) || out)
at_arrival n at r e out rest here elsewhere = elim (eqb_tells at.0 n) [
  | inl w ↦ let both = here w.1 in here_waits n at r e rest w.1 both.0 ∙ ap not (sym (or-false r)) ∙ ap (λ b. not (r || b)) (sym both.1) ∙ ap (λ b. not ((b && r) || out)) (sym w.0)
  | inr w ↦ elsewhere_waits n at r e rest w.1 ∙ elsewhere w.1 ∙ ap (λ b. not ((b && r) || out)) (sym w.0)
]

-- the row of an arrival is waited for until it has come out
pub waits-came_out : {P : Type 0} (side : Side) (n low : ℕ) (log : List (DriverTurn P)) → NumbersFrom low (admitted log) → list_any (is_arrival side n) (admitted log) ≡ true
    → list_any (waits_for n Row) (arrivals_of side log) ≡ not (came_out side n log)
waits-came_out side n low [] numbers arrives = absurd (false≢true arrives)
waits-came_out side n low (receipt port message ∷ later) numbers arrives = waits-came_out side n low later numbers arrives
waits-came_out side n low (closing ∷ later) numbers arrives = waits-came_out side n low later numbers arrives
waits-came_out Left n low (admission (Arrive at Left row) ∷ later) numbers arrives =
    at_arrival n at (took Right (is_R at.0) later) (took Left (is_EndR at.0) later) (came_out Left n later) (arrivals_of Left later)
    (λ same. (unwaited_below Left n (low + 1) later numbers.1 (omega (arith, numbers.0)), in_below Left n (low + 1) later numbers.1 (omega (arith, numbers.0))))
    (λ other. waits-came_out Left n (low + 1) later numbers.1 (ap (λ b. b || list_any (is_arrival Left n) (admitted later)) (sym (ne_eqb at.0 n other)) ∙ arrives))
waits-came_out Right n low (admission (Arrive at Right row) ∷ later) numbers arrives =
    at_arrival n at (took Left (is_S at.0) later) (took Right (is_EndS at.0) later) (came_out Right n later) (arrivals_of Right later)
    (λ same. (unwaited_below Right n (low + 1) later numbers.1 (omega (arith, numbers.0)), in_below Right n (low + 1) later numbers.1 (omega (arith, numbers.0))))
    (λ other. waits-came_out Right n (low + 1) later numbers.1 (ap (λ b. b || list_any (is_arrival Right n) (admitted later)) (sym (ne_eqb at.0 n other)) ∙ arrives))
waits-came_out Left n low (admission (Arrive at Right row) ∷ later) numbers arrives = waits-came_out Left n (low + 1) later numbers.1 arrives
waits-came_out Left n low (admission (Expire at Left of) ∷ later) numbers arrives = waits-came_out Left n (low + 1) later numbers.1 arrives
waits-came_out Left n low (admission (Expire at Right of) ∷ later) numbers arrives = waits-came_out Left n (low + 1) later numbers.1 arrives
waits-came_out Left n low (admission (Quiet at Left) ∷ later) numbers arrives = waits-came_out Left n (low + 1) later numbers.1 arrives
waits-came_out Left n low (admission (Quiet at Right) ∷ later) numbers arrives = waits-came_out Left n (low + 1) later numbers.1 arrives
waits-came_out Right n low (admission (Arrive at Left row) ∷ later) numbers arrives = waits-came_out Right n (low + 1) later numbers.1 arrives
waits-came_out Right n low (admission (Expire at Left of) ∷ later) numbers arrives = waits-came_out Right n (low + 1) later numbers.1 arrives
waits-came_out Right n low (admission (Expire at Right of) ∷ later) numbers arrives = waits-came_out Right n (low + 1) later numbers.1 arrives
waits-came_out Right n low (admission (Quiet at Left) ∷ later) numbers arrives = waits-came_out Right n (low + 1) later numbers.1 arrives
waits-came_out Right n low (admission (Quiet at Right) ∷ later) numbers arrives = waits-came_out Right n (low + 1) later numbers.1 arrives

-- an event behind a log is new to the driver
last_number : {P : Type 0} (n : ℕ) (xs : List (Event P)) (event : Event P) → NumbersFrom n (xs ++ event ∷ []) → number event ≡ n + length xs
last_number n [] event numbers = omega (arith, numbers.0)
last_number n (x ∷ xs) event numbers = omega (arith, last_number (n + 1) xs event numbers.1)

live_row : {P : Type 0} (log : List (DriverTurn P)) (event : Event P) → IsWellFormed (admitted log ++ event ∷ []) → NamesLive (admitted log) event
live_row log event well = well.live (admitted log) [] event refl

arrived : {P : Type 0} (side : Side) (of : EventNo) (row : P) (events : List (Event P)) → Arrives events side of.0 row → list_any (is_arrival side of.0) events ≡ true
arrived Left of row events has = list_any_at (is_arrival Left of.0) events has.0 (Arrive of Left row) has.1 (ap (is_arrival Left of.0) has.2 ∙ eq-eqb of.0 of.0 refl)
arrived Right of row events has = list_any_at (is_arrival Right of.0) events has.0 (Arrive of Right row) has.1 (ap (is_arrival Right of.0) has.2 ∙ eq-eqb of.0 of.0 refl)

turned : (b : Bool) {X : Type 0} (x y : X) → cond (not b) x y ≡ cond b y x
turned true x y = refl
turned false x y = refl

pub row_cause-not_out : {P : Type 0} (event : Event P) (d : DriverState) (log : List (DriverTurn P)) → StandsFor d log → IsWellFormed (admitted log ++ event ∷ []) → row_cause event d ≡ not_out event log
row_cause-not_out (Arrive at side row) d log stands well = refl
row_cause-not_out (Quiet at side) d log stands well = refl
row_cause-not_out {P} (Expire at Left of) d log stands well =
    let event : Event P = Expire at Left of in
    let live = live_row log event well in
    ap (λ l. cond (list_any (waits_for of.0 Row) l) (Some (NotMarked of)) None) stands.left_arrivals
    ∙ ap (λ b. cond b (Some (NotMarked of)) None) (waits-came_out Left of.0 0 log stands.well_formed.numbered (arrived Left of live.0.0 (admitted log) live.0.1))
    ∙ turned (came_out Left of.0 log) (Some (NotMarked of)) None
row_cause-not_out {P} (Expire at Right of) d log stands well =
    let event : Event P = Expire at Right of in
    let live = live_row log event well in
    ap (λ l. cond (list_any (waits_for of.0 Row) l) (Some (NotMarked of)) None) stands.right_arrivals
    ∙ ap (λ b. cond b (Some (NotMarked of)) None) (waits-came_out Right of.0 0 log stands.well_formed.numbered (arrived Right of live.0.0 (admitted log) live.0.1))
    ∙ turned (came_out Right of.0 log) (Some (NotMarked of)) None

-- the cause that the driver gives is that of the log
pub cause_of-same : {P : Type 0} (event : Event P) (d : DriverState) (log : List (DriverTurn P)) → StandsFor d log → IsWellFormed (admitted log ++ event ∷ []) → cause_of event d ≡ cause_after d.flight event log
cause_of-same event d log stands well =
    ap (λ b. cond b (Some Closed) (cond (count_of d == d.flight) (Some (Flight (count_of d))) (row_cause event d))) (ap is_sent stands.closes ∙ is_sent-closes_of log)
    ∙ ap (λ n. cond (list_any is_closing log) (Some Closed) (cond (n == d.flight) (Some (Flight n)) (row_cause event d))) (sym (stands-count d log stands))
    ∙ ap (λ o. cond (list_any is_closing log) (Some Closed) (cond (length (outstanding log) == d.flight) (Some (Flight (length (outstanding log)))) o)) (row_cause-not_out event d log stands well)

-- what no cause means
sent_or_not : (b : Bool) → (b ≡ true) ⊎ (b ≡ false)
sent_or_not true = inl refl
sent_or_not false = inr refl

pub record MayBePut {P : Type 0} (event : Event P) (d : DriverState) : Type 0 where
  pub unsent : is_sent d.closes ≡ false
  pub below : count_of d ≡ d.flight → ⊥
  pub no_row : row_cause event d ≡ None

some≢none : {X : Type 0} {x : X} → Some x ≡ None → ⊥
some≢none same = cc

pub no_cause : {P : Type 0} (event : Event P) (d : DriverState) → cause_of event d ≡ None → MayBePut event d
no_cause event d none = elim (sent_or_not (is_sent d.closes)) [
  | inl sent ↦ absurd (some≢none (rw sent at none))
  | inr unsent ↦ elim (eqb_tells (count_of d) d.flight) [
    | inl full ↦ absurd (some≢none (rw (unsent, full.0) at none))
    | inr below ↦ record { unsent = unsent; below = below.1; no_row = rw (unsent, below.0) at none }
  ]
]

came_out-if : (b : Bool) (of : EventNo) → cond b None (Some (NotMarked of)) ≡ None → IsTrue b
came_out-if true of none = refl
came_out-if false of none = absurd (some≢none none)

pub has_come_out : {P : Type 0} (event : Event P) (log : List (DriverTurn P)) → not_out event log ≡ None → HasComeOut event log
has_come_out (Arrive at side row) log none = tt
has_come_out (Quiet at side) log none = tt
has_come_out (Expire at side of) log none = came_out-if (came_out side of.0 log) of none

expiry_cases : (t : Bool) (x y : EventNo) (rest : List EventNo) → Contains (cons_option (cond t None (Some x)) rest) y → (x ≡ y) ⊎ Contains rest y
expiry_cases true x y rest has = inr has
expiry_cases false x y rest has = Contains-cons_cases x y rest has

expired-here : {P : Type 0} (side : Side) (at x : EventNo) (t : Bool) (rest : List EventNo) (later : List (Event P)) (of : EventNo) → Contains (cons_option (cond t None (Some x)) rest) of
    → (Contains rest of → (n : ℕ) × Expires later of.0 n) → (n : ℕ) × Expires (Expire at side x ∷ later) of.0 n
expired-here {P} side at x t rest later of has deeper = elim (expiry_cases t x of rest has) [
  | inl same ↦ (at.0, (side, subst (λ (y : EventNo). Contains (Expire at side x ∷ later) (Expire at side y)) same (Contains-head (Expire at side x) later)))
  | inr old ↦ let w = deeper old in (w.0, (w.1.0, Contains-cons (Expire at side x) _ later w.1.1))
]

expired-later : {P : Type 0} (event : Event P) (later : List (Event P)) (of : ℕ) → ((n : ℕ) × Expires later of n) → (n : ℕ) × Expires (event ∷ later) of n
expired-later event later of w = (w.0, (w.1.0, Contains-cons event _ later w.1.1))

pub expired : {P : Type 0} (side : Side) (log : List (DriverTurn P)) (of : EventNo) → Contains (expiries_of side log) of → (n : ℕ) × Expires (admitted log) of.0 n
expired side [] of has = absurd (omega (arith, has.1))
expired side (receipt port message ∷ later) of has = expired side later of has
expired side (closing ∷ later) of has = expired side later of has
expired Left (admission (Expire at Left x) ∷ later) of has = expired-here Left at x (took Left (is_ExpR x.0) later) (expiries_of Left later) (admitted later) of has (expired Left later of)
expired Right (admission (Expire at Right x) ∷ later) of has = expired-here Right at x (took Right (is_ExpS x.0) later) (expiries_of Right later) (admitted later) of has (expired Right later of)
expired Left (admission (Expire at Right x) ∷ later) of has = expired-later (Expire at Right x) (admitted later) of.0 (expired Left later of has)
expired Left (admission (Arrive at Left row) ∷ later) of has = expired-later (Arrive at Left row) (admitted later) of.0 (expired Left later of has)
expired Left (admission (Arrive at Right row) ∷ later) of has = expired-later (Arrive at Right row) (admitted later) of.0 (expired Left later of has)
expired Left (admission (Quiet at Left) ∷ later) of has = expired-later (Quiet at Left) (admitted later) of.0 (expired Left later of has)
expired Left (admission (Quiet at Right) ∷ later) of has = expired-later (Quiet at Right) (admitted later) of.0 (expired Left later of has)
expired Right (admission (Expire at Left x) ∷ later) of has = expired-later (Expire at Left x) (admitted later) of.0 (expired Right later of has)
expired Right (admission (Arrive at Left row) ∷ later) of has = expired-later (Arrive at Left row) (admitted later) of.0 (expired Right later of has)
expired Right (admission (Arrive at Right row) ∷ later) of has = expired-later (Arrive at Right row) (admitted later) of.0 (expired Right later of has)
expired Right (admission (Quiet at Left) ∷ later) of has = expired-later (Quiet at Left) (admitted later) of.0 (expired Right later of has)
expired Right (admission (Quiet at Right) ∷ later) of has = expired-later (Quiet at Right) (admitted later) of.0 (expired Right later of has)

above_all : {P : Type 0} (side : Side) (log : List (DriverTurn P)) (event : Event P) → NumbersFrom 0 (admitted log) → NumbersFrom 0 (admitted log ++ event ∷ []) → All (λ (a : OutstandingArrival). a.no.0 < number event) (arrivals_of side log)
above_all side log event before numbers =
    All-weaker (λ (a : OutstandingArrival). (0 ≤ a.no.0) × (a.no.0 < length (admitted log))) (λ (a : OutstandingArrival). a.no.0 < number event) (λ a w. omega (arith, w.1, last_number 0 (admitted log) event numbers))
    (arrivals_of side log) (numbers_between side 0 (length (admitted log)) log before (omega arith))

-- the outstanding quiet events have numbers below the next one
quiet_is : {P : Type 0} (side : Side) (event : Event P) (log : List (DriverTurn P)) (rest : List EventNo) (at : EventNo) → Contains (cons_option (quiet_after side event log) rest) at → (number event ≡ at.0) ⊎ Contains rest at
quiet_is Left (Quiet num Left) log rest at has = elim (expiry_cases (took Right (is_QuietL num.0) log) num at rest has) [ inl same ↦ inl (ap (λ (x : EventNo). x.0) same) | inr old ↦ inr old ]
quiet_is Right (Quiet num Right) log rest at has = elim (expiry_cases (took Left (is_QuietR num.0) log) num at rest has) [ inl same ↦ inl (ap (λ (x : EventNo). x.0) same) | inr old ↦ inr old ]
quiet_is Left (Quiet num Right) log rest at has = inr has
quiet_is Left (Arrive num Left row) log rest at has = inr has
quiet_is Left (Arrive num Right row) log rest at has = inr has
quiet_is Left (Expire num Left of) log rest at has = inr has
quiet_is Left (Expire num Right of) log rest at has = inr has
quiet_is Right (Quiet num Left) log rest at has = inr has
quiet_is Right (Arrive num Left row) log rest at has = inr has
quiet_is Right (Arrive num Right row) log rest at has = inr has
quiet_is Right (Expire num Left of) log rest at has = inr has
quiet_is Right (Expire num Right of) log rest at has = inr has

quiet_below : {P : Type 0} (side : Side) (low : ℕ) (log : List (DriverTurn P)) (at : EventNo) → NumbersFrom low (admitted log) → Contains (quiets_of side log) at → at.0 < low + length (admitted log)
quiet_below side low [] at numbers has = absurd (omega (arith, has.1))
quiet_below side low (receipt port message ∷ later) at numbers has = quiet_below side low later at numbers has
quiet_below side low (closing ∷ later) at numbers has = quiet_below side low later at numbers has
quiet_below side low (admission event ∷ later) at numbers has = elim (quiet_is side event later (quiets_of side later) at has) [
  | inl same ↦ omega (arith, same, numbers.0)
  | inr old ↦ omega (arith, quiet_below side (low + 1) later at numbers.1 old)
]

new_quiet : {P : Type 0} (side : Side) (event : Event P) (at : EventNo) (log : List (DriverTurn P)) → number event ≡ at.0 → IsWellFormed (admitted log) → IsWellFormed (admitted log ++ event ∷ []) → Contains (quiets_of side log) at → ⊥
new_quiet side event at log is before well has = omega (arith, quiet_below side 0 log at before.numbered has, last_number 0 (admitted log) event well.numbered, is)

pub is_new : {P : Type 0} (event : Event P) (d : DriverState) (log : List (DriverTurn P)) → StandsFor d log → IsWellFormed (admitted log ++ event ∷ []) → IsNewEvent event d
is_new {P} (Arrive at Left row) d log stands well = subst (All (λ (a : OutstandingArrival). a.no.0 < at.0)) (sym stands.left_arrivals) (above_all Left log (Arrive at Left row) stands.well_formed.numbered well.numbered)
is_new {P} (Arrive at Right row) d log stands well = subst (All (λ (a : OutstandingArrival). a.no.0 < at.0)) (sym stands.right_arrivals) (above_all Right log (Arrive at Right row) stands.well_formed.numbered well.numbered)
is_new {P} (Expire at Left of) d log stands well = λ has.
    let event : Event P = Expire at Left of in
    let old = expired Left log of (subst (λ (l : List EventNo). Contains l of) stands.left_expiries has) in
    (live_row log event well).1 old.0 old.1
is_new {P} (Expire at Right of) d log stands well = λ has.
    let event : Event P = Expire at Right of in
    let old = expired Right log of (subst (λ (l : List EventNo). Contains l of) stands.right_expiries has) in
    (live_row log event well).1 old.0 old.1
is_new {P} (Quiet at Left) d log stands well = λ has. new_quiet Left (Quiet at Left) at log refl stands.well_formed well (subst (λ (l : List EventNo). Contains l at) stands.left_quiets has)
is_new {P} (Quiet at Right) d log stands well = λ has. new_quiet Right (Quiet at Right) at log refl stands.well_formed well (subst (λ (l : List EventNo). Contains l at) stands.right_quiets has)

-- what is answered where no cause is
pub sent_answer : {P : Type 0} (event : Event P) (cause : Option Why) (port : Side) (m : Msg P) → port ≡ port_of event → m ≡ message_of event → cause ≡ None → Send port m ≡ answer_to event cause
sent_answer event cause port m at is none = ap (λ (s : Side). Send s m) at ∙ ap (Send (port_of event)) is ∙ sym (ap (answer_to event) none)
