-- What is put in at the ports is outstanding, or came out: how many messages of each kind.
use Rattle.std.proofs.Common.{◌≡◌, ℕ, ◌+◌, ◌<◌, ◌≤◌, inl, inr, ◌==◌, not, Bool, true, false, cond, List, [], ◌∷◌, ◌++◌, length, Some, None, Option, Contains, refl, ap, sym, ◌∙◌, subst, arith, length-append}
use Rattle.std.specs.List.{All, filter, filter_map, cons_option}
use Rattle.std.specs.Option.{option_to_list}
use Rattle.std.proofs.lemmas.Bool.Decides.{eqb_tells}
use Rattle.std.proofs.lemmas.List.Elements.{All-weaker}
use Rattle.hj_base.specs.declared.numbers.EventNo.{EventNo}
use Rattle.hj_base.specs.declared.numbers.Side.{Side}
use Rattle.hj_base.specs.declared.numbers.Side.TheVariants.{Left, Right}
use Rattle.hj_base.specs.Journals.{puts, takes}
use Rattle.hj_msg.specs.declared.event.Event.{Event}
use Rattle.hj_msg.specs.declared.event.Event.TheVariants.{Arrive, Expire, Quiet}
use Rattle.hj_msg.specs.declared.message.Msg.{Msg}
use Rattle.hj_msg.specs.declared.message.Msg.TheVariants.{R, EndS, ExpS, QuietL, S, EndR, ExpR, QuietR}
use Rattle.hj_msg.specs.Turns.{only_at}
use Rattle.hj_msg.specs.Driver.{DriverTurn, admission, receipt, closing}
use Rattle.hj_msg.specs.Run.{LogEntry, port_journal}
use Rattle.hj_msg.proofs.Members.{Contains-head, Contains-cons}
use Rattle.hj_driver.specs.declared.lane.Departure.{Departure}
use Rattle.hj_driver.specs.declared.lane.Departure.TheVariants.{Row, End}
use Rattle.hj_driver.specs.declared.lane.OutstandingArrival.{OutstandingArrival}
use Rattle.hj_driver.specs.Lane.{after_departure, is_other, is_taken, with_departure, IsRising, AreDistinct}
use Rattle.hj_driver.specs.Driver.{DriverState, after_put, after_take, after_message, arrival_of, stays, quiet_stays, closed, is_sent, IsNewEvent, new_driver}
use Rattle.hj_driver.proofs.Arrivals.{filter_map-same, none_changes, rising_after, rising_push, distinct_after, distinct_push}
use Rattle.hj_chain.proofs.Journals.{puts-append, takes-append, entries, puts-entries, takes-entries, took_at, sent_at, port_journal-push}
use Rattle.hj_chain.proofs.Counts.{count, count-append}
use Rattle.hj_chain.proofs.MessageKinds.{a_R, an_S, an_EndR, an_EndS, an_ExpR, an_ExpS, a_QuietL, a_QuietR, a_CloseL, a_CloseR}
use Rattle.hj_chain.proofs.Driving.{sent-take}

-- one of the two messages of an arrival is still to be taken
abbrev pub is_waiting : Departure → OutstandingArrival → Bool
is_waiting departure arrival = not (is_taken departure arrival.taken)

abbrev pub waiting : Departure → List OutstandingArrival → ℕ
waiting departure arrivals = count (is_waiting departure) arrivals

pub count-cons_option : {X : Type 0} (p : X → Bool) (o : Option X) (xs : List X) → count p (cons_option o xs) ≡ count p (option_to_list o) + count p xs
count-cons_option p None xs = omega arith
count-cons_option p (Some x) xs = omega arith

absent : (number : ℕ) (a : OutstandingArrival) (later : List OutstandingArrival) → number ≡ a.no.0 → All (λ (other : OutstandingArrival). a.no.0 < other.no.0) later → All (λ (other : OutstandingArrival). other.no.0 ≡ number → ⊥) later
absent number a later is above = All-weaker (λ (other : OutstandingArrival). a.no.0 < other.no.0) (λ (other : OutstandingArrival). other.no.0 ≡ number → ⊥) (λ other less same. omega (arith, less, same, is)) later above

-- the take of a message leaves at most one arrival the less that waits for such a one
waiting-take : (number : ℕ) (departure : Departure) (arrivals : List OutstandingArrival) → IsRising arrivals → waiting departure arrivals ≤ waiting departure (filter_map (after_departure number departure) arrivals) + 1
waiting-take number departure [] rising = omega arith
waiting-take number departure (a ∷ later) rising = elim (eqb_tells number a.no.0) [
  | inl w ↦
      let rest : later ≡ filter_map (after_departure number departure) later = none_changes later number departure (absent number a later w.1 rising.0) in
      omega (
        arith,
        one (is_waiting departure a),
        ap (waiting departure) rest,
        count-cons_option (is_waiting departure) (after_departure number departure a) (filter_map (after_departure number departure) later),
      )
  | inr w ↦
      omega (
        arith,
        waiting-take number departure later rising.1,
        count-cons_option (is_waiting departure) (after_departure number departure a) (filter_map (after_departure number departure) later),
        ap (λ b. count (is_waiting departure) (option_to_list (cond b (with_departure departure a a.taken) (Some a)))) w.0,
      )
]
  where
    one : (b : Bool) → cond {A = ℕ} b 1 0 ≤ 1
    one true = omega arith
    one false = omega arith

-- and none that waits for the other one
still_waits-End : (b : Bool) (at : EventNo) (t : Option Departure) → cond {A = ℕ} (not (is_taken End t)) 1 0 ≤ count (is_waiting End) (option_to_list (cond b (with_departure Row (record { no = at; taken = t }) t) (Some (record { no = at; taken = t }))))
still_waits-End true at None = omega arith
still_waits-End true at (Some Row) = omega arith
still_waits-End true at (Some End) = omega arith
still_waits-End false at None = omega arith
still_waits-End false at (Some Row) = omega arith
still_waits-End false at (Some End) = omega arith

still_waits-Row : (b : Bool) (at : EventNo) (t : Option Departure) → cond {A = ℕ} (not (is_taken Row t)) 1 0 ≤ count (is_waiting Row) (option_to_list (cond b (with_departure End (record { no = at; taken = t }) t) (Some (record { no = at; taken = t }))))
still_waits-Row true at None = omega arith
still_waits-Row true at (Some Row) = omega arith
still_waits-Row true at (Some End) = omega arith
still_waits-Row false at None = omega arith
still_waits-Row false at (Some Row) = omega arith
still_waits-Row false at (Some End) = omega arith

waiting-End : (number : ℕ) (arrivals : List OutstandingArrival)
    → waiting End arrivals ≤ waiting End (filter_map (after_departure number Row) arrivals)
waiting-End number [] = omega arith
waiting-End number (a ∷ later) =
    omega (arith, still_waits-End (number == a.no.0) a.no a.taken, waiting-End number later, count-cons_option (is_waiting End) (after_departure number Row a) (filter_map (after_departure number Row) later))

waiting-Row : (number : ℕ) (arrivals : List OutstandingArrival)
    → waiting Row arrivals ≤ waiting Row (filter_map (after_departure number End) arrivals)
waiting-Row number [] = omega arith
waiting-Row number (a ∷ later) =
    omega (arith, still_waits-Row (number == a.no.0) a.no a.taken, waiting-Row number later, count-cons_option (is_waiting Row) (after_departure number End a) (filter_map (after_departure number End) later))

pub all_stay : (arrivals : List OutstandingArrival) → arrivals ≡ filter_map (λ (a : OutstandingArrival). Some a) arrivals
all_stay arrivals = sym (filter_map-same (λ (a : OutstandingArrival). Some a) arrivals (λ k d low. refl))

same_waiting : (departure : Departure) (arrivals : List OutstandingArrival) (more : ℕ) → waiting departure arrivals ≤ waiting departure (filter_map (λ (a : OutstandingArrival). Some a) arrivals) + more
same_waiting departure arrivals more = omega (arith, ap (waiting departure) (all_stay arrivals))

-- Of the arrivals of a side, by the message that is taken at a port.
module _ {P : Type 0} (arrivals : List OutstandingArrival) (rising : IsRising arrivals) where
  left_rows : (port : Side) (m : Msg P) → waiting Row arrivals ≤ waiting Row (filter_map (after_message Left port m) arrivals) + count a_R (only_at port Right m)
  left_rows Right (R at row) = omega (arith, waiting-take at.0 Row arrivals rising)
  left_rows Left (EndR at) = omega (arith, waiting-Row at.0 arrivals)
  left_rows port m = same_waiting Row arrivals 0

  left_ends : (port : Side) (m : Msg P) → waiting End arrivals ≤ waiting End (filter_map (after_message Left port m) arrivals) + count an_EndR (only_at port Left m)
  left_ends Right (R at row) = omega (arith, waiting-End at.0 arrivals)
  left_ends Left (EndR at) = omega (arith, waiting-take at.0 End arrivals rising)
  left_ends port m = same_waiting End arrivals 0

  left_rising : (port : Side) (m : Msg P) → IsRising (filter_map (after_message Left port m) arrivals)
  left_rising Right (R at row) = rising_after at.0 Row arrivals rising
  left_rising Left (EndR at) = rising_after at.0 End arrivals rising
  left_rising port m = subst IsRising (all_stay arrivals) rising

  right_rows : (port : Side) (m : Msg P) → waiting Row arrivals ≤ waiting Row (filter_map (after_message Right port m) arrivals) + count an_S (only_at port Left m)
  right_rows Left (S at row) = omega (arith, waiting-take at.0 Row arrivals rising)
  right_rows Right (EndS at) = omega (arith, waiting-Row at.0 arrivals)
  right_rows port m = same_waiting Row arrivals 0

  right_ends : (port : Side) (m : Msg P) → waiting End arrivals ≤ waiting End (filter_map (after_message Right port m) arrivals) + count an_EndS (only_at port Right m)
  right_ends Left (S at row) = omega (arith, waiting-End at.0 arrivals)
  right_ends Right (EndS at) = omega (arith, waiting-take at.0 End arrivals rising)
  right_ends port m = same_waiting End arrivals 0

  right_rising : (port : Side) (m : Msg P) → IsRising (filter_map (after_message Right port m) arrivals)
  right_rising Left (S at row) = rising_after at.0 Row arrivals rising
  right_rising Right (EndS at) = rising_after at.0 End arrivals rising
  right_rising port m = subst IsRising (all_stay arrivals) rising

-- the take of an expiry's message leaves at most one expiry the less
none_leaves : (number : ℕ) (of : EventNo) (later : List EventNo) → number ≡ of.0 → (Contains later of → ⊥) → length later ≤ length (filter (is_other number) later)
none_leaves number of [] is absent = omega arith
none_leaves number of (x ∷ later) is absent = elim (eqb_tells number x.0) [
  | inl w ↦
      let same : x ≡ of = ap (λ m. record { 0 = m }) (sym w.1 ∙ is) in
      absurd (absent (subst (λ (y : EventNo). Contains (x ∷ later) y) same (Contains-head x later)))
  | inr w ↦
      omega (arith, none_leaves number of later is (λ has. absent (Contains-cons x of later has)), ap (λ b. length (cond (not b) (x ∷ filter (is_other number) later) (filter (is_other number) later))) w.0)
]

one_leaves : (number : ℕ) (expiries : List EventNo) → AreDistinct expiries → length expiries ≤ length (filter (is_other number) expiries) + 1
one_leaves number [] distinct = omega arith
one_leaves number (x ∷ later) distinct = elim (eqb_tells number x.0) [
  | inl w ↦ omega (arith, none_leaves number x later w.1 distinct.0, ap (λ b. length (cond (not b) (x ∷ filter (is_other number) later) (filter (is_other number) later))) w.0)
  | inr w ↦ omega (arith, one_leaves number later distinct.1, ap (λ b. length (cond (not b) (x ∷ filter (is_other number) later) (filter (is_other number) later))) w.0)
]

pub none_go : (expiries : List EventNo) → expiries ≡ filter (λ (x : EventNo). true) expiries
none_go [] = refl
none_go (x ∷ later) = ap (λ xs. x ∷ xs) (none_go later)

module _ {P : Type 0} (expiries : List EventNo) (distinct : AreDistinct expiries) where
  left_expiries : (port : Side) (m : Msg P) → length expiries ≤ length (filter (stays Left port m) expiries) + count an_ExpR (only_at port Left m)
  left_expiries Left (ExpR of) = omega (arith, one_leaves of.0 expiries distinct)
  left_expiries port m = omega (arith, ap length (none_go expiries))

  left_distinct : (port : Side) (m : Msg P) → AreDistinct (filter (stays Left port m) expiries)
  left_distinct Left (ExpR of) = distinct_after expiries of.0 distinct
  left_distinct port m = subst AreDistinct (none_go expiries) distinct

  right_expiries : (port : Side) (m : Msg P) → length expiries ≤ length (filter (stays Right port m) expiries) + count an_ExpS (only_at port Right m)
  right_expiries Right (ExpS of) = omega (arith, one_leaves of.0 expiries distinct)
  right_expiries port m = omega (arith, ap length (none_go expiries))

  right_distinct : (port : Side) (m : Msg P) → AreDistinct (filter (stays Right port m) expiries)
  right_distinct Right (ExpS of) = distinct_after expiries of.0 distinct
  right_distinct port m = subst AreDistinct (none_go expiries) distinct

module _ {P : Type 0} (quiets : List EventNo) (distinct : AreDistinct quiets) where
  left_quiets : (port : Side) (m : Msg P) → length quiets ≤ length (filter (quiet_stays Left port m) quiets) + count a_QuietL (only_at port Right m)
  left_quiets Right (QuietL at) = omega (arith, one_leaves at.0 quiets distinct)
  left_quiets port m = omega (arith, ap length (none_go quiets))

  left_quiets-distinct : (port : Side) (m : Msg P) → AreDistinct (filter (quiet_stays Left port m) quiets)
  left_quiets-distinct Right (QuietL at) = distinct_after quiets at.0 distinct
  left_quiets-distinct port m = subst AreDistinct (none_go quiets) distinct

  right_quiets : (port : Side) (m : Msg P) → length quiets ≤ length (filter (quiet_stays Right port m) quiets) + count a_QuietR (only_at port Left m)
  right_quiets Left (QuietR at) = omega (arith, one_leaves at.0 quiets distinct)
  right_quiets port m = omega (arith, ap length (none_go quiets))

  right_quiets-distinct : (port : Side) (m : Msg P) → AreDistinct (filter (quiet_stays Right port m) quiets)
  right_quiets-distinct Left (QuietR at) = distinct_after quiets at.0 distinct
  right_quiets-distinct port m = subst AreDistinct (none_go quiets) distinct

-- how many messages of a kind were put in at a port, and were taken there
abbrev pub put_in : {P : Type 0} → Side → (Msg P → Bool) → List (LogEntry P) → ℕ
put_in port p log = count p (puts (port_journal port log))

abbrev pub came_out : {P : Type 0} → Side → (Msg P → Bool) → List (LogEntry P) → ℕ
came_out port p log = count p (takes (port_journal port log))

-- What was put in of a side and didn't come out is outstanding; and there is one close at most. Its rows go in at its own port, and
-- so do its quiet events and its close; its expiries go in `there`, at the other one.
pub record BalancedSide {P : Type 0} (a_row an_end an_expiry a_quiet a_close : Msg P → Bool) (here there : Side) (arrivals : List OutstandingArrival) (expiring quieted : List EventNo) (sent : Bool) (log : List (LogEntry P)) : Type 0 where
  pub rows : put_in here a_row log ≤ waiting Row arrivals + came_out there a_row log
  pub ends : put_in here a_row log ≤ waiting End arrivals + came_out here an_end log
  pub expiries : put_in there an_expiry log ≤ length expiring + came_out here an_expiry log
  pub quiets : put_in here a_quiet log ≤ length quieted + came_out there a_quiet log
  pub close : put_in here a_close log ≤ cond sent 1 0
  pub rising : IsRising arrivals
  pub distinct : AreDistinct expiring
  pub distinct_quiets : AreDistinct quieted

pub record Balanced {P : Type 0} (driver : DriverState) (log : List (LogEntry P)) : Type 0 where
  pub left : BalancedSide a_R an_EndR an_ExpR a_QuietL a_CloseL Left Right driver.left_arrivals driver.left_expiries driver.left_quiets (is_sent driver.closes) log
  pub right : BalancedSide an_S an_EndS an_ExpS a_QuietR a_CloseR Right Left driver.right_arrivals driver.right_expiries driver.right_quiets (is_sent driver.closes) log

module _ {P : Type 0} (log : List (LogEntry P)) (number : ℕ) (turn : DriverTurn P) where
  abbrev more : List (LogEntry P)
  more = log ++ record { number = number; turn = turn } ∷ []

  put_in-more : (port : Side) (p : Msg P → Bool) → put_in port p more ≡ put_in port p log + count p (sent_at port turn)
  put_in-more port p =
      ap (λ j. count p (puts j)) (port_journal-push port log number turn)
      ∙ ap (count p) (puts-append (port_journal port log) (entries number (took_at port turn) (sent_at port turn)) ∙ ap (λ ms. puts (port_journal port log) ++ ms) (puts-entries number (took_at port turn) (sent_at port turn)))
      ∙ count-append p (puts (port_journal port log)) (sent_at port turn)

  came_out-more : (port : Side) (p : Msg P → Bool) → came_out port p more ≡ came_out port p log + count p (took_at port turn)
  came_out-more port p =
      ap (λ j. count p (takes j)) (port_journal-push port log number turn)
      ∙ ap (count p) (takes-append (port_journal port log) (entries number (took_at port turn) (sent_at port turn)) ∙ ap (λ ms. takes (port_journal port log) ++ ms) (takes-entries number (took_at port turn) (sent_at port turn)))
      ∙ count-append p (takes (port_journal port log)) (took_at port turn)

  -- what is outstanding grows as much at least as what is put in, but for what comes out
  module _ {a_row an_end an_expiry a_quiet a_close : Msg P → Bool} {here there : Side} {arrivals : List OutstandingArrival} {expiring quieted : List EventNo} {sent : Bool} (old : BalancedSide a_row an_end an_expiry a_quiet a_close here there arrivals expiring quieted sent log) where
    moved : {arrivals' : List OutstandingArrival} {expiring' quieted' : List EventNo} {sent' : Bool}
        → waiting Row arrivals + count a_row (sent_at here turn) ≤ waiting Row arrivals' + count a_row (took_at there turn)
        → waiting End arrivals + count a_row (sent_at here turn) ≤ waiting End arrivals' + count an_end (took_at here turn)
        → length expiring + count an_expiry (sent_at there turn) ≤ length expiring' + count an_expiry (took_at here turn)
        → length quieted + count a_quiet (sent_at here turn) ≤ length quieted' + count a_quiet (took_at there turn)
        → cond {A = ℕ} sent 1 0 + count a_close (sent_at here turn) ≤ cond {A = ℕ} sent' 1 0
        → IsRising arrivals' → AreDistinct expiring' → AreDistinct quieted' → BalancedSide a_row an_end an_expiry a_quiet a_close here there arrivals' expiring' quieted' sent' more
    moved rows ends expiries quiets close rising distinct distinct_quiets = record {
      rows = omega (arith, old.rows, put_in-more here a_row, came_out-more there a_row, rows);
      ends = omega (arith, old.ends, put_in-more here a_row, came_out-more here an_end, ends);
      expiries = omega (arith, old.expiries, put_in-more there an_expiry, came_out-more here an_expiry, expiries);
      quiets = omega (arith, old.quiets, put_in-more here a_quiet, came_out-more there a_quiet, quiets);
      close = omega (arith, old.close, put_in-more here a_close, close);
      rising = rising;
      distinct = distinct;
      distinct_quiets = distinct_quiets;
    }

    -- where nothing of the side is put in, all of it stays
    stays-balanced : count a_row (sent_at here turn) ≡ 0 → count an_expiry (sent_at there turn) ≡ 0 → count a_quiet (sent_at here turn) ≡ 0 → count a_close (sent_at here turn) ≡ 0
        → BalancedSide a_row an_end an_expiry a_quiet a_close here there arrivals expiring quieted sent more
    stays-balanced rows expiries quiets close =
        moved (omega (arith, rows)) (omega (arith, rows)) (omega (arith, expiries)) (omega (arith, quiets)) (omega (arith, close)) old.rising old.distinct old.distinct_quiets

waiting-put : (departure : Departure) (arrivals : List OutstandingArrival) (at : EventNo) → waiting departure (arrivals ++ arrival_of at ∷ []) ≡ waiting departure arrivals + 1
waiting-put departure arrivals at = count-append (is_waiting departure) arrivals (arrival_of at ∷ [])

module _ {P : Type 0} (driver : DriverState) (log : List (LogEntry P)) (number : ℕ) (old : Balanced {P = P} driver log) where
  pub balanced-receipt : (port : Side) (m : Msg P) → Balanced (after_take port m driver) (log ++ record { number = number; turn = receipt port m } ∷ [])
  balanced-receipt port m =
      let sent : cond {A = ℕ} (is_sent (after_take port m driver).closes) 1 0 ≡ cond {A = ℕ} (is_sent driver.closes) 1 0 = ap (λ b. cond {A = ℕ} b 1 0) (sent-take port m driver.closes) in
      record {
        left = moved log number (receipt port m) old.left (omega (arith, left_rows driver.left_arrivals old.left.rising port m)) (omega (arith, left_ends driver.left_arrivals old.left.rising port m)) (omega (arith, left_expiries driver.left_expiries old.left.distinct port m)) (omega (arith, left_quiets driver.left_quiets old.left.distinct_quiets port m)) (omega (arith, sent)) (left_rising driver.left_arrivals old.left.rising port m) (left_distinct driver.left_expiries old.left.distinct port m) (left_quiets-distinct driver.left_quiets old.left.distinct_quiets port m);
        right = moved log number (receipt port m) old.right (omega (arith, right_rows driver.right_arrivals old.right.rising port m)) (omega (arith, right_ends driver.right_arrivals old.right.rising port m)) (omega (arith, right_expiries driver.right_expiries old.right.distinct port m)) (omega (arith, right_quiets driver.right_quiets old.right.distinct_quiets port m)) (omega (arith, sent)) (right_rising driver.right_arrivals old.right.rising port m) (right_distinct driver.right_expiries old.right.distinct port m) (right_quiets-distinct driver.right_quiets old.right.distinct_quiets port m);
      }

  pub balanced-closing : is_sent driver.closes ≡ false → Balanced (closed driver) (log ++ record { number = number; turn = closing } ∷ [])
  balanced-closing unsent =
      let sent : cond {A = ℕ} (is_sent driver.closes) 1 0 ≡ 0 = ap (λ b. cond {A = ℕ} b 1 0) unsent in
      record {
        left = moved log number closing old.left (omega arith) (omega arith) (omega arith) (omega arith) (omega (arith, sent)) old.left.rising old.left.distinct old.left.distinct_quiets;
        right = moved log number closing old.right (omega arith) (omega arith) (omega arith) (omega arith) (omega (arith, sent)) old.right.rising old.right.distinct old.right.distinct_quiets;
      }

  pub balanced-admission : (event : Event P) → IsNewEvent event driver → Balanced (after_put event driver) (log ++ record { number = number; turn = admission event } ∷ [])
  balanced-admission (Arrive at Left row) new = record {
    left = moved log number (admission (Arrive at Left row)) old.left (omega (arith, waiting-put Row driver.left_arrivals at)) (omega (arith, waiting-put End driver.left_arrivals at)) (omega arith) (omega arith) (omega arith) (rising_push driver.left_arrivals (arrival_of at) old.left.rising new) old.left.distinct old.left.distinct_quiets;
    right = stays-balanced log number (admission (Arrive at Left row)) old.right refl refl refl refl;
  }
  balanced-admission (Arrive at Right row) new = record {
    left = stays-balanced log number (admission (Arrive at Right row)) old.left refl refl refl refl;
    right = moved log number (admission (Arrive at Right row)) old.right (omega (arith, waiting-put Row driver.right_arrivals at)) (omega (arith, waiting-put End driver.right_arrivals at)) (omega arith) (omega arith) (omega arith) (rising_push driver.right_arrivals (arrival_of at) old.right.rising new) old.right.distinct old.right.distinct_quiets;
  }
  balanced-admission (Expire at Left of) new = record {
    left = moved log number (admission (Expire at Left of)) old.left (omega arith) (omega arith) (omega (arith, length-append driver.left_expiries (of ∷ []))) (omega arith) (omega arith) old.left.rising (distinct_push driver.left_expiries of old.left.distinct new) old.left.distinct_quiets;
    right = stays-balanced log number (admission (Expire at Left of)) old.right refl refl refl refl;
  }
  balanced-admission (Expire at Right of) new = record {
    left = stays-balanced log number (admission (Expire at Right of)) old.left refl refl refl refl;
    right = moved log number (admission (Expire at Right of)) old.right (omega arith) (omega arith) (omega (arith, length-append driver.right_expiries (of ∷ []))) (omega arith) (omega arith) old.right.rising (distinct_push driver.right_expiries of old.right.distinct new) old.right.distinct_quiets;
  }
  balanced-admission (Quiet at Left) new = record {
    left = moved log number (admission (Quiet at Left)) old.left (omega arith) (omega arith) (omega arith) (omega (arith, length-append driver.left_quiets (at ∷ []))) (omega arith) old.left.rising old.left.distinct (distinct_push driver.left_quiets at old.left.distinct_quiets new);
    right = stays-balanced log number (admission (Quiet at Left)) old.right refl refl refl refl;
  }
  balanced-admission (Quiet at Right) new = record {
    left = stays-balanced log number (admission (Quiet at Right)) old.left refl refl refl refl;
    right = moved log number (admission (Quiet at Right)) old.right (omega arith) (omega arith) (omega arith) (omega (arith, length-append driver.right_quiets (at ∷ []))) (omega arith) old.right.rising old.right.distinct (distinct_push driver.right_quiets at old.right.distinct_quiets new);
  }

side-begin : {P : Type 0} (a_row an_end an_expiry a_quiet a_close : Msg P → Bool) (here there : Side) → BalancedSide a_row an_end an_expiry a_quiet a_close here there [] [] [] false []
side-begin a_row an_end an_expiry a_quiet a_close here there = record {
  rows = omega arith;
  ends = omega arith;
  expiries = omega arith;
  quiets = omega arith;
  close = omega arith;
  rising = tt;
  distinct = tt;
  distinct_quiets = tt;
}

pub balanced-begin : (P : Type 0) (flight : ℕ) → Balanced {P = P} (new_driver flight) []
balanced-begin P flight = record { left = side-begin a_R an_EndR an_ExpR a_QuietL a_CloseL Left Right; right = side-begin an_S an_EndS an_ExpS a_QuietR a_CloseR Right Left }
