-- A driver stands for a log with one more turn.
use Rattle.std.proofs.Common.{◌≡◌, ℕ, ◌<◌, true, false, List, [], ◌∷◌, ◌++◌, length, Contains, refl, ap, sym, ◌∙◌, subst, inl, inr, arith, append-nil, length-append}
use Rattle.std.specs.List.{cons_option, filter_map, filter, list_any}
use Rattle.std.proofs.lemmas.Bool.{false≢true}
use Rattle.std.proofs.lemmas.List.Folds.{list_any_at}
use Rattle.hj_base.specs.declared.numbers.EventNo.{EventNo}
use Rattle.hj_base.specs.declared.numbers.Side.{Side}
use Rattle.hj_base.specs.declared.numbers.Side.TheVariants.{Left, Right}
pub use Rattle.hj_msg.proofs.Feeding.{split-push}
use Rattle.hj_msg.specs.declared.event.Event.{Event}
use Rattle.hj_msg.specs.declared.event.Event.TheVariants.{Arrive, Expire, Quiet}
use Rattle.hj_msg.specs.declared.message.Msg.{Msg}
use Rattle.hj_msg.specs.Event.{IsWellFormed}
use Rattle.hj_msg.specs.Driver.{DriverTurn, admission, receipt, closing, admitted, outstanding, HasComeOut, IsLawful}
use Rattle.hj_driver.specs.declared.lane.OutstandingArrival.{OutstandingArrival}
use Rattle.hj_driver.specs.Driver.{DriverState, after_take, after_put, after_message, stays, quiet_stays, after_close, closed, new_driver, is_sent, count_of}
use Rattle.hj_driver.specs.StandsFor.{StandsFor, arrival_after, expiry_after, is_closing, quiet_after}
use Rattle.hj_driver.proofs.Logs.{admitted-push, arrivals_of-receipt, expiries_of-receipt, quiets_of-receipt, closes_of-receipt, arrivals_of-admission, expiries_of-admission, quiets_of-admission, closes_of-admission, arrivals_of-closing, expiries_of-closing, quiets_of-closing, closes_of-closing, length-outstanding, is_sent-closes_of}

has_closing : {P : Type 0} (earlier later : List (DriverTurn P)) → list_any is_closing (earlier ++ closing ∷ later) ≡ true
has_closing [] later = refl
has_closing (admission event ∷ earlier) later = has_closing earlier later
has_closing (receipt port message ∷ earlier) later = has_closing earlier later
has_closing (closing ∷ earlier) later = refl

contains_closing : {P : Type 0} (log : List (DriverTurn P)) → list_any is_closing log ≡ false → Contains log closing → ⊥
contains_closing log unclosed has = false≢true (sym unclosed ∙ list_any_at is_closing log has.0 closing has.1 (ap is_closing has.2))

prefix_of_itself : {P : Type 0} (events : List (Event P)) → events ≡ events ++ []
prefix_of_itself events = sym (append-nil events)

module _ {P : Type 0} (flight : ℕ) (log : List (DriverTurn P)) (lawful : IsLawful flight (admitted log) log) where
  pub lawful-receipt : (port : Side) (m : Msg P) → IsLawful flight (admitted (log ++ receipt port m ∷ [])) (log ++ receipt port m ∷ [])
  lawful-receipt port m =
      let same : admitted (log ++ receipt port m ∷ []) ≡ admitted log = admitted-push log (receipt port m) ∙ append-nil (admitted log) in
      record {
        in_order = record { rest = []; is = prefix_of_itself _ };
        in_flight = λ earlier later event is. elim (split-push log (receipt port m) earlier (admission event) later is) [ inl w ↦ lawful.in_flight earlier w.0 event w.1 | inr w ↦ absurd (let e = w.1 in cc) ];
        come_out = λ earlier later event is. elim (split-push log (receipt port m) earlier (admission event) later is) [ inl w ↦ lawful.come_out earlier w.0 event w.1 | inr w ↦ absurd (let e = w.1 in cc) ];
        closes = λ earlier later is. elim (split-push log (receipt port m) earlier closing later is) [
          | inl w ↦ let last = lawful.closes earlier w.0 w.1 in record { all = last.all ∙ sym same; none_outstanding = last.none_outstanding; once = last.once }
          | inr w ↦ absurd (let e = w.1 in cc)
        ];
      }

  pub lawful-admission : (put : Event P) → list_any is_closing log ≡ false → length (outstanding log) < flight → HasComeOut put log → IsLawful flight (admitted (log ++ admission put ∷ [])) (log ++ admission put ∷ [])
  lawful-admission put unclosed room out = record {
    in_order = record { rest = []; is = prefix_of_itself _ };
    in_flight = λ earlier later event is. elim (split-push log (admission put) earlier (admission event) later is) [ inl w ↦ lawful.in_flight earlier w.0 event w.1 | inr w ↦ subst (λ (l : List (DriverTurn P)). length (outstanding l) < flight) w.0 room ];
    come_out = λ earlier later event is. elim (split-push log (admission put) earlier (admission event) later is) [
      | inl w ↦ lawful.come_out earlier w.0 event w.1
      | inr w ↦ let same : put ≡ event = (let e = w.1 in cc) in subst (λ (l : List (DriverTurn P)). HasComeOut event l) w.0 (subst (λ (x : Event P). HasComeOut x log) same out)
    ];
    closes = λ earlier later is. elim (split-push log (admission put) earlier closing later is) [
      | inl w ↦ absurd (false≢true (sym unclosed ∙ ap (list_any is_closing) w.1 ∙ has_closing earlier w.0))
      | inr w ↦ absurd (let e = w.1 in cc)
    ];
  }

  pub lawful-closing : list_any is_closing log ≡ false → outstanding log ≡ [] → IsLawful flight (admitted (log ++ closing ∷ [])) (log ++ closing ∷ [])
  lawful-closing unclosed none =
      let same : admitted (log ++ closing ∷ []) ≡ admitted log = admitted-push log closing ∙ append-nil (admitted log) in
      record {
        in_order = record { rest = []; is = prefix_of_itself _ };
        in_flight = λ earlier later event is. elim (split-push log closing earlier (admission event) later is) [ inl w ↦ lawful.in_flight earlier w.0 event w.1 | inr w ↦ absurd (let e = w.1 in cc) ];
        come_out = λ earlier later event is. elim (split-push log closing earlier (admission event) later is) [ inl w ↦ lawful.come_out earlier w.0 event w.1 | inr w ↦ absurd (let e = w.1 in cc) ];
        closes = λ earlier later is. elim (split-push log closing earlier closing later is) [
          | inl w ↦ absurd (false≢true (sym unclosed ∙ ap (list_any is_closing) w.1 ∙ has_closing earlier w.0))
          | inr w ↦ record {
            all = ap admitted (sym w.0) ∙ sym same;
            none_outstanding = ap outstanding (sym w.0) ∙ none;
            once = subst (λ (l : List (DriverTurn P)). Contains l closing → ⊥) w.0 (contains_closing log unclosed);
          }
        ];
      }

empty : {X : Type 0} (l : List X) → length l ≡ 0 → l ≡ []
empty [] is = refl
empty (x ∷ xs) is = absurd (omega arith)

pub stands-count : {P : Type 0} (driver : DriverState) (log : List (DriverTurn P)) → StandsFor driver log → length (outstanding log) ≡ count_of driver
stands-count driver log stands =
    omega (arith, length-outstanding log, ap length stands.left_arrivals, ap length stands.left_expiries, ap length stands.right_arrivals, ap length stands.right_expiries, ap length stands.left_quiets, ap length stands.right_quiets)

-- the steps of a driver that stands for a log
pub stands-receipt : {P : Type 0} (driver : DriverState) (log : List (DriverTurn P)) (port : Side) (m : Msg P) → StandsFor driver log → StandsFor (after_take port m driver) (log ++ receipt port m ∷ [])
stands-receipt driver log port m stands = record {
  well_formed = subst IsWellFormed (sym (admitted-push log (receipt port m) ∙ append-nil (admitted log))) stands.well_formed;
  lawful = lawful-receipt driver.flight log stands.lawful port m;
  left_arrivals = ap (filter_map (after_message Left port m)) stands.left_arrivals ∙ sym (arrivals_of-receipt Left log port m);
  left_expiries = ap (filter (stays Left port m)) stands.left_expiries ∙ sym (expiries_of-receipt Left log port m);
  right_arrivals = ap (filter_map (after_message Right port m)) stands.right_arrivals ∙ sym (arrivals_of-receipt Right log port m);
  right_expiries = ap (filter (stays Right port m)) stands.right_expiries ∙ sym (expiries_of-receipt Right log port m);
  left_quiets = ap (filter (quiet_stays Left port m)) stands.left_quiets ∙ sym (quiets_of-receipt Left log port m);
  right_quiets = ap (filter (quiet_stays Right port m)) stands.right_quiets ∙ sym (quiets_of-receipt Right log port m);
  closes = ap (after_close port m) stands.closes ∙ sym (closes_of-receipt log port m);
}

pub stands-closing : {P : Type 0} (driver : DriverState) (log : List (DriverTurn P)) → StandsFor driver log → is_sent driver.closes ≡ false → count_of driver ≡ 0 → StandsFor (closed driver) (log ++ closing ∷ [])
stands-closing driver log stands unsent none =
    let unclosed : list_any is_closing log ≡ false = sym (is_sent-closes_of log) ∙ ap is_sent (sym stands.closes) ∙ unsent in
    record {
      well_formed = subst IsWellFormed (sym (admitted-push log closing ∙ append-nil (admitted log))) stands.well_formed;
      lawful = lawful-closing driver.flight log stands.lawful unclosed (empty (outstanding log) (stands-count driver log stands ∙ none));
      left_arrivals = stands.left_arrivals ∙ sym (arrivals_of-closing Left log);
      left_expiries = stands.left_expiries ∙ sym (expiries_of-closing Left log);
      right_arrivals = stands.right_arrivals ∙ sym (arrivals_of-closing Right log);
      right_expiries = stands.right_expiries ∙ sym (expiries_of-closing Right log);
      left_quiets = stands.left_quiets ∙ sym (quiets_of-closing Left log);
      right_quiets = stands.right_quiets ∙ sym (quiets_of-closing Right log);
      closes = sym (closes_of-closing log unclosed);
    }

-- what a driver keeps of a side
abbrev arrivals_at : Side → DriverState → List OutstandingArrival
arrivals_at Left driver = driver.left_arrivals
arrivals_at Right driver = driver.right_arrivals

abbrev expiries_at : Side → DriverState → List EventNo
expiries_at Left driver = driver.left_expiries
expiries_at Right driver = driver.right_expiries

abbrev quiets_at : Side → DriverState → List EventNo
quiets_at Left driver = driver.left_quiets
quiets_at Right driver = driver.right_quiets

-- What is put joins its list; everything else of the driver stays.
module _ {P : Type 0} where
  arrivals-put : (side : Side) (put : Event P) (driver : DriverState)
      → arrivals_at side (after_put put driver) ≡ arrivals_at side driver ++ cons_option (arrival_after side put []) []
  arrivals-put Left (Arrive at Left row) driver = refl
  arrivals-put Right (Arrive at Right row) driver = refl
  arrivals-put side (Expire at Left of) driver = sym (append-nil (arrivals_at side driver))
  arrivals-put side (Quiet at Left) driver = sym (append-nil (arrivals_at side driver))
  arrivals-put side put driver = sym (append-nil (arrivals_at side driver))

  expiries-put : (side : Side) (put : Event P) (driver : DriverState)
      → expiries_at side (after_put put driver) ≡ expiries_at side driver ++ cons_option (expiry_after side put []) []
  expiries-put Left (Expire at Left of) driver = refl
  expiries-put Right (Expire at Right of) driver = refl
  expiries-put side (Arrive at Left row) driver = sym (append-nil (expiries_at side driver))
  expiries-put side (Quiet at Left) driver = sym (append-nil (expiries_at side driver))
  expiries-put side put driver = sym (append-nil (expiries_at side driver))

  quiets-put : (side : Side) (put : Event P) (driver : DriverState)
      → quiets_at side (after_put put driver) ≡ quiets_at side driver ++ cons_option (quiet_after side put []) []
  quiets-put Left (Quiet at Left) driver = refl
  quiets-put Right (Quiet at Right) driver = refl
  quiets-put side (Arrive at Left row) driver = sym (append-nil (quiets_at side driver))
  quiets-put side (Expire at Left of) driver = sym (append-nil (quiets_at side driver))
  quiets-put side put driver = sym (append-nil (quiets_at side driver))

  pub closes-put : (put : Event P) (driver : DriverState) → (after_put put driver).closes ≡ driver.closes
  closes-put (Arrive at Left row) driver = refl
  closes-put (Expire at Left of) driver = refl
  closes-put (Quiet at Left) driver = refl
  closes-put put driver = refl

  -- what is put doesn't change how many may be outstanding
  pub flight-put : (put : Event P) (driver : DriverState) → (after_put put driver).flight ≡ driver.flight
  flight-put (Arrive at Left row) driver = refl
  flight-put (Expire at Left of) driver = refl
  flight-put (Quiet at Left) driver = refl
  flight-put put driver = refl

stands-put : {P : Type 0} (driver : DriverState) (log : List (DriverTurn P)) (put : Event P) → StandsFor driver log → IsWellFormed (admitted (log ++ admission put ∷ [])) → IsLawful driver.flight (admitted (log ++ admission put ∷ [])) (log ++ admission put ∷ [])
    → StandsFor (after_put put driver) (log ++ admission put ∷ [])
stands-put driver log put stands well lawful = record {
  well_formed = well;
  lawful = subst (λ (flight : ℕ). IsLawful flight (admitted (log ++ admission put ∷ [])) (log ++ admission put ∷ [])) (sym (flight-put put driver)) lawful;
  left_arrivals = arrivals-put Left put driver ∙ ap (λ (l : List OutstandingArrival). l ++ cons_option (arrival_after Left put []) []) stands.left_arrivals ∙ sym (arrivals_of-admission Left log put);
  left_expiries = expiries-put Left put driver ∙ ap (λ (l : List EventNo). l ++ cons_option (expiry_after Left put []) []) stands.left_expiries ∙ sym (expiries_of-admission Left log put);
  right_arrivals = arrivals-put Right put driver ∙ ap (λ (l : List OutstandingArrival). l ++ cons_option (arrival_after Right put []) []) stands.right_arrivals ∙ sym (arrivals_of-admission Right log put);
  right_expiries = expiries-put Right put driver ∙ ap (λ (l : List EventNo). l ++ cons_option (expiry_after Right put []) []) stands.right_expiries ∙ sym (expiries_of-admission Right log put);
  left_quiets = quiets-put Left put driver ∙ ap (λ (l : List EventNo). l ++ cons_option (quiet_after Left put []) []) stands.left_quiets ∙ sym (quiets_of-admission Left log put);
  right_quiets = quiets-put Right put driver ∙ ap (λ (l : List EventNo). l ++ cons_option (quiet_after Right put []) []) stands.right_quiets ∙ sym (quiets_of-admission Right log put);
  closes = closes-put put driver ∙ stands.closes ∙ sym (closes_of-admission log put);
}

pub stands-admission : {P : Type 0} (driver : DriverState) (log : List (DriverTurn P)) (put : Event P) → StandsFor driver log → IsWellFormed (admitted log ++ put ∷ []) → is_sent driver.closes ≡ false → count_of driver < driver.flight → HasComeOut put log
    → StandsFor (after_put put driver) (log ++ admission put ∷ [])
stands-admission driver log put stands well unsent room out =
    let unclosed : list_any is_closing log ≡ false = sym (is_sent-closes_of log) ∙ ap is_sent (sym stands.closes) ∙ unsent in
    stands-put driver log put stands (subst IsWellFormed (sym (admitted-push log (admission put))) well) (lawful-admission driver.flight log stands.lawful put unclosed (omega (arith, stands-count driver log stands)) out)

-- a new driver stands for the empty log
pub stands-new : (P : Type 0) (flight : ℕ) → StandsFor {P = P} (new_driver flight) []
stands-new P flight = record {
  well_formed = record { numbered = tt; live = λ earlier later event is. absurd (omega (arith, ap length is, length-append earlier (event ∷ later))) };
  lawful = record {
    in_order = record { rest = []; is = refl };
    in_flight = λ earlier later event is. absurd (omega (arith, ap length is, length-append earlier (admission event ∷ later)));
    come_out = λ earlier later event is. absurd (omega (arith, ap length is, length-append earlier (admission event ∷ later)));
    closes = λ earlier later is. absurd (omega (arith, ap length is, length-append earlier (closing ∷ later)));
  };
  left_arrivals = refl;
  left_expiries = refl;
  right_arrivals = refl;
  right_expiries = refl;
  left_quiets = refl;
  right_quiets = refl;
  closes = refl;
}

-- a call's step is the log's
pub stands-take : {P : Type 0} (old new : DriverState) (log : List (DriverTurn P)) (port end : Side) (m : Msg P) → port ≡ end → new ≡ after_take end m old → StandsFor old log → StandsFor new (log ++ receipt port m ∷ [])
stands-take {P} old new log port end m at is stands =
    subst (λ (d : DriverState). StandsFor d (log ++ receipt port m ∷ [])) (ap (λ (s : Side). after_take s m old) at ∙ sym is) (stands-receipt old log port m stands)
