-- In which order acknowledgements, endings and expiries come to the cores, against the rows. Those of a side's rows go the way of the
-- rows of the opposite side.
use Rattle.std.proofs.Common.{◌≡◌, ℕ, zero, suc, ◌+◌, ◌<◌, ◌≤◌, Bool, true, false, cond, ◌||◌, ◌&&◌, ◌==◌, nat_lt, List, [], ◌∷◌, ◌++◌, refl, ap, sym, ◌∙◌, arith, true≢false}
use Rattle.std.specs.List.{list_any}
use Rattle.std.proofs.lemmas.Bool.Decides.{nat_tests}
use Rattle.hj_base.specs.declared.numbers.Side.{Side}
use Rattle.hj_base.specs.declared.numbers.Side.TheVariants.{Left, Right}
use Rattle.hj_base.specs.Journals.{puts}
use Rattle.hj_msg.specs.declared.event.Event.TheVariants.{Arrive, Expire, Quiet}
use Rattle.hj_msg.specs.declared.message.Msg.{Msg}
use Rattle.hj_msg.specs.declared.message.Msg.TheVariants.{R, AckS, EndS, ExpS, S, EndR, ExpR}
use Rattle.hj_msg.specs.Messages.{is_R, is_S, is_EndR, is_EndS, is_ExpR, is_ExpS}
use Rattle.hj_msg.specs.Core.{sends, only_if}
use Rattle.hj_msg.specs.Turns.{handled}
use Rattle.hj_msg.specs.Driver.{DriverTurn, admission, receipt}
use Rattle.hj_msg.specs.Run.{Run, IsRun, at_port}
use Rattle.hj_msg.proofs.Counts.{count, count-list_any}
use Rattle.hj_msg.proofs.TurnPuts.{count-port-none, row_sent}
use Rattle.hj_msg.proofs.MarksOnce.{row_goes}
use Rattle.hj_msg.proofs.Orders.{before, before-any, before-other, before-not_self, before-or, any-or, Lifts}
use Rattle.hj_msg.proofs.Sides.{opposite, is_row, is_ending, is_expiry, goes_right, goes_left, goes_with, sends_on, Reaches, settles_at_once}
use Rattle.hj_msg.proofs.Directions.{is_AckS, Sent, port_end, port_is, entered, nearer, neighbours, passed_on, along}
use Rattle.hj_msg.proofs.Waits.{waits_right, waits_left, never_opposed}

-- what a core sends right for a right row, and left for a left row
sends-S : {P : Type 0} (p : Msg P → Bool) (acks ends : Bool) (ack end : Msg P) → count p (only_if acks ack ++ only_if ends end) ≡ cond (acks && p ack) 1 0 + cond (ends && p end) 1 0
sends-S p true true ack end = omega arith
sends-S p true false ack end = omega arith
sends-S p false true ack end = omega arith
sends-S p false false ack end = omega arith

pub acks_right : {P : Type 0} (j k n : ℕ) → k + 1 < n → (m : Msg P) → count (is_AckS j) (sends k n m).right ≡ cond (is_S j m) 1 0
acks_right {P} j k n low (S at row) = grind (arith, nat_tests, low, sends-S {P = P} (is_AckS j) (nat_lt (k + 1) n) (k == 0) (AckS at) (EndS at))
acks_right j k n low other = refl

sends-R : {P : Type 0} (p : Msg P → Bool) (ends : Bool) (end : Msg P) → count p (only_if ends end) ≡ cond (ends && p end) 1 0
sends-R p true end = omega arith
sends-R p false end = refl

-- what a core sends on: each row (`row_sent`), each expiry, and each ending, which the first core adds to each row that it settles
pub expiry_sent : {P : Type 0} (side : Side) (number place n : ℕ) (m : Msg P) → count (is_expiry (opposite side) number) (sends_on side place n m) ≡ cond (is_expiry (opposite side) number m) 1 0
expiry_sent {P} Left number place n (S at row) = grind (arith, sends-S {P = P} (is_ExpS number) (nat_lt (place + 1) n) (place == 0) (AckS at) (EndS at))
expiry_sent Left number place n (ExpS at) = omega arith
expiry_sent Left number place n other = refl
expiry_sent {P} Right number place n (R at row) = grind (arith, sends-R {P = P} (is_ExpR number) (place + 1 == n) (EndR at))
expiry_sent Right number place n (ExpR at) = omega arith
expiry_sent Right number place n other = refl

ending_sent : {P : Type 0} (side : Side) (number place n : ℕ) → settles_at_once (opposite side) place n ≡ false → (m : Msg P)
    → count (is_ending (opposite side) number) (sends_on side place n m) ≡ cond (is_ending (opposite side) number m) 1 0
ending_sent {P} Left number place n not_first (S at row) = grind (arith, not_first, sends-S {P = P} (is_EndS number) (nat_lt (place + 1) n) (place == 0) (AckS at) (EndS at))
ending_sent Left number place n not_first (EndS at) = omega arith
ending_sent Left number place n not_first other = refl
ending_sent {P} Right number place n not_first (R at row) = grind (arith, not_first, sends-R {P = P} (is_EndR number) (place + 1 == n) (EndR at))
ending_sent Right number place n not_first (EndR at) = omega arith
ending_sent Right number place n not_first other = refl

first_ending_sent : {P : Type 0} (side : Side) (number place n : ℕ) → settles_at_once (opposite side) place n ≡ true → (m : Msg P)
    → count (is_ending (opposite side) number) (sends_on side place n m) ≡ cond (is_row (opposite side) number m || is_ending (opposite side) number m) 1 0
first_ending_sent {P} Left number place n first (S at row) = grind (arith, first, sends-S {P = P} (is_EndS number) (nat_lt (place + 1) n) (place == 0) (AckS at) (EndS at))
first_ending_sent Left number place n first (EndS at) = omega arith
first_ending_sent Left number place n first other = refl
first_ending_sent {P} Right number place n first (R at row) = grind (arith, first, sends-R {P = P} (is_EndR number) (place + 1 == n) (EndR at))
first_ending_sent Right number place n first (EndR at) = omega arith
first_ending_sent Right number place n first other = refl

-- counts of one or none, as tests
pub any_one : {X : Type 0} (p : X → Bool) (xs : List X) (b : Bool) → count p xs ≡ cond b 1 0 → list_any p xs ≡ b
any_one {X} p xs b e = go b (list_any p xs) refl e
  where
    some : (ys : List X) → list_any p ys ≡ true → 1 ≤ count p ys
    some = count-list_any p

    none : (ys : List X) → list_any p ys ≡ false → count p ys ≡ 0
    none [] h = refl
    none (y ∷ ys) h = grind (arith, h, none ys)

    go : (b c : Bool) → list_any p xs ≡ c → count p xs ≡ cond b 1 0 → list_any p xs ≡ b
    go true true h e = h
    go true false h e = absurd (omega (arith, e, none xs h))
    go false true h e = absurd (omega (arith, e, some xs h))
    go false false h e = h

-- what a core sends on for a row is that row alone
apart_row : {P : Type 0} (side : Side) (p : Msg P → Bool) (number place n : ℕ) (m : Msg P) → is_row side number m ≡ true → before p (is_row side number) (sends_on side place n m) ≡ false
apart_row Left p number place n (R at row) e = rw e refl
apart_row Left p number place n other e = absurd (true≢false (sym e))
apart_row Right p number place n (S at row) e = rw e refl
apart_row Right p number place n other e = absurd (true≢false (sym e))

-- that a message goes the way of its kind
pub of_way : {P : Type 0} (goes p : Msg P → Bool) → ((m : Msg P) → p m ≡ true → goes m ≡ true) → (m : Msg P) → goes m ≡ false → p m ≡ false
of_way goes p ways m away = go (p m) refl
  where
    go : (b : Bool) → p m ≡ b → p m ≡ false
    go true e = absurd (true≢false (sym (ways m e) ∙ away))
    go false e = e

AckS_goes : {P : Type 0} (number : ℕ) (m : Msg P) → is_AckS number m ≡ true → goes_right m ≡ true
AckS_goes number (AckS at) e = refl
AckS_goes number other e = absurd (true≢false (sym e))

ending_goes : {P : Type 0} (side : Side) (number : ℕ) (m : Msg P) → is_ending (opposite side) number m ≡ true → goes_with side m ≡ true
ending_goes Left number (EndS at) e = refl
ending_goes Left number other e = absurd (true≢false (sym e))
ending_goes Right number (EndR at) e = refl
ending_goes Right number other e = absurd (true≢false (sym e))

pub expiry_goes : {P : Type 0} (side : Side) (number : ℕ) (m : Msg P) → is_expiry (opposite side) number m ≡ true → goes_with side m ≡ true
expiry_goes Left number (ExpS at) e = refl
expiry_goes Left number other e = absurd (true≢false (sym e))
expiry_goes Right number (ExpR at) e = refl
expiry_goes Right number other e = absurd (true≢false (sym e))

-- a message that is sent on for one, against the rows of its way
pub lifts_row : {P : Type 0} (side : Side) (p' p : Msg P → Bool) (number place n : ℕ) → ((m : Msg P) → count p' (sends_on side place n m) ≡ cond (p m) 1 0) → (m : Msg P)
    → Lifts p' (is_row side number) p (is_row side number) (λ m. sends_on side place n m) m
lifts_row side p' p number place n of m = record {
  first = any_one p' (sends_on side place n m) (p m) (of m);
  second = any_one (is_row side number) (sends_on side place n m) (is_row side number m) (row_sent side number place n m);
  apart = apart_row side p' number place n m;
}

-- whether the rows of a side reach a core first
pub at_first : (n : ℕ) (side : Side) (k : ℕ) → Reaches n side 0 k → settles_at_once (opposite side) k n ≡ true
at_first n Left k at = grind (arith, nat_tests, at.0)
at_first n Right k at = grind (arith, nat_tests, at.0)

past_first : (n : ℕ) (side : Side) (others k : ℕ) → Reaches n side (suc others) k → settles_at_once (opposite side) k n ≡ false
past_first n Left others k at = grind (arith, nat_tests, at.0)
past_first n Right others k at = grind (arith, nat_tests, at.0)

pub none_of : {P : Type 0} (p : Msg P → Bool) (k : ℕ) (m : Msg P) → k ≡ cond (p m) 1 0 → p m ≡ false → k ≡ 0
none_of p k m e h = grind (arith, e, h)

module _ {P : Type 0} (run : Run P) (is : IsRun run) where
  -- what follows a row of the other way from core to core comes behind it
  follows_right : (k : ℕ) → k + 1 < run.cores → (s f source : Msg P → Bool) → ((m : Msg P) → s m ≡ true → goes_left m ≡ true) → ((m : Msg P) → f m ≡ true → goes_right m ≡ true)
      → ((m : Msg P) → source m ≡ false → count f (sends k run.cores m).right ≡ 0) → ((m : Msg P) → s m ≡ false → count s (sends (k + 1) run.cores m).left ≡ 0)
      → list_any s (handled (is.turns k)) ≡ true → before source s (handled (is.turns k)) ≡ false → list_any f (handled (is.turns (k + 1))) ≡ true
      → before s f (handled (is.turns (k + 1))) ≡ true
  follows_right k low s f source of_s of_f from_f from_s has none has_f = go (before s f (handled (is.turns (k + 1)))) refl
    where
      go : (b : Bool) → before s f (handled (is.turns (k + 1))) ≡ b → before s f (handled (is.turns (k + 1))) ≡ true
      go true e = e
      go false e = absurd (never_opposed run is (k + 1) (omega arith) s f (waits_right run is k (omega arith) s f source of_s from_f has none) (waits_left run is (k + 1) low f s s of_f from_s has_f e))

  follows_left : (k : ℕ) → k + 1 < run.cores → (r f source : Msg P → Bool) → ((m : Msg P) → r m ≡ true → goes_right m ≡ true) → ((m : Msg P) → f m ≡ true → goes_left m ≡ true)
      → ((m : Msg P) → source m ≡ false → count f (sends (k + 1) run.cores m).left ≡ 0) → ((m : Msg P) → r m ≡ false → count r (sends k run.cores m).right ≡ 0)
      → list_any r (handled (is.turns (k + 1))) ≡ true → before source r (handled (is.turns (k + 1))) ≡ false → list_any f (handled (is.turns k)) ≡ true
      → before r f (handled (is.turns k)) ≡ true
  follows_left k low r f source of_r of_f from_f from_r has none has_f = go (before r f (handled (is.turns k))) refl
    where
      go : (b : Bool) → before r f (handled (is.turns k)) ≡ b → before r f (handled (is.turns k)) ≡ true
      go true e = e
      go false e = absurd (never_opposed run is (k + 1) (omega arith) f r (waits_right run is k (omega arith) f r r of_f from_r has_f e) (waits_left run is (k + 1) low r f source of_r from_f has none))

  pub follows : (side : Side) (others near far : ℕ) → Reaches run.cores side others near → Reaches run.cores side (suc others) far → (s f source : Msg P → Bool)
      → ((m : Msg P) → s m ≡ true → goes_with (opposite side) m ≡ true) → ((m : Msg P) → f m ≡ true → goes_with side m ≡ true)
      → ((m : Msg P) → source m ≡ false → count f (sends_on side near run.cores m) ≡ 0) → ((m : Msg P) → s m ≡ false → count s (sends_on (opposite side) far run.cores m) ≡ 0)
      → list_any s (handled (is.turns near)) ≡ true → before source s (handled (is.turns near)) ≡ false → list_any f (handled (is.turns far)) ≡ true
      → before s f (handled (is.turns far)) ≡ true
  follows side others near far at_near at_far s f source =
      neighbours run is side others near far at_near at_far
      (λ side near far. ((m : Msg P) → s m ≡ true → goes_with (opposite side) m ≡ true) → ((m : Msg P) → f m ≡ true → goes_with side m ≡ true)
      → ((m : Msg P) → source m ≡ false → count f (sends_on side near run.cores m) ≡ 0) → ((m : Msg P) → s m ≡ false → count s (sends_on (opposite side) far run.cores m) ≡ 0)
      → list_any s (handled (is.turns near)) ≡ true → before source s (handled (is.turns near)) ≡ false → list_any f (handled (is.turns far)) ≡ true
      → before s f (handled (is.turns far)) ≡ true)
      (λ k low. follows_right k low s f source)
      (λ k low. follows_left k low s f source)

  -- what comes to a core came from its source at the one before
  pub comes : (side : Side) (others near far : ℕ) → Reaches run.cores side others near → Reaches run.cores side (suc others) far → (f source : Msg P → Bool) → ((m : Msg P) → f m ≡ true → goes_with side m ≡ true)
      → ((m : Msg P) → count f (sends_on side near run.cores m) ≡ cond (source m) 1 0) → list_any f (handled (is.turns far)) ≡ true → list_any source (handled (is.turns near)) ≡ true
  comes side others near far at_near at_far f source of_f from h =
      (passed_on run is side others near far at_near at_far f f source source (of_way (goes_with side) f of_f) (of_way (goes_with side) f of_f)
      (λ m. record { first = any_one f (sends_on side near run.cores m) (source m) (from m); second = any_one f (sends_on side near run.cores m) (source m) (from m); apart = λ e. before-not_self f (sends_on side near run.cores m) }) h).has

  -- a row that comes before what is sent on for it at a core does so at the next one
  pub row_before : (side : Side) (others near far number : ℕ) → Reaches run.cores side others near → Reaches run.cores side (suc others) far → (f source : Msg P → Bool) → ((m : Msg P) → f m ≡ true → goes_with side m ≡ true)
      → ((m : Msg P) → count f (sends_on side near run.cores m) ≡ cond (source m) 1 0) → list_any (is_row (opposite side) number) (handled (is.turns near)) ≡ true
      → before source (is_row (opposite side) number) (handled (is.turns near)) ≡ false → list_any f (handled (is.turns far)) ≡ true → before (is_row (opposite side) number) f (handled (is.turns far)) ≡ true
  row_before side others near far number at_near at_far f source of_f from has none h =
      follows side others near far at_near at_far (is_row (opposite side) number) f source (row_goes (opposite side) number) of_f
      (λ m e. none_of source (count f (sends_on side near run.cores m)) m (from m) e)
      (λ m e. none_of (is_row (opposite side) number) (count (is_row (opposite side) number) (sends_on (opposite side) far run.cores m)) m (row_sent (opposite side) number far run.cores m) e)
      has none h

  -- the acknowledgement comes before R i exactly where the left neighbour handled S j before R i
  pub ack_order : (k i j : ℕ) → k + 1 < run.cores → list_any (is_R i) (handled (is.turns (k + 1))) ≡ true
      → Sent (is_AckS j) (is_R i) (is_S j) (is_R i) (handled (is.turns (k + 1))) (handled (is.turns k))
  ack_order k i j low h =
      passed_on run is Left k k (k + 1) (refl, omega arith) (omega arith, low) (is_AckS j) (is_R i) (is_S j) (is_R i) (of_way goes_right (is_AckS j) (AckS_goes j)) (of_way goes_right (is_R i) (row_goes Left i))
      (lifts_row Left (is_AckS j) (is_S j) i k run.cores (acks_right j k run.cores low)) h

  -- S j comes before its acknowledgement
  pub acks_behind : (k j : ℕ) → k + 1 < run.cores → list_any (is_AckS j) (handled (is.turns (k + 1))) ≡ true → before (is_S j) (is_AckS j) (handled (is.turns (k + 1))) ≡ true
  acks_behind k j low h =
      row_before Left k k (k + 1) j (refl, omega arith) (omega arith, low) (is_AckS j) (is_S j) (AckS_goes j) (acks_right j k run.cores low)
      (comes Left k k (k + 1) (refl, omega arith) (omega arith, low) (is_AckS j) (is_S j) (AckS_goes j) (acks_right j k run.cores low) h)
      (before-not_self (is_S j) (handled (is.turns k))) h

  no_ending_put : (side : Side) (number turn_number : ℕ) (turn : DriverTurn P) → count (is_ending (opposite side) number) (puts (at_port side turn_number turn)) ≡ 0
  no_ending_put Left j n (admission (Arrive other Left row)) = refl
  no_ending_put Left j n (admission (Expire other Left of)) = refl
  no_ending_put Left j n (admission (Quiet other Left)) = refl
  no_ending_put Left j n (receipt Left message) = refl
  no_ending_put Right i n (admission (Arrive other Left row)) = refl
  no_ending_put Right i n (admission (Expire other Left of)) = refl
  no_ending_put Right i n (admission (Quiet other Left)) = refl
  no_ending_put Right i n (receipt Left message) = refl
  no_ending_put side number n turn = refl

  -- the first core that the rows of a side reach handles no ending of the opposite side
  no_ending_first : (side : Side) (first number : ℕ) → Reaches run.cores side 0 first → list_any (is_ending (opposite side) number) (handled (is.turns first)) ≡ false
  no_ending_first side first number at = go (list_any (is_ending (opposite side) number) (handled (is.turns first))) refl
    where
      go : (b : Bool) → list_any (is_ending (opposite side) number) (handled (is.turns first)) ≡ b → list_any (is_ending (opposite side) number) (handled (is.turns first)) ≡ false
      go true h =
          let came = entered run is side first at (is_ending (opposite side) number) (is_ending (opposite side) number)
          (of_way (goes_with side) (is_ending (opposite side) number) (ending_goes side number)) (of_way (goes_with side) (is_ending (opposite side) number) (ending_goes side number)) h in
          absurd (omega (
            arith,
            count-list_any (is_ending (opposite side) number) (puts (port_end run is side)) came.has,
            ap (λ journal. count (is_ending (opposite side) number) (puts journal)) (port_is run is side),
            count-port-none (is_ending (opposite side) number) side (no_ending_put side number) is.log,
          ))
      go false h = h

  -- a row comes before its ending
  pub ends_behind : (side : Side) (others k number : ℕ) → Reaches run.cores side (suc others) k → list_any (is_ending (opposite side) number) (handled (is.turns k)) ≡ true
      → before (is_row (opposite side) number) (is_ending (opposite side) number) (handled (is.turns k)) ≡ true
  ends_behind side zero k number at h =
      let near = nearer run is side 0 k at in
      let sent : (m : Msg P) → count (is_ending (opposite side) number) (sends_on side near.0 run.cores m) ≡ cond (is_row (opposite side) number m || is_ending (opposite side) number m) 1 0
      = first_ending_sent side number near.0 run.cores (at_first run.cores side near.0 near.1) in
      let none = no_ending_first side near.0 number near.1 in
      row_before side 0 near.0 k number near.1 at (is_ending (opposite side) number) (λ m. is_row (opposite side) number m || is_ending (opposite side) number m) (ending_goes side number) sent
      (sym (any-or (is_row (opposite side) number) (is_ending (opposite side) number) (handled (is.turns near.0)) none)
      ∙ comes side 0 near.0 k near.1 at (is_ending (opposite side) number) (λ m. is_row (opposite side) number m || is_ending (opposite side) number m) (ending_goes side number) sent h)
      (before-or (is_row (opposite side) number) (is_ending (opposite side) number) (is_row (opposite side) number) (handled (is.turns near.0)) none ∙ before-not_self (is_row (opposite side) number) (handled (is.turns near.0))) h
  ends_behind side (suc others) k number at h =
      let near = nearer run is side (suc others) k at in
      let sent = ending_sent {P = P} side number near.0 run.cores (past_first run.cores side others near.0 near.1) in
      let earlier = ends_behind side others near.0 number near.1 (comes side (suc others) near.0 k near.1 at (is_ending (opposite side) number) (is_ending (opposite side) number) (ending_goes side number) sent h) in
      row_before side (suc others) near.0 k number near.1 at (is_ending (opposite side) number) (is_ending (opposite side) number) (ending_goes side number) sent
      (before-any (is_row (opposite side) number) (is_ending (opposite side) number) (handled (is.turns near.0)) earlier)
      (before-other (is_row (opposite side) number) (is_ending (opposite side) number) (handled (is.turns near.0)) earlier) h

  -- the ending of a row comes before a row of its way exactly where the first core handled the one row before the other
  pub settle_order : (side : Side) (others k first i j : ℕ) → Reaches run.cores side (suc others) k → Reaches run.cores side 0 first → list_any (is_row side i) (handled (is.turns k)) ≡ true
      → Sent (is_ending (opposite side) j) (is_row side i) (is_row (opposite side) j) (is_row side i) (handled (is.turns k)) (handled (is.turns first))
  settle_order side zero k first i j at at_start h =
      let passed = passed_on run is side 0 first k at_start at (is_ending (opposite side) j) (is_row side i) (λ m. is_row (opposite side) j m || is_ending (opposite side) j m) (is_row side i)
      (of_way (goes_with side) (is_ending (opposite side) j) (ending_goes side j)) (of_way (goes_with side) (is_row side i) (row_goes side i))
      (lifts_row side (is_ending (opposite side) j) (λ m. is_row (opposite side) j m || is_ending (opposite side) j m) i first run.cores (first_ending_sent side j first run.cores (at_first run.cores side first at_start))) h in
      record { order = passed.order ∙ before-or (is_row (opposite side) j) (is_ending (opposite side) j) (is_row side i) (handled (is.turns first)) (no_ending_first side first j at_start); has = passed.has }
  settle_order side (suc others) k first i j at at_start h =
      let near = nearer run is side (suc others) k at in
      let passed = passed_on run is side (suc others) near.0 k near.1 at (is_ending (opposite side) j) (is_row side i) (is_ending (opposite side) j) (is_row side i)
      (of_way (goes_with side) (is_ending (opposite side) j) (ending_goes side j)) (of_way (goes_with side) (is_row side i) (row_goes side i))
      (lifts_row side (is_ending (opposite side) j) (is_ending (opposite side) j) i near.0 run.cores (ending_sent side j near.0 run.cores (past_first run.cores side others near.0 near.1))) h in
      let deeper = settle_order side others near.0 first i j near.1 at_start passed.has in
      record { order = passed.order ∙ deeper.order; has = deeper.has }

  -- an expiry comes to each core in the order in which the driver put it, against the rows of its way
  pub expiry_order : (side : Side) (others k i j : ℕ) → Reaches run.cores side others k → list_any (is_row side i) (handled (is.turns k)) ≡ true
      → Sent (is_expiry (opposite side) j) (is_row side i) (is_expiry (opposite side) j) (is_row side i) (handled (is.turns k)) (puts (port_end run is side))
  expiry_order side others k i j at h =
      along run is side (is_expiry (opposite side) j) (is_row side i) (of_way (goes_with side) (is_expiry (opposite side) j) (expiry_goes side j)) (of_way (goes_with side) (is_row side i) (row_goes side i))
      (λ k. lifts_row side (is_expiry (opposite side) j) (is_expiry (opposite side) j) i k run.cores (expiry_sent side j k run.cores)) others k at h
