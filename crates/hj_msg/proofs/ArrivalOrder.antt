-- The rows and the quiet events of a side come to each core in the order of their numbers, and before the close of their side.
use Rattle.std.proofs.Common.{◌≡◌, ℕ, ◌+◌, ◌<◌, ◌==◌, nat_lt, cond, Bool, true, false, ◌||◌, List, [], ◌∷◌, ◌++◌, map, Contains, refl, ap, sym, ◌∙◌, subst, arith, true≢false}
use Rattle.std.specs.List.{list_any}
use Rattle.std.proofs.lemmas.Bool.Decides.{nat_tests}
use Rattle.hj_base.specs.declared.numbers.Side.{Side}
use Rattle.hj_base.specs.declared.numbers.Side.TheVariants.{Left, Right}
use Rattle.hj_base.specs.Journals.{puts}
use Rattle.hj_msg.specs.declared.event.Event.{Event}
use Rattle.hj_msg.specs.declared.event.Event.TheVariants.{Arrive, Expire, Quiet}
use Rattle.hj_msg.specs.declared.message.Msg.{Msg}
use Rattle.hj_msg.specs.declared.message.Msg.TheVariants.{R, AckS, EndS, QuietL, CloseL, S, EndR, QuietR, CloseR}
use Rattle.hj_msg.specs.Event.{number}
use Rattle.hj_msg.specs.Core.{only_if, is_last}
use Rattle.hj_msg.specs.Turns.{handled}
use Rattle.hj_msg.specs.Driver.{DriverTurn, admission, receipt, closing, admitted}
use Rattle.hj_msg.specs.Run.{Run, IsRun, close_of, port_journal}
use Rattle.hj_msg.proofs.Members.{Contains-cut, find, any_of}
use Rattle.hj_msg.proofs.Counts.{count}
use Rattle.hj_msg.proofs.TurnPuts.{count-only_if, count-both, mark_sent}
use Rattle.hj_msg.proofs.MarksOnce.{mark_goes}
use Rattle.hj_msg.proofs.Orders.{before, before-open, before-prefix, any-prefix, before-not_self}
use Rattle.hj_msg.proofs.Sides.{is_quiet, is_mark, is_close, goes_with, sends_on}
use Rattle.hj_msg.proofs.Ports.{event_puts, turn_puts, in_turns, in_order}
use Rattle.hj_msg.proofs.Directions.{port_end, port_is, reached, along}
use Rattle.hj_msg.proofs.Settling.{of_way, any_one}
use Rattle.hj_msg.proofs.Expiries.{shown}

-- what is marked is sent on alone
quiet_sent : {P : Type 0} (side : Side) (number place n : ℕ) (m : Msg P) → count (is_quiet side number) (sends_on side place n m) ≡ cond (is_quiet side number m) 1 0
quiet_sent Left number place n (QuietL other) = omega arith
quiet_sent Left number place n (S other row) = count-both (is_quiet Left number) (nat_lt (place + 1) n) (place == 0) (AckS other) (EndS other) refl refl
quiet_sent Left number place n other = refl
quiet_sent Right number place n (QuietR other) = omega arith
quiet_sent Right number place n (R other row) = count-only_if (is_quiet Right number) (is_last place n) (EndR other) refl
quiet_sent Right number place n other = refl

mark_apart : {P : Type 0} (side : Side) (p : Msg P → Bool) (number place n : ℕ) (m : Msg P) → is_mark side number m ≡ true → before p (is_mark side number) (sends_on side place n m) ≡ false
mark_apart Left p number place n (R at row) e = rw e refl
mark_apart Left p number place n (QuietL at) e = rw e refl
mark_apart Left p number place n other e = absurd (true≢false (sym e))
mark_apart Right p number place n (S at row) e = rw e refl
mark_apart Right p number place n (QuietR at) e = rw e refl
mark_apart Right p number place n other e = absurd (true≢false (sym e))

quiet_goes : {P : Type 0} (side : Side) (number : ℕ) (m : Msg P) → is_quiet side number m ≡ true → goes_with side m ≡ true
quiet_goes Left number (QuietL at) e = refl
quiet_goes Left number other e = absurd (true≢false (sym e))
quiet_goes Right number (QuietR at) e = refl
quiet_goes Right number other e = absurd (true≢false (sym e))

close_no_mark : (P : Type 0) (side : Side) (number : ℕ) → is_mark {P = P} side number (close_of side) ≡ false
close_no_mark P Left number = refl
close_no_mark P Right number = refl

close_no_quiet : (P : Type 0) (side : Side) (number : ℕ) → is_quiet {P = P} side number (close_of side) ≡ false
close_no_quiet P Left number = refl
close_no_quiet P Right number = refl

-- the events that put what is marked, and a quiet event
pub puts_mark : {P : Type 0} (side : Side) (at : ℕ) (row : P) → event_puts side (is_mark side at) (Arrive (record { 0 = at }) side row) ≡ true
puts_mark Left at row = grind (arith, nat_tests)
puts_mark Right at row = grind (arith, nat_tests)

pub mark_of_event : {P : Type 0} (side : Side) (at : ℕ) (event : Event P) → event_puts side (is_mark side at) event ≡ true → number event ≡ at
mark_of_event Left at (Arrive other Left row) e = grind (arith, nat_tests, e)
mark_of_event Left at (Quiet other Left) e = grind (arith, nat_tests, e)
mark_of_event Left at (Arrive other Right row) e = absurd (true≢false (sym e))
mark_of_event Left at (Quiet other Right) e = absurd (true≢false (sym e))
mark_of_event Left at (Expire other Left of) e = absurd (true≢false (sym e))
mark_of_event Left at (Expire other Right of) e = absurd (true≢false (sym e))
mark_of_event Right at (Arrive other Right row) e = grind (arith, nat_tests, e)
mark_of_event Right at (Quiet other Right) e = grind (arith, nat_tests, e)
mark_of_event Right at (Arrive other Left row) e = absurd (true≢false (sym e))
mark_of_event Right at (Quiet other Left) e = absurd (true≢false (sym e))
mark_of_event Right at (Expire other Left of) e = absurd (true≢false (sym e))
mark_of_event Right at (Expire other Right of) e = absurd (true≢false (sym e))

pub quiet_of_event : {P : Type 0} (side : Side) (at : ℕ) (event : Event P) → event_puts side (is_quiet side at) event ≡ true → event ≡ Quiet (record { 0 = at }) side
quiet_of_event Left at (Quiet other Left) e = let same : other.0 ≡ at = grind (arith, nat_tests, e) in ap (λ k. Quiet (record { 0 = k }) Left) same
quiet_of_event Left at (Quiet other Right) e = absurd (true≢false (sym e))
quiet_of_event Left at (Arrive other Left row) e = absurd (true≢false (sym e))
quiet_of_event Left at (Arrive other Right row) e = absurd (true≢false (sym e))
quiet_of_event Left at (Expire other Left of) e = absurd (true≢false (sym e))
quiet_of_event Left at (Expire other Right of) e = absurd (true≢false (sym e))
quiet_of_event Right at (Quiet other Right) e = let same : other.0 ≡ at = grind (arith, nat_tests, e) in ap (λ k. Quiet (record { 0 = k }) Right) same
quiet_of_event Right at (Quiet other Left) e = absurd (true≢false (sym e))
quiet_of_event Right at (Arrive other Left row) e = absurd (true≢false (sym e))
quiet_of_event Right at (Arrive other Right row) e = absurd (true≢false (sym e))
quiet_of_event Right at (Expire other Left of) e = absurd (true≢false (sym e))
quiet_of_event Right at (Expire other Right of) e = absurd (true≢false (sym e))

only_none : {P : Type 0} (p : Msg P → Bool) (holds : Bool) (m : Msg P) → p m ≡ false → list_any p (only_if holds m) ≡ false
only_none p true m e = rw e refl
only_none p false m e = refl

both_none : {P : Type 0} (p : Msg P → Bool) (a b : Bool) (l m : Msg P) → p l ≡ false → p m ≡ false → list_any p (only_if a l ++ only_if b m) ≡ false
both_none p true b l m e f = rw e (only_none p b m f)
both_none p false b l m e f = only_none p b m f

close_goes : {P : Type 0} (side : Side) (m : Msg P) → is_close side m ≡ true → goes_with side m ≡ true
close_goes Left CloseL e = refl
close_goes Left other e = absurd (true≢false (sym e))
close_goes Right CloseR e = refl
close_goes Right other e = absurd (true≢false (sym e))

close_sent : {P : Type 0} (side : Side) (place n : ℕ) (m : Msg P) → list_any (is_close side) (sends_on side place n m) ≡ is_close side m
close_sent Left place n (S at row) = both_none (is_close Left) _ _ _ _ refl refl
close_sent Left place n other = refl
close_sent Right place n (R at row) = only_none (is_close Right) _ _ refl
close_sent Right place n other = refl

close_apart : {P : Type 0} (side : Side) (p : Msg P → Bool) (place n : ℕ) (m : Msg P) → is_close side m ≡ true → before p (is_close side) (sends_on side place n m) ≡ false
close_apart Left p place n CloseL e = refl
close_apart Left p place n other e = absurd (true≢false (sym e))
close_apart Right p place n CloseR e = refl
close_apart Right p place n other e = absurd (true≢false (sym e))

-- only the closing turn puts the closes
event_no_close : {P : Type 0} (side : Side) (event : Event P) → event_puts side (is_close side) event ≡ false
event_no_close Left (Arrive at Left row) = refl
event_no_close Left (Arrive at Right row) = refl
event_no_close Left (Expire at Left of) = refl
event_no_close Left (Expire at Right of) = refl
event_no_close Left (Quiet at Left) = refl
event_no_close Left (Quiet at Right) = refl
event_no_close Right (Arrive at Left row) = refl
event_no_close Right (Arrive at Right row) = refl
event_no_close Right (Expire at Left of) = refl
event_no_close Right (Expire at Right of) = refl
event_no_close Right (Quiet at Left) = refl
event_no_close Right (Quiet at Right) = refl

puts_close : {P : Type 0} (side : Side) (turn : DriverTurn P) → turn_puts side (is_close side) turn ≡ true → turn ≡ closing
puts_close side (admission event) e = absurd (true≢false (sym e ∙ event_no_close side event))
puts_close side (receipt port message) e = absurd (true≢false (sym e))
puts_close side closing e = refl

-- what events put, the turns that admit them do
admits_any : {P : Type 0} (side : Side) (test : Msg P → Bool) (turns : List (DriverTurn P)) → list_any (event_puts side test) (admitted turns) ≡ true → list_any (turn_puts side test) turns ≡ true
admits_any side test [] h = h
admits_any side test (admission event ∷ turns) h = grind (arith, h, admits_any side test turns)
admits_any side test (receipt port message ∷ turns) h = admits_any side test turns h
admits_any side test (closing ∷ turns) h = rw (admits_any side test turns h) (or_true (turn_puts side test closing))
  where
    or_true : (b : Bool) → (b || true) ≡ true
    or_true true = refl
    or_true false = refl

module _ {P : Type 0} (run : Run P) (is : IsRun run) where
  -- what a core handled, and all before it sent on, some event put
  on_way : (side : Side) (k : ℕ) (p : Msg P → Bool) → k < run.cores → ((m : Msg P) → p m ≡ true → goes_with side m ≡ true) → ((k : ℕ) (m : Msg P) → count p (sends_on side k run.cores m) ≡ cond (p m) 1 0)
      → p (close_of side) ≡ false → list_any p (handled (is.turns k)) ≡ true → list_any (event_puts side p) run.events ≡ true
  on_way side k p low goes sent no_close h =
      let there = reached run is side k low in
      let came = along run is side p p (of_way (goes_with side) p goes) (of_way (goes_with side) p goes)
      (λ k m. record { first = any_one p (sends_on side k run.cores m) (p m) (sent k m); second = any_one p (sends_on side k run.cores m) (p m) (sent k m); apart = λ e. before-not_self p (sends_on side k run.cores m) }) there.0 k there.1 h in
      let port = in_order side p p no_close no_close is.log in
      let puts_are : puts (port_end run is side) ≡ puts (port_journal side is.log) = ap puts (port_is run is side) in
      any-prefix (event_puts side p) is.lawful.in_order (sym port.has ∙ sym (ap (list_any p) puts_are) ∙ came.has)

  pub mark_event : (side : Side) (k a : ℕ) → k < run.cores → list_any (is_mark side a) (handled (is.turns k)) ≡ true → list_any (event_puts side (is_mark side a)) run.events ≡ true
  mark_event side k a low h = on_way side k (is_mark side a) low (mark_goes side a) (λ k. mark_sent side a k run.cores) (close_no_mark P side a) h

  pub quiet_event : (side : Side) (k a : ℕ) → k < run.cores → list_any (is_quiet side a) (handled (is.turns k)) ≡ true → list_any (event_puts side (is_quiet side a)) run.events ≡ true
  quiet_event side k a low h = on_way side k (is_quiet side a) low (quiet_goes side a) (λ k. quiet_sent side a k run.cores) (close_no_quiet P side a) h

  -- what is marked is handled in the order of the numbers
  pub marks_in_order : (side : Side) (k a m : ℕ) (event : Event P) → k < run.cores → Contains run.events event → event_puts side (is_mark side a) event ≡ true → a < m → list_any (is_mark side m) (handled (is.turns k)) ≡ true
      → before (is_mark side a) (is_mark side m) (handled (is.turns k)) ≡ true
  marks_in_order side k a m event low is_there passes below h =
      let there = reached run is side k low in
      let sent = along run is side (is_mark side a) (is_mark side m) (of_way (goes_with side) (is_mark side a) (mark_goes side a)) (of_way (goes_with side) (is_mark side m) (mark_goes side m))
      (λ k message. record {
        first = any_one (is_mark side a) (sends_on side k run.cores message) (is_mark side a message) (mark_sent side a k run.cores message);
        second = any_one (is_mark side m) (sends_on side k run.cores message) (is_mark side m message) (mark_sent side m k run.cores message);
        apart = mark_apart side (is_mark side a) m k run.cores message;
      }) there.0 k there.1 h in
      let port = in_order side (is_mark side a) (is_mark side m) (close_no_mark P side a) (close_no_mark P side m) is.log in
      let puts_are : puts (port_end run is side) ≡ puts (port_journal side is.log) = ap puts (port_is run is side) in
      let has : list_any (event_puts side (is_mark side m)) (admitted (map (λ entry. entry.turn) is.log)) ≡ true = sym port.has ∙ sym (ap (list_any (is_mark side m)) puts_are) ∙ sent.has in
      sent.order ∙ ap (before (is_mark side a) (is_mark side m)) puts_are ∙ port.order ∙ sym (before-prefix (event_puts side (is_mark side a)) (event_puts side (is_mark side m)) is.lawful.in_order has)
      ∙ shown event m (event_puts side (is_mark side a)) (event_puts side (is_mark side m)) passes (mark_of_event side m) (omega (arith, below, mark_of_event side a event passes)) 0 run.events is.well_formed.numbered is_there

  -- the closes are put behind all arrivals
  closes_behind : (side : Side) (test : Msg P → Bool) (event : Event P) → Contains run.events event → event_puts side test event ≡ true → list_any (turn_puts side (is_close side)) (map (λ entry. entry.turn) is.log) ≡ true
      → before (turn_puts side test) (turn_puts side (is_close side)) (map (λ entry. entry.turn) is.log) ≡ true
  closes_behind side test event there passes h =
      let turns : List (DriverTurn P) = map (λ entry. entry.turn) is.log in
      let found = find (turn_puts side (is_close side)) turns h in
      let cut = Contains-cut turns closing (subst (λ turn. Contains turns turn) (puts_close side found.one found.passes) found.is) in
      let closes = is.lawful.closes cut.0 cut.1 cut.2 in
      let some : list_any (turn_puts side test) cut.0 ≡ true = admits_any side test cut.0 (ap (list_any (event_puts side test)) closes.all ∙ any_of (event_puts side test) run.events event there passes) in
      ap (before (turn_puts side test) (turn_puts side (is_close side))) cut.2 ∙ before-open (turn_puts side test) (turn_puts side (is_close side)) cut.0 (closing ∷ cut.1) (none cut.0 closes.once) ∙ (rw some refl)
    where
      none : (turns : List (DriverTurn P)) → (Contains turns closing → ⊥) → list_any (turn_puts side (is_close side)) turns ≡ false
      none turns once = go (list_any (turn_puts side (is_close side)) turns) refl
        where
          go : (b : Bool) → list_any (turn_puts side (is_close side)) turns ≡ b → list_any (turn_puts side (is_close side)) turns ≡ false
          go false e = e
          go true e = let found = find (turn_puts side (is_close side)) turns e in absurd (once (subst (λ turn. Contains turns turn) (puts_close side found.one found.passes) found.is))

  -- what is marked on a side is handled before its close
  pub marks_before_close : (side : Side) (k a : ℕ) (event : Event P) → k < run.cores → Contains run.events event → event_puts side (is_mark side a) event ≡ true → list_any (is_close side) (handled (is.turns k)) ≡ true
      → before (is_mark side a) (is_close side) (handled (is.turns k)) ≡ true
  marks_before_close side k a event low is_there passes h =
      let there = reached run is side k low in
      let sent = along run is side (is_mark side a) (is_close side) (of_way (goes_with side) (is_mark side a) (mark_goes side a)) (of_way (goes_with side) (is_close side) (close_goes side))
      (λ k m. record { first = any_one (is_mark side a) (sends_on side k run.cores m) (is_mark side a m) (mark_sent side a k run.cores m); second = close_sent side k run.cores m; apart = close_apart side (is_mark side a) k run.cores m }) there.0 k there.1 h in
      let port = in_turns side (is_mark side a) (is_close side) is.log in
      let puts_are : puts (port_end run is side) ≡ puts (port_journal side is.log) = ap puts (port_is run is side) in
      let has : list_any (turn_puts side (is_close side)) (map (λ entry. entry.turn) is.log) ≡ true = sym port.has ∙ sym (ap (list_any (is_close side)) puts_are) ∙ sent.has in
      sent.order ∙ ap (before (is_mark side a) (is_close side)) puts_are ∙ port.order ∙ closes_behind side (is_mark side a) event is_there passes has
