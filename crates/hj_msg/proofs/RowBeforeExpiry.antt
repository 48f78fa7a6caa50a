-- A row comes before its expiry at every core: the driver takes it out before it puts the expiry.
use Rattle.std.proofs.Common.{◌≡◌, ℕ, zero, suc, ◌≤◌, Bool, true, false, ◌||◌, List, [], ◌∷◌, ◌++◌, map, refl, ap, sym, ◌∙◌, subst, arith, true≢false}
use Rattle.std.specs.List.{list_any}
use Rattle.std.proofs.lemmas.List.{map-append}
use Rattle.std.proofs.lemmas.List.Concat.{flat_map-append}
use Rattle.hj_base.specs.declared.numbers.Side.{Side}
use Rattle.hj_base.specs.declared.numbers.Side.TheVariants.{Left, Right}
use Rattle.hj_base.specs.Journals.{Entry, puts, takes}
use Rattle.hj_msg.specs.declared.event.Event.{Event}
use Rattle.hj_msg.specs.declared.event.Event.TheVariants.{Arrive, Expire, Quiet}
use Rattle.hj_msg.specs.declared.message.Msg.{Msg}
use Rattle.hj_msg.specs.Turns.{handled}
use Rattle.hj_msg.specs.Driver.{DriverTurn, admission, receipt, closing, is_take, took, HasComeOut}
use Rattle.hj_msg.specs.Run.{Run, IsRun, LogEntry, at_port, port_journal}
use Rattle.hj_msg.proofs.ComesOut.{took-from_came_out}
use Rattle.hj_msg.proofs.Counts.{count, count-list_any}
use Rattle.hj_msg.proofs.Orders.{before, before-any, before-other}
use Rattle.hj_msg.proofs.Sides.{opposite, is_row, is_expiry, goes_with, sends_on, Reaches}
use Rattle.hj_msg.proofs.Ports.{turn_puts, in_turns, close_no_expiry, expiry_of_event}
use Rattle.hj_msg.proofs.Directions.{port_end, port_is, entered, nearer}
use Rattle.hj_msg.proofs.Waits.{Waits, waits_left, waits_right, never_opposed}
use Rattle.hj_msg.proofs.TurnPuts.{row_sent}
use Rattle.hj_msg.proofs.Settling.{expiry_sent, expiry_goes, of_way, none_of, comes, row_before}

-- the first element that passes a test
record First {X : Type 0} (t : X → Bool) (xs : List X) : Type 0 where
  earlier : List X
  later : List X
  one : X
  is : xs ≡ earlier ++ one ∷ later
  passes : t one ≡ true
  none : count t earlier ≡ 0

first_of_all : {X : Type 0} (t : X → Bool) (xs : List X) → 1 ≤ count t xs → First t xs
first_of_all t [] some = absurd (omega (arith, some))
first_of_all {X} t (x ∷ xs) some = go (t x) refl (first_of_all t xs)
  where
    go : (b : Bool) → t x ≡ b → (1 ≤ count t xs → First t xs) → First t (x ∷ xs)
    go true e deeper = record { earlier = []; later = xs; one = x; is = refl; passes = e; none = refl }
    go false e deeper =
        let found = deeper (grind (arith, some, e)) in
        record { earlier = x ∷ found.earlier; later = found.later; one = found.one; is = ap (λ ys. x ∷ ys) found.is; passes = found.passes; none = grind (arith, e, found.none) }

-- what was taken at a port stands in its journal
took_there : {P : Type 0} (port : Side) (test : Msg P → Bool) (log : List (LogEntry P)) → took port test (map (λ entry. entry.turn) log) ≡ true → 1 ≤ count test (takes (port_journal port log))
took_there port test [] h = absurd (true≢false (sym h))
took_there {P} port test (entry ∷ log) h = go port entry.turn h (took_there port test log)
  where
    go : (port : Side) (turn : DriverTurn P) → (is_take port test turn || took port test (map (λ entry. entry.turn) log)) ≡ true
        → (took port test (map (λ entry. entry.turn) log) ≡ true → 1 ≤ count test (takes (port_journal port log)))
        → 1 ≤ count test (takes (at_port port entry.number turn ++ port_journal port log))
    go Left (admission (Arrive at Left row)) h deeper = deeper h
    go Left (admission (Expire at Left of)) h deeper = deeper h
    go Left (admission (Quiet at Left)) h deeper = deeper h
    go Left (receipt Left message) h deeper = grind (arith, h, deeper)
    go Right (admission (Arrive at Left row)) h deeper = deeper h
    go Right (admission (Expire at Left of)) h deeper = deeper h
    go Right (admission (Quiet at Left)) h deeper = deeper h
    go Right (receipt Right message) h deeper = grind (arith, h, deeper)
    go port turn h deeper = deeper h

-- a turn of the driver that puts an expiry
record PutsExpiry {P : Type 0} (side : Side) (of : ℕ) (turn : DriverTurn P) : Type 0 where
  event : Event P
  is : turn ≡ admission event
  came_out : (earlier : List (DriverTurn P)) → HasComeOut event earlier → took side (is_row (opposite side) of) earlier ≡ true

took_before : {P : Type 0} (side : Side) (at of : ℕ) (earlier : List (DriverTurn P)) → HasComeOut (Expire (record { 0 = at }) (opposite side) (record { 0 = of })) earlier → took side (is_row (opposite side) of) earlier ≡ true
took_before Left at of earlier h = took-from_came_out Right of earlier h
took_before Right at of earlier h = took-from_came_out Left of earlier h

puts_expiry : {P : Type 0} (side : Side) (of : ℕ) (turn : DriverTurn P) → turn_puts side (is_expiry (opposite side) of) turn ≡ true → PutsExpiry side of turn
puts_expiry {P} side of (admission event) e =
    let expiry = expiry_of_event side of event e in
    record { event = event; is = refl; came_out = λ earlier h. took_before side expiry.0 of earlier (subst (λ event. HasComeOut event earlier) expiry.1 h) }
puts_expiry side of (receipt port message) e = absurd (true≢false (sym e))
puts_expiry {P} side of closing e = absurd (true≢false (sym e ∙ ap (λ b. b || false) (close_no_expiry P side of)))

module _ {P : Type 0} (run : Run P) (is : IsRun run) where
  -- the driver took a row before it put its expiry
  driver_waits : (side : Side) (of : ℕ) → 1 ≤ count (is_expiry (opposite side) of) (puts (port_end run is side)) → Waits (is_row (opposite side) of) (is_expiry (opposite side) of) (port_end run is side)
  driver_waits side of some =
      let test : LogEntry P → Bool = λ entry. turn_puts side (is_expiry (opposite side) of) entry.turn in
      let often = (in_turns side (is_expiry (opposite side) of) (is_expiry (opposite side) of) is.log).often in
      let e : count (is_expiry (opposite side) of) (puts (port_end run is side)) ≡ count test is.log = ap (λ j. count (is_expiry (opposite side) of) (puts j)) (port_is run is side) ∙ often in
      let found = first_of_all test is.log (omega (arith, e, some)) in
      let put = puts_expiry side of found.one.turn found.passes in
      let turns : map (λ (entry : LogEntry P). entry.turn) is.log ≡ map (λ entry. entry.turn) found.earlier ++ admission put.event ∷ map (λ entry. entry.turn) found.later
      = ap (map (λ entry. entry.turn)) found.is ∙ map-append (λ entry. entry.turn) found.earlier (found.one ∷ found.later) ∙ ap (λ turn. map (λ entry. entry.turn) found.earlier ++ turn ∷ map (λ entry. entry.turn) found.later) put.is in
      record {
        front = port_journal side found.earlier;
        back = port_journal side (found.one ∷ found.later);
        is = port_is run is side ∙ ap (port_journal side) found.is ∙ flat_map-append (λ entry. at_port side entry.number entry.turn) found.earlier (found.one ∷ found.later);
        took = took_there side (is_row (opposite side) of) found.earlier
            (put.came_out (map (λ entry. entry.turn) found.earlier) (is.lawful.come_out (map (λ entry. entry.turn) found.earlier) (map (λ entry. entry.turn) found.later) put.event turns));
        none = (in_turns side (is_expiry (opposite side) of) (is_expiry (opposite side) of) found.earlier).often ∙ found.none;
      }

  -- the first core doesn't wait for the driver while the driver waits for it
  core_end : Side → List (Entry (Msg P))
  core_end Left = (run.link 0).right
  core_end Right = (run.link run.cores).left

  core_waits : (side : Side) (k of : ℕ) → Reaches run.cores side 0 k → list_any (is_expiry (opposite side) of) (handled (is.turns k)) ≡ true → before (is_row (opposite side) of) (is_expiry (opposite side) of) (handled (is.turns k)) ≡ false
      → Waits (is_expiry (opposite side) of) (is_row (opposite side) of) (core_end side)
  unfolding core_end
  core_waits Left k of at h e =
      subst (λ a. Waits (is_expiry Right of) (is_row Right of) (run.link a).right) at.0
      (waits_left run is k at.1 (is_expiry Right of) (is_row Right of) (is_row Right of) (expiry_goes Left of)
      (λ m e. none_of (is_row Right of) (count (is_row Right of) (sends_on Right k run.cores m)) m (row_sent Right of k run.cores m) e) h e)
  core_waits Right k of at h e =
      subst (λ a. Waits (is_expiry Left of) (is_row Left of) (run.link a).left) at.0
      (waits_right run is k at.1 (is_expiry Left of) (is_row Left of) (is_row Left of) (expiry_goes Right of)
      (λ m e. none_of (is_row Left of) (count (is_row Left of) (sends_on Left k run.cores m)) m (row_sent Left of k run.cores m) e) h e)

  not_both : (side : Side) (p q : Msg P → Bool) → Waits p q (port_end run is side) → Waits q p (core_end side) → ⊥
  unfolding core_end
  not_both Left p q driver core = never_opposed run is 0 (omega arith) p q driver core
  not_both Right p q driver core = never_opposed run is run.cores (omega arith) q p core driver

  -- a row comes before its expiry
  pub expires_behind : (side : Side) (others k of : ℕ) → Reaches run.cores side others k → list_any (is_expiry (opposite side) of) (handled (is.turns k)) ≡ true
      → before (is_row (opposite side) of) (is_expiry (opposite side) of) (handled (is.turns k)) ≡ true
  expires_behind side zero k of at h = go (before (is_row (opposite side) of) (is_expiry (opposite side) of) (handled (is.turns k))) refl
    where
      go : (b : Bool) → before (is_row (opposite side) of) (is_expiry (opposite side) of) (handled (is.turns k)) ≡ b → before (is_row (opposite side) of) (is_expiry (opposite side) of) (handled (is.turns k)) ≡ true
      go true e = e
      go false e =
          let way = of_way (goes_with side) (is_expiry (opposite side) of) (expiry_goes {P = P} side of) in
          let came = entered run is side k at (is_expiry (opposite side) of) (is_expiry (opposite side) of) way way h in
          absurd (not_both side (is_row (opposite side) of) (is_expiry (opposite side) of) (driver_waits side of (count-list_any (is_expiry (opposite side) of) (puts (port_end run is side)) came.has)) (core_waits side k of at h e))
  expires_behind side (suc others) k of at h =
      let near = nearer run is side others k at in
      let earlier = expires_behind side others near.0 of near.1 (comes run is side others near.0 k near.1 at (is_expiry (opposite side) of) (is_expiry (opposite side) of) (expiry_goes side of) (expiry_sent side of near.0 run.cores) h) in
      row_before run is side others near.0 k of near.1 at (is_expiry (opposite side) of) (is_expiry (opposite side) of) (expiry_goes side of) (expiry_sent side of near.0 run.cores)
      (before-any (is_row (opposite side) of) (is_expiry (opposite side) of) (handled (is.turns near.0)) earlier)
      (before-other (is_row (opposite side) of) (is_expiry (opposite side) of) (handled (is.turns near.0)) earlier) h
