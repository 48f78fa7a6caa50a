-- What the driver puts on its two ports, in the order of its turns and of the events.
use Rattle.std.proofs.Common.{◌≡◌, ℕ, ◌+◌, Bool, true, false, cond, ◌||◌, List, [], ◌∷◌, ◌++◌, map, refl, ap, sym, ◌∙◌, arith, inl, inr, ◌⊎◌, true≢false}
use Rattle.std.specs.List.{list_any}
use Rattle.std.proofs.lemmas.Bool.Decides.{nat_tests}
use Rattle.hj_base.specs.declared.numbers.Side.{Side}
use Rattle.hj_base.specs.declared.numbers.Side.TheVariants.{Left, Right}
use Rattle.hj_base.specs.Journals.{puts}
use Rattle.hj_msg.specs.declared.event.Event.{Event}
use Rattle.hj_msg.specs.declared.event.Event.TheVariants.{Arrive, Expire, Quiet}
use Rattle.hj_msg.specs.declared.message.Msg.{Msg}
use Rattle.hj_msg.specs.declared.message.Msg.TheVariants.{R, ExpS, QuietL, S, ExpR, QuietR}
use Rattle.hj_msg.specs.Event.{number}
use Rattle.hj_msg.specs.Driver.{DriverTurn, admission, receipt, closing, admitted}
use Rattle.hj_msg.specs.Run.{LogEntry, close_of, at_port, port_journal}
use Rattle.hj_msg.proofs.Counts.{count, count-append}
use Rattle.hj_msg.proofs.Ends.{puts-append}
use Rattle.hj_msg.proofs.Orders.{before, any-append}
use Rattle.hj_msg.proofs.Sides.{opposite, is_row, is_expiry}

-- the message of an event, where it is put on the port of a side, and what a turn puts there
abbrev pub of_event : {P : Type 0} → Side → Event P → List (Msg P)
of_event Left (Arrive at Left row) = R at row ∷ []
of_event Left (Expire at Right of) = ExpS of ∷ []
of_event Left (Quiet at Left) = QuietL at ∷ []
of_event Right (Arrive at Right row) = S at row ∷ []
of_event Right (Expire at Left of) = ExpR of ∷ []
of_event Right (Quiet at Right) = QuietR at ∷ []
of_event side other = []

abbrev pub of_turn : {P : Type 0} → Side → DriverTurn P → List (Msg P)
of_turn side (admission event) = of_event side event
of_turn side (receipt port message) = []
of_turn side closing = close_of side ∷ []

-- whether an event, or a turn, puts a message that passes a test there
abbrev pub event_puts : {P : Type 0} → Side → (Msg P → Bool) → Event P → Bool
event_puts side test event = list_any test (of_event side event)

abbrev pub turn_puts : {P : Type 0} → Side → (Msg P → Bool) → DriverTurn P → Bool
turn_puts side test turn = list_any test (of_turn side turn)

puts-at_port : {P : Type 0} (side : Side) (number : ℕ) (turn : DriverTurn P) → puts (at_port side number turn) ≡ of_turn side turn
puts-at_port Left number (admission (Arrive at Left row)) = refl
puts-at_port Left number (admission (Expire at Left of)) = refl
puts-at_port Left number (admission (Quiet at Left)) = refl
puts-at_port Left number (receipt Left message) = refl
puts-at_port Right number (admission (Arrive at Left row)) = refl
puts-at_port Right number (admission (Expire at Left of)) = refl
puts-at_port Right number (admission (Quiet at Left)) = refl
puts-at_port Right number (receipt Left message) = refl
puts-at_port side number turn = refl

-- a turn puts no more than one message there
record IsOneAtMost {X : Type 0} (xs : List X) : Type 0 where
  is : (xs ≡ []) ⊎ ((x : X) × (xs ≡ x ∷ []))

event_once : {P : Type 0} (side : Side) (event : Event P) → IsOneAtMost (of_event side event)
event_once Left (Arrive at Left row) = record { is = inr (R at row, refl) }
event_once Left (Expire at Right of) = record { is = inr (ExpS of, refl) }
event_once Left (Quiet at Left) = record { is = inr (QuietL at, refl) }
event_once Right (Arrive at Right row) = record { is = inr (S at row, refl) }
event_once Right (Expire at Left of) = record { is = inr (ExpR of, refl) }
event_once Right (Quiet at Right) = record { is = inr (QuietR at, refl) }
event_once side event = record { is = inl refl }

turn_once : {P : Type 0} (side : Side) (turn : DriverTurn P) → IsOneAtMost (of_turn side turn)
turn_once side (admission event) = event_once side event
turn_once side (receipt port message) = record { is = inl refl }
turn_once side closing = record { is = inr (close_of side, refl) }

before-once : {X : Type 0} (p q : X → Bool) (xs ys : List X) → IsOneAtMost xs → before p q (xs ++ ys) ≡ cond (list_any q xs) false (list_any p xs || before p q ys)
before-once {X} p q xs ys once = elim once.is [ inl e ↦ rw e refl | inr e ↦ (rw e.1 (one (q e.0) (p e.0) (before p q ys))) ]
  where
    one : (b c d : Bool) → cond b false (c || d) ≡ cond (b || false) false ((c || false) || d)
    one true c d = refl
    one false true d = refl
    one false false d = refl

count-once : {X : Type 0} (p : X → Bool) (xs : List X) → IsOneAtMost xs → count p xs ≡ cond (list_any p xs) 1 0
count-once {X} p xs once = elim once.is [ inl e ↦ rw e refl | inr e ↦ (rw e.1 (one (p e.0))) ]
  where
    one : (b : Bool) → cond {A = ℕ} b 1 0 + 0 ≡ cond {A = ℕ} (b || false) 1 0
    one true = refl
    one false = refl

-- a port's messages, in the order of the driver's turns
pub record InTurns {P : Type 0} (side : Side) (p q : Msg P → Bool) (log : List (LogEntry P)) : Type 0 where
  pub order : before p q (puts (port_journal side log)) ≡ before (turn_puts side p) (turn_puts side q) (map (λ entry. entry.turn) log)
  pub has : list_any q (puts (port_journal side log)) ≡ list_any (turn_puts side q) (map (λ entry. entry.turn) log)
  pub often : count q (puts (port_journal side log)) ≡ count (λ entry. turn_puts side q entry.turn) log

pub in_turns : {P : Type 0} (side : Side) (p q : Msg P → Bool) (log : List (LogEntry P)) → InTurns side p q log
in_turns side p q [] = record { order = refl; has = refl; often = refl }
in_turns side p q (entry ∷ log) =
    let later = in_turns side p q log in
    let parts : puts (port_journal side (entry ∷ log)) ≡ of_turn side entry.turn ++ puts (port_journal side log)
    = puts-append (at_port side entry.number entry.turn) (port_journal side log) ∙ ap (λ ms. ms ++ puts (port_journal side log)) (puts-at_port side entry.number entry.turn) in
    record {
      order = ap (before p q) parts ∙ before-once p q (of_turn side entry.turn) (puts (port_journal side log)) (turn_once side entry.turn) ∙ ap (λ b. cond (turn_puts side q entry.turn) false (turn_puts side p entry.turn || b)) later.order;
      has = ap (list_any q) parts ∙ any-append q (of_turn side entry.turn) (puts (port_journal side log)) ∙ ap (λ b. turn_puts side q entry.turn || b) later.has;
      often = ap (count q) parts ∙ omega (arith, count-append q (of_turn side entry.turn) (puts (port_journal side log)), count-once q (of_turn side entry.turn) (turn_once side entry.turn), later.often);
    }

-- and in the order of the events, where the closes are left out
record InEvents {P : Type 0} (side : Side) (p q : Msg P → Bool) (turns : List (DriverTurn P)) : Type 0 where
  order : before (turn_puts side p) (turn_puts side q) turns ≡ before (event_puts side p) (event_puts side q) (admitted turns)
  has : list_any (turn_puts side q) turns ≡ list_any (event_puts side q) (admitted turns)

in_events : {P : Type 0} (side : Side) (p q : Msg P → Bool) → p (close_of side) ≡ false → q (close_of side) ≡ false → (turns : List (DriverTurn P)) → InEvents side p q turns
in_events side p q no_p no_q [] = record { order = refl; has = refl }
in_events side p q no_p no_q (admission event ∷ turns) =
    let later = in_events side p q no_p no_q turns in
    record { order = ap (λ b. cond (event_puts side q event) false (event_puts side p event || b)) later.order; has = ap (λ b. event_puts side q event || b) later.has }
in_events side p q no_p no_q (receipt port message ∷ turns) = let later = in_events side p q no_p no_q turns in record { order = later.order; has = later.has }
in_events side p q no_p no_q (closing ∷ turns) = let later = in_events side p q no_p no_q turns in record { order = rw (no_p, no_q) later.order; has = rw no_q later.has }

-- a port's messages in the order of the events
pub record InOrder {P : Type 0} (side : Side) (p q : Msg P → Bool) (log : List (LogEntry P)) : Type 0 where
  pub order : before p q (puts (port_journal side log)) ≡ before (event_puts side p) (event_puts side q) (admitted (map (λ entry. entry.turn) log))
  pub has : list_any q (puts (port_journal side log)) ≡ list_any (event_puts side q) (admitted (map (λ entry. entry.turn) log))

pub in_order : {P : Type 0} (side : Side) (p q : Msg P → Bool) → p (close_of side) ≡ false → q (close_of side) ≡ false → (log : List (LogEntry P)) → InOrder side p q log
in_order side p q no_p no_q log =
    let turns = in_turns side p q log in
    let events = in_events side p q no_p no_q (map (λ entry. entry.turn) log) in
    record { order = turns.order ∙ events.order; has = turns.has ∙ events.has }

-- no close is a row or an expiry
pub close_no_row : (P : Type 0) (side : Side) (number : ℕ) → is_row {P = P} side number (close_of side) ≡ false
close_no_row P Left number = refl
close_no_row P Right number = refl

pub close_no_expiry : (P : Type 0) (side : Side) (number : ℕ) → is_expiry {P = P} (opposite side) number (close_of side) ≡ false
close_no_expiry P Left number = refl
close_no_expiry P Right number = refl

-- the event that puts an expiry
pub puts_expiry : (P : Type 0) (side : Side) (at of : ℕ) → event_puts {P = P} side (is_expiry (opposite side) of) (Expire (record { 0 = at }) (opposite side) (record { 0 = of })) ≡ true
puts_expiry P Left at of = grind (arith, nat_tests)
puts_expiry P Right at of = grind (arith, nat_tests)

pub row_of_event : {P : Type 0} (side : Side) (at : ℕ) (event : Event P) → event_puts side (is_row side at) event ≡ true → number event ≡ at
row_of_event Left at (Arrive other Left row) e = grind (arith, nat_tests, e)
row_of_event Left at (Expire other Left of) e = absurd (true≢false (sym e))
row_of_event Left at (Quiet other Left) e = absurd (true≢false (sym e))
row_of_event Right at (Arrive other Right row) e = grind (arith, nat_tests, e)
row_of_event Right at (Expire other Left of) e = absurd (true≢false (sym e))
row_of_event Right at (Quiet other Left) e = absurd (true≢false (sym e))
row_of_event side at event e = absurd (true≢false (sym e))

pub expiry_of_event : {P : Type 0} (side : Side) (of : ℕ) (event : Event P) → event_puts side (is_expiry (opposite side) of) event ≡ true
    → (at : ℕ) × (event ≡ Expire (record { 0 = at }) (opposite side) (record { 0 = of }))
expiry_of_event Left of (Expire at Right other) e = let same : other.0 ≡ of = grind (arith, nat_tests, e) in (at.0, ap (λ k. Expire at Right (record { 0 = k })) same)
expiry_of_event Left of (Arrive at Left row) e = absurd (true≢false (sym e))
expiry_of_event Left of (Quiet at Left) e = absurd (true≢false (sym e))
expiry_of_event Right of (Expire at Left other) e = let same : other.0 ≡ of = grind (arith, nat_tests, e) in (at.0, ap (λ k. Expire at Left (record { 0 = k })) same)
expiry_of_event Right of (Arrive at Left row) e = absurd (true≢false (sym e))
expiry_of_event Right of (Quiet at Left) e = absurd (true≢false (sym e))
expiry_of_event side of event e = absurd (true≢false (sym e))
