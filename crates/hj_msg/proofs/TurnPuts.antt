-- What turns put, and what the driver puts at a port, counted.
use Rattle.std.proofs.Common.{◌≡◌, ℕ, ◌+◌, ◌<◌, ◌≤◌, Bool, true, false, cond, ◌==◌, nat_lt, List, [], ◌∷◌, ◌++◌, map, refl, ap, sym, ◌∙◌, arith, append-nil, Some, None, Option}
use Rattle.std.specs.Option.{IfSome, option_to_list}
use Rattle.std.specs.List.{flat_map, AllByRecursion}
use Rattle.std.proofs.lemmas.Bool.Decides.{nat_tests}
use Rattle.hj_base.specs.declared.numbers.Side.{Side}
use Rattle.hj_base.specs.declared.numbers.Side.TheVariants.{Left, Right}
use Rattle.hj_base.specs.Journals.{Entry, IsPrefix, puts}
use Rattle.hj_msg.specs.declared.event.Event.{Event}
use Rattle.hj_msg.specs.declared.event.Event.TheVariants.{Arrive, Expire, Quiet}
use Rattle.hj_msg.specs.declared.message.Msg.{Msg}
use Rattle.hj_msg.specs.declared.message.Msg.TheVariants.{R, AckS, EndS, QuietL, S, EndR, QuietR}
use Rattle.hj_msg.specs.declared.message.Report.{Report}
use Rattle.hj_msg.specs.Event.{number, NumbersFrom}
use Rattle.hj_msg.specs.Core.{State, empty_state, after, sends, only_if, is_last}
use Rattle.hj_msg.specs.Turns.{Turn, Turns, IsCut, AreWhole, TakesTurns, all_of, at_left, at_right}
use Rattle.hj_msg.specs.Driver.{DriverTurn, admission, receipt, closing, admitted}
use Rattle.hj_msg.specs.Run.{Run, IsRun, LogEntry, at_port, port_journal}
use Rattle.hj_msg.proofs.Counts.{count, count-append, count-prefix, count-flat_map-le, count-flat_map-none}
use Rattle.hj_msg.proofs.Ends.{puts-append, puts-left, puts-right}
use Rattle.hj_msg.proofs.Sides.{is_mark, is_row, goes_with, opposite, sends_on}

-- where each message of one kind is of another, there are no more of the one
pub count-goes : {P : Type 0} (p goes : Msg P → Bool) → ((m : Msg P) → p m ≡ true → goes m ≡ true) → (ms : List (Msg P))
    → count p ms ≤ count goes ms
count-goes p goes ways [] = omega arith
count-goes p goes ways (m ∷ ms) = grind (arith, ways m, count-goes p goes ways ms)

-- what is sent only if something holds
pub count-only_if : {P : Type 0} (p : Msg P → Bool) (holds : Bool) (message : Msg P) → p message ≡ false
    → count p (only_if holds message) ≡ 0
count-only_if p true message e = rw e refl
count-only_if p false message e = refl

pub count-both : {P : Type 0} (p : Msg P → Bool) (here there : Bool) (one other : Msg P) → p one ≡ false → p other ≡ false
    → count p (only_if here one ++ only_if there other) ≡ 0
count-both p here there one other e f =
    omega (arith, count-append p (only_if here one) (only_if there other), count-only_if p here one e, count-only_if p there other f)

-- What is marked is sent on once, a row too, and nothing is sent against its way.
pub mark_sent : {P : Type 0} (side : Side) (number place n : ℕ) (m : Msg P)
    → count (is_mark side number) (sends_on side place n m) ≡ cond (is_mark side number m) 1 0
mark_sent Left number place n (R other row) = omega arith
mark_sent Left number place n (QuietL other) = omega arith
mark_sent Left number place n (S other row) =
    count-both (is_mark Left number) (nat_lt (place + 1) n) (place == 0) (AckS other) (EndS other) refl refl
mark_sent Left number place n other = refl
mark_sent Right number place n (S other row) = omega arith
mark_sent Right number place n (QuietR other) = omega arith
mark_sent Right number place n (R other row) = count-only_if (is_mark Right number) (is_last place n) (EndR other) refl
mark_sent Right number place n other = refl

pub row_sent : {P : Type 0} (side : Side) (number place n : ℕ) (m : Msg P)
    → count (is_row side number) (sends_on side place n m) ≡ cond (is_row side number m) 1 0
row_sent Left number place n (R other row) = omega arith
row_sent Left number place n (S other row) =
    count-both (is_row Left number) (nat_lt (place + 1) n) (place == 0) (AckS other) (EndS other) refl refl
row_sent Left number place n other = refl
row_sent Right number place n (S other row) = omega arith
row_sent Right number place n (R other row) = count-only_if (is_row Right number) (is_last place n) (EndR other) refl
row_sent Right number place n other = refl

pub against_unsent : {P : Type 0} (side : Side) (place n : ℕ) (m : Msg P) → count (goes_with (opposite side)) (sends_on side place n m) ≡ 0
against_unsent Left place n (S other row) =
    count-both (goes_with Right) (nat_lt (place + 1) n) (place == 0) (AckS other) (EndS other) refl refl
against_unsent Left place n other = refl
against_unsent Right place n (R other row) = count-only_if (goes_with Left) (is_last place n) (EndR other) refl
against_unsent Right place n other = refl

-- Every turn, a cut one too, puts a prefix of what the core sends.
pub record PutsOnly {P : Type 0} (place n : ℕ) (turn : Turn P) : Type 0 where
  pub left : IsPrefix turn.to_left (sends place n turn.message).left
  pub right : IsPrefix turn.to_right (sends place n turn.message).right

prefix_of_same : {X : Type 0} (xs ys : List X) → xs ≡ ys → IsPrefix xs ys
prefix_of_same xs ys e = record { rest = []; is = sym e ∙ sym (append-nil xs) }

whole_puts : {P : Type 0} (matches : P → P → Bool) (place n : ℕ) (state : State P) (turns others : List (Turn P))
    → AreWhole matches place n state turns → AllByRecursion (PutsOnly place n) others → AllByRecursion (PutsOnly place n) (turns ++ others)
whole_puts matches place n state [] others whole rest = rest
whole_puts matches place n state (turn ∷ turns) others whole rest =
    (record { left = prefix_of_same _ _ whole.0.left; right = prefix_of_same _ _ whole.0.right }, whole_puts matches place n (after place n state turn.message) turns others whole.1 rest)

cut_puts : {P : Type 0} (place n : ℕ) (cut : Option (Turn P)) → IfSome cut (IsCut place n)
    → AllByRecursion (PutsOnly place n) (option_to_list cut)
cut_puts place n None is = tt
cut_puts place n (Some turn) is = (record { left = is.left; right = is.right }, tt)

pub all_put : {P : Type 0} {matches : P → P → Bool} {place n : ℕ} {turns : Turns P} {left right : List (Entry (Msg P))} {reports : List (Entry (Report P))}
    → TakesTurns matches place n turns left right reports → AllByRecursion (PutsOnly place n) (all_of turns)
all_put {matches = matches} {place = place} {n = n} {turns = turns} core =
    whole_puts matches place n empty_state turns.whole (option_to_list turns.cut) core.whole (cut_puts place n turns.cut core.cut)

-- what a turn put on the way of a side, and the end at which it put that
abbrev pub puts_on : {P : Type 0} → Side → Turn P → List (Msg P)
puts_on Left turn = turn.to_right
puts_on Right turn = turn.to_left

abbrev pub end_on : {P : Type 0} → Side → Turn P → List (Entry (Msg P))
end_on Left turn = at_right turn
end_on Right turn = at_left turn

pub puts_only : {P : Type 0} {place n : ℕ} {turn : Turn P} (side : Side) → PutsOnly place n turn
    → IsPrefix (puts_on side turn) (sends_on side place n turn.message)
puts_only Left only = only.right
puts_only Right only = only.left

pub puts_end : {P : Type 0} (side : Side) (turns : List (Turn P)) → puts (flat_map (end_on side) turns) ≡ flat_map (puts_on side) turns
puts_end Left turns = puts-right turns
puts_end Right turns = puts-left turns

-- Turns put there no more messages of a kind than they handled, where a core sends on each at most once, and none where it sends none.
module _ {P : Type 0} (side : Side) (p : Msg P → Bool) (place n : ℕ) where
  pub put_once : ((m : Msg P) → count p (sends_on side place n m) ≡ cond (p m) 1 0) → (turns : List (Turn P))
      → AllByRecursion (PutsOnly place n) turns
      → count p (puts (flat_map (end_on side) turns)) ≤ count p (map (λ turn. turn.message) turns)
  put_once sent turns all = rw (puts_end side turns) (count-flat_map-le p (puts_on side) (λ turn. turn.message) turns (each turns all))
    where
      each : (turns : List (Turn P)) → AllByRecursion (PutsOnly place n) turns
          → AllByRecursion (λ turn. count p (puts_on side turn) ≤ cond (p turn.message) 1 0) turns
      each [] all = tt
      each (turn ∷ turns) all = (omega (arith, count-prefix p (puts_only side all.0), sent turn.message), each turns all.1)

  pub put_none : ((m : Msg P) → count p (sends_on side place n m) ≡ 0) → (turns : List (Turn P)) → AllByRecursion (PutsOnly place n) turns
      → count p (puts (flat_map (end_on side) turns)) ≡ 0
  put_none sent turns all = rw (puts_end side turns) (count-flat_map-none p (puts_on side) turns (each turns all))
    where
      each : (turns : List (Turn P)) → AllByRecursion (PutsOnly place n) turns
          → AllByRecursion (λ turn. count p (puts_on side turn) ≡ 0) turns
      each [] all = tt
      each (turn ∷ turns) all = (omega (arith, count-prefix p (puts_only side all.0), sent turn.message), each turns all.1)

-- no number stands twice among events
below : {P : Type 0} (at first : ℕ) (events : List (Event P)) → NumbersFrom first events → at < first
    → count (λ event. number event == at) events ≡ 0
below at first [] is h = refl
below at first (event ∷ events) is h = grind (arith, nat_tests, is.0, below at (first + 1) events is.1)

once : {P : Type 0} (at first : ℕ) (events : List (Event P)) → NumbersFrom first events → count (λ event. number event == at) events ≤ 1
once at first [] is = omega arith
once at first (event ∷ events) is = grind (arith, nat_tests, is.0, once at (first + 1) events is.1, below at (first + 1) events is.1)

-- What the driver puts at the port of a side goes its way, and under each number it marks one thing at most.
pub against_unput : {P : Type 0} (side : Side) (n : ℕ) (turn : DriverTurn P)
    → count (goes_with (opposite side)) (puts (at_port side n turn)) ≡ 0
against_unput Left n (admission (Arrive other Left row)) = refl
against_unput Left n (admission (Expire other Left of)) = refl
against_unput Left n (admission (Quiet other Left)) = refl
against_unput Left n (receipt Left message) = refl
against_unput Right n (admission (Arrive other Left row)) = refl
against_unput Right n (admission (Expire other Left of)) = refl
against_unput Right n (admission (Quiet other Left)) = refl
against_unput Right n (receipt Left message) = refl
against_unput side n turn = refl

mark_put : {P : Type 0} (side : Side) (at n : ℕ) (turn : DriverTurn P)
    → count (is_mark side at) (puts (at_port side n turn)) ≤ count (λ event. number event == at) (admitted (turn ∷ []))
mark_put Left at n (admission (Arrive other Left row)) = omega arith
mark_put Left at n (admission (Expire other Left of)) = omega arith
mark_put Left at n (admission (Quiet other Left)) = omega arith
mark_put Left at n (receipt Left message) = omega arith
mark_put Right at n (admission (Arrive other Left row)) = omega arith
mark_put Right at n (admission (Expire other Left of)) = omega arith
mark_put Right at n (admission (Quiet other Left)) = omega arith
mark_put Right at n (receipt Left message) = omega arith
mark_put side at n turn = omega arith

pub admitted-cons : {P : Type 0} (turn : DriverTurn P) (log : List (DriverTurn P))
    → admitted (turn ∷ log) ≡ admitted (turn ∷ []) ++ admitted log
admitted-cons (admission event) log = refl
admitted-cons (receipt port message) log = refl
admitted-cons closing log = refl

-- the count of what a whole log put on a port, against the events that it admitted
count-port : {P : Type 0} (p : Msg P → Bool) (at : ℕ) (port : Side)
    → ((n : ℕ) (turn : DriverTurn P) → count p (puts (at_port port n turn)) ≤ count (λ event. number event == at) (admitted (turn ∷ [])))
    → (log : List (LogEntry P))
    → count p (puts (port_journal port log)) ≤ count (λ event. number event == at) (admitted (map (λ entry. entry.turn) log))
count-port p at port each [] = omega arith
count-port p at port each (entry ∷ log) =
    omega (
      arith,
      ap (count p) (puts-append (at_port port entry.number entry.turn) (port_journal port log)),
      count-append p (puts (at_port port entry.number entry.turn)) (puts (port_journal port log)),
      ap (count (λ event. number event == at)) (admitted-cons entry.turn (map (λ later. later.turn) log)),
      count-append (λ event. number event == at) (admitted (entry.turn ∷ [])) (admitted (map (λ later. later.turn) log)),
      each entry.number entry.turn,
      count-port p at port each log,
    )

pub count-port-none : {P : Type 0} (p : Msg P → Bool) (port : Side)
    → ((n : ℕ) (turn : DriverTurn P) → count p (puts (at_port port n turn)) ≡ 0)
    → (log : List (LogEntry P)) → count p (puts (port_journal port log)) ≡ 0
count-port-none p port each [] = refl
count-port-none p port each (entry ∷ log) =
    omega (
      arith,
      ap (count p) (puts-append (at_port port entry.number entry.turn) (port_journal port log)),
      count-append p (puts (at_port port entry.number entry.turn)) (puts (port_journal port log)),
      each entry.number entry.turn,
      count-port-none p port each log,
    )

module _ {P : Type 0} (run : Run P) (is : IsRun run) where
  events_once : (at : ℕ) → count (λ event. number event == at) (admitted (map (λ entry. entry.turn) is.log)) ≤ 1
  events_once at =
      omega (arith, count-prefix (λ event. number event == at) is.lawful.in_order, once at 0 run.events is.well_formed.numbered)

  pub mark_put_once : (side : Side) (at : ℕ) → count (is_mark side at) (puts (port_journal side is.log)) ≤ 1
  mark_put_once side at = omega (arith, count-port (is_mark side at) at side (mark_put side at) is.log, events_once at)
