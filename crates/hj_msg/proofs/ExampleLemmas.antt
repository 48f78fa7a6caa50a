-- The whole run of two cores keeps every rule of a run, and is complete.
use Rattle.std.proofs.Common.{◌≡◌, ℕ, zero, suc, ◌+◌, ◌<◌, ◌≤◌, Bool, true, false, List, [], ◌∷◌, length, map, take, refl, ap, sym, ◌∙◌, arith, None, append-nil, lit<, true≢false}
use Rattle.std.specs.List.{Contains, list_any}
use Rattle.std.proofs.lemmas.List.Folds.{list_any_at}
use Rattle.hj_base.specs.declared.numbers.Side.{Side}
use Rattle.hj_base.specs.declared.numbers.Side.TheVariants.{Left, Right}
use Rattle.hj_base.specs.Journals.{Entry, IsInTurn, puts, takes}
use Rattle.hj_base.specs.Link.{Link, Agrees, AgreesOneWay, Flows}
use Rattle.hj_msg.specs.declared.event.Event.TheVariants.{Arrive}
use Rattle.hj_msg.specs.declared.message.Msg.{Msg}
use Rattle.hj_msg.specs.declared.message.Msg.TheVariants.{R, AckS, EndS, CloseL, S, EndR, CloseR}
use Rattle.hj_msg.specs.declared.message.Report.TheVariants.{Ended}
use Rattle.hj_msg.specs.Event.{IsWellFormed, NamesLive}
use Rattle.hj_msg.specs.Core.{empty_state}
use Rattle.hj_msg.specs.Turns.{Turns, TakesTurns}
use Rattle.hj_msg.specs.Driver.{DriverTurn, admission, receipt, closing, outstanding, IsLawful, ClosesLast, HasComeOut}
use Rattle.hj_msg.specs.Run.{IsRun, IsComplete, LogEntry}
use Rattle.hj_msg.specs.Examples.{equal, event, two_events, whole_link, whole_queue, whole_run}
use Rattle.hj_msg.proofs.Moments.{walked, strictly_increasing, in_time, in_time_from}
use Rattle.hj_msg.proofs.NonFalling.{non_decreasing}
use Rattle.hj_msg.proofs.CoreTurns.{Received, whole_turns, are_whole}

abbrev r : ℕ → Side → Msg ℕ → Received ℕ
r number end message = record { number = number; end = end; message = message }

abbrev received_of_0 : List (Received ℕ)
received_of_0 = r 2 Left (R (event 0) 7) ∷ r 5 Right (S (event 1) 7) ∷ r 6 Right (EndR (event 0)) ∷ r 14 Left CloseL ∷ r 16 Right CloseR ∷ []

abbrev received_of_1 : List (Received ℕ)
received_of_1 = r 3 Right (S (event 1) 7) ∷ r 4 Left (R (event 0) 7) ∷ r 7 Left (AckS (event 1)) ∷ r 8 Left (EndS (event 1)) ∷ r 15 Right CloseR ∷ r 17 Left CloseL ∷ []

abbrev turns_of : ℕ → List (Received ℕ) → Turns ℕ
turns_of place rs = record { whole = whole_turns equal place 2 empty_state rs; cut = None }

abbrev pub turns : ℕ → Turns ℕ
turns zero = turns_of 0 received_of_0
turns (suc k) = turns_of 1 received_of_1

abbrev e : ℕ → DriverTurn ℕ → LogEntry ℕ
e number turn = record { number = number; turn = turn }

abbrev log : List (LogEntry ℕ)
log =
    e 0 (admission (Arrive (event 0) Left 7)) ∷ e 1 (admission (Arrive (event 1) Right 7)) ∷ e 9 (receipt Right (R (event 0) 7)) ∷ e 10 (receipt Right (EndS (event 1)))
    ∷ e 11 (receipt Left (S (event 1) 7)) ∷ e 12 (receipt Left (EndR (event 0))) ∷ e 13 closing ∷ e 18 (receipt Left CloseR) ∷ e 19 (receipt Right CloseL) ∷ []

steps_0 : TakesTurns equal 0 2 (turns 0) (whole_link 0).right (whole_link 1).left (whole_queue 0).sender
steps_0 = record {
  rising = strictly_increasing 2 (5 ∷ 6 ∷ 14 ∷ 16 ∷ []) (omega arith);
  whole = are_whole equal 0 2 empty_state received_of_0;
  cut = tt;
  left = refl;
  right = refl;
  reports = refl;
}

steps_1 : TakesTurns equal 1 2 (turns 1) (whole_link 1).right (whole_link 2).left (whole_queue 1).sender
steps_1 = record {
  rising = strictly_increasing 3 (4 ∷ 7 ∷ 8 ∷ 15 ∷ 17 ∷ []) (omega arith);
  whole = are_whole equal 1 2 empty_state received_of_1;
  cut = tt;
  left = refl;
  right = refl;
  reports = refl;
}

steps : (k : ℕ) → k < 2 → TakesTurns equal k 2 (turns k) (whole_link k).right (whole_link (k + 1)).left (whole_queue k).sender
steps zero low = steps_0
steps (suc zero) low = steps_1
steps (suc (suc k)) low = absurd (omega arith)

-- all that was put was taken
flows : {M : Type 0} (sender receiver : List (Entry M)) → takes receiver ≡ puts sender → length (puts sender) ≤ 6 → Flows 6 sender receiver
flows sender receiver same few = record { taken = record { rest = []; is = sym same ∙ sym (append-nil (takes receiver)) }; room = omega (arith, ap length same) }

agrees_from : (link : Link (Msg ℕ)) → takes link.right ≡ puts link.left → length (puts link.left) ≤ 6 → takes link.left ≡ puts link.right → length (puts link.right) ≤ 6
    → in_time link.left link.right ≡ true → Agrees 6 link
agrees_from link left few_left right few_right timely =
    record { rightwards = flows link.left link.right left few_left; leftwards = flows link.right link.left right few_right; in_time = in_time_from link.left link.right timely }

agrees : (k : ℕ) → k ≤ 2 → Agrees 6 (whole_link k)
agrees zero low = agrees_from (whole_link 0) refl (omega arith) refl (omega arith) refl
agrees (suc zero) low = agrees_from (whole_link 1) refl (omega arith) refl (omega arith) refl
agrees (suc (suc k)) low = agrees_from (whole_link 2) refl (omega arith) refl (omega arith) refl

links_in_turn : (k : ℕ) → k ≤ 2 → IsInTurn (whole_link k).left × IsInTurn (whole_link k).right
links_in_turn zero low = (non_decreasing 0 (0 ∷ 11 ∷ 12 ∷ 13 ∷ 18 ∷ []) (omega arith), non_decreasing 0 (2 ∷ 5 ∷ 6 ∷ 14 ∷ 16 ∷ []) (omega arith))
links_in_turn (suc zero) low = (non_decreasing 0 (2 ∷ 5 ∷ 5 ∷ 5 ∷ 6 ∷ 14 ∷ 16 ∷ []) (omega arith), non_decreasing 0 (3 ∷ 4 ∷ 4 ∷ 7 ∷ 8 ∷ 15 ∷ 17 ∷ []) (omega arith))
links_in_turn (suc (suc k)) low = (non_decreasing 0 (3 ∷ 4 ∷ 8 ∷ 15 ∷ 17 ∷ []) (omega arith), non_decreasing 0 (1 ∷ 9 ∷ 10 ∷ 13 ∷ 19 ∷ []) (omega arith))

queues : (k : ℕ) → k < 2 → AgreesOneWay 6 (whole_queue k)
queues zero low = record { flows = flows (whole_queue 0).sender (whole_queue 0).receiver refl (omega arith) }
queues (suc k) low = record { flows = flows (whole_queue 1).sender (whole_queue 1).receiver refl (omega arith) }

queues_in_turn : (k : ℕ) → k < 2 → IsInTurn (whole_queue k).sender × IsInTurn (whole_queue k).receiver
queues_in_turn zero low = (non_decreasing 0 (2 ∷ 5 ∷ 16 ∷ []) (omega arith), non_decreasing 0 (20 ∷ 21 ∷ 22 ∷ []) (omega arith))
queues_in_turn (suc k) low = (non_decreasing 0 (3 ∷ 4 ∷ 17 ∷ []) (omega arith), non_decreasing 0 (23 ∷ 24 ∷ 25 ∷ []) (omega arith))

pub events_are : IsWellFormed two_events
events_are = record { numbered = (refl, (refl, tt)); live = λ earlier later event is. walked NamesLive [] two_events (tt, (tt, tt)) earlier later event is }

is_closing : DriverTurn ℕ → Bool
is_closing (admission event) = false
is_closing (receipt port message) = false
is_closing closing = true

not_closed : (earlier : List (DriverTurn ℕ)) → list_any is_closing earlier ≡ false → ¬ (Contains earlier closing)
unfolding is_closing
not_closed earlier none has = true≢false (sym (list_any_at is_closing earlier has.0 closing has.1 (ap is_closing has.2)) ∙ none)

-- what the rules ask of each turn of a log
abbrev pub rule_of_flight : List (DriverTurn ℕ) → DriverTurn ℕ → Type 0
rule_of_flight earlier (admission event) = length (outstanding earlier) < 2
rule_of_flight earlier (receipt port message) = Unit {0}
rule_of_flight earlier closing = Unit {0}

abbrev pub rule_of_expiry : List (DriverTurn ℕ) → DriverTurn ℕ → Type 0
rule_of_expiry earlier (admission event) = HasComeOut event earlier
rule_of_expiry earlier (receipt port message) = Unit {0}
rule_of_expiry earlier closing = Unit {0}

abbrev rule_of_closes : List (DriverTurn ℕ) → DriverTurn ℕ → Type 0
rule_of_closes earlier (admission event) = Unit {0}
rule_of_closes earlier (receipt port message) = Unit {0}
rule_of_closes earlier closing = ClosesLast two_events earlier

abbrev driver_turns : List (DriverTurn ℕ)
driver_turns = map (λ entry. entry.turn) log

lawful : IsLawful 2 two_events driver_turns
unfolding is_closing
lawful = record {
  in_order = record { rest = []; is = refl };
  in_flight = λ earlier later event is. walked rule_of_flight [] driver_turns (lit< tt, (lit< tt, (tt, (tt, (tt, (tt, (tt, (tt, (tt, tt))))))))) earlier later (admission event) is;
  come_out = λ earlier later event is. walked rule_of_expiry [] driver_turns (tt, (tt, (tt, (tt, (tt, (tt, (tt, (tt, (tt, tt))))))))) earlier later (admission event) is;
  closes = λ earlier later is. walked rule_of_closes [] driver_turns
      (tt, (tt, (tt, (tt, (tt, (tt, (record { all = refl; none_outstanding = refl; once = not_closed (take 6 driver_turns) refl }, (tt, (tt, tt))))))))) earlier later closing is;
}

pub is_run : IsRun whole_run
is_run = record {
  some_core = omega arith;
  well_formed = events_are;
  links = agrees;
  links_in_turn = links_in_turn;
  queues = queues;
  queues_in_turn = queues_in_turn;
  turns = turns;
  steps = steps;
  log = log;
  rising = strictly_increasing 0 (1 ∷ 9 ∷ 10 ∷ 11 ∷ 12 ∷ 13 ∷ 18 ∷ 19 ∷ []) (omega arith);
  left_port = refl;
  right_port = refl;
  lawful = lawful;
}

pub turns_are : (k : ℕ) → is_run.turns k ≡ turns k
unfolding is_run
turns_are k = refl

uncut : (k : ℕ) → k < 2 → (turns k).cut ≡ None
uncut zero low = refl
uncut (suc k) low = refl

ended : (k : ℕ) → k < 2 → Contains (takes (whole_queue k).receiver) Ended
ended zero low = (2, lit< tt, refl)
ended (suc k) low = (2, lit< tt, refl)

pub is_complete : (is : IsRun whole_run) × IsComplete is
unfolding is_run
is_complete = (is_run, record { uncut = uncut; all_put = refl; close_left = (8, lit< tt, refl); close_right = (7, lit< tt, refl); ended = ended })
