-- The runs of two cores to which the laws of meeting apply.
use Rattle.std.proofs.Common.{◌≡◌, ℕ, zero, suc, ◌+◌, ◌<◌, ◌≤◌, Bool, true, false, List, [], ◌∷◌, map, refl, sym, ◌∙◌, subst, arith, None, lit<, lit≤, true≢false}
use Rattle.std.specs.Prelude.{slice_index_or}
use Rattle.std.specs.List.{list_any}
use Rattle.hj_base.specs.declared.numbers.Side.{Side}
use Rattle.hj_base.specs.declared.numbers.Side.TheVariants.{Left, Right}
use Rattle.hj_base.specs.Journals.{IsInTurn, IsPrefix, puts}
use Rattle.hj_base.specs.Link.{Agrees, AgreesOneWay}
use Rattle.hj_msg.specs.declared.event.Event.{Event}
use Rattle.hj_msg.specs.declared.event.Event.TheVariants.{Arrive, Expire, Quiet}
use Rattle.hj_msg.specs.declared.message.Msg.{Msg}
use Rattle.hj_msg.specs.declared.message.Msg.TheVariants.{R, AckS, EndS, CloseL, S, EndR, CloseR}
use Rattle.hj_msg.specs.Event.{Expires, IsWellFormed, NamesLive}
use Rattle.hj_msg.specs.Core.{empty_state}
use Rattle.hj_msg.specs.Turns.{Turns, TakesTurns, handled}
use Rattle.hj_msg.specs.Driver.{DriverTurn, admission, receipt, closing, IsLawful}
use Rattle.hj_msg.specs.Run.{IsRun, LogEntry}
use Rattle.hj_msg.specs.Messages.{is_R, is_S}
use Rattle.hj_msg.specs.Valid.{IsMatch}
use Rattle.hj_msg.specs.Crossing.{HasBefore}
use Rattle.hj_msg.specs.Met.{AreReportsOf}
use Rattle.hj_msg.specs.Meeting.{AllReport, CrossAt}
use Rattle.hj_msg.specs.Examples.{equal, event, joined, partner, two_events, whole_run, whole_lists, whole_queue}
use Rattle.hj_msg.specs.MeetingExamples.{Meets, reports_of, left_first_link, left_first_queue, left_first_run, right_then_left, right_first_link, right_first_queue, right_first_run}
use Rattle.hj_msg.proofs.Members.{any_of}
use Rattle.hj_msg.proofs.Moments.{walked, strictly_increasing, in_time_from}
use Rattle.hj_msg.proofs.NonFalling.{non_decreasing}
use Rattle.hj_msg.proofs.CoreTurns.{Received, whole_turns, are_whole}
use Rattle.hj_msg.proofs.ExampleLemmas.{is_run, turns_are, events_are, turns, rule_of_flight, rule_of_expiry}

abbrev r : ℕ → Side → Msg ℕ → Received ℕ
r number end message = record { number = number; end = end; message = message }

abbrev e : ℕ → DriverTurn ℕ → LogEntry ℕ
e number turn = record { number = number; turn = turn }

-- events without an expiry
is_expiry : Event ℕ → Bool
is_expiry (Arrive at side row) = false
is_expiry (Expire at side of) = true
is_expiry (Quiet at side) = false

no_expiry : (events : List (Event ℕ)) → list_any is_expiry events ≡ false → (of at : ℕ) → ¬ (Expires events of at)
unfolding is_expiry
no_expiry events none of at expires = true≢false (sym (any_of is_expiry events (Expire (record { 0 = at }) expires.0 (record { 0 = of })) expires.1 refl) ∙ none)

-- A log without the closes, of which a part of the rules says nothing.
abbrev unclosed : DriverTurn ℕ → Type 0
unclosed (admission event) = Unit {0}
unclosed (receipt port message) = Unit {0}
unclosed closing = ⊥

-- both cores handle the left row first
abbrev left_first_received : ℕ → List (Received ℕ)
left_first_received zero = r 1 Left (R (event 0) 7) ∷ r 5 Right (EndR (event 0)) ∷ r 8 Right (S (event 1) 7) ∷ []
left_first_received (suc k) = r 2 Left (R (event 0) 7) ∷ r 7 Right (S (event 1) 7) ∷ []

abbrev left_first_turns : ℕ → Turns ℕ
left_first_turns zero = record { whole = whole_turns equal 0 2 empty_state (left_first_received 0); cut = None }
left_first_turns (suc k) = record { whole = whole_turns equal 1 2 empty_state (left_first_received 1); cut = None }

left_first_steps : (k : ℕ) → k < 2 → TakesTurns equal k 2 (left_first_turns k) (left_first_link k).right (left_first_link (k + 1)).left (left_first_queue k).sender
left_first_steps zero low = record {
  rising = strictly_increasing 1 (5 ∷ 8 ∷ []) (omega arith);
  whole = are_whole equal 0 2 empty_state (left_first_received 0);
  cut = tt;
  left = refl;
  right = refl;
  reports = refl;
}
left_first_steps (suc zero) low = record {
  rising = strictly_increasing 2 (7 ∷ []) (omega arith);
  whole = are_whole equal 1 2 empty_state (left_first_received 1);
  cut = tt;
  left = refl;
  right = refl;
  reports = refl;
}
left_first_steps (suc (suc k)) low = absurd (omega arith)

left_first_agrees : (k : ℕ) → k ≤ 2 → Agrees 6 (left_first_link k)
left_first_agrees zero low = record {
  rightwards = record { taken = record { rest = []; is = refl }; room = lit≤ tt };
  leftwards = record { taken = record { rest = S (event 1) 7 ∷ []; is = refl }; room = lit≤ tt };
  in_time = in_time_from (left_first_link 0).left (left_first_link 0).right refl;
}
left_first_agrees (suc zero) low = record {
  rightwards = record { taken = record { rest = AckS (event 1) ∷ EndS (event 1) ∷ []; is = refl }; room = lit≤ tt };
  leftwards = record { taken = record { rest = []; is = refl }; room = lit≤ tt };
  in_time = in_time_from (left_first_link 1).left (left_first_link 1).right refl;
}
left_first_agrees (suc (suc k)) low = record {
  rightwards = record { taken = record { rest = []; is = refl }; room = lit≤ tt };
  leftwards = record { taken = record { rest = []; is = refl }; room = lit≤ tt };
  in_time = in_time_from (left_first_link 2).left (left_first_link 2).right refl;
}

left_first_in_turn : (k : ℕ) → k ≤ 2 → IsInTurn (left_first_link k).left × IsInTurn (left_first_link k).right
left_first_in_turn zero low = (non_decreasing 0 (0 ∷ 6 ∷ []) (omega arith), non_decreasing 0 (1 ∷ 5 ∷ 8 ∷ []) (omega arith))
left_first_in_turn (suc zero) low = (non_decreasing 0 (1 ∷ 5 ∷ 8 ∷ 8 ∷ 8 ∷ []) (omega arith), non_decreasing 0 (2 ∷ 2 ∷ 7 ∷ []) (omega arith))
left_first_in_turn (suc (suc k)) low = (non_decreasing 0 (2 ∷ 7 ∷ []) (omega arith), non_decreasing 0 (3 ∷ 4 ∷ []) (omega arith))

left_first_queues : (k : ℕ) → k < 2 → AgreesOneWay 6 (left_first_queue k)
left_first_queues zero low = record { flows = record { taken = record { rest = puts (left_first_queue 0).sender; is = refl }; room = lit≤ tt } }
left_first_queues (suc k) low = record { flows = record { taken = record { rest = puts (left_first_queue 1).sender; is = refl }; room = lit≤ tt } }

left_first_queues_in_turn : (k : ℕ) → k < 2 → IsInTurn (left_first_queue k).sender × IsInTurn (left_first_queue k).receiver
left_first_queues_in_turn zero low = (non_decreasing 0 (1 ∷ 8 ∷ []) (omega arith), non_decreasing 0 [] tt)
left_first_queues_in_turn (suc k) low = (non_decreasing 0 (2 ∷ 7 ∷ []) (omega arith), non_decreasing 0 [] tt)

abbrev left_first_log : List (LogEntry ℕ)
left_first_log = e 0 (admission (Arrive (event 0) Left 7)) ∷ e 3 (receipt Right (R (event 0) 7)) ∷ e 4 (admission (Arrive (event 1) Right 7)) ∷ e 6 (receipt Left (EndR (event 0))) ∷ []

abbrev left_first_driver : List (DriverTurn ℕ)
left_first_driver = map (λ entry. entry.turn) left_first_log

left_first_lawful : IsLawful 2 two_events left_first_driver
left_first_lawful = record {
  in_order = record { rest = []; is = refl };
  in_flight = λ earlier later event is. walked rule_of_flight [] left_first_driver (lit< tt, (tt, (lit< tt, (tt, tt)))) earlier later (admission event) is;
  come_out = λ earlier later event is. walked rule_of_expiry [] left_first_driver (tt, (tt, (tt, (tt, tt)))) earlier later (admission event) is;
  closes = λ earlier later is. absurd (walked (λ earlier. unclosed) [] left_first_driver (tt, (tt, (tt, (tt, tt)))) earlier later closing is);
}

left_first_is : IsRun left_first_run
left_first_is = record {
  some_core = omega arith;
  well_formed = events_are;
  links = left_first_agrees;
  links_in_turn = left_first_in_turn;
  queues = left_first_queues;
  queues_in_turn = left_first_queues_in_turn;
  turns = left_first_turns;
  steps = left_first_steps;
  log = left_first_log;
  rising = strictly_increasing 0 (3 ∷ 4 ∷ 6 ∷ []) (omega arith);
  left_port = refl;
  right_port = refl;
  lawful = left_first_lawful;
}

left_first_crossing : CrossAt left_first_is 0 1 2
unfolding left_first_is
left_first_crossing = record {
  within = omega arith;
  left_first = first;
  right_first = λ k from low. absurd (omega (arith, from, low));
}
  where
    first : (k : ℕ) → k < 2 → HasBefore (is_R 0) (is_S 1) (handled (left_first_turns k))
    first zero low = record { before = []; between = EndR (event 0) ∷ []; behind = []; one = R (event 0) 7; other = S (event 1) 7; is = refl; is_first = refl; is_second = refl }
    first (suc k) low = record { before = []; between = []; behind = []; one = R (event 0) 7; other = S (event 1) 7; is = refl; is_first = refl; is_second = refl }

left_first_reports : AreReportsOf left_first_run (reports_of left_first_queue)
left_first_reports = record { one_each = refl; prefixes = prefixes }
  where
    prefixes : (k : ℕ) → k < 2 → IsPrefix (slice_index_or (reports_of left_first_queue) k []) (puts (left_first_queue k).sender)
    prefixes zero low = record { rest = []; is = refl }
    prefixes (suc zero) low = record { rest = []; is = refl }
    prefixes (suc (suc k)) low = absurd (omega arith)

left_first_all : AllReport left_first_run (reports_of left_first_queue) (joined 0 1)
left_first_all Left zero low = record { row = 7; partners = []; is = (0, lit< tt, refl) }
left_first_all Left (suc zero) low = record { row = 7; partners = []; is = (0, lit< tt, refl) }
left_first_all Left (suc (suc k)) low = absurd (omega arith)
left_first_all Right zero low = record { row = 7; partners = partner 0 ∷ []; is = (1, lit< tt, refl) }
left_first_all Right (suc zero) low = record { row = 7; partners = []; is = (1, lit< tt, refl) }
left_first_all Right (suc (suc k)) low = absurd (omega arith)

left_then_right_match : IsMatch equal two_events (joined 0 1)
unfolding is_expiry
left_then_right_match = record { valid = record { left = (0, lit< tt, refl); right = (1, lit< tt, refl); live = λ at expires. absurd (no_expiry two_events refl 0 at expires) }; joined = refl }

pub left_first_meets : Meets left_first_run (reports_of left_first_queue) (joined 0 1) 2
left_first_meets = record { is = left_first_is; of_run = left_first_reports; match = left_then_right_match; all_report = left_first_all; crossing = left_first_crossing; met = refl }

-- both cores handle the right row first
abbrev right_first_received : ℕ → List (Received ℕ)
right_first_received zero = r 2 Right (S (event 0) 7) ∷ r 8 Left (R (event 1) 7) ∷ []
right_first_received (suc k) = r 1 Right (S (event 0) 7) ∷ r 5 Left (AckS (event 0)) ∷ r 6 Left (EndS (event 0)) ∷ r 9 Left (R (event 1) 7) ∷ []

abbrev right_first_turns : ℕ → Turns ℕ
right_first_turns zero = record { whole = whole_turns equal 0 2 empty_state (right_first_received 0); cut = None }
right_first_turns (suc k) = record { whole = whole_turns equal 1 2 empty_state (right_first_received 1); cut = None }

right_first_steps : (k : ℕ) → k < 2 → TakesTurns equal k 2 (right_first_turns k) (right_first_link k).right (right_first_link (k + 1)).left (right_first_queue k).sender
right_first_steps zero low = record {
  rising = strictly_increasing 2 (8 ∷ []) (omega arith);
  whole = are_whole equal 0 2 empty_state (right_first_received 0);
  cut = tt;
  left = refl;
  right = refl;
  reports = refl;
}
right_first_steps (suc zero) low = record {
  rising = strictly_increasing 1 (5 ∷ 6 ∷ 9 ∷ []) (omega arith);
  whole = are_whole equal 1 2 empty_state (right_first_received 1);
  cut = tt;
  left = refl;
  right = refl;
  reports = refl;
}
right_first_steps (suc (suc k)) low = absurd (omega arith)

right_first_agrees : (k : ℕ) → k ≤ 2 → Agrees 6 (right_first_link k)
right_first_agrees zero low = record {
  rightwards = record { taken = record { rest = []; is = refl }; room = lit≤ tt };
  leftwards = record { taken = record { rest = []; is = refl }; room = lit≤ tt };
  in_time = in_time_from (right_first_link 0).left (right_first_link 0).right refl;
}
right_first_agrees (suc zero) low = record {
  rightwards = record { taken = record { rest = []; is = refl }; room = lit≤ tt };
  leftwards = record { taken = record { rest = EndR (event 1) ∷ []; is = refl }; room = lit≤ tt };
  in_time = in_time_from (right_first_link 1).left (right_first_link 1).right refl;
}
right_first_agrees (suc (suc k)) low = record {
  rightwards = record { taken = record { rest = R (event 1) 7 ∷ []; is = refl }; room = lit≤ tt };
  leftwards = record { taken = record { rest = []; is = refl }; room = lit≤ tt };
  in_time = in_time_from (right_first_link 2).left (right_first_link 2).right refl;
}

right_first_in_turn : (k : ℕ) → k ≤ 2 → IsInTurn (right_first_link k).left × IsInTurn (right_first_link k).right
right_first_in_turn zero low = (non_decreasing 0 (3 ∷ 4 ∷ []) (omega arith), non_decreasing 0 (2 ∷ 8 ∷ []) (omega arith))
right_first_in_turn (suc zero) low = (non_decreasing 0 (2 ∷ 2 ∷ 2 ∷ 8 ∷ []) (omega arith), non_decreasing 0 (1 ∷ 5 ∷ 6 ∷ 9 ∷ 9 ∷ []) (omega arith))
right_first_in_turn (suc (suc k)) low = (non_decreasing 0 (1 ∷ 6 ∷ 9 ∷ []) (omega arith), non_decreasing 0 (0 ∷ 7 ∷ []) (omega arith))

right_first_queues : (k : ℕ) → k < 2 → AgreesOneWay 6 (right_first_queue k)
right_first_queues zero low = record { flows = record { taken = record { rest = puts (right_first_queue 0).sender; is = refl }; room = lit≤ tt } }
right_first_queues (suc k) low = record { flows = record { taken = record { rest = puts (right_first_queue 1).sender; is = refl }; room = lit≤ tt } }

right_first_queues_in_turn : (k : ℕ) → k < 2 → IsInTurn (right_first_queue k).sender × IsInTurn (right_first_queue k).receiver
right_first_queues_in_turn zero low = (non_decreasing 0 (2 ∷ 8 ∷ []) (omega arith), non_decreasing 0 [] tt)
right_first_queues_in_turn (suc k) low = (non_decreasing 0 (1 ∷ 9 ∷ []) (omega arith), non_decreasing 0 [] tt)

abbrev right_first_log : List (LogEntry ℕ)
right_first_log = e 0 (admission (Arrive (event 0) Right 7)) ∷ e 3 (receipt Left (S (event 0) 7)) ∷ e 4 (admission (Arrive (event 1) Left 7)) ∷ e 7 (receipt Right (EndS (event 0))) ∷ []

abbrev right_first_driver : List (DriverTurn ℕ)
right_first_driver = map (λ entry. entry.turn) right_first_log

right_first_lawful : IsLawful 2 right_then_left right_first_driver
right_first_lawful = record {
  in_order = record { rest = []; is = refl };
  in_flight = λ earlier later event is. walked rule_of_flight [] right_first_driver (lit< tt, (tt, (lit< tt, (tt, tt)))) earlier later (admission event) is;
  come_out = λ earlier later event is. walked rule_of_expiry [] right_first_driver (tt, (tt, (tt, (tt, tt)))) earlier later (admission event) is;
  closes = λ earlier later is. absurd (walked (λ earlier. unclosed) [] right_first_driver (tt, (tt, (tt, (tt, tt)))) earlier later closing is);
}

right_then_left_are : IsWellFormed right_then_left
right_then_left_are = record { numbered = (refl, (refl, tt)); live = λ earlier later event is. walked NamesLive [] right_then_left (tt, (tt, tt)) earlier later event is }

right_first_is : IsRun right_first_run
right_first_is = record {
  some_core = omega arith;
  well_formed = right_then_left_are;
  links = right_first_agrees;
  links_in_turn = right_first_in_turn;
  queues = right_first_queues;
  queues_in_turn = right_first_queues_in_turn;
  turns = right_first_turns;
  steps = right_first_steps;
  log = right_first_log;
  rising = strictly_increasing 0 (3 ∷ 4 ∷ 7 ∷ []) (omega arith);
  left_port = refl;
  right_port = refl;
  lawful = right_first_lawful;
}

right_first_crossing : CrossAt right_first_is 1 0 0
unfolding right_first_is
right_first_crossing = record {
  within = omega arith;
  left_first = λ k low. absurd (omega (arith, low));
  right_first = first;
}
  where
    first : (k : ℕ) → 0 ≤ k → k < 2 → HasBefore (is_S 0) (is_R 1) (handled (right_first_turns k))
    first zero from low = record { before = []; between = []; behind = []; one = S (event 0) 7; other = R (event 1) 7; is = refl; is_first = refl; is_second = refl }
    first (suc k) from low = record { before = []; between = AckS (event 0) ∷ EndS (event 0) ∷ []; behind = []; one = S (event 0) 7; other = R (event 1) 7; is = refl; is_first = refl; is_second = refl }

right_first_reports : AreReportsOf right_first_run (reports_of right_first_queue)
right_first_reports = record { one_each = refl; prefixes = prefixes }
  where
    prefixes : (k : ℕ) → k < 2 → IsPrefix (slice_index_or (reports_of right_first_queue) k []) (puts (right_first_queue k).sender)
    prefixes zero low = record { rest = []; is = refl }
    prefixes (suc zero) low = record { rest = []; is = refl }
    prefixes (suc (suc k)) low = absurd (omega arith)

right_first_all : AllReport right_first_run (reports_of right_first_queue) (joined 1 0)
right_first_all Left zero low = record { row = 7; partners = partner 0 ∷ []; is = (1, lit< tt, refl) }
right_first_all Left (suc zero) low = record { row = 7; partners = []; is = (1, lit< tt, refl) }
right_first_all Left (suc (suc k)) low = absurd (omega arith)
right_first_all Right zero low = record { row = 7; partners = []; is = (0, lit< tt, refl) }
right_first_all Right (suc zero) low = record { row = 7; partners = []; is = (0, lit< tt, refl) }
right_first_all Right (suc (suc k)) low = absurd (omega arith)

right_then_left_match : IsMatch equal right_then_left (joined 1 0)
unfolding is_expiry
right_then_left_match = record { valid = record { left = (1, lit< tt, refl); right = (0, lit< tt, refl); live = λ at expires. absurd (no_expiry right_then_left refl 0 at expires) }; joined = refl }

pub right_first_meets : Meets right_first_run (reports_of right_first_queue) (joined 1 0) 0
right_first_meets = record { is = right_first_is; of_run = right_first_reports; match = right_then_left_match; all_report = right_first_all; crossing = right_first_crossing; met = refl }

-- core 0 handles the left row first, and core 1 the right one
between_crossing : CrossAt is_run 0 1 1
between_crossing = record {
  within = omega arith;
  left_first = λ k low. subst (λ t. HasBefore (is_R 0) (is_S 1) (handled t)) (sym (turns_are k)) (first k low);
  right_first = λ k from low. subst (λ t. HasBefore (is_S 1) (is_R 0) (handled t)) (sym (turns_are k)) (second k from low);
}
  where
    first : (k : ℕ) → k < 1 → HasBefore (is_R 0) (is_S 1) (handled (turns k))
    first zero low = record { before = []; between = []; behind = EndR (event 0) ∷ CloseL ∷ CloseR ∷ []; one = R (event 0) 7; other = S (event 1) 7; is = refl; is_first = refl; is_second = refl }
    first (suc k) low = absurd (omega arith)

    second : (k : ℕ) → 1 ≤ k → k < 2 → HasBefore (is_S 1) (is_R 0) (handled (turns k))
    second zero from low = absurd (omega (arith, from))
    second (suc k) from low = record { before = []; between = []; behind = AckS (event 1) ∷ EndS (event 1) ∷ CloseR ∷ CloseL ∷ []; one = S (event 1) 7; other = R (event 0) 7; is = refl; is_first = refl; is_second = refl }

between_all : AllReport whole_run whole_lists (joined 0 1)
between_all Left zero low = record { row = 7; partners = []; is = (0, lit< tt, refl) }
between_all Left (suc zero) low = record { row = 7; partners = partner 1 ∷ []; is = (1, lit< tt, refl) }
between_all Left (suc (suc k)) low = absurd (omega arith)
between_all Right zero low = record { row = 7; partners = []; is = (1, lit< tt, refl) }
between_all Right (suc zero) low = record { row = 7; partners = []; is = (0, lit< tt, refl) }
between_all Right (suc (suc k)) low = absurd (omega arith)

whole_reports : AreReportsOf whole_run whole_lists
whole_reports = record { one_each = refl; prefixes = prefixes }
  where
    prefixes : (k : ℕ) → k < 2 → IsPrefix (slice_index_or whole_lists k []) (puts (whole_queue k).sender)
    prefixes zero low = record { rest = []; is = refl }
    prefixes (suc zero) low = record { rest = []; is = refl }
    prefixes (suc (suc k)) low = absurd (omega arith)

pub between_meets : Meets whole_run whole_lists (joined 0 1) 1
between_meets = record { is = is_run; of_run = whole_reports; match = left_then_right_match; all_report = between_all; crossing = between_crossing; met = refl }
