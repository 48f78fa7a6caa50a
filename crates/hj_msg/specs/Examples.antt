-- Small runs, to try the definitions on: two cores, rows that are numbers and join where they are equal.
use Rattle.std.specs.Prelude.{◌≡◌, ℕ, zero, suc, ◌==◌, Bool, true, false, List, [], ◌∷◌, ◌++◌, None, Some, replicate}
use Rattle.std.specs.declared.option.Option.{Option}
use Rattle.hj_base.specs.declared.numbers.EventNo.{EventNo}
use Rattle.hj_base.specs.declared.numbers.Side.TheVariants.{Left, Right}
use Rattle.hj_base.specs.Journals.{put, taken, takes}
use Rattle.hj_base.specs.Link.{Link, OneWay, Flows}
use Rattle.hj_msg.specs.declared.event.Event.{Event}
use Rattle.hj_msg.specs.declared.event.Event.TheVariants.{Arrive, Expire}
use Rattle.hj_msg.specs.declared.event.Pair.{Pair}
use Rattle.hj_msg.specs.declared.message.Msg.{Msg}
use Rattle.hj_msg.specs.declared.message.Msg.TheVariants.{R, AckS, EndS, ExpS, QuietL, CloseL, S, EndR, ExpR, QuietR, CloseR}
use Rattle.hj_msg.specs.declared.message.Report.{Report}
use Rattle.hj_msg.specs.declared.message.Report.TheVariants.{Handled, Quiet, Ended}
use Rattle.hj_msg.specs.declared.partner.Partner.{Partner}
use Rattle.hj_msg.specs.Store.{Resting}
use Rattle.hj_msg.specs.Core.{State, Sends, InFlight, empty_state, after, sends, report, partners_of_left}
use Rattle.hj_msg.specs.Turns.{Turns, TakesTurns}
use Rattle.hj_msg.specs.Driver.{admission, receipt, outstanding, HasComeOut}
use Rattle.hj_msg.specs.Run.{Run}
use Rattle.hj_msg.specs.Punctuation.{punctuation, up_to, all}
use Rattle.hj_msg.specs.Emission.{emitted}

abbrev pub equal : ℕ → ℕ → Bool
equal left right = left == right

abbrev pub event : ℕ → EventNo
event number = record { 0 = number }

abbrev pub resting : ℕ → Bool → Resting ℕ
resting number settled = record { no = number; row = 7; settled = settled }

abbrev pub flying : ℕ → InFlight ℕ
flying number = record { no = number; row = 7 }

abbrev pub partner : ℕ → Partner ℕ
partner number = record { no = event number; row = 7 }

-- What a core makes of a message: its state behind it, what it sends, and its report.
pub record Outcome : Type 0 where
  pub state : State ℕ
  pub sends : Sends ℕ
  pub report : Option (Report ℕ)

abbrev pub outcome : ℕ → ℕ → State ℕ → Msg ℕ → Outcome
outcome place n state message = record { state = after place n state message; sends = sends place n message; report = report equal state message }

abbrev pub open_state : List (Resting ℕ) → List (Resting ℕ) → List (InFlight ℕ) → State ℕ
open_state left right in_flight = record { left = left; right = right; in_flight = in_flight; closed_left = false; closed_right = false }

abbrev pub sent : List (Msg ℕ) → List (Msg ℕ) → Sends ℕ
sent left right = record { left = left; right = right }

-- Two cores, the left row 0 and the right row 1. Core 0 handles R 0; core 1 handles S 1, which stays unsettled, and R 0,
-- which finds the row in flight; core 0 handles S 1, which finds nothing, since row 0 is unsettled.
pub record MeetInFlight : Type 0 where
  pub core_0_takes_R : outcome 0 2 empty_state (R (event 0) 7)
      ≡ record { state = open_state (resting 0 false ∷ []) [] []; sends = sent [] (R (event 0) 7 ∷ []); report = Some (Handled (event 0) Left 7 []) }
  pub core_1_takes_S : outcome 1 2 empty_state (S (event 1) 7)
      ≡ record { state = open_state [] (resting 1 false ∷ []) (flying 1 ∷ []); sends = sent (S (event 1) 7 ∷ []) []; report = Some (Handled (event 1) Right 7 []) }
  pub core_1_takes_R : outcome 1 2 (open_state [] (resting 1 false ∷ []) (flying 1 ∷ [])) (R (event 0) 7)
      ≡ record { state = open_state [] (resting 1 false ∷ []) (flying 1 ∷ []); sends = sent (EndR (event 0) ∷ []) (R (event 0) 7 ∷ []); report = Some (Handled (event 0) Left 7 (partner 1 ∷ [])) }
  pub core_0_takes_S : outcome 0 2 (open_state (resting 0 false ∷ []) [] []) (S (event 1) 7)
      ≡ record { state = open_state (resting 0 false ∷ []) [] []; sends = sent (S (event 1) 7 ∷ []) (AckS (event 1) ∷ EndS (event 1) ∷ []); report = Some (Handled (event 1) Right 7 []) }

-- Two cores, the right row 0 and the left row 1. Core 0 handles R 1; core 1 handles R 1, which is settled at once, and S 0,
-- which finds the row at rest.
pub record MeetAtRest : Type 0 where
  pub core_0_takes_R : outcome 0 2 empty_state (R (event 1) 7)
      ≡ record { state = empty_state; sends = sent [] (R (event 1) 7 ∷ []); report = Some (Handled (event 1) Left 7 []) }
  pub core_1_takes_R : outcome 1 2 empty_state (R (event 1) 7)
      ≡ record { state = open_state (resting 1 true ∷ []) [] []; sends = sent (EndR (event 1) ∷ []) (R (event 1) 7 ∷ []); report = Some (Handled (event 1) Left 7 []) }
  pub core_1_takes_S : outcome 1 2 (open_state (resting 1 true ∷ []) [] []) (S (event 0) 7)
      ≡ record { state = open_state (resting 1 true ∷ []) [] (flying 0 ∷ []); sends = sent (S (event 0) 7 ∷ []) []; report = Some (Handled (event 0) Right 7 (partner 1 ∷ [])) }

-- One core alone is the first one and the last one: it settles every row at once, and sends no acknowledgement.
pub record OneCore : Type 0 where
  pub takes_R : outcome 0 1 empty_state (R (event 0) 7)
      ≡ record { state = open_state (resting 0 true ∷ []) [] []; sends = sent (EndR (event 0) ∷ []) (R (event 0) 7 ∷ []); report = Some (Handled (event 0) Left 7 []) }
  pub takes_S : outcome 0 1 (open_state (resting 0 true ∷ []) [] []) (S (event 1) 7)
      ≡ record { state = open_state (resting 0 true ∷ []) (resting 1 true ∷ []) []; sends = sent (S (event 1) 7 ∷ []) (EndS (event 1) ∷ []); report = Some (Handled (event 1) Right 7 (partner 0 ∷ [])) }

-- Three cores. The first one settles right rows, has nothing in flight and tells that a row has been everywhere; the last
-- one settles left rows, tells the same of them and acknowledges nothing; the one between acknowledges at once.
pub record ThreeCores : Type 0 where
  pub first_takes_R : outcome 0 3 empty_state (R (event 0) 7)
      ≡ record { state = open_state (resting 0 false ∷ []) [] []; sends = sent [] (R (event 0) 7 ∷ []); report = Some (Handled (event 0) Left 7 []) }
  pub first_takes_S : outcome 0 3 empty_state (S (event 3) 7)
      ≡ record { state = open_state [] (resting 3 true ∷ []) []; sends = sent (S (event 3) 7 ∷ []) (AckS (event 3) ∷ EndS (event 3) ∷ []); report = Some (Handled (event 3) Right 7 []) }
  pub middle_takes_R : outcome 1 3 empty_state (R (event 0) 7)
      ≡ record { state = empty_state; sends = sent [] (R (event 0) 7 ∷ []); report = Some (Handled (event 0) Left 7 []) }
  pub middle_takes_S : outcome 1 3 empty_state (S (event 1) 7)
      ≡ record { state = open_state [] (resting 1 false ∷ []) (flying 1 ∷ []); sends = sent (S (event 1) 7 ∷ []) (AckS (event 1) ∷ []); report = Some (Handled (event 1) Right 7 []) }
  pub last_takes_R : outcome 2 3 empty_state (R (event 2) 7)
      ≡ record { state = open_state (resting 2 true ∷ []) [] []; sends = sent (EndR (event 2) ∷ []) (R (event 2) 7 ∷ []); report = Some (Handled (event 2) Left 7 []) }
  pub last_takes_S : outcome 2 3 empty_state (S (event 5) 7)
      ≡ record { state = open_state [] (resting 5 false ∷ []) (flying 5 ∷ []); sends = sent (S (event 5) 7 ∷ []) []; report = Some (Handled (event 5) Right 7 []) }

-- The other eight kinds of message, at a core of two whose left row 2 and right row 1 rest there unsettled, with the right row 1
-- in flight too.
abbrev pub busy : State ℕ
busy = open_state (resting 2 false ∷ []) (resting 1 false ∷ []) (flying 1 ∷ [])

pub record OtherMessages : Type 0 where
  pub settles_R : outcome 1 2 busy (EndR (event 2)) ≡ record { state = open_state (resting 2 true ∷ []) (resting 1 false ∷ []) (flying 1 ∷ []); sends = sent (EndR (event 2) ∷ []) []; report = None }
  pub settles_S : outcome 1 2 busy (EndS (event 1)) ≡ record { state = open_state (resting 2 false ∷ []) (resting 1 true ∷ []) (flying 1 ∷ []); sends = sent [] (EndS (event 1) ∷ []); report = None }
  pub settles_none : outcome 1 2 busy (EndS (event 2)) ≡ record { state = busy; sends = sent [] (EndS (event 2) ∷ []); report = None }
  pub expires_R : outcome 1 2 busy (ExpR (event 2)) ≡ record { state = open_state [] (resting 1 false ∷ []) (flying 1 ∷ []); sends = sent (ExpR (event 2) ∷ []) []; report = None }
  pub expires_S : outcome 1 2 busy (ExpS (event 1)) ≡ record { state = open_state (resting 2 false ∷ []) [] (flying 1 ∷ []); sends = sent [] (ExpS (event 1) ∷ []); report = None }
  pub acknowledges : outcome 1 2 busy (AckS (event 1)) ≡ record { state = open_state (resting 2 false ∷ []) (resting 1 false ∷ []) []; sends = sent [] []; report = None }
  pub passes_quiet_left : outcome 1 2 busy (QuietL (event 4)) ≡ record { state = busy; sends = sent [] (QuietL (event 4) ∷ []); report = Some (Quiet (event 4) Left) }
  pub passes_quiet_right : outcome 1 2 busy (QuietR (event 4)) ≡ record { state = busy; sends = sent (QuietR (event 4) ∷ []) []; report = Some (Quiet (event 4) Right) }
  pub closes_first : outcome 1 2 empty_state CloseR ≡ record { state = record empty_state { closed_right = true }; sends = sent (CloseR ∷ []) []; report = None }
  pub closes_second : outcome 1 2 (record empty_state { closed_right = true }) CloseL
      ≡ record { state = record empty_state { closed_left = true; closed_right = true }; sends = sent [] (CloseL ∷ []); report = Some Ended }

-- A left row finds the settled rows at rest and the rows in flight, by number; of one number the row at rest comes first.
pub record PartnersByNumber : Type 0 where
  pub merged : partners_of_left equal (open_state [] (resting 5 true ∷ resting 3 false ∷ resting 1 true ∷ []) (flying 4 ∷ flying 2 ∷ [])) 7
      ≡ partner 1 ∷ partner 2 ∷ partner 4 ∷ partner 5 ∷ []
  pub both : partners_of_left (λ left right. true) (open_state [] (record { no = 3; row = 8; settled = true } ∷ []) (flying 3 ∷ [])) 7
      ≡ record { no = event 3; row = 8 } ∷ partner 3 ∷ []

-- The whole run of the first example. Turns are numbered over the whole chain.
abbrev pub two_events : List (Event ℕ)
two_events = Arrive (event 0) Left 7 ∷ Arrive (event 1) Right 7 ∷ []

abbrev pub whole_link : ℕ → Link (Msg ℕ)
whole_link zero = record {
  left = put 0 (R (event 0) 7) ∷ taken 11 (S (event 1) 7) ∷ taken 12 (EndR (event 0)) ∷ put 13 CloseL ∷ taken 18 CloseR ∷ [];
  right = taken 2 (R (event 0) 7) ∷ put 5 (S (event 1) 7) ∷ put 6 (EndR (event 0)) ∷ taken 14 CloseL ∷ put 16 CloseR ∷ [];
}
whole_link (suc zero) = record {
  left = put 2 (R (event 0) 7) ∷ taken 5 (S (event 1) 7) ∷ put 5 (AckS (event 1)) ∷ put 5 (EndS (event 1)) ∷ taken 6 (EndR (event 0)) ∷ put 14 CloseL ∷ taken 16 CloseR ∷ [];
  right = put 3 (S (event 1) 7) ∷ taken 4 (R (event 0) 7) ∷ put 4 (EndR (event 0)) ∷ taken 7 (AckS (event 1)) ∷ taken 8 (EndS (event 1)) ∷ put 15 CloseR ∷ taken 17 CloseL ∷ [];
}
whole_link (suc (suc k)) = record {
  left = taken 3 (S (event 1) 7) ∷ put 4 (R (event 0) 7) ∷ put 8 (EndS (event 1)) ∷ taken 15 CloseR ∷ put 17 CloseL ∷ [];
  right = put 1 (S (event 1) 7) ∷ taken 9 (R (event 0) 7) ∷ taken 10 (EndS (event 1)) ∷ put 13 CloseR ∷ taken 19 CloseL ∷ [];
}

abbrev pub whole_queue : ℕ → OneWay (Report ℕ)
whole_queue zero = record {
  sender = put 2 (Handled (event 0) Left 7 []) ∷ put 5 (Handled (event 1) Right 7 []) ∷ put 16 Ended ∷ [];
  receiver = taken 20 (Handled (event 0) Left 7 []) ∷ taken 21 (Handled (event 1) Right 7 []) ∷ taken 22 Ended ∷ [];
}
whole_queue (suc k) = record {
  sender = put 3 (Handled (event 1) Right 7 []) ∷ put 4 (Handled (event 0) Left 7 (partner 1 ∷ [])) ∷ put 17 Ended ∷ [];
  receiver = taken 23 (Handled (event 1) Right 7 []) ∷ taken 24 (Handled (event 0) Left 7 (partner 1 ∷ [])) ∷ taken 25 Ended ∷ [];
}

abbrev pub whole_run : Run ℕ
whole_run = record { matches = equal; cores = 2; flight = 2; events = two_events; link = whole_link; queue = whole_queue }

-- what was taken of the reports of both cores
abbrev pub whole_lists : List (List (Report ℕ))
whole_lists = takes (whole_queue 0).receiver ∷ takes (whole_queue 1).receiver ∷ []

-- a pair of rows of these numbers; the run meets that of 0 and 1
abbrev pub joined : ℕ → ℕ → Pair ℕ
joined left right = record { left_no = event left; right_no = event right; left = 7; right = 7 }

-- That run without the acknowledgement of the right row: core 0 handles S 1 and sends no AckS 1.
abbrev pub unacknowledged_link : ℕ → Link (Msg ℕ)
unacknowledged_link zero = whole_link 0
unacknowledged_link (suc zero) = record {
  left = put 2 (R (event 0) 7) ∷ taken 5 (S (event 1) 7) ∷ put 5 (EndS (event 1)) ∷ taken 6 (EndR (event 0)) ∷ put 14 CloseL ∷ taken 16 CloseR ∷ [];
  right = put 3 (S (event 1) 7) ∷ taken 4 (R (event 0) 7) ∷ put 4 (EndR (event 0)) ∷ taken 8 (EndS (event 1)) ∷ put 15 CloseR ∷ taken 17 CloseL ∷ [];
}
unacknowledged_link (suc (suc k)) = whole_link 2

abbrev pub unacknowledged : Run ℕ
unacknowledged = record whole_run { link = unacknowledged_link }

-- That run with the right row reported by core 0 in its turn 2, before it took that row in turn 5.
abbrev pub early_queue : ℕ → OneWay (Report ℕ)
early_queue zero = record {
  sender = put 2 (Handled (event 0) Left 7 []) ∷ put 2 (Handled (event 1) Right 7 []) ∷ put 16 Ended ∷ [];
  receiver = (whole_queue 0).receiver;
}
early_queue (suc k) = whole_queue 1

abbrev pub early_report : Run ℕ
early_report = record whole_run { queue = early_queue }

-- That run with seven puts more on link 0 than were taken there.
abbrev pub overfull_link : ℕ → Link (Msg ℕ)
overfull_link zero = record { left = (whole_link 0).left ++ replicate 7 (put 19 CloseL); right = (whole_link 0).right }
overfull_link (suc k) = whole_link (suc k)

abbrev pub overfull : Run ℕ
overfull = record whole_run { link = overfull_link }

-- A beginning of a run in which both rows cross, and neither core finds the pair. On link 1 core 0 took S 1 before it put
-- R 0, and core 1 took R 0 before it put S 1.
abbrev pub crossed_link : ℕ → Link (Msg ℕ)
crossed_link zero = record {
  left = put 0 (R (event 0) 7) ∷ [];
  right = put 2 (EndR (event 0)) ∷ put 3 (S (event 1) 7) ∷ taken 4 (R (event 0) 7) ∷ [];
}
crossed_link (suc zero) = record {
  left = taken 2 (EndR (event 0)) ∷ taken 3 (S (event 1) 7) ∷ put 3 (AckS (event 1)) ∷ put 3 (EndS (event 1)) ∷ put 4 (R (event 0) 7) ∷ [];
  right = taken 5 (AckS (event 1)) ∷ taken 6 (EndS (event 1)) ∷ taken 7 (R (event 0) 7) ∷ put 7 (EndR (event 0)) ∷ put 8 (S (event 1) 7) ∷ [];
}
crossed_link (suc (suc k)) = record {
  left = put 6 (EndS (event 1)) ∷ put 7 (R (event 0) 7) ∷ taken 8 (S (event 1) 7) ∷ [];
  right = put 1 (S (event 1) 7) ∷ [];
}

abbrev pub crossed_queue : ℕ → OneWay (Report ℕ)
crossed_queue zero = record { sender = put 3 (Handled (event 1) Right 7 []) ∷ put 4 (Handled (event 0) Left 7 []) ∷ []; receiver = [] }
crossed_queue (suc k) = record { sender = put 7 (Handled (event 0) Left 7 []) ∷ put 8 (Handled (event 1) Right 7 []) ∷ []; receiver = [] }

abbrev pub crossed : Run ℕ
crossed = record whole_run { link = crossed_link; queue = crossed_queue }

-- Each core of it takes its turns, and each direction of link 1 keeps its order and its room.
pub record KeepsAllElse : Type 0 where
  pub core_0 : Turns ℕ
  pub core_1 : Turns ℕ
  pub steps_0 : TakesTurns equal 0 2 core_0 (crossed_link 0).right (crossed_link 1).left (crossed_queue 0).sender
  pub steps_1 : TakesTurns equal 1 2 core_1 (crossed_link 1).right (crossed_link 2).left (crossed_queue 1).sender
  pub rightwards : Flows 6 (crossed_link 1).left (crossed_link 1).right
  pub leftwards : Flows 6 (crossed_link 1).right (crossed_link 1).left

-- The driver's outstanding events, as a left row and its expiry go through.
abbrev pub left_row : Event ℕ
left_row = Arrive (event 0) Left 7

abbrev pub its_expiry : Event ℕ
its_expiry = Expire (event 1) Left (event 0)

pub record Outstanding : Type 0 where
  pub put : outstanding (admission left_row ∷ []) ≡ left_row ∷ []
  pub half_out : outstanding (admission left_row ∷ receipt Right (R (event 0) 7) ∷ []) ≡ left_row ∷ []
  pub wrong_port : outstanding (admission left_row ∷ receipt Left (R (event 0) 7) ∷ receipt Left (EndR (event 0)) ∷ []) ≡ left_row ∷ []
  pub taken_before : outstanding (receipt Left (EndR (event 0)) ∷ admission left_row ∷ receipt Right (R (event 0) 7) ∷ []) ≡ left_row ∷ []
  pub out : outstanding (admission left_row ∷ receipt Right (R (event 0) 7) ∷ receipt Left (EndR (event 0)) ∷ []) ≡ []
  pub may_expire : HasComeOut its_expiry (admission left_row ∷ receipt Right (R (event 0) 7) ∷ [])
  pub may_not_expire : ¬ (HasComeOut its_expiry (admission left_row ∷ receipt Left (EndR (event 0)) ∷ []))
  pub out_too_early : ¬ (HasComeOut its_expiry (receipt Right (R (event 0) 7) ∷ admission left_row ∷ []))

-- Marks of two cores.
abbrev pub reported : ℕ → Report ℕ
reported zero = Handled (event 0) Left 7 []
reported (suc number) = Handled (event (suc number)) Right 7 []

pub record Marks : Type 0 where
  pub one_side : punctuation ((reported 0 ∷ []) ∷ (reported 0 ∷ []) ∷ []) ≡ None
  pub one_core : punctuation ((reported 0 ∷ reported 1 ∷ []) ∷ (reported 0 ∷ []) ∷ []) ≡ None
  pub both_cores : punctuation ((reported 0 ∷ reported 1 ∷ []) ∷ (reported 1 ∷ reported 0 ∷ []) ∷ []) ≡ Some (up_to 0)
  pub last_ones : punctuation ((reported 0 ∷ reported 1 ∷ reported 2 ∷ Handled (event 3) Left 7 [] ∷ []) ∷ (reported 0 ∷ reported 1 ∷ Handled (event 3) Left 7 [] ∷ []) ∷ []) ≡ Some (up_to 1)
  -- a quiet event of a side moves its mark as an arrival does
  pub quiet : punctuation ((reported 0 ∷ Quiet (event 1) Right ∷ []) ∷ (Quiet (event 1) Right ∷ reported 0 ∷ []) ∷ []) ≡ Some (up_to 0)
  pub quiet_alone : punctuation {P = ℕ} ((Quiet (event 0) Left ∷ Quiet (event 1) Right ∷ []) ∷ []) ≡ Some (up_to 0)
  pub quiet_last : punctuation ((reported 0 ∷ reported 1 ∷ Handled (event 2) Left 7 [] ∷ Quiet (event 3) Right ∷ []) ∷ []) ≡ Some (up_to 2)
  pub one_ended : punctuation ((reported 0 ∷ reported 1 ∷ Ended ∷ []) ∷ (reported 0 ∷ reported 1 ∷ []) ∷ []) ≡ Some (up_to 0)
  pub both_ended : punctuation ((Ended ∷ []) ∷ (reported 0 ∷ Ended ∷ []) ∷ []) ≡ Some all
  -- the pair (0, 1) waits until the mark has come to 1
  pub not_yet : emitted ((reported 0 ∷ Handled (event 1) Right 7 (partner 0 ∷ []) ∷ []) ∷ []) ≡ []
  -- pairs of one later number go by the earlier one
  pub sorted : emitted ((Handled (event 3) Left 7 (partner 2 ∷ partner 1 ∷ []) ∷ Ended ∷ []) ∷ (Handled (event 2) Right 7 (partner 0 ∷ []) ∷ Ended ∷ []) ∷ []) ≡ joined 0 2 ∷ joined 3 1 ∷ joined 3 2 ∷ []
