-- Runs of two cores to which the laws of meeting apply, one for each way in which a pair is met: no core, one core or both of
-- them handle the left row first. Rows are numbers that join where they are equal. The run in which one core does is the whole run
-- of the small runs; the other two stop once both cores have handled both rows.
use Rattle.std.specs.Prelude.{◌≡◌, ℕ, zero, suc, List, [], ◌∷◌}
use Rattle.hj_base.specs.declared.numbers.Side.TheVariants.{Left, Right}
use Rattle.hj_base.specs.Journals.{put, taken, puts}
use Rattle.hj_base.specs.Link.{Link, OneWay}
use Rattle.hj_msg.specs.declared.event.Event.{Event}
use Rattle.hj_msg.specs.declared.event.Event.TheVariants.{Arrive}
use Rattle.hj_msg.specs.declared.event.Pair.{Pair}
use Rattle.hj_msg.specs.declared.message.Msg.{Msg}
use Rattle.hj_msg.specs.declared.message.Msg.TheVariants.{R, AckS, EndS, S, EndR}
use Rattle.hj_msg.specs.declared.message.Report.{Report}
use Rattle.hj_msg.specs.declared.message.Report.TheVariants.{Handled}
use Rattle.hj_msg.specs.Valid.{IsMatch}
use Rattle.hj_msg.specs.Run.{Run, IsRun}
use Rattle.hj_msg.specs.Met.{AreReportsOf, met}
use Rattle.hj_msg.specs.Meeting.{AllReport, CrossAt}
use Rattle.hj_msg.specs.Examples.{equal, event, partner, two_events}

-- The laws of meeting apply to this run and its reports: the pair is a match, and every core reported both of its rows, which cross
-- at this place. The pair is all that was met.
pub record Meets (run : Run ℕ) (lists : List (List (Report ℕ))) (pair : Pair ℕ) (place : ℕ) : Type 0 where
  pub is : IsRun run
  pub of_run : AreReportsOf run lists
  pub match : IsMatch run.matches run.events pair
  pub all_report : AllReport run lists pair
  pub crossing : CrossAt is pair.left_no.0 pair.right_no.0 place
  pub met : met lists ≡ pair ∷ []

-- all that two cores reported
abbrev pub reports_of : (ℕ → OneWay (Report ℕ)) → List (List (Report ℕ))
reports_of queue = puts (queue 0).sender ∷ puts (queue 1).sender ∷ []

-- Both cores handle the left row 0 first: the right row 1 is put once the left one has been everywhere. Core 0, the home of row 0,
-- finds it at rest when it handles row 1.
abbrev pub left_first_link : ℕ → Link (Msg ℕ)
left_first_link zero = record {
  left = put 0 (R (event 0) 7) ∷ taken 6 (EndR (event 0)) ∷ [];
  right = taken 1 (R (event 0) 7) ∷ put 5 (EndR (event 0)) ∷ put 8 (S (event 1) 7) ∷ [];
}
left_first_link (suc zero) = record {
  left = put 1 (R (event 0) 7) ∷ taken 5 (EndR (event 0)) ∷ taken 8 (S (event 1) 7) ∷ put 8 (AckS (event 1)) ∷ put 8 (EndS (event 1)) ∷ [];
  right = taken 2 (R (event 0) 7) ∷ put 2 (EndR (event 0)) ∷ put 7 (S (event 1) 7) ∷ [];
}
left_first_link (suc (suc k)) = record {
  left = put 2 (R (event 0) 7) ∷ taken 7 (S (event 1) 7) ∷ [];
  right = taken 3 (R (event 0) 7) ∷ put 4 (S (event 1) 7) ∷ [];
}

abbrev pub left_first_queue : ℕ → OneWay (Report ℕ)
left_first_queue zero = record { sender = put 1 (Handled (event 0) Left 7 []) ∷ put 8 (Handled (event 1) Right 7 (partner 0 ∷ [])) ∷ []; receiver = [] }
left_first_queue (suc k) = record { sender = put 2 (Handled (event 0) Left 7 []) ∷ put 7 (Handled (event 1) Right 7 []) ∷ []; receiver = [] }

abbrev pub left_first_run : Run ℕ
left_first_run = record { matches = equal; cores = 2; flight = 2; events = two_events; link = left_first_link; queue = left_first_queue }

-- Both cores handle the right row 0 first, the left row 1 being put once the right one has been everywhere. Core 0, the home of row
-- 0, finds it at rest when it handles row 1; at core 1 row 0 is in flight no longer.
abbrev pub right_then_left : List (Event ℕ)
right_then_left = Arrive (event 0) Right 7 ∷ Arrive (event 1) Left 7 ∷ []

abbrev pub right_first_link : ℕ → Link (Msg ℕ)
right_first_link zero = record {
  left = taken 3 (S (event 0) 7) ∷ put 4 (R (event 1) 7) ∷ [];
  right = put 2 (S (event 0) 7) ∷ taken 8 (R (event 1) 7) ∷ [];
}
right_first_link (suc zero) = record {
  left = taken 2 (S (event 0) 7) ∷ put 2 (AckS (event 0)) ∷ put 2 (EndS (event 0)) ∷ put 8 (R (event 1) 7) ∷ [];
  right = put 1 (S (event 0) 7) ∷ taken 5 (AckS (event 0)) ∷ taken 6 (EndS (event 0)) ∷ taken 9 (R (event 1) 7) ∷ put 9 (EndR (event 1)) ∷ [];
}
right_first_link (suc (suc k)) = record {
  left = taken 1 (S (event 0) 7) ∷ put 6 (EndS (event 0)) ∷ put 9 (R (event 1) 7) ∷ [];
  right = put 0 (S (event 0) 7) ∷ taken 7 (EndS (event 0)) ∷ [];
}

abbrev pub right_first_queue : ℕ → OneWay (Report ℕ)
right_first_queue zero = record { sender = put 2 (Handled (event 0) Right 7 []) ∷ put 8 (Handled (event 1) Left 7 (partner 0 ∷ [])) ∷ []; receiver = [] }
right_first_queue (suc k) = record { sender = put 1 (Handled (event 0) Right 7 []) ∷ put 9 (Handled (event 1) Left 7 []) ∷ []; receiver = [] }

abbrev pub right_first_run : Run ℕ
right_first_run = record { matches = equal; cores = 2; flight = 2; events = right_then_left; link = right_first_link; queue = right_first_queue }
