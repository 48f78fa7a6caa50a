-- What a crew did between a feed and an outlet, up to the end of a run.
use Rattle.std.specs.Prelude.{◌≡◌, ℕ, Bool, true, false, List, [], map}
use Rattle.hj_msg.specs.declared.drain.Drained.{Drained}
use Rattle.hj_msg.specs.declared.drain.Drained.TheVariants.{Kept}
use Rattle.hj_msg.specs.declared.feed.Given.{Given}
use Rattle.hj_msg.specs.declared.fin.Fin.TheVariants.{Done}
use Rattle.hj_msg.specs.declared.message.Report.{Report}
use Rattle.hj_msg.specs.Feed.{FeedState, GoesOverAnswers, events_in}
use Rattle.hj_msg.specs.Met.{AreAllReportsOf}
use Rattle.hj_collect.specs.Collector.{CollectorState, has_ended}
use Rattle.hj_collect.specs.StandsFor as collect
use Rattle.hj_raw.specs.Items.{TakenReport, lists_of}
use Rattle.hj_desk.specs.Caller.{last_answer}
use Rattle.hj_desk.specs.Taken.{AreTaken}
use Rattle.hj_crew.specs.Ran.{MakesRun, RanSeen, reports_of, run_of}

-- All is done: the feed has stopped, memory didn't run out, each core's end was reported, and nothing more is due.
pub record IsAllDone {P O : Type 0} (is_at_rest : O → CollectorState → Type 0) (lists : List (List (Report P))) (has_stopped over : Bool) (outlet : O) : Type 0 where
  pub stopped : has_stopped ≡ true
  pub going : over ≡ false
  pub collector : CollectorState
  pub follows : collect.StandsFor collector lists
  pub ended : has_ended collector ≡ true
  pub rests : is_at_rest outlet collector

-- A crew of so many cores took what a feed gave, with so many events outstanding at most, and its outlet gave what is due of the reports
-- that were taken.
pub record RunsCrew {P F O : Type 0} (gives : F → Given P → F → Type 0) (state : F → FeedState) (gave : O → ℕ → List (TakenReport P) → Bool → Drained → O → Type 0) (rests : O → CollectorState → Type 0) (matches : P → P → Bool)
    (cores in_flight : ℕ) (from to : F) (begun now : O) (ran : RanSeen P) : Type 0 where
  pub answers : List (Given P)
  pub feed : GoesOverAnswers gives from answers to
  -- it made a run over the events among these answers
  pub made : MakesRun matches (events_in answers) cores in_flight ran
  -- the reports that were taken, as the journals of their queues tell
  pub taken : List (TakenReport P)
  pub are : AreTaken (map (λ queue. queue.way.receiver) ran.queues) taken
  pub lists : reports_of ran ≡ lists_of cores taken
  pub reports : AreAllReportsOf (run_of matches (events_in answers) ran) (lists_of cores taken)
  -- what became of them
  pub over : Bool
  pub given : gave begun cores [] false Kept begun → gave begun cores taken over (last_answer ran.ended) now
  pub done : ran.ended ≡ Done → IsAllDone rests (lists_of cores taken) (state to).stopped over now
