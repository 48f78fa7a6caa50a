-- A run on threads whose reports were written as they were taken.
use Rattle.std.specs.Prelude.{◌≡◌, ℕ, Bool, List, map}
use Rattle.hj_msg.specs.declared.drain.Drained.{Drained}
use Rattle.hj_msg.specs.declared.feed.Given.{Given}
use Rattle.hj_msg.specs.declared.fin.Fin.TheVariants as fin
use Rattle.hj_msg.specs.Feed.{FeedState, GoesOverAnswers, events_in}
use Rattle.hj_raw.specs.Drain.{Offer, TakesItems}
use Rattle.hj_raw.specs.Ending.{EndsRaw}
use Rattle.hj_raw.specs.Items.{Item, TakenReport, lists_of, raw_items}
use Rattle.hj_raw.specs.Telling.{TellsAll, TellsMatches}
use Rattle.hj_desk.specs.Taken.{AreTaken}
use Rattle.hj_crew.specs.Ran.{MakesRun, RanSeen, reports_of}

-- What a run on threads of so many cores did, with so many events outstanding at most: it took what a feed gave, and gave the raw
-- items of the reports that it took to a drain.
pub record RunsRaw {P F D : Type 0} (gives : F → Given P → F → Type 0) (state : F → FeedState) (takes_item : D → Item P → Drained → D → Type 0) (matches : P → P → Bool)
    (cores in_flight : ℕ) (from to : F) (unfilled filled : D) (ran : RanSeen P) : Type 0 where
  -- what the feed answered, and the items that the drain took, each with its answer
  pub answers : List (Given P)
  pub feed : GoesOverAnswers gives from answers to
  pub offers : List (Offer P)
  pub drain : TakesItems takes_item unfilled offers filled
  -- it made a run over the events among these answers
  pub made : MakesRun matches (events_in answers) cores in_flight ran
  -- the reports that were taken in this run, in the order of their turns, and what the drain got of them
  pub taken : List (TakenReport P)
  pub are : AreTaken (map (λ queue. queue.way.receiver) ran.queues) taken
  pub lists : reports_of ran ≡ lists_of cores taken
  pub ends : EndsRaw ran.ended (state to).stopped offers (raw_items cores taken)
  -- what these tell of the join of the events
  pub tells : TellsMatches matches (events_in answers) (raw_items cores taken)
  pub tells_all : ran.ended ≡ fin.Done → TellsAll matches (events_in answers) (raw_items cores taken)
