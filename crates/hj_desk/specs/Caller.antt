-- What the calling thread does, between an earlier and a later moment of a run.
use Rattle.std.specs.Prelude.{◌≡◌, ℕ, Bool, List, ◌++◌, map}
use Rattle.hj_msg.specs.declared.drain.Drained.{Drained}
use Rattle.hj_msg.specs.declared.drain.Drained.TheVariants as drained
use Rattle.hj_msg.specs.declared.feed.Given.{Given}
use Rattle.hj_msg.specs.declared.fin.Fin.{Fin}
use Rattle.hj_msg.specs.declared.fin.Fin.TheVariants as fin
use Rattle.hj_msg.specs.declared.message.Report.{Report}
use Rattle.hj_msg.specs.Feed.{FeedState, GoesOverAnswers, events_in}
use Rattle.hj_msg.specs.Run.{LogEntry}
use Rattle.hj_collect.specs.Collector.{CollectorState}
use Rattle.hj_link.specs.Seen.{EndSeen}
use Rattle.hj_raw.specs.Items.{TakenReport}
use Rattle.hj_desk.specs.declared.caller.Caller.{Caller}
use Rattle.hj_desk.specs.declared.caller.Round.{Round}
use Rattle.hj_desk.specs.declared.caller.Round.TheVariants.{GotOn, Waits, Over}
use Rattle.hj_desk.specs.Desk.{DeskHistory, StandsFor}
use Rattle.hj_desk.specs.Ports.{KeepsLinks}
use Rattle.hj_desk.specs.Runs.{IsDone, cores_of}

module _ {P : Type 0} where
  -- the receivers are of the links that they were of
  pub record KeepsQueues (old new : List (EndSeen (Report P))) : Type 0 where
    pub links : map (λ receiver. receiver.link) new ≡ map (λ receiver. receiver.link) old
    pub capacities : map (λ receiver. receiver.capacity) new ≡ map (λ receiver. receiver.capacity) old

  -- what happened before, and then this
  abbrev pub before : DeskHistory P → DeskHistory P → DeskHistory P
  before old new = record { log = old.log ++ new.log; events = old.events ++ new.events; taken = old.taken ++ new.taken }

-- how the last thing that was given was answered, by how a run has ended
abbrev pub last_answer : Fin → Drained
last_answer fin.Done = drained.Kept
last_answer fin.Refused = drained.Refused
last_answer fin.Memory = drained.Kept

-- and by what came of a round
abbrev pub answer_of : Round → Drained
answer_of GotOn = drained.Kept
answer_of Waits = drained.Kept
answer_of (Over end) = last_answer end

module _ {P F O : Type 0} (gives : F → Given P → F → Type 0) (state : F → FeedState) (gave : O → ℕ → List (TakenReport P) → Bool → Drained → O → Type 0) where
  -- The feed gave these answers, and what the outlet gave was kept, but that the last thing had this answer. The ends are of the links
  -- that they were of. Whatever the calling thread stood for, it stands for that with turns of the driver, the events that were given, and
  -- reports that were taken behind; and the outlet gave what is due of these too.
  pub record Goes (old : Caller P F O) (answers : List (Given P)) (answer : Drained) (new : Caller P F O) : Type 0 where
    pub feed : GoesOverAnswers gives old.feed answers new.feed
    pub links : KeepsLinks old.desk.ports new.desk.ports
    pub queues : KeepsQueues old.desk.reports.items new.desk.reports.items
    pub flight : new.desk.driver.flight ≡ old.desk.driver.flight
    pub log : List (LogEntry P)
    pub taken : List (TakenReport P)
    pub stands : (history : DeskHistory P) → StandsFor old.desk (state old.feed) history
        → StandsFor new.desk (state new.feed) (before history (record { log = log; events = events_in answers; taken = taken }))
    pub outlet : (begun : O) (history : DeskHistory P) → StandsFor old.desk (state old.feed) history → gave begun (cores_of old.desk) history.taken old.desk.over drained.Kept old.outlet
        → gave begun (cores_of new.desk) (history.taken ++ taken) new.desk.over answer new.outlet

  -- Nothing was refused.
  abbrev pub GoesOnAsking : Caller P F O → Caller P F O → Type 0
  GoesOnAsking old new = (answers : List (Given P)) × Goes old answers drained.Kept new

  module _ (rests : O → CollectorState → Type 0) where
    -- Where a round ended the run with Done, all is done, and nothing more is due.
    abbrev pub EndsRound : Round → Caller P F O → Type 0
    EndsRound GotOn caller = Unit {0}
    EndsRound Waits caller = Unit {0}
    EndsRound (Over fin.Done) caller = IsDone caller.desk × rests caller.outlet caller.desk.collector
    EndsRound (Over fin.Refused) caller = Unit {0}
    EndsRound (Over fin.Memory) caller = Unit {0}

    -- one round
    pub record GoesRound (round : Round) (old new : Caller P F O) : Type 0 where
      pub answers : List (Given P)
      pub goes : Goes old answers (answer_of round) new
      pub ended : EndsRound round new

    -- All rounds, up to the one with which the run has ended.
    abbrev pub Ends : Fin → Caller P F O → Caller P F O → Type 0
    Ends end old new = GoesRound (Over end) old new
