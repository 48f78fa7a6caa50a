-- What the run of a join on threads shows whose pairs were written as they were met: that the text was written by it, over the events of
-- the streams that were read, and what this text tells.
use Rattle.std.specs.Prelude.{◌≡◌, ℕ, List, map}
use Rattle.std.specs.declared.option.Option.{Option}
use Rattle.hj_base.specs.declared.outside.Role.{Role}
use Rattle.hj_base.specs.Journals.{IsPrefix}
use Rattle.hj_base.specs.Outside.{RoleState}
use Rattle.hj_value.specs.declared.field.Field.{Field}
use Rattle.hj_msg.specs.declared.event.Event.{Event}
use Rattle.hj_query.specs.QueryParts.{QueryParts}
use Rattle.hj_eval.specs.Holds.{holds}
use Rattle.hj_raw.specs.Items.{TakenReport, raw_items}
use Rattle.hj_raw.specs.Telling.{TellsAll, TellsMatches}
use Rattle.hj_raw.specs.Text.{raw_text}
use Rattle.hj_desk.specs.Taken.{AreTaken}
use Rattle.hj_crew.specs.Ran.{MakesRun, RanSeen}
use Rattle.hj_stream.specs.declared.outcome.Outcome.{Outcome}
use Rattle.hj_stream.specs.RawJoining.{JoinsRaw}
use Rattle.hj_stream.specs.Runs.{EndsRun, OfEvents}

module _ {ended : Outcome} {query : QueryParts} {limit : ℕ} {before now : Role → RoleState} {old new : Option (List ℕ)} where
  -- A run of this many cores, with at most this many events outstanding, made this join. Its journals make a run under the query, over
  -- events that begin those of the streams. The text is that of the raw items of the reports that this very run took, and what was
  -- written begins it. The items tell of the matches of these events. Where the events ended, the run had all of them, all of the text
  -- was written, and the items tell of every match.
  pub record ShowsRaw (joined : JoinsRaw ended query limit before now old new) (cores in_flight : ℕ) (ran : RanSeen (List Field)) : Type 0 where
    pub events : List (Event (List Field))
    pub made : MakesRun (holds query) events cores in_flight ran
    pub begins : OfEvents joined.joins (λ all. IsPrefix events all)
    -- the reports that were taken, in the order of the calling thread's turns
    pub taken : List (TakenReport (List Field))
    pub are : AreTaken (map (λ queue. queue.way.receiver) ran.queues) taken
    pub is : joined.text ≡ raw_text (raw_items cores taken)
    pub tells : TellsMatches (holds query) events (raw_items cores taken)
    pub writes : IsPrefix joined.joins.grown joined.text
    pub ends : EndsRun ended ran.ended
        (OfEvents joined.joins (λ all. events ≡ all) × ((joined.joins.grown ≡ joined.text) × TellsAll (holds query) events (raw_items cores taken)))
