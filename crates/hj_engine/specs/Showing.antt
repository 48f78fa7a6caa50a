-- What the run of a join on threads shows: that the join's text was written by it, over the events of the streams that were read.
use Rattle.std.specs.Prelude.{◌≡◌, ℕ, List}
use Rattle.std.specs.declared.option.Option.{Option}
use Rattle.hj_base.specs.declared.outside.Role.{Role}
use Rattle.hj_base.specs.Journals.{IsPrefix}
use Rattle.hj_base.specs.Outside.{RoleState}
use Rattle.hj_value.specs.declared.field.Field.{Field}
use Rattle.hj_msg.specs.declared.event.Event.{Event}
use Rattle.hj_msg.specs.Emission.{emitted}
use Rattle.hj_query.specs.QueryParts.{QueryParts}
use Rattle.hj_eval.specs.Holds.{holds}
use Rattle.hj_crew.specs.Ran.{MakesRun, RanSeen, reports_of}
use Rattle.hj_stream.specs.declared.outcome.Outcome.{Outcome}
use Rattle.hj_stream.specs.Joining.{Joins, JoinsBy}
use Rattle.hj_stream.specs.JoinText.{Line, pair_line, text_by}
use Rattle.hj_stream.specs.Runs.{EndsRun, OfEvents}

module _ {ended : Outcome} {query : QueryParts} {limit : ℕ} {before now : Role → RoleState} {old new : Option (List ℕ)} where
  -- A run of this many cores, with at most this many events outstanding, made this join. Its journals make a run under the query, over
  -- events that begin those of the streams; and what was written begins the text of the pairs that the reports of this very run let
  -- through. Where the events ended, the run had all of them, and all of that text was written.
  pub record ShowsJoinBy (line : Line) (joins : JoinsBy line ended query limit before now old new) (cores in_flight : ℕ) (ran : RanSeen (List Field)) : Type 0 where
    pub events : List (Event (List Field))
    pub made : MakesRun (holds query) events cores in_flight ran
    pub begins : OfEvents joins (λ all. IsPrefix events all)
    pub writes : IsPrefix joins.grown (text_by line (emitted (reports_of ran)))
    pub ends : EndsRun ended ran.ended (OfEvents joins (λ all. events ≡ all) × (joins.grown ≡ text_by line (emitted (reports_of ran))))

  -- The same of a join that writes the line of each pair as an output has it.
  abbrev pub ShowsJoin : Joins ended query limit before now old new → (cores in_flight : ℕ) → RanSeen (List Field) → Type 0
  ShowsJoin joins cores in_flight ran = ShowsJoinBy pair_line joins cores in_flight ran
