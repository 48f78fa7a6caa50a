-- What the run of a join shows whose pairs were written as they were met.
use Rattle.std.proofs.Common.{ℕ, List, refl}
use Rattle.std.specs.declared.option.Option.{Option}
use Rattle.hj_value.specs.declared.field.Field.{Field}
use Rattle.hj_base.specs.declared.outside.Role.{Role}
use Rattle.hj_base.specs.Outside.{RoleState}
use Rattle.hj_msg.specs.declared.drain.Drained.{Drained}
use Rattle.hj_msg.specs.declared.feed.Given.{Given}
use Rattle.hj_msg.specs.Feed.{FeedState, events_in}
use Rattle.hj_query.specs.QueryParts.{QueryParts}
use Rattle.hj_eval.specs.Holds.{holds}
use Rattle.hj_raw.specs.Items.{Item, raw_items}
use Rattle.hj_raw.specs.Text.{raw_text}
use Rattle.hj_crew.specs.Ran.{RanSeen}
use Rattle.hj_crew.specs.RanRaw.{RunsRaw}
use Rattle.hj_stream.specs.declared.outcome.Outcome.{Outcome}
use Rattle.hj_stream.specs.RawJoining.{JoinsRaw}
use Rattle.hj_engine.specs.ShowingRaw.{ShowsRaw}
use Rattle.hj_engine.proofs.ByRun.{ends_whole}
use Rattle.hj_stream.proofs.RawOver.{JoinsRawOver}

module _ {F D : Type 0} {gives : F → Given (List Field) → F → Type 0} {state : F → FeedState} {takes_item : D → Item (List Field) → Drained → D → Type 0} {cores in_flight : ℕ} {from to : F} {unfilled filled : D} {ran : RanSeen (List Field)} (query : QueryParts)
    (runs : RunsRaw gives state takes_item (holds query) cores in_flight from to unfilled filled ran) {made : Outcome} {limit : ℕ} {before now : Role → RoleState} {old new : Option (List ℕ)}
    (over : JoinsRawOver (raw_text (raw_items cores runs.taken)) made ran.ended query limit before now old new (events_in runs.answers)) where
  -- the join, with its text
  abbrev pub of_text : JoinsRaw made query limit before now old new
  of_text = record { text = raw_text (raw_items cores runs.taken); joins = over.joins }

  pub shows_raw : ShowsRaw of_text cores in_flight ran
  shows_raw = record {
    events = events_in runs.answers;
    made = runs.made;
    begins = over.begins;
    taken = runs.taken;
    are = runs.are;
    is = refl;
    tells = runs.tells;
    writes = over.writes;
    ends = ends_whole made ran.ended _ _ _ (λ done wrote. (wrote, runs.tells_all done)) over.ends;
  }
