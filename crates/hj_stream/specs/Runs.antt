-- What the run of a join did, by the join's outcome.
use Rattle.std.specs.Prelude.{◌≡◌, ℕ, List}
use Rattle.std.specs.declared.option.Option.{Option}
use Rattle.hj_base.specs.declared.outside.Role.{Role}
use Rattle.hj_base.specs.Outside.{RoleState}
use Rattle.hj_value.specs.declared.field.Field.{Field}
use Rattle.hj_record.specs.Pieces.{Stream}
use Rattle.hj_msg.specs.declared.event.Event.{Event}
use Rattle.hj_msg.specs.declared.fin.Fin.{Fin}
use Rattle.hj_msg.specs.declared.fin.Fin.TheVariants as fin
use Rattle.hj_query.specs.QueryParts.{QueryParts}
use Rattle.hj_event.specs.Events.{events_of}
use Rattle.hj_event.specs.Sides.{in_front, Follows}
use Rattle.hj_stream.specs.declared.outcome.Outcome.{Outcome}
use Rattle.hj_stream.specs.declared.outcome.Outcome.TheVariants as outcome
use Rattle.hj_stream.specs.Joining.{JoinsSo}

-- How the run of a join ended, by the outcome. Where the events ended it is done, and did the whole. Where the sink failed a pair
-- was refused. Where memory ran out it may have ended in any way.
abbrev pub EndsRun : Outcome → Fin → (whole : Type 0) → Type 0
EndsRun outcome.SinkFault end whole = end ≡ fin.Refused
EndsRun outcome.Memory end whole = Unit {0}
EndsRun made end whole = (end ≡ fin.Done) × whole

module _ {Writes : Outcome → QueryParts → Stream → Stream → ℕ → List ℕ → Type 0} {ended : Outcome} {query : QueryParts} {limit : ℕ}
    {before now : Role → RoleState} {old new : Option (List ℕ)} where
  -- Whatever comes after the bytes that a join read, this holds of the events of its streams.
  abbrev pub OfEvents : JoinsSo Writes ended query limit before now old new → (List (Event (List Field)) → Type 0) → Type 0
  OfEvents joins so = (l r : Stream) → Follows joins.left_failed joins.left_ended l → Follows joins.right_failed joins.right_ended r
      → so (events_of query (in_front joins.left_bytes l) (in_front joins.right_bytes r) limit).events
