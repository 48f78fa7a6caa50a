-- A trace of a join: what was written is the text of the steps over the events of its streams.
use Rattle.std.proofs.Common.{ℕ, List}
use Rattle.std.specs.declared.option.Option.{Option}
use Rattle.hj_base.specs.declared.outside.Role.TheVariants as role
use Rattle.hj_chain.specs.declared.serial.Chooser.{Chooser}
use Rattle.hj_record.specs.Pieces.{Stream}
use Rattle.hj_query.specs.QueryParts.{QueryParts}
use Rattle.hj_event.specs.Events.{events_of}
use Rattle.hj_event.specs.Sides.{in_front}
use Rattle.hj_stream.specs.declared.outcome.Outcome.{Outcome}
use Rattle.hj_stream.specs.declared.outcome.Outcome.TheVariants as outcome
use Rattle.hj_replay.specs.Tracing.{WritesSteps, WritesTrace}
use Rattle.hj_opening.specs.Joining.{JoinsKind}
use Rattle.hj_opening.specs.Texts.{WritesKind}
use Rattle.hj_opening.specs.Words.{ChainShape, step_lines}
use Rattle.hj_opening.proofs.Phases.{Roles}

module _ (query : QueryParts) (chain : ChainShape) (rule : Chooser) (limit : ℕ) where
  writes_lines : (ended : Outcome) (left right : Stream) (grown : List ℕ) → WritesSteps ended query chain.cores chain.flight rule grown (events_of query left right limit) → WritesKind (step_lines chain rule) ended query left right limit grown
  writes_lines (outcome.Done events) left right grown w = (w.2, w.0)
  writes_lines (outcome.Bad of at why) left right grown w = (w.1, w.0)
  writes_lines (outcome.SourceFault role.Query) left right grown w = absurd w
  writes_lines (outcome.SourceFault role.SecondQuery) left right grown w = absurd w
  writes_lines (outcome.SourceFault role.Left) left right grown w = (w.1, w.0)
  writes_lines (outcome.SourceFault role.Right) left right grown w = (w.1, w.0)
  writes_lines (outcome.SourceFault role.Third) left right grown w = absurd w
  writes_lines (outcome.SourceFault role.Trace) left right grown w = absurd w
  writes_lines (outcome.SourceFault role.Output) left right grown w = absurd w
  writes_lines outcome.SinkFault left right grown w = w
  writes_lines outcome.TooMany left right grown w = (w.1, w.0)
  writes_lines outcome.Memory left right grown w = w

  pub joins_steps : {ended : Outcome} {before now : Roles} {old new : Option (List ℕ)} → WritesTrace ended query chain.cores chain.flight rule limit before now old new → JoinsKind (step_lines chain rule) ended query limit before now old new
  joins_steps {ended} traced = record {
    left_bytes = traced.left.bytes;
    right_bytes = traced.right.bytes;
    left_failed = traced.left.failed;
    right_failed = traced.right.failed;
    left_ended = traced.left.ended;
    right_ended = traced.right.ended;
    left = traced.left.read;
    right = traced.right.read;
    failed = traced.failed;
    others = traced.others;
    grown = traced.grown;
    written = traced.written;
    text = λ l r l_follows r_follows. writes_lines ended (in_front traced.left.bytes l) (in_front traced.right.bytes r) traced.grown (traced.text l r l_follows r_follows);
    ends = traced.ends;
  }
