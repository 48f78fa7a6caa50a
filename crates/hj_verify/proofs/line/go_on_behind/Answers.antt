use Rattle.std.proofs.Common.{Some, refl, ap}
use Rattle.hj_stream.specs.declared.outcome.Outcome.{Outcome}
use Rattle.hj_verify.specs.Checked.{has_failed}
use Rattle.hj_verify.proofs.Made.{fails_with, goes_on_else}
use Rattle.hj_verify.proofs.line.go_on_behind.Goals as goal

pub returns-in-SourceFault : goal.returns-in-SourceFault
returns-in-SourceFault c = fails_with (Some c.args.ended) c.args.ended refl (ap (λ (o : Outcome). has_failed (Some o)) c.in-SourceFault.is)

pub returns-in-Memory : goal.returns-in-Memory
returns-in-Memory c = fails_with (Some c.args.ended) c.args.ended refl (ap (λ (o : Outcome). has_failed (Some o)) c.in-Memory.is)

pub returns-in_default : goal.returns-in_default
returns-in_default c = goes_on_else c.args.ended c.in_default.not-SourceFault c.in_default.not-Memory
