use Rattle.std.proofs.Common.{◌≡◌, length}
use Rattle.hj_base.proofs.Sending.{Took}
use Rattle.hj_base.proofs.output.put_all.Given as goal

abbrev pub invariant-loop-left : goal.invariant-loop-left
invariant-loop-left g l = record {
  took : Took l.piece l.left (g.K.Sink.told l.fn.out) (g.K.Sink.told l.out);
  faults : g.K.Sink.faults l.out ≡ g.K.Sink.faults l.fn.out;
  refusals : g.K.Sink.refusals l.out ≡ g.K.Sink.refusals l.fn.out;
}

abbrev pub decreases-loop-left : goal.decreases-loop-left
decreases-loop-left g l = length l.left
