use Rattle.hj_base.proofs.Sending.{took_more}
use Rattle.hj_base.proofs.output.put_all.Goals as goal
use Rattle.std.proofs.Common.{◌∙◌}

pub loop-left-preserved : goal.loop-left-preserved
loop-left-preserved g c = record {
  took = took_more c.args.piece.now c.loop-left.left.now c.in-Wrote.count _ _ _ c.loop-left.invariant.took c.in-Wrote.ensures.writes.2;
  faults = c.in-Wrote.ensures.faults ∙ c.loop-left.invariant.faults;
  refusals = c.in-Wrote.ensures.refusals ∙ c.loop-left.invariant.refusals;
}
