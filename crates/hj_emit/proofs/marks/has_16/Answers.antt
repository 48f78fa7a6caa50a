use Rattle.std.proofs.Common.{arith}
use Rattle.hj_emit.proofs.Lanes.{has_lane}
use Rattle.hj_emit.proofs.marks.has_16.Goals as goal

pub returns : goal.returns
returns c = has_lane c.args.lanes 16 c.args.byte c.fits-lanes.0 (omega arith)
