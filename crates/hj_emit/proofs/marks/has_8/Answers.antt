use Rattle.std.proofs.Common.{arith}
use Rattle.hj_emit.proofs.Lanes.{has_lane}
use Rattle.hj_emit.proofs.marks.has_8.Goals as goal

pub returns : goal.returns
returns c = has_lane c.args.lanes 8 c.args.byte c.fits-lanes.0 (omega arith)
