use Rattle.std.proofs.Common.{arith}
use Rattle.hj_record.proofs.Ahead.{one_byte}
use Rattle.hj_record.proofs.lanes.quotes.Goals as goal

pub returns : goal.returns
returns c = one_byte c.args.lanes 16 34 c.fits-lanes.0 (omega arith)
