use Rattle.std.proofs.Common.{arith}
use Rattle.hj_record.proofs.Ahead.{four_bytes}
use Rattle.hj_record.proofs.lanes.specials.Goals as goal

pub returns : goal.returns
returns c = four_bytes c.args.lanes 16 c.fits-lanes.0 (omega arith)
