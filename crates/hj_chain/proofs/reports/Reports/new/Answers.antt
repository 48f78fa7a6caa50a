use Rattle.std.proofs.Common.{arith}
use Rattle.hj_chain.proofs.ReportQueues.{new-reports}
use Rattle.hj_chain.proofs.reports.Reports.new.Goals as goal

pub returns : goal.returns
returns g c = new-reports c.args.cores c.loop-at._at c.args.capacity _ c.loop-at.invariant (omega arith)
