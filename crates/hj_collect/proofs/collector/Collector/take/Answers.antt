use Rattle.std.proofs.Common.{sym, subst}
use Rattle.hj_collect.specs.StandsFor.{StandsFor, with_report}
use Rattle.hj_collect.proofs.Following.{follows}
use Rattle.hj_collect.proofs.collector.Collector.take.Goals as goal

pub returns-clause-taken : goal.returns-clause-taken
returns-clause-taken g c lists is =
    subst (λ state. StandsFor state (with_report c.args.core.0 c.args.report.now lists)) (sym c.update_marks.ensures) (follows c.args.core c.args.report.now c.args.self.now lists c.requires is)
