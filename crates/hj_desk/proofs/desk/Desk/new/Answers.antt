use Rattle.std.proofs.Common.{refl, ◌∙◌}
use Rattle.hj_desk.proofs.Starting.{begins}
use Rattle.hj_desk.proofs.desk.Desk.new.Goals as goal

pub returns-clause-stands : goal.returns-clause-stands
returns-clause-stands g c = λ feed fresh.
    begins _ c.args.flight c.len-cores.result c.in_ok-driver.ensures c.requires.left_unused c.requires.right_unused c.requires.reports_unused (c.len-cores.ensures ∙ c.args.reports.ok.0) c.in_ok-collector.ensures refl refl feed fresh
