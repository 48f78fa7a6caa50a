use Rattle.std.proofs.Common.{◌∙◌}
use Rattle.hj_driver.proofs.ComingOut.{cause_of-same}
use Rattle.hj_driver.proofs.driver.Driver.waits.Goals as goal

pub returns-clause-log : goal.returns-clause-log
returns-clause-log g c = λ log stands well. c.cause.ensures.cause ∙ cause_of-same c.args.event.now c.args.self.now log stands well
