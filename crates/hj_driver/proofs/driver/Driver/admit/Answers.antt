use Rattle.std.proofs.Common.{ap, sym, ◌∙◌}
use Rattle.hj_driver.specs.Driver.{answer_to}
use Rattle.hj_driver.proofs.ComingOut.{cause_of-same}
use Rattle.hj_driver.proofs.driver.Driver.admit.Goals as goal

pub admit_now-port-requires-clause-free : goal.admit_now-port-requires-clause-free
admit_now-port-requires-clause-free g c = sym c.in-None.ensures.cause

pub admit_now-port-requires-clause-few : goal.admit_now-port-requires-clause-few
admit_now-port-requires-clause-few g c = c.in-None.ensures.few

pub returns-in-Some-clause-answer : goal.returns-in-Some-clause-answer
returns-in-Some-clause-answer g c = λ log stands well. ap (answer_to c.args.event) (c.in-Some.ensures.cause ∙ cause_of-same c.args.event c.args.self.now log stands well)

pub returns-in-None-clause-answer : goal.returns-in-None-clause-answer
returns-in-None-clause-answer g c = c.admit_now-port.ensures.answer

pub returns-in-None-clause-sent : goal.returns-in-None-clause-sent
returns-in-None-clause-sent g c = c.admit_now-port.ensures.sent
