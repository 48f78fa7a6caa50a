use Rattle.std.proofs.Common.{arith, sym, subst, ap, ◌∙◌, ◌++◌, ◌∷◌, []}
use Rattle.hj_msg.specs.Driver.{admission}
use Rattle.hj_driver.specs.Driver.{DriverState}
use Rattle.hj_driver.specs.StandsFor.{StandsFor}
use Rattle.hj_driver.proofs.ComingOut.{cause_of-same, no_cause, is_new, has_come_out, row_cause-not_out, sent_answer}
use Rattle.hj_driver.proofs.Standing.{flight-put, stands-admission}
use Rattle.hj_driver.proofs.driver.Driver.admit_now.Goals as goal

pub put-requires-clause-room : goal.put-requires-clause-room
put-requires-clause-room g c =
    omega (arith, (no_cause c.args.event c.args.self.now c.requires.free).below, c.requires.few)

pub put-requires-clause-new : goal.put-requires-clause-new
put-requires-clause-new g c = is_new c.args.event c.args.self.now c.requires.log.0 c.requires.log.1 c.requires.log.2

pub returns-clause-answer : goal.returns-clause-answer
returns-clause-answer g c = λ log stands well.
    sent_answer c.args.event _ c.put.result.0 c.put.result.1 c.put.ensures.port c.put.ensures.message (sym (cause_of-same c.args.event c.args.self.now log stands well) ∙ c.requires.free)

pub returns-clause-sent : goal.returns-clause-sent
returns-clause-sent g c = λ log stands well.
    let free = no_cause c.args.event c.args.self.now c.requires.free in
    subst (λ (d : DriverState). StandsFor d (log ++ admission c.args.event ∷ [])) (sym c.put.ensures.state)
    (stands-admission c.args.self.now log c.args.event stands well free.unsent (omega (arith, free.below, c.requires.few)) (has_come_out c.args.event log (sym (row_cause-not_out c.args.event c.args.self.now log stands well) ∙ free.no_row)))

pub returns-clause-flight : goal.returns-clause-flight
returns-clause-flight g c = ap (λ (d : DriverState). d.flight) c.put.ensures.state ∙ flight-put c.args.event c.args.self.now
