use Rattle.std.proofs.Common.{sym, ap, ◌∙◌}
use Rattle.hj_base.specs.declared.numbers.Side.{Side}
use Rattle.hj_base.specs.declared.numbers.Side.TheVariants.{Left, Right}
use Rattle.hj_driver.specs.Driver.{DriverState, after_take}
use Rattle.hj_driver.proofs.Standing.{stands-take}
use Rattle.hj_driver.proofs.States.{unawaited}
use Rattle.hj_driver.proofs.driver.Driver.took.Goals as goal

pub returns-in-Left-clause-turn : goal.returns-in-Left-clause-turn
returns-in-Left-clause-turn g c = λ log stands. stands-take c.args.self.now c.take_at_left.new.self log c.args.port Left c.args.msg.now c.in-Left.is c.take_at_left.ensures stands

pub returns-in-Left-clause-others : goal.returns-in-Left-clause-others
returns-in-Left-clause-others g c = λ never. c.take_at_left.ensures ∙ ap (λ (s : Side). after_take s c.args.msg.now c.args.self.now) (sym c.in-Left.is) ∙ unawaited c.args.port c.args.msg.now c.args.self.now never

pub returns-in-Right-clause-turn : goal.returns-in-Right-clause-turn
returns-in-Right-clause-turn g c = λ log stands. stands-take c.args.self.now c.take_at_right.new.self log c.args.port Right c.args.msg.now c.in-Right.is c.take_at_right.ensures stands

pub returns-in-Right-clause-others : goal.returns-in-Right-clause-others
returns-in-Right-clause-others g c = λ never. c.take_at_right.ensures ∙ ap (λ (s : Side). after_take s c.args.msg.now c.args.self.now) (sym c.in-Right.is) ∙ unawaited c.args.port c.args.msg.now c.args.self.now never

pub returns-in-Left-clause-flight : goal.returns-in-Left-clause-flight
returns-in-Left-clause-flight g c = ap (λ (d : DriverState). d.flight) c.take_at_left.ensures

pub returns-in-Right-clause-flight : goal.returns-in-Right-clause-flight
returns-in-Right-clause-flight g c = ap (λ (d : DriverState). d.flight) c.take_at_right.ensures
