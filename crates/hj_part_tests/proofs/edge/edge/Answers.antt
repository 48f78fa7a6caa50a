use Rattle.std.proofs.Common.{ap}
use Rattle.hj_base.specs.declared.outside.Role.TheVariants.{Left}
use Rattle.hj_part_tests.proofs.edge.edge.Goals as goal

pub returns : goal.returns
returns g c = ap (λ role. role.phase) (c.new.ensures Left)
