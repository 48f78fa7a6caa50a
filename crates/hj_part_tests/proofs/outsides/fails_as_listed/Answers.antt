use Rattle.hj_base.specs.declared.outside.Role.TheVariants as role
use Rattle.hj_part_tests.proofs.Roles.{left_is_other, right_is_other, same_phase, stays_open}
use Rattle.hj_part_tests.proofs.outsides.fails_as_listed.Goals as goal

pub fails_to_start-requires : goal.fails_to_start-requires
fails_to_start-requires g c =
    same_phase _ _ _ (c.starts.ensures.others role.Right right_is_other) c.requires.right

pub reads-requires-clause-open : goal.reads-requires-clause-open
reads-requires-clause-open g c =
    stays_open _ _ (c.fails_to_start.ensures role.Left left_is_other) c.starts.ensures.open
