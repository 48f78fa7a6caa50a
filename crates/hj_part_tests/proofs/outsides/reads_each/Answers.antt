use Rattle.hj_base.specs.declared.outside.Role.TheVariants as role
use Rattle.hj_part_tests.proofs.Roles.{right_is_other, stays_open}
use Rattle.hj_part_tests.proofs.outsides.reads_each.Goals as goal

pub reads_once-requires-2-clause-open : goal.reads_once-requires-2-clause-open
reads_once-requires-2-clause-open g c =
    stays_open _ _ (c.reads_once.ensures.others role.Right right_is_other) c.requires.right
