use Rattle.std.proofs.Common.{◌∙◌}
use Rattle.hj_base.specs.declared.outside.Role.TheVariants as role
use Rattle.hj_part_tests.proofs.Roles.{left_is_other, right_is_other, same_phase, stays_open}
use Rattle.hj_part_tests.proofs.outsides.reads_what_stood.Goals as goal

pub starts-requires-2 : goal.starts-requires-2
starts-requires-2 g c =
    same_phase _ _ _ (c.puts-2.ensures.right ∙ c.starts.ensures.others role.Right right_is_other ∙ c.puts.ensures.right) c.requires.right

pub reads_each-requires-clause-left : goal.reads_each-requires-clause-left
reads_each-requires-clause-left g c =
    stays_open _ _ (c.starts-2.ensures.others role.Left left_is_other ∙ c.puts-2.ensures.left) c.starts.ensures.open
