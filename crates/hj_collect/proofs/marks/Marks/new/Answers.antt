use Rattle.std.proofs.Common.{rules}
use Rattle.hj_collect.proofs.Replacing.{no_marks}
use Rattle.hj_collect.proofs.marks.Marks.new.Goals as goal

pub returns : goal.returns
returns c = no_marks c.from.result c.args.cores c.in_ok-of_cores.of_cores.items (c.in_ok-of_cores.ensures.items_if_clones_equal (λ y k. search rules)) c.from.ensures
