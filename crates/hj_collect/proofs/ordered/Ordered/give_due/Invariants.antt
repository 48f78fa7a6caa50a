use Rattle.std.proofs.Common.{length}
use Rattle.hj_msg.specs.declared.drain.Drained.TheVariants.{Kept}
use Rattle.hj_collect.specs.Collector.{least_mark}
use Rattle.hj_collect.specs.Giving.{Gives}
use Rattle.hj_collect.proofs.ordered.Ordered.give_due.Given as goal

-- what was given so far was kept
abbrev pub invariant-loop-pair : goal.invariant-loop-pair
invariant-loop-pair g l = Gives g.D.Drain.takes (least_mark l.fn.collector) l.fn.self l.fn.drain Kept l.self l.drain

abbrev pub decreases-loop-pair : goal.decreases-loop-pair
decreases-loop-pair g l = length l.self
