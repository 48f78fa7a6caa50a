use Rattle.std.proofs.Common.{map, take}
use Rattle.hj_collect.specs.Reach.{reached}
use Rattle.hj_collect.specs.Least.{IsLeast}
use Rattle.hj_collect.proofs.least.LeastMark.of_any.Given as goal

-- the least of the marks so far
abbrev pub invariant-loop-mark : goal.invariant-loop-mark
invariant-loop-mark l = IsLeast l.least (map reached (take l.mark-index l.marks))
