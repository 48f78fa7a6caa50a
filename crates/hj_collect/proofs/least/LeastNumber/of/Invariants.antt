use Rattle.std.proofs.Common.{◌∷◌, Some, map, take}
use Rattle.hj_msg.specs.Punctuation.{up_to}
use Rattle.hj_collect.specs.Reach.{reached}
use Rattle.hj_collect.specs.Least.{IsLowest}
use Rattle.hj_collect.proofs.least.LeastNumber.of.Given as goal

-- the least of the first number and of the marks so far
abbrev pub invariant-loop-mark : goal.invariant-loop-mark
invariant-loop-mark l = IsLowest l.lowest (Some (up_to l.fn.first.0) ∷ map reached (take l.mark-index l.marks))
