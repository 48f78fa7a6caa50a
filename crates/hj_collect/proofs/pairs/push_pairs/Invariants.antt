use Rattle.std.proofs.Common.{◌≡◌, ◌++◌, map, take}
use Rattle.hj_msg.specs.Met.{pair_of}
use Rattle.hj_collect.proofs.pairs.push_pairs.Given as goal

-- the pairs with the partners so far are behind those that were there
abbrev pub invariant-loop-at : goal.invariant-loop-at
invariant-loop-at g l = l.pairs.items ≡ l.fn.pairs.items ++ map (pair_of l.side l.no l.row) (take l.at l.partners)
