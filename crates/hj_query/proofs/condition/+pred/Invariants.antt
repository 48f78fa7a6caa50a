use Rattle.std.proofs.Common.{◌+◌, ◌-◌, ◌*◌, ◌<◌, length, codes}
use Rattle.hj_query.specs.Grammar.{most_depth, IsConj, IsPred}
use Rattle.hj_query.specs.Lexemes.{LacksWord}
use Rattle.hj_query.specs.Sides.{columns_in}
use Rattle.hj_query.proofs.condition.+pred.Given as goal

abbrev pub decreases-conj : goal.decreases-conj
decreases-conj l = 3 * (most_depth - l.depth) + 1

abbrev pub decreases-pred : goal.decreases-pred
decreases-pred l = 3 * (most_depth - l.depth) + 2

abbrev pub decreases-unary : goal.decreases-unary
decreases-unary l = 3 * (most_depth - l.depth)

abbrev pub invariant-conj-conjuncts : goal.invariant-conj-conjuncts
invariant-conj-conjuncts l = IsConj (columns_in l.schemas) l.depth l.fn.cursor l.left l.cursor × (length l.cursor < length l.fn.cursor)

abbrev pub decreases-conj-conjuncts : goal.decreases-conj-conjuncts
decreases-conj-conjuncts l = length l.cursor

abbrev pub invariant-pred-disjuncts : goal.invariant-pred-disjuncts
invariant-pred-disjuncts l = IsPred (columns_in l.schemas) l.depth l.fn.cursor l.left l.cursor × LacksWord (codes "and") l.cursor × (length l.cursor < length l.fn.cursor)

abbrev pub decreases-pred-disjuncts : goal.decreases-pred-disjuncts
decreases-pred-disjuncts l = length l.cursor
