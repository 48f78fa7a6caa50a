use Rattle.std.proofs.Common.{◌<◌, length}
use Rattle.hj_query.specs.Grammar.{IsSum}
use Rattle.hj_query.specs.Sides.{columns_in}
use Rattle.hj_query.proofs.term.sum.Given as goal

abbrev pub invariant-parts : goal.invariant-parts
invariant-parts l = IsSum (columns_in l.schemas) l.fn.cursor (record { first = l.first; rest = l.rest }) l.cursor × (length l.cursor < length l.fn.cursor)

abbrev pub decreases-parts : goal.decreases-parts
decreases-parts l = length l.cursor
