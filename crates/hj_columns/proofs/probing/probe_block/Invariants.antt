use Rattle.hj_msg.specs.Store.{joins}
use Rattle.hj_columns.proofs.Blocks.{IsLeft}
use Rattle.hj_columns.proofs.probing.probe_block.Given as goal

abbrev pub invariant-bits : goal.invariant-bits
invariant-bits g l =
    IsLeft (λ row. joins (g.J.Join.predicate l.join) l.side row l.against) l.rows.places.entries l.from l.initial.found l.left l.found

abbrev pub decreases-bits : goal.decreases-bits
decreases-bits g l = l.left
