use Rattle.hj_msg.specs.Store.{joins}
use Rattle.hj_index.proofs.ChainSorts.{IsSorting}
use Rattle.hj_index.proofs.chains.KeyChains.probe_sorted.Given as goal

-- what was found, with what is left of the places, is all that joins
abbrev pub invariant-loop-at : goal.invariant-loop-at
invariant-loop-at g l = IsSorting (λ row. joins (g.J.Join.predicate l.join) l.side row l.against) l.self.places.items l.rows.entries l.at
