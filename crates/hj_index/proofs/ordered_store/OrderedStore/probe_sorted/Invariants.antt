use Rattle.hj_msg.specs.Store.{joins, settled_matches}
use Rattle.hj_rows.specs.NumberedRows.{rows_in}
use Rattle.hj_index.proofs.Banding.{places_left}
use Rattle.hj_rows.proofs.SortedProbes.{Sorts}
use Rattle.hj_index.proofs.ordered_store.OrderedStore.probe_sorted.Given as goal

-- what was found, with what is left of the band, is all that joins
abbrev pub invariant-loop-key : goal.invariant-loop-key
invariant-loop-key g l =
    Sorts (λ row. joins (g.J.Join.predicate l.join) l.side row l.against) (settled_matches (g.J.Join.predicate l.join) l.side l.against (rows_in l.self-inside.rows))
    l.rows.entries (places_left (rows_in l.self-inside.rows) l.self-inside.index.reserved l.key-iterator)
