use Rattle.hj_msg.specs.Store.{joins, settled_matches}
use Rattle.hj_rows.specs.Places.{rows_of}
use Rattle.hj_rows.proofs.SortedProbes.{Sorts}
use Rattle.hj_rows.proofs.list_store.probe_sorted.Given as goal

abbrev pub invariant-loop-no : goal.invariant-loop-no
invariant-loop-no g l =
    Sorts (λ row. joins (g.J.Join.predicate l.join) l.side row l.against) (settled_matches (g.J.Join.predicate l.join) l.side l.against (rows_of l.rows.places.entries)) l.sorted.entries l.no-iterator
