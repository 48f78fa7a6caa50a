use Rattle.std.proofs.Common.{◌≤◌, All}
use Rattle.hj_msg.specs.Store.{joins, settled_matches}
use Rattle.hj_rows.specs.NumberedRows.{rows_in}
use Rattle.hj_index.proofs.Banding.{places_left}
use Rattle.hj_rows.proofs.Probes.{number, Finds}
use Rattle.hj_index.proofs.ordered_store.OrderedStoreStoreSharedRow.probe.Given as goal

-- what was found, with what is left of the band, is all that joins; and what was found isn't above the last number
abbrev pub invariant-loop-key : goal.invariant-loop-key
invariant-loop-key g l =
    Finds (λ row. joins (g.J.Join.predicate l.join) l.side row l.against) (settled_matches (g.J.Join.predicate l.join) l.side l.against (rows_in l.self-inside.rows))
    l.found (places_left (rows_in l.self-inside.rows) l.self-inside.index.reserved l.key-iterator)
    × All (λ partner. number partner ≤ l.last) l.found
