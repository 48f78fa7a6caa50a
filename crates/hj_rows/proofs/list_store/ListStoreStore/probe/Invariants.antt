use Rattle.std.proofs.Common.{◌≡◌, ◌≤◌, All}
use Rattle.hj_msg.specs.Store.{joins, settled_partners, settled_matches}
use Rattle.hj_rows.specs.Places.{rows_of}
use Rattle.hj_rows.proofs.Probes.{number}
use Rattle.hj_msg.proofs.Gathering.{gather}
use Rattle.hj_rows.proofs.list_store.ListStoreStore.probe.Given as goal

-- what is found, with what will be found, is all that joins; and what is found isn't above the last number
abbrev pub invariant-loop-no : goal.invariant-loop-no
invariant-loop-no g l =
    (gather number l.found (settled_partners (λ row. joins (g.J.Join.predicate l.join) l.side row l.against) (rows_of l.no-iterator))
    ≡ settled_matches (g.J.Join.predicate l.join) l.side l.against (rows_of l.self.rows.places.entries))
    × All (λ partner. number partner ≤ l.last) l.found
