use Rattle.std.proofs.Common.{◌≡◌, ℕ, List}
use Rattle.hj_base.specs.Outside.{role_of, ChangesOnly}
use Rattle.hj_event.proofs.SourceLemmas.{SoFar}
use Rattle.hj_event.proofs.row_source.RowSource.next_row.Given as goal

abbrev pub invariant-loop : goal.invariant-loop
invariant-loop g l =
    let before = g.O.Outside.state l.initial.outside in
    let now = g.O.Outside.state l.outside in
    record {
      so_far : SoFar l.initial.self l.self (before (role_of l.side)) (now (role_of l.side));
      others : ChangesOnly (role_of l.side) before now;
      names : (name : List ℕ) → g.O.Outside.under l.outside name ≡ g.O.Outside.under l.initial.outside name;
    }
