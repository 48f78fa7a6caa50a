use Rattle.std.proofs.Common.{◌≡◌, ℕ, ◌+◌, ◌*◌, Bool, length}
use Rattle.hj_chain.specs.Chain.{Contents}
use Rattle.hj_chain.specs.Steps.{IsGoing}
use Rattle.hj_chain.specs.Sweep.{Collects}
use Rattle.hj_chain.proofs.chain.Chain.try_reports.Given as goal

abbrev pub invariant-loop-place : goal.invariant-loop-place
invariant-loop-place g l = record {
  going : IsGoing g.J.Join.predicate l.self;
  cores : length l.self.state.cores ≡ length l.fn.self.state.cores;
  collects : (first : ℕ) (before : Bool) (begun : Contents g.row.P.Denot g.row.J.Denot) (unfilled : g.row.D.Denot) → Collects g.D.Drain.takes g.J.Join.predicate first before begun unfilled (2 * length l.fn.self.state.cores + 3) l.fn.sweep.moved l.fn.self l.fn.drain
      → Collects g.D.Drain.takes g.J.Join.predicate first before begun unfilled (2 * length l.fn.self.state.cores + l.place + 3) l.sweep.moved l.self l.drain;
}
