use Rattle.std.proofs.Common.{◌≡◌, ℕ, ◌+◌, ◌*◌, Bool, length}
use Rattle.hj_chain.specs.Chain.{Contents}
use Rattle.hj_chain.specs.Steps.{IsGoing}
use Rattle.hj_chain.specs.Sweep.{Sweeps}
use Rattle.hj_chain.proofs.chain.Chain.try_ends.Given as goal

abbrev pub invariant-loop-place : goal.invariant-loop-place
invariant-loop-place g l = record {
  going : IsGoing g.J.Join.predicate l.self;
  cores : length l.self.state.cores ≡ length l.fn.self.state.cores;
  sweeps : (first : ℕ) (before : Bool) (begun : Contents g.row.P.Denot g.row.J.Denot) → Sweeps g.J.Join.predicate first before begun 3 l.fn.sweep.moved l.fn.self → Sweeps g.J.Join.predicate first before begun (2 * l.place + 3) l.sweep.moved l.self;
}
