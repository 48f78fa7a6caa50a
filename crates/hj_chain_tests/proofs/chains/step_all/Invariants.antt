use Rattle.hj_chain.specs.Steps.{GoesWith}
use Rattle.hj_chain_tests.proofs.chains.step_all.Given as goal

abbrev pub invariant-loop-line : goal.invariant-loop-line
invariant-loop-line g l = GoesWith g.J.Join.predicate l.chain (g.F.Feed.state l.feed)
