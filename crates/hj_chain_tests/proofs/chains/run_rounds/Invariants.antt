use Rattle.hj_chain_tests.specs.TwoRows.{all_match, rows_given}
use Rattle.hj_chain.specs.Steps.{GoesWith}
use Rattle.hj_chain_tests.proofs.chains.run_rounds.Given as goal

abbrev pub invariant-loop-round : goal.invariant-loop-round
invariant-loop-round g l = GoesWith all_match l.chain (rows_given l.feed.first l.feed.given l.feed.stopped)
