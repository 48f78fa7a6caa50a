use Rattle.hj_chain_tests.specs.SilentSide.{silence_given}
use Rattle.hj_chain_tests.specs.TwoRows.{all_match}
use Rattle.hj_chain.specs.Steps.{GoesWith}
use Rattle.hj_chain_tests.proofs.silence.handle_all.Given as goal

abbrev pub invariant-loop-round : goal.invariant-loop-round
invariant-loop-round l = GoesWith all_match l.chain (silence_given l.feed.given l.feed.stopped)
