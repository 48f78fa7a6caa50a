use Rattle.hj_chain_tests.specs.TwoRows.{all_match, rows_given}
use Rattle.hj_chain.specs.Steps.{GoesWith}
use Rattle.hj_chain_tests.proofs.gates.note_steps.Given as goal

abbrev pub invariant-loop-made : goal.invariant-loop-made
invariant-loop-made g l = GoesWith all_match l.chain (rows_given l.feed.first l.feed.given l.feed.stopped)
