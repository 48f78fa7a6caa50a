use Rattle.std.proofs.Common.{◌≡◌, length}
use Rattle.hj_chain_tests.proofs.collectors.run.Given as goal

abbrev pub invariant-loop-line : goal.invariant-loop-line
invariant-loop-line g l = length l.collector.left ≡ 2
