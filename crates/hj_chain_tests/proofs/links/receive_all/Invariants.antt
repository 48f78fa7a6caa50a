use Rattle.std.proofs.Common.{◌≡◌}
use Rattle.hj_chain_tests.proofs.links.receive_all.Given as goal

abbrev pub invariant-loop : goal.invariant-loop
invariant-loop l = l.receiver.link ≡ l.fn.receiver.link
