use Rattle.std.proofs.Common.{◌≡◌}
use Rattle.hj_chain_tests.proofs.links.send_all.Given as goal

abbrev pub invariant-loop : goal.invariant-loop
invariant-loop l = l.sender.link ≡ l.fn.sender.link
