use Rattle.std.proofs.Common.{◌≡◌}
use Rattle.hj_chain_tests.proofs.links.give_back.Given as goal

abbrev pub invariant-loop : goal.invariant-loop
invariant-loop l = l.end.link ≡ l.fn.end.link
