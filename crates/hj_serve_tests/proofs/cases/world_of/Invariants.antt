use Rattle.hj_serve_tests.proofs.MemoryRoles.{AreUnbegun}
use Rattle.hj_serve_tests.proofs.cases.world_of.Given as goal

abbrev pub invariant-loop-what : goal.invariant-loop-what
invariant-loop-what g l = AreUnbegun l.world.outside
