use Rattle.hj_base.specs.declared.outside.Role.TheVariants as role
use Rattle.hj_base.specs.Outside.{IsOpen}
use Rattle.hj_query_tests.proofs.merges.fours_left.Given as goal

-- the left role is still open
abbrev pub invariant-loop : goal.invariant-loop
invariant-loop g l = IsOpen (g.O.Outside.state l.outside role.Left).phase
