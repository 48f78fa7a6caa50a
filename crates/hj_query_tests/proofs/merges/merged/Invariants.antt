use Rattle.hj_base.specs.declared.outside.Role.TheVariants as role
use Rattle.hj_event.specs.Roles.{IsInStep}
use Rattle.hj_query_tests.proofs.merges.merged.Given as goal

abbrev pub invariant-loop : goal.invariant-loop
invariant-loop g l = record {
  left : IsInStep l.merger.sides.left.reading.ended (g.O.Outside.state l.outside role.Left);
  right : IsInStep l.merger.sides.right.reading.ended (g.O.Outside.state l.outside role.Right);
}
