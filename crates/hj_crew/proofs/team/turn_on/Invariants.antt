use Rattle.hj_worker.specs.Turning.{StaysItself}
use Rattle.hj_crew.proofs.team.turn_on.Given as goal

abbrev pub invariant-loop-turns : goal.invariant-loop-turns
invariant-loop-turns g l = StaysItself l.fn.worker l.worker
