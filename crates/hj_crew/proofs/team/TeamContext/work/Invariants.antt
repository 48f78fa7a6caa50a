use Rattle.std.specs.List.{AllZip}
use Rattle.hj_worker.specs.Turning.{StaysItself}
use Rattle.hj_crew.proofs.team.TeamContext.work.Given as goal

abbrev pub invariant-loop : goal.invariant-loop
invariant-loop g l = AllZip StaysItself l.fn.team.workers.items l.team.workers.items
