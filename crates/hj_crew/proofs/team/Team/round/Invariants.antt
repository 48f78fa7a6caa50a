use Rattle.std.specs.List.{AllZip}
use Rattle.hj_worker.specs.Turning.{StaysItself}
use Rattle.hj_crew.proofs.team.Team.round.Given as goal

abbrev pub invariant-loop-worker : goal.invariant-loop-worker
invariant-loop-worker g l = AllZip StaysItself l.fn.self.workers.items l.worker-items
