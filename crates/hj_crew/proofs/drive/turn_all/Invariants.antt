use Rattle.std.specs.List.{AllZip}
use Rattle.hj_crew.specs.Teams.{TeamStays}
use Rattle.hj_crew.proofs.drive.turn_all.Given as goal

abbrev pub invariant-loop-team : goal.invariant-loop-team
invariant-loop-team g l = AllZip TeamStays l.fn.teams l.teams
