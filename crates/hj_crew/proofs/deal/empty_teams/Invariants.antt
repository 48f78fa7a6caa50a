use Rattle.std.proofs.Common.{◌≡◌, [], replicate}
use Rattle.hj_crew.specs.Teams.{workers_in}
use Rattle.hj_crew.proofs.deal.empty_teams.Given as goal

abbrev pub invariant-loop-team : goal.invariant-loop-team
invariant-loop-team g l = workers_in l.teams.items ≡ replicate l._team []
