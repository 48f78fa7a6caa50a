use Rattle.std.proofs.Common.{◌≡◌, ◌+◌, ◌++◌, ◌≤◌, length, vec_capacity, vec_len}
use Rattle.std.specs.Vec.Iter.{into_iter_items}
use Rattle.hj_crew.specs.Deal.{gathered}
use Rattle.hj_crew.specs.Teams.{workers_in}
use Rattle.hj_crew.proofs.deal.gather.Given as goal

-- What was gathered, and then what the teams have that are left, is all; and there is room for it.
abbrev pub invariant-loop-team : goal.invariant-loop-team
invariant-loop-team g l = record {
  all : l.workers.items ++ gathered (workers_in (into_iter_items l.team-iterator)) ≡ gathered (workers_in l.fn.teams.items);
  room : vec_len l.workers + length (gathered (workers_in (into_iter_items l.team-iterator))) ≤ vec_capacity l.workers;
}
