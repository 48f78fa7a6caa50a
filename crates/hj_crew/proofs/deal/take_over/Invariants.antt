use Rattle.std.proofs.Common.{◌≡◌, ◌+◌, ◌++◌, ◌≤◌, length, reverse, vec_capacity, vec_len}
use Rattle.hj_crew.proofs.deal.take_over.Given as goal

-- The last workers of the team were taken over.
abbrev pub invariant-loop-worker : goal.invariant-loop-worker
invariant-loop-worker g l = record {
  taken : l.workers.items ++ reverse l.team.workers.items ≡ l.fn.workers.items ++ reverse l.fn.team.workers.items;
  room : vec_len l.workers + length l.team.workers.items ≤ vec_capacity l.workers;
  capacity : vec_capacity l.workers ≡ vec_capacity l.fn.workers;
}

abbrev pub decreases-loop-worker : goal.decreases-loop-worker
decreases-loop-worker g l = length l.team.workers.items
