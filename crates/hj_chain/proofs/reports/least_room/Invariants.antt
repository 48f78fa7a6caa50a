use Rattle.std.proofs.Common.{◌+◌, ◌≤◌, All, length, take}
use Rattle.hj_chain.proofs.reports.least_room.Given as goal

-- no queue so far has less room
abbrev pub invariant-loop-queue : goal.invariant-loop-queue
invariant-loop-queue g l = All (λ q. length q.items + l.room ≤ l.capacity) (take l.queue-index l.queues)
