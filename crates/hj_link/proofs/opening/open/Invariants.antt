use Rattle.std.proofs.Common.{◌≡◌, ◌≤◌, ◌+◌, All, vec_len, vec_capacity}
use Rattle.hj_link.specs.Flow.{IsEmpty}
use Rattle.hj_link.proofs.opening.open.Given as goal

abbrev pub invariant-loop : goal.invariant-loop
invariant-loop g l = (vec_len l.slots ≡ l.counter) × (l.count ≤ vec_capacity l.slots) × (l.count ≡ l.fn.capacities.rightwards + l.fn.capacities.leftwards) × (l.capacities ≡ l.fn.capacities) × All IsEmpty l.slots.items
