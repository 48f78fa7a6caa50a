use Rattle.std.proofs.Common.{◌≡◌, replicate}
use Rattle.hj_chain.specs.Queues.{no_messages}
use Rattle.hj_chain.proofs.links.Links.new.Given as goal

abbrev pub invariant-loop-at : goal.invariant-loop-at
invariant-loop-at g l = l.links.items ≡ replicate l._at (no_messages l.capacity)
