use Rattle.std.proofs.Common.{◌+◌, ◌*◌}
use Rattle.hj_chain.proofs.Swept.{Round, one-if, weight}
use Rattle.hj_chain.proofs.chain.Chain.run_in_turn.Given as goal

abbrev pub invariant-loop-sweep : goal.invariant-loop-sweep
invariant-loop-sweep g l = Round g.F.Feed.gives g.F.Feed.ready g.D.Drain.takes g.F.Feed.state g.J.Join.predicate l.fn.self l.fn.feed l.fn.drain l.feed l.sweep.moved l.self l.drain

abbrev pub decreases-loop-sweep : goal.decreases-loop-sweep
decreases-loop-sweep g l = 2 * weight g.F.Feed.gives g.F.Feed.ready g.D.Drain.takes g.F.Feed.state g.J.Join.predicate l.fn.self l.fn.feed l.fn.drain l.feed l.self + one-if l.sweep.moved
