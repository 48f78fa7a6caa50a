use Rattle.std.proofs.Common.{◌≡◌}
use Rattle.hj_msg.specs.ReadyStores.{Suits}
use Rattle.hj_sequential.proofs.Running.{Running}
use Rattle.hj_sequential.proofs.sequential.SequentialJoin.run.Given as goal

-- the events so far were joined, and the stores hold the windows behind them
abbrev pub invariant-loop-event : goal.invariant-loop-event
invariant-loop-event g l = record {
  running : Running g.F.Feed.gives g.F.Feed.state g.D.Drain.takes (g.J.Join.predicate l.fn.self.join) l.fn.feed l.fn.drain g.S.Store.entries l.feed l.drain l.self.left l.self.right;
  suits : Suits g.S.Store.suits l.self.join l.self.left l.self.right;
  join : l.self.join ≡ l.fn.self.join;
}

abbrev pub decreases-loop-event : goal.decreases-loop-event
decreases-loop-event g l = (g.F.Feed.state l.feed).remaining
