use Rattle.std.proofs.Common.{refl, ap, ◌∙◌}
use Rattle.hj_sequential.proofs.Running.{joined-all, joined-early, joined-more, running-begins, running-more}
use Rattle.hj_sequential.proofs.sequential.SequentialJoin.run.Goals as goal

pub loop-event-init : goal.loop-event-init
loop-event-init g c = record {
  running = running-begins g.F.Feed.gives g.F.Feed.state g.D.Drain.takes (g.J.Join.predicate c.args.self.now.join) c.args.feed.now c.args.drain.now g.S.Store.entries c.args.self.now.left c.args.self.now.right c.requires.fresh c.requires.left c.requires.right;
  suits = c.requires.suits;
  join = refl;
}

pub returns-in_default-handle : goal.returns-in_default-handle
returns-in_default-handle g c =
    joined-early g.F.Feed.gives g.F.Feed.state g.D.Drain.takes (g.J.Join.predicate c.args.self.now.join) c.args.feed.now c.args.drain.now c.handle.result c.next.new.self c.handle.new.drain c.in_default-handle.not-Done
    (joined-more g.F.Feed.gives g.F.Feed.state g.D.Drain.takes (g.J.Join.predicate c.args.self.now.join) c.args.feed.now c.args.drain.now g.S.Store.entries c.loop-event.feed c.next.new.self c.loop-event.drain c.handle.new.drain c.loop-event.self.left c.handle.new.self.left c.loop-event.self.right c.handle.new.self.right c.loop-event.invariant.running c.in-Event.event c.in-Event.ensures.gives c.in-Event.ensures.answers
    (g.J.Join.predicate c.loop-event.self.join) (ap g.J.Join.predicate c.loop-event.invariant.join) c.handle.result c.handle.ensures.gives)

pub loop-event-preserved : goal.loop-event-preserved
loop-event-preserved g c = record {
  running = running-more g.F.Feed.gives g.F.Feed.state g.D.Drain.takes (g.J.Join.predicate c.args.self.now.join) c.args.feed.now c.args.drain.now g.S.Store.entries c.loop-event.feed c.next.new.self c.loop-event.drain c.handle.new.drain c.loop-event.self.left c.handle.new.self.left c.loop-event.self.right c.handle.new.self.right c.loop-event.invariant.running c.in-Event.event c.in-Event.ensures.gives c.in-Event.ensures.answers
      (g.J.Join.predicate c.loop-event.self.join) (ap g.J.Join.predicate c.loop-event.invariant.join) c.handle.result c.in-Done.is c.handle.ensures.gives c.handle.ensures.holds;
  suits = c.handle.ensures.suits;
  join = c.handle.ensures.join ∙ c.loop-event.invariant.join;
}

pub returns : goal.returns
returns g c =
    joined-all g.F.Feed.gives g.F.Feed.state g.D.Drain.takes (g.J.Join.predicate c.args.self.now.join) c.args.feed.now c.args.drain.now c.loop-event.feed c.next.new.self c.loop-event.drain c.loop-event.invariant.running.joined c.in_default.ensures.gives c.in_default.ensures.answers
