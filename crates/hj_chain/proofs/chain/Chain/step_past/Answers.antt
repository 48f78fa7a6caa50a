use Rattle.std.proofs.Common.{refl}
use Rattle.hj_chain.specs.declared.actor.Actor.TheVariants.{Admit, PortLeft, PortRight, Core, Collect}
use Rattle.hj_chain.proofs.Advancing.{makes-step, makes-unasked, same-join, same-kept}
use Rattle.hj_chain.proofs.chain.Chain.step_past.Goals as goal

pub returns-in-Admit : goal.returns-in-Admit
returns-in-Admit g c =
    makes-step g.J.Join.predicate g.F.Feed.gives g.F.Feed.ready g.F.Feed.state c.args.self.now c.admit.new.self (same-join c.args.self.now c.admit.new.self c.admit.ensures.others) Admit c.args.feed.now c.requires.goes c.admit.result (same-kept c.args.self.now c.admit.new.self c.admit.ensures.others)
    c.args.actor c.in-Admit.is c.admit.new.feed c.admit.ensures.step c.admit.ensures.answers c.admit.ensures.goes

pub returns-in-PortLeft : goal.returns-in-PortLeft
returns-in-PortLeft g c =
    makes-unasked g.J.Join.predicate g.F.Feed.gives g.F.Feed.ready g.F.Feed.state c.args.self.now c.receive.new.self (same-join c.args.self.now c.receive.new.self c.receive.ensures.others) PortLeft c.args.feed.now c.requires.goes c.receive.result (same-kept c.args.self.now c.receive.new.self c.receive.ensures.others)
    (λ ready. refl) c.args.actor c.in-PortLeft.is c.receive.ensures.step

pub returns-in-PortRight : goal.returns-in-PortRight
returns-in-PortRight g c =
    makes-unasked g.J.Join.predicate g.F.Feed.gives g.F.Feed.ready g.F.Feed.state c.args.self.now c.receive-in-PortRight.new.self (same-join c.args.self.now c.receive-in-PortRight.new.self c.receive-in-PortRight.ensures.others) PortRight c.args.feed.now c.requires.goes c.receive-in-PortRight.result (same-kept c.args.self.now c.receive-in-PortRight.new.self c.receive-in-PortRight.ensures.others)
    (λ ready. refl) c.args.actor c.in-PortRight.is c.receive-in-PortRight.ensures.step

pub returns-in-Core : goal.returns-in-Core
returns-in-Core g c =
    makes-unasked g.J.Join.predicate g.F.Feed.gives g.F.Feed.ready g.F.Feed.state c.args.self.now c.turn.new.self (same-join c.args.self.now c.turn.new.self c.turn.ensures.others) (Core c.in-Core.core c.in-Core.end) c.args.feed.now c.requires.goes c.turn.result (same-kept c.args.self.now c.turn.new.self c.turn.ensures.others)
    (λ ready. refl) c.args.actor c.in-Core.is c.turn.ensures.step

pub returns-in-Collect : goal.returns-in-Collect
returns-in-Collect g c =
    makes-unasked g.J.Join.predicate g.F.Feed.gives g.F.Feed.ready g.F.Feed.state c.args.self.now c.collect.new.self c.collect.ensures.join (Collect c.in-Collect.core) c.args.feed.now c.requires.goes c.collect.result c.collect.ensures.gathers
    (λ ready. refl) c.args.actor c.in-Collect.is c.collect.ensures.step
