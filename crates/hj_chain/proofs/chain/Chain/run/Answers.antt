use Rattle.std.proofs.Common.{◌≡◌, ◌≢◌, ◌∙◌, refl, arith, rules}
use Rattle.hj_msg.proofs.Feeding.{feed-goes-on}
use Rattle.hj_chain.specs.declared.actor.Actor.TheVariants.{Admit}
use Rattle.hj_chain.specs.declared.actor.Stepped.TheVariants.{Memory}
use Rattle.hj_chain.proofs.Goings.{sound-goes}
use Rattle.hj_chain.proofs.Running.{leads-next, ran-stopped, ran-over}
use Rattle.hj_chain.proofs.chain.Chain.run.Goals as goal

pub returns-then-eq-clause-runs : goal.returns-then-eq-clause-runs
returns-then-eq-clause-runs g c =
    let memory : c.step.result ≡ Memory = search rules in
    ran-stopped g.F.Feed.gives g.F.Feed.ready g.J.Join.predicate c.args.schedule.now c.args.self.now c.args.feed.now c.loop-actor.actor-index c.loop-actor.self c.loop-actor.feed c.loop-actor.invariant.leads c.step.new.self c.step.new.feed
    (sound-goes g.J.Join.predicate c.loop-actor.self (g.F.Feed.state c.loop-actor.feed) c.loop-actor.invariant.goes) c.step.ensures.join Admit c.step.result c.loop-actor-test.true c.step.ensures.step c.step.ensures.gathers memory

pub loop-actor-preserved : goal.loop-actor-preserved
loop-actor-preserved g c =
    let other : c.step.result ≢ Memory = search rules in
    record {
      join = c.step.ensures.join ∙ c.loop-actor.invariant.join;
      goes = c.step.ensures.goes;
      leads =
          leads-next g.F.Feed.gives g.F.Feed.ready g.J.Join.predicate c.args.schedule.now c.args.self.now c.args.feed.now c.loop-actor.actor-index c.loop-actor.self c.loop-actor.feed c.loop-actor.invariant.leads c.step.new.self c.step.new.feed
          (sound-goes g.J.Join.predicate c.loop-actor.self (g.F.Feed.state c.loop-actor.feed) c.loop-actor.invariant.goes) c.step.ensures.join Admit c.step.result _ c.loop-actor-test.true c.step.ensures.step c.step.ensures.gathers other refl;
    }

pub returns-clause-runs : goal.returns-clause-runs
returns-clause-runs g c =
    ran-over g.F.Feed.gives g.F.Feed.ready g.J.Join.predicate c.args.schedule.now c.args.self.now c.args.feed.now c.loop-actor.actor-index c.loop-actor.self c.loop-actor.feed c.loop-actor.invariant.leads (omega arith)

pub returns-then-eq-clause-fed : goal.returns-then-eq-clause-fed
returns-then-eq-clause-fed g c = λ before taken goes over. feed-goes-on g.F.Feed.gives g.F.Feed.state g.met.F.Feed.told before taken _ _ goes over

pub returns-clause-fed : goal.returns-clause-fed
returns-clause-fed g c = λ before taken goes over. feed-goes-on g.F.Feed.gives g.F.Feed.state g.met.F.Feed.told before taken _ _ goes over
