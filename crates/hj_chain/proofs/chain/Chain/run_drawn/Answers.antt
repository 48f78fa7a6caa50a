use Rattle.std.proofs.Common.{◌≡◌, ◌≢◌, ◌+◌, ◌*◌, ◌<◌, ◌≤◌, false, length, Some, None, ap, sym, ◌∙◌, subst, rules}
use Rattle.hj_msg.specs.declared.drain.Drained.TheVariants.{Kept, Refused}
use Rattle.hj_chain.specs.declared.actor.Stepped.TheVariants.{Memory}
use Rattle.hj_msg.specs.declared.fin.Fin.{Fin}
use Rattle.hj_chain.specs.Chain.{ChainState, Contents}
use Rattle.hj_chain.specs.declared.serial.Chooser.TheVariants as chooser
use Rattle.hj_chain.specs.Serial.{RunsSerially, by_draw}
use Rattle.hj_chain.proofs.Sweeping.{named-by-draw}
use Rattle.hj_chain.proofs.ChosenActors.{chosen-enabled}
use Rattle.hj_collect.proofs.Giving.{was-kept}
use Rattle.hj_chain.proofs.Draining.{state-stays}
use Rattle.hj_chain.proofs.Goings.{enabled_going}
use Rattle.hj_chain.proofs.FewSteps.{to_come}
use Rattle.hj_chain.proofs.Released.{drained-on, drained-refused, drained-settles}
use Rattle.hj_chain.proofs.SerialRuns.{running-begins, running-ends-done, running-ends-over, running-over, running-step, step-fewer, step-settled, was-going}
use Rattle.hj_chain.proofs.chain.Chain.run_drawn.Goals as goal
use Rattle.hj_chain.proofs.chain.Chain.run_drawn.Goals.{then-self, else-self}

pub returns-then-eq : goal.returns-then-eq
returns-then-eq g c =
    let refused : c.release.result ≡ Refused = search rules in
    let begins = running-begins g.F.Feed.gives g.F.Feed.ready g.D.Drain.takes g.F.Feed.state g.J.Join.predicate (chooser.Seeded c.args.seed)
    c.args.self.now c.args.feed.now c.args.drain.now c.requires (by_draw c.new-lcg.result) (ap by_draw c.new-lcg.ensures) in
    drained-refused begins c.release.ensures refused

pub loop-actor-init : goal.loop-actor-init
loop-actor-init g c =
    let other : c.release.result ≢ Refused = search rules in
    let kept : c.release.result ≡ Kept = was-kept c.release.result other in
    let begins = running-begins g.F.Feed.gives g.F.Feed.ready g.D.Drain.takes g.F.Feed.state g.J.Join.predicate (chooser.Seeded c.args.seed)
    c.args.self.now c.args.feed.now c.args.drain.now c.requires (by_draw c.new-lcg.result) (ap by_draw c.new-lcg.ensures) in
    record {
      running = drained-on begins c.release.ensures kept;
      settled = λ going. drained-settles begins c.release.ensures kept going;
    }

pub returns-then-eq-2 : goal.returns-then-eq-2
returns-then-eq-2 g c =
    let memory : c.step_past.result ≡ Memory = search rules in
    record {
      runs = running-over g.F.Feed.gives g.F.Feed.ready g.D.Drain.takes g.F.Feed.state g.J.Join.predicate (chooser.Seeded c.args.seed) c.args.self.now c.args.feed.now c.args.drain.now (by_draw c.loop-actor.lcg) c.loop-actor.self c.loop-actor.feed c.loop-actor.drain c.loop-actor.invariant.running c.in-Some.actor (named-by-draw c.loop-actor.self.state (g.F.Feed.ready c.loop-actor.feed) c.loop-actor.lcg c.draw.new.self c.draw.result (Some c.in-Some.actor) c.draw.ensures.number c.draw.ensures.held (c.in-Some.ensures (g.F.Feed.ready c.loop-actor.feed) c.would_wait.ensures)) c.step_past.result c.step_past.new.self c.step_past.new.feed c.step_past.ensures.step c.step_past.ensures.gathers c.step_past.ensures.join memory;
      join = c.step_past.ensures.join ∙ c.loop-actor.invariant.running.join;
      goes = c.step_past.ensures.goes;
    }

pub returns-then-eq-3 : goal.returns-then-eq-3
returns-then-eq-3 g c =
    let other : c.step_past.result ≢ Memory = search rules in
    let refused : c.release-in-Collect.result ≡ Refused = search rules in
    let stepped = running-step g.F.Feed.gives g.F.Feed.ready g.D.Drain.takes g.F.Feed.state g.J.Join.predicate (chooser.Seeded c.args.seed) c.args.self.now c.args.feed.now c.args.drain.now (by_draw c.loop-actor.lcg) c.loop-actor.self c.loop-actor.feed c.loop-actor.drain c.loop-actor.invariant.running c.in-Some.actor (named-by-draw c.loop-actor.self.state (g.F.Feed.ready c.loop-actor.feed) c.loop-actor.lcg c.draw.new.self c.draw.result (Some c.in-Some.actor) c.draw.ensures.number c.draw.ensures.held (c.in-Some.ensures (g.F.Feed.ready c.loop-actor.feed) c.would_wait.ensures)) c.step_past.result c.step_past.new.self c.step_past.new.feed c.step_past.ensures.step c.step_past.ensures.gathers c.step_past.ensures.join
    other c.loop-actor.invariant.settled c.step_past.ensures.goes (by_draw c.draw.new.self) (ap by_draw c.draw.ensures.held) tt in
    drained-refused stepped c.release-in-Collect.ensures refused

pub loop-actor-smaller-else-eq-3 : goal.loop-actor-smaller-else-eq-3
loop-actor-smaller-else-eq-3 g c =
    let other : c.step_past.result ≢ Memory = search rules in
    subst (λ (s : ChainState g.row.P.Denot). to_come (length s.cores) s + (4 * length s.cores + 4) * (g.F.Feed.state c.step_past.new.feed).remaining
    < to_come (length c.loop-actor.self.state.cores) c.loop-actor.self.state + (4 * length c.loop-actor.self.state.cores + 4) * (g.F.Feed.state c.loop-actor.feed).remaining)
    (sym (state-stays c.step_past.new.self c.release-in-Collect.new.self c.release-in-Collect.ensures.others))
    (step-fewer g.F.Feed.gives g.F.Feed.ready g.D.Drain.takes g.F.Feed.state g.J.Join.predicate (chooser.Seeded c.args.seed) c.args.self.now c.args.feed.now c.args.drain.now (by_draw c.loop-actor.lcg) c.loop-actor.self c.loop-actor.feed c.loop-actor.drain c.loop-actor.invariant.running c.in-Some.actor (named-by-draw c.loop-actor.self.state (g.F.Feed.ready c.loop-actor.feed) c.loop-actor.lcg c.draw.new.self c.draw.result (Some c.in-Some.actor) c.draw.ensures.number c.draw.ensures.held (c.in-Some.ensures (g.F.Feed.ready c.loop-actor.feed) c.would_wait.ensures)) c.step_past.result c.step_past.new.self c.step_past.new.feed c.step_past.ensures.step c.step_past.ensures.gathers c.step_past.ensures.join other c.step_past.ensures.answers)

pub loop-actor-preserved-else-eq-3 : goal.loop-actor-preserved-else-eq-3
loop-actor-preserved-else-eq-3 g c =
    let other : c.step_past.result ≢ Memory = search rules in
    let unrefused : c.release-in-Collect.result ≢ Refused = search rules in
    let kept : c.release-in-Collect.result ≡ Kept = was-kept c.release-in-Collect.result unrefused in
    let stepped = running-step g.F.Feed.gives g.F.Feed.ready g.D.Drain.takes g.F.Feed.state g.J.Join.predicate (chooser.Seeded c.args.seed) c.args.self.now c.args.feed.now c.args.drain.now (by_draw c.loop-actor.lcg) c.loop-actor.self c.loop-actor.feed c.loop-actor.drain c.loop-actor.invariant.running c.in-Some.actor (named-by-draw c.loop-actor.self.state (g.F.Feed.ready c.loop-actor.feed) c.loop-actor.lcg c.draw.new.self c.draw.result (Some c.in-Some.actor) c.draw.ensures.number c.draw.ensures.held (c.in-Some.ensures (g.F.Feed.ready c.loop-actor.feed) c.would_wait.ensures)) c.step_past.result c.step_past.new.self c.step_past.new.feed c.step_past.ensures.step c.step_past.ensures.gathers c.step_past.ensures.join
    other c.loop-actor.invariant.settled c.step_past.ensures.goes (by_draw c.draw.new.self) (ap by_draw c.draw.ensures.held) tt in
    record {
      running = drained-on stepped c.release-in-Collect.ensures kept;
      settled = λ going. drained-settles stepped c.release-in-Collect.ensures kept going;
    }

pub loop-actor-smaller : goal.loop-actor-smaller
loop-actor-smaller g c =
    let other : c.step_past.result ≢ Memory = search rules in
    step-fewer g.F.Feed.gives g.F.Feed.ready g.D.Drain.takes g.F.Feed.state g.J.Join.predicate (chooser.Seeded c.args.seed) c.args.self.now c.args.feed.now c.args.drain.now (by_draw c.loop-actor.lcg) c.loop-actor.self c.loop-actor.feed c.loop-actor.drain c.loop-actor.invariant.running c.in-Some.actor (named-by-draw c.loop-actor.self.state (g.F.Feed.ready c.loop-actor.feed) c.loop-actor.lcg c.draw.new.self c.draw.result (Some c.in-Some.actor) c.draw.ensures.number c.draw.ensures.held (c.in-Some.ensures (g.F.Feed.ready c.loop-actor.feed) c.would_wait.ensures)) c.step_past.result c.step_past.new.self c.step_past.new.feed c.step_past.ensures.step c.step_past.ensures.gathers c.step_past.ensures.join other c.step_past.ensures.answers

pub loop-actor-preserved : goal.loop-actor-preserved
loop-actor-preserved g c =
    let other : c.step_past.result ≢ Memory = search rules in
    record {
      running = (running-step
          g.F.Feed.gives g.F.Feed.ready g.D.Drain.takes g.F.Feed.state g.J.Join.predicate (chooser.Seeded c.args.seed) c.args.self.now c.args.feed.now c.args.drain.now (by_draw c.loop-actor.lcg) c.loop-actor.self c.loop-actor.feed c.loop-actor.drain c.loop-actor.invariant.running c.in-Some.actor (named-by-draw c.loop-actor.self.state (g.F.Feed.ready c.loop-actor.feed) c.loop-actor.lcg c.draw.new.self c.draw.result (Some c.in-Some.actor) c.draw.ensures.number c.draw.ensures.held (c.in-Some.ensures (g.F.Feed.ready c.loop-actor.feed) c.would_wait.ensures)) c.step_past.result c.step_past.new.self c.step_past.new.feed c.step_past.ensures.step c.step_past.ensures.gathers c.step_past.ensures.join
          other c.loop-actor.invariant.settled c.step_past.ensures.goes (by_draw c.draw.new.self) (ap by_draw c.draw.ensures.held) tt);
      settled = λ going.
          step-settled g.F.Feed.gives g.F.Feed.ready g.D.Drain.takes g.F.Feed.state g.J.Join.predicate (chooser.Seeded c.args.seed) c.args.self.now c.args.feed.now c.args.drain.now (by_draw c.loop-actor.lcg) c.loop-actor.self c.loop-actor.feed c.loop-actor.drain c.loop-actor.invariant.running c.in-Some.actor (named-by-draw c.loop-actor.self.state (g.F.Feed.ready c.loop-actor.feed) c.loop-actor.lcg c.draw.new.self c.draw.result (Some c.in-Some.actor) c.draw.ensures.number c.draw.ensures.held (c.in-Some.ensures (g.F.Feed.ready c.loop-actor.feed) c.would_wait.ensures)) c.step_past.result c.step_past.new.self c.step_past.new.feed c.step_past.ensures.step c.step_past.ensures.gathers c.step_past.ensures.join other c.in_default-actor.not-Collect
          (c.loop-actor.invariant.settled (was-going g.F.Feed.gives g.F.Feed.ready g.D.Drain.takes g.F.Feed.state g.J.Join.predicate (chooser.Seeded c.args.seed) c.args.self.now c.args.feed.now c.args.drain.now (by_draw c.loop-actor.lcg) c.loop-actor.self c.loop-actor.feed c.loop-actor.drain c.loop-actor.invariant.running c.in-Some.actor (named-by-draw c.loop-actor.self.state (g.F.Feed.ready c.loop-actor.feed) c.loop-actor.lcg c.draw.new.self c.draw.result (Some c.in-Some.actor) c.draw.ensures.number c.draw.ensures.held (c.in-Some.ensures (g.F.Feed.ready c.loop-actor.feed) c.would_wait.ensures)) c.step_past.result c.step_past.new.self c.step_past.new.feed c.step_past.ensures.step c.step_past.ensures.gathers c.step_past.ensures.join other));
    }

pub returns : goal.returns
returns g c =
    let over : c.self.inside.over ≡ c.loop-actor.self.state.over = ap (λ (k : Contents g.row.P.Denot g.row.J.Denot). k.state.over) c.self.view_is in
    record {
      runs = elim c.if-self.branch [
        | then-self w ↦ λ schedule events given stands.
            subst (λ (ended : Fin). RunsSerially g.F.Feed.gives g.F.Feed.ready g.D.Drain.takes g.J.Join.predicate (chooser.Seeded c.args.seed) schedule events given c.args.self.now c.args.feed.now c.args.drain.now ended c.loop-actor.self c.loop-actor.feed c.loop-actor.drain) (sym w.result-is)
            (running-ends-over g.F.Feed.gives g.F.Feed.ready g.D.Drain.takes g.F.Feed.state g.J.Join.predicate (chooser.Seeded c.args.seed) c.args.self.now c.args.feed.now c.args.drain.now (by_draw c.loop-actor.lcg) c.loop-actor.self c.loop-actor.feed c.loop-actor.drain c.loop-actor.invariant.running (sym over ∙ w.if-self.true) schedule events given stands)
        | else-self w ↦ λ schedule events given stands.
            let going : c.loop-actor.self.state.over ≡ false = sym over ∙ w.if-self.false in
            subst (λ (ended : Fin). RunsSerially g.F.Feed.gives g.F.Feed.ready g.D.Drain.takes g.J.Join.predicate (chooser.Seeded c.args.seed) schedule events given c.args.self.now c.args.feed.now c.args.drain.now ended c.loop-actor.self c.loop-actor.feed c.loop-actor.drain) (sym w.result-is)
            (running-ends-done g.F.Feed.gives g.F.Feed.ready g.D.Drain.takes g.F.Feed.state g.J.Join.predicate (chooser.Seeded c.args.seed) c.args.self.now c.args.feed.now c.args.drain.now (by_draw c.loop-actor.lcg) c.loop-actor.self c.loop-actor.feed c.loop-actor.drain c.loop-actor.invariant.running going (c.loop-actor.invariant.settled going)
            (subst (λ (k : Contents g.row.P.Denot g.row.J.Denot). 1 ≤ k.state.driver.flight) c.self.view_is c.self.invariant.flight) (g.F.Feed.ready c.loop-actor.feed) (named-by-draw c.loop-actor.self.state (g.F.Feed.ready c.loop-actor.feed) c.loop-actor.lcg c.draw.new.self c.draw.result None c.draw.ensures.number c.draw.ensures.held (c.in_default.ensures (g.F.Feed.ready c.loop-actor.feed) c.would_wait.ensures)) schedule events given stands)
      ];
      join = c.loop-actor.invariant.running.join;
      goes = c.loop-actor.invariant.running.goes;
    }

pub step_past-requires-clause-going : goal.step_past-requires-clause-going
step_past-requires-clause-going g c =
    let named = named-by-draw c.loop-actor.self.state (g.F.Feed.ready c.loop-actor.feed) c.loop-actor.lcg c.draw.new.self c.draw.result (Some c.in-Some.actor) c.draw.ensures.number c.draw.ensures.held (c.in-Some.ensures (g.F.Feed.ready c.loop-actor.feed) c.would_wait.ensures) in
    enabled_going c.loop-actor.self.state c.in-Some.actor (chosen-enabled c.loop-actor.self.state (by_draw c.loop-actor.lcg) (g.F.Feed.ready c.loop-actor.feed) c.in-Some.actor (sym named))
