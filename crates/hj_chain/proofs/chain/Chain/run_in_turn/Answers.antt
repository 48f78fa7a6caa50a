use Rattle.std.proofs.Common.{◌≡◌, ◌≢◌, true, false, refl, sym, ap, ◌∙◌, rules, arith, true≢false}
use Rattle.hj_msg.specs.declared.drain.Drained.TheVariants.{Kept, Refused}
use Rattle.hj_chain.specs.declared.serial.Chooser.TheVariants as chooser
use Rattle.hj_chain.specs.Chain.{Contents}
use Rattle.hj_chain.specs.Serial.{from_place}
use Rattle.hj_chain.specs.Sweep as sweep
use Rattle.hj_collect.proofs.Giving.{was-kept}
use Rattle.hj_chain.proofs.Released.{drained-on, drained-over, drained-refused, drained-settles}
use Rattle.hj_chain.proofs.Rounds.{ends-over, is-going-on, put-ends, put-on, reports-end, round-again, round-falls, tried-all, tried-ports}
use Rattle.hj_chain.proofs.SerialRuns.{running-begins}
use Rattle.hj_chain.proofs.Sweeping.{sweeping-at}
use Rattle.hj_chain.proofs.chain.Chain.run_in_turn.Goals as goal

pub returns-then-eq : goal.returns-then-eq
returns-then-eq g c =
    let refused : c.release.result ≡ Refused = search rules in
    let begins = running-begins g.F.Feed.gives g.F.Feed.ready g.D.Drain.takes g.F.Feed.state g.J.Join.predicate chooser.InTurn
    c.args.self.now c.args.feed.now c.args.drain.now c.requires (from_place 0) refl in
    drained-refused begins c.release.ensures refused

pub returns-then-self : goal.returns-then-self
returns-then-self g c =
    let other : c.release.result ≢ Refused = search rules in
    let over : c.release.new.self.state.over ≡ true =
    ap (λ (k : Contents g.row.P.Denot g.row.J.Denot). k.state.over) (sym c.self.view_is) ∙ c.if-self.true in
    let begins = running-begins g.F.Feed.gives g.F.Feed.ready g.D.Drain.takes g.F.Feed.state g.J.Join.predicate chooser.InTurn
    c.args.self.now c.args.feed.now c.args.drain.now c.requires (from_place 0) refl in
    drained-over begins c.release.ensures (was-kept c.release.result other) over

pub loop-sweep-init : goal.loop-sweep-init
loop-sweep-init g c =
    let other : c.release.result ≢ Refused = search rules in
    let kept : c.release.result ≡ Kept = was-kept c.release.result other in
    let going : c.release.new.self.state.over ≡ false =
    ap (λ (k : Contents g.row.P.Denot g.row.J.Denot). k.state.over) (sym c.self.view_is) ∙ c.if-self.false in
    let begins = running-begins g.F.Feed.gives g.F.Feed.ready g.D.Drain.takes g.F.Feed.state g.J.Join.predicate chooser.InTurn
    c.args.self.now c.args.feed.now c.args.drain.now c.requires (from_place 0) refl in
    record {
      swept = record {
        sweeping = sweeping-at g.F.Feed.gives g.F.Feed.ready g.D.Drain.takes g.F.Feed.state g.J.Join.predicate
            c.args.self.now c.args.feed.now c.args.drain.now 0 c.release.new.self c.args.feed.now c.release.new.drain
            (drained-on begins c.release.ensures kept) (omega arith);
        settled = drained-settles begins c.release.ensures kept going;
        going = going;
      };
      passed = λ still. absurd (true≢false still);
    }

pub try_put-requires-clause-goes : goal.try_put-requires-clause-goes
try_put-requires-clause-goes g c = c.loop-sweep.invariant.swept.sweeping.running.goes

pub try_port-requires : goal.try_port-requires
try_port-requires g c = is-going-on (put-on c.loop-sweep.invariant c.try_put.ensures.puts c.loop-sweep-test.true)

pub returns-then-not-try_ends : goal.returns-then-not-try_ends
returns-then-not-try_ends g c =
    let put = put-on c.loop-sweep.invariant c.try_put.ensures.puts c.loop-sweep-test.true in
    let ports = tried-ports c.try_port.ensures.sweeps c.try_port-in-loop-sweep.ensures.sweeps in
    ends-over put (c.try_ends.ensures.runs_out c.if-not-try_ends.true 1 _ _ ports)

pub returns-in-Some : goal.returns-in-Some
returns-in-Some g c =
    let put = put-on c.loop-sweep.invariant c.try_put.ensures.puts c.loop-sweep-test.true in
    let ports = tried-ports c.try_port.ensures.sweeps c.try_port-in-loop-sweep.ensures.sweeps in
    let yes : c.try_ends.result ≡ true = c.if-not-try_ends.false in
    let tried =
    tried-all ports (c.try_port-in-loop-sweep.ensures.cores ∙ c.try_port.ensures.cores)
    (c.try_ends.ensures.sweeps yes 1 _ _ ports) (c.try_ends.ensures.cores yes) in
    reports-end put tried (c.in-Some.ensures.ends _ _ _ _ sweep.starts)

pub loop-sweep-smaller : goal.loop-sweep-smaller
loop-sweep-smaller g c =
    let put = put-on c.loop-sweep.invariant c.try_put.ensures.puts c.loop-sweep-test.true in
    let ports = tried-ports c.try_port.ensures.sweeps c.try_port-in-loop-sweep.ensures.sweeps in
    let yes : c.try_ends.result ≡ true = c.if-not-try_ends.false in
    let tried =
    tried-all ports (c.try_port-in-loop-sweep.ensures.cores ∙ c.try_port.ensures.cores)
    (c.try_ends.ensures.sweeps yes 1 _ _ ports) (c.try_ends.ensures.cores yes) in
    round-falls put tried (c.in_default.ensures.collects _ _ _ _ sweep.starts)

pub loop-sweep-preserved : goal.loop-sweep-preserved
loop-sweep-preserved g c =
    let put = put-on c.loop-sweep.invariant c.try_put.ensures.puts c.loop-sweep-test.true in
    let ports = tried-ports c.try_port.ensures.sweeps c.try_port-in-loop-sweep.ensures.sweeps in
    let yes : c.try_ends.result ≡ true = c.if-not-try_ends.false in
    let tried =
    tried-all ports (c.try_port-in-loop-sweep.ensures.cores ∙ c.try_port.ensures.cores)
    (c.try_ends.ensures.sweeps yes 1 _ _ ports) (c.try_ends.ensures.cores yes) in
    round-again put tried (c.in_default.ensures.collects _ _ _ _ sweep.starts)

pub returns : goal.returns
returns g c = put-ends c.loop-sweep.invariant c.try_put.ensures.some c.try_put.ensures.puts c.loop-sweep-test.false
