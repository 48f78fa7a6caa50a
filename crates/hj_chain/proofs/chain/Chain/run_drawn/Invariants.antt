use Rattle.std.proofs.Common.{◌≡◌, ◌+◌, ◌*◌, false, length}
use Rattle.hj_chain.specs.declared.serial.Chooser.TheVariants as chooser
use Rattle.hj_chain.specs.Serial.{by_draw}
use Rattle.hj_chain.proofs.FewSteps.{to_come}
use Rattle.hj_chain.proofs.SerialRuns.{Running, Settled}
use Rattle.hj_chain.proofs.chain.Chain.run_drawn.Given as goal

abbrev pub invariant-loop-actor : goal.invariant-loop-actor
invariant-loop-actor g l = record {
  running : Running g.F.Feed.gives g.F.Feed.ready g.D.Drain.takes g.F.Feed.state g.J.Join.predicate (chooser.Seeded l.fn.seed) l.fn.self l.fn.feed l.fn.drain (by_draw l.lcg) l.self l.feed l.drain;
  settled : l.self.state.over ≡ false → Settled l.self;
}

abbrev pub decreases-loop-actor : goal.decreases-loop-actor
decreases-loop-actor g l = to_come (length l.self.state.cores) l.self.state + (4 * length l.self.state.cores + 4) * (g.F.Feed.state l.feed).remaining
