use Rattle.std.proofs.Common.{◌∙◌}
use Rattle.hj_chain.proofs.Draining.{fewer, join-stays, state-stays}
use Rattle.hj_replay.proofs.lines.drop_due.Goals as goal

pub loop-smaller-in-Some : goal.loop-smaller-in-Some
loop-smaller-in-Some g c = fewer c.loop.chain.kept c.pair.new.self.kept _ c.in-Some.ensures.kept

pub loop-preserved-in-Some : goal.loop-preserved-in-Some
loop-preserved-in-Some g c = record {
  state = state-stays c.loop.chain c.pair.new.self c.pair.ensures.others ∙ c.loop.invariant.state;
  join = join-stays c.loop.chain c.pair.new.self c.pair.ensures.others ∙ c.loop.invariant.join;
  goes = λ feed goes. c.pair.ensures.goes feed (c.loop.invariant.goes feed goes);
}
