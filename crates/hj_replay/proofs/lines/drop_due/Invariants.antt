use Rattle.std.proofs.Common.{◌≡◌, length}
use Rattle.hj_msg.specs.Feed.{FeedState}
use Rattle.hj_chain.specs.Steps.{GoesWith}
use Rattle.hj_eval.specs.Holds.{holds}
use Rattle.hj_replay.proofs.lines.drop_due.Given as goal

abbrev pub invariant-loop : goal.invariant-loop
invariant-loop g l = record {
  state : l.chain.state ≡ l.fn.chain.state;
  join : l.chain.join ≡ l.fn.chain.join;
  goes : (feed : FeedState) → GoesWith holds l.fn.chain feed → GoesWith holds l.chain feed;
}

abbrev pub decreases-loop : goal.decreases-loop
decreases-loop g l = length l.chain.kept
