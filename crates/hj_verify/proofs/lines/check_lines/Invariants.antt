use Rattle.std.proofs.Common.{ℕ}
use Rattle.hj_query.specs.QueryParts.{QueryParts}
use Rattle.hj_chain.specs.Steps.{GoesWith}
use Rattle.hj_eval.specs.Holds.{holds}
use Rattle.hj_stream.specs.Feeding.{Feeding}
use Rattle.hj_replay.specs.Feeds.{SameOutside, roles_of, state_of}
use Rattle.hj_verify.specs.Checked.{AreOpen, Checking, feeding, steps_left}
use Rattle.hj_verify.proofs.lines.check_lines.Given as goal

abbrev pub invariant-loop-chain : goal.invariant-loop-chain
invariant-loop-chain g l = record {
  outside : SameOutside l.fn.feed l.feed;
  goes : GoesWith holds l.chain (state_of l.feed);
  are_open : AreOpen (roles_of l.feed) l.texts.trace l.texts.output.stream;
  checking : (query : QueryParts) (n flight : ℕ) (start : Feeding) → Checking query n flight start 1 l.fn.chain (feeding l.fn.feed) l.fn.texts.trace l.fn.texts.output
      → Checking query n flight start l.number l.chain (feeding l.feed) l.texts.trace l.texts.output;
}

abbrev pub decreases-loop-chain : goal.decreases-loop-chain
decreases-loop-chain g l = steps_left l.chain.state (state_of l.feed)
