use Rattle.std.proofs.Common.{◌≡◌, ◌≢◌, ◌≤◌, ◌+◌, ◌*◌, ℕ, List, length, Some}
use Rattle.hj_value.specs.declared.field.Field.{Field}
use Rattle.hj_msg.specs.declared.feed.Given.{Given}
use Rattle.hj_chain.specs.Chain.{empty_chain}
use Rattle.hj_chain.specs.Serial.{IsPlaceWithin}
use Rattle.hj_chain.specs.Steps.{GoesWith}
use Rattle.hj_chain.proofs.FewSteps.{to_come}
use Rattle.hj_eval.specs.Holds.{holds}
use Rattle.hj_stream.specs.declared.outcome.Outcome.TheVariants as outcome
use Rattle.hj_trace.specs.Choosing.{choosing_in}
use Rattle.hj_replay.specs.Feeds.{Fed, state_of}
use Rattle.hj_replay.proofs.Underway.{Underway}
use Rattle.hj_replay.proofs.lines.write_lines.Given as goal

abbrev pub invariant-loop-actor : goal.invariant-loop-actor
invariant-loop-actor g l = record {
  under : (n flight : ℕ) (first : Given (List Field)) → 1 ≤ n → 1 ≤ flight → l.fn.chain.state ≡ empty_chain n flight first
      → Underway (holds l.fn.chain.join) l.fn.chooser n flight first l.fn.feed (g.K.Sink.told l.fn.out) (choosing_in l.naming) l.chain.state l.feed (g.K.Sink.told l.out);
  feed : Fed l.fn.feed l.feed;
  faults : g.K.Sink.faults l.out ≡ g.K.Sink.faults l.fn.out;
  goes : GoesWith holds l.chain (state_of l.feed);
  join : l.chain.join ≡ l.fn.chain.join;
  within : IsPlaceWithin (length l.chain.state.cores) (choosing_in l.naming);
  ran : l.feed.feed.ended ≢ Some outcome.Memory;
}

abbrev pub decreases-loop-actor : goal.decreases-loop-actor
decreases-loop-actor g l = to_come (length l.chain.state.cores) l.chain.state + (4 * length l.chain.state.cores + 4) * (state_of l.feed).remaining
