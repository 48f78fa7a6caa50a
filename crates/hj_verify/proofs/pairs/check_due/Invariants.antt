use Rattle.std.proofs.Common.{◌≡◌, List, ℕ, length, take}
use Rattle.hj_base.specs.Outside.{ChangesOnly, RoleState}
use Rattle.hj_value.specs.declared.field.Field.{Field}
use Rattle.hj_msg.specs.declared.event.Event.{Event}
use Rattle.hj_msg.specs.declared.event.Pair.{Pair}
use Rattle.hj_msg.specs.Feed.{FeedState}
use Rattle.hj_eval.specs.Holds.{holds}
use Rattle.hj_chain.specs.declared.actor.Actor.{Actor}
use Rattle.hj_chain.specs.Steps.{GoesWith}
use Rattle.hj_stream.specs.JoinText.{text}
use Rattle.hj_trace.specs.Stream.{GoesWithRole as IsReadOf, TextStreamState}
use Rattle.hj_verify.specs.Due.{ChainHasGiven}
use Rattle.hj_verify.specs.Output.{OutputAgrees}
use Rattle.hj_verify.proofs.Due.{Gave}
use Rattle.hj_verify.proofs.pairs.check_due.Given as goal

abbrev pub invariant-loop-pair : goal.invariant-loop-pair
invariant-loop-pair g l = record {
  state : l.chain.state ≡ l.fn.chain.state;
  join : l.chain.join ≡ l.fn.chain.join;
  goes : (feed : FeedState) → GoesWith holds l.fn.chain feed → GoesWith holds l.chain feed;
  role : l.output.stream.role ≡ l.fn.output.stream.role;
  read : IsReadOf l.output.stream (g.O.Outside.state l.outside l.output.stream.role);
  gave : (schedule : List Actor) (events : List (Event (List Field))) (given : ℕ) (pairs : List (Pair (List Field))) (start : TextStreamState) (before : RoleState)
      → ChainHasGiven l.fn.chain schedule events given pairs → OutputAgrees (text (take given pairs)) start before l.fn.output (g.O.Outside.state l.fn.outside l.fn.output.stream.role)
      → Gave l.chain schedule events pairs start before l.output (g.O.Outside.state l.outside l.output.stream.role);
  others : ChangesOnly l.fn.output.stream.role (g.O.Outside.state l.fn.outside) (g.O.Outside.state l.outside);
  names : (name : List ℕ) → g.O.Outside.under l.outside name ≡ g.O.Outside.under l.fn.outside name;
}

abbrev pub decreases-loop-pair : goal.decreases-loop-pair
decreases-loop-pair g l = length l.chain.kept
