use Rattle.std.proofs.Common.{Bool, List, length, ap, sym, subst}
use Rattle.hj_msg.specs.declared.event.Event.{Event}
use Rattle.hj_value.specs.declared.field.Field.{Field}
use Rattle.hj_base.specs.declared.outside.Role.TheVariants as role
use Rattle.hj_event.specs.Roles.{IsInStep}
use Rattle.hj_stream.specs.Ahead.{IsGoingOn}
use Rattle.hj_stream.proofs.Going.{going_first}
use Rattle.hj_stream.proofs.feed.EventFeed.new.Goals as goal

pub invariant_of-result : goal.invariant_of-result
invariant_of-result g c = record {
  left = subst (λ (ended : Bool). IsInStep ended (g.O.Outside.state c.args.outside.now role.Left)) (sym c.requires.new.1.left) c.requires.left;
  right = subst (λ (ended : Bool). IsInStep ended (g.O.Outside.state c.args.outside.now role.Right)) (sym c.requires.new.1.right) c.requires.right;
  low_limit = c.ranges.limit.fits;
  counted = ap length c.new.ensures;
  going = λ none. subst (λ (given : List (Event (List Field))). IsGoingOn c.args.limit c.args.merger.now given) (sym c.new.ensures) (going_first c.requires.new.0 c.args.limit c.args.merger.now c.requires.new.1);
}
