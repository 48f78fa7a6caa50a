-- A merger goes on.
use Rattle.std.proofs.Common.{◌≡◌, ℕ, true, false, List, [], ◌∷◌, ◌++◌, is_none, is_some, Some, None, refl, sym, ap, subst, arith}
use Rattle.std.specs.declared.option.Option.{Option}
use Rattle.std.proofs.lemmas.Bool.{false≢true, true≢false}
use Rattle.hj_value.specs.declared.field.Field.{Field}
use Rattle.hj_base.specs.declared.outside.Role.{Role}
use Rattle.hj_base.specs.declared.outside.Role.TheVariants as role
use Rattle.hj_base.specs.Outside.{RoleState}
use Rattle.hj_msg.specs.declared.event.Event.{Event}
use Rattle.hj_query.specs.QueryParts.{QueryParts}
use Rattle.hj_event.specs.declared.merger.Next.TheVariants as next
use Rattle.hj_event.specs.Events.{NumberedEvents}
use Rattle.hj_event.specs.Merger.{Merging, IsNewMerger, TakesNext, events_from}
use Rattle.hj_event.specs.Sides.{at_its_end, in_front}
use Rattle.hj_event.proofs.CallLemmas.{follows_before}
use Rattle.hj_event.proofs.Whole.{are_well_formed}
use Rattle.hj_stream.specs.Ahead.{IsGoingOn, MayComeBehind}
use Rattle.hj_stream.proofs.Coming.{may-come, may-come-later}
use Rattle.hj_stream.proofs.Reading.{end_follows, events_within}

pub none_from : {X : Type 0} (o : Option X) → is_none o ≡ true → o ≡ None
none_from None h = refl
none_from (Some x) h = absurd (false≢true h)

pub not_some : {X : Type 0} (o : Option X) → is_some o ≡ false → o ≡ None
not_some None h = refl
not_some (Some x) h = absurd (true≢false h)

-- a new one does
pub going_first : (query : QueryParts) (limit : ℕ) (merger : Merging) → IsNewMerger query limit merger → IsGoingOn limit merger []
going_first query limit merger new = record {
  going = ap is_none new.over;
  ahead = λ left right l_follows r_follows.
      subst (λ (n : NumberedEvents). MayComeBehind limit [] n.events) (sym (new.events left right))
      (record { numbered = may-come [] _ (are_well_formed query left right limit); few = omega (arith, events_within query left right limit) });
}

module _ (limit : ℕ) (given : List (Event (List Field))) (event : Event (List Field)) (old new : Merging) (before now : Role → RoleState) (on : IsGoingOn limit old given) (takes : TakesNext (next.Event event) old new before now) where
  -- the event that one gives is the first of those that may come
  pub comes_first : MayComeBehind limit given (event ∷ (events_from new at_its_end at_its_end).events)
  comes_first =
      let l = end_follows new.sides.left.reading.ended in
      let r = end_follows new.sides.right.reading.ended in
      subst (λ (n : NumberedEvents). MayComeBehind limit given n.events) (takes.leads at_its_end at_its_end l r)
      (on.ahead (in_front takes.left_bytes at_its_end) (in_front takes.right_bytes at_its_end)
      (follows_before false takes.left_bytes old.sides.left.reading.ended new.sides.left.reading.ended (before role.Left) (now role.Left) at_its_end takes.left l)
      (follows_before false takes.right_bytes old.sides.right.reading.ended new.sides.right.reading.ended (before role.Right) (now role.Right) at_its_end takes.right r))

  -- and after it the merger goes on
  pub going_on : IsGoingOn limit new (given ++ event ∷ [])
  going_on = record {
    going = ap is_none takes.stays;
    ahead = λ left right l r.
        may-come-later limit given event (events_from new left right).events
        (subst (λ (n : NumberedEvents). MayComeBehind limit given n.events) (takes.leads left right l r)
        (on.ahead (in_front takes.left_bytes left) (in_front takes.right_bytes right)
        (follows_before false takes.left_bytes old.sides.left.reading.ended new.sides.left.reading.ended (before role.Left) (now role.Left) left takes.left l)
        (follows_before false takes.right_bytes old.sides.right.reading.ended new.sides.right.reading.ended (before role.Right) (now role.Right) right takes.right r)));
  }
