-- What was read of both streams while a join runs, and which events this gave.
use Rattle.std.proofs.Common.{◌≡◌, ℕ, ◌≤◌, Bool, true, false, cond, ltb, List, [], ◌∷◌, ◌++◌, length, take, None, refl, sym, subst, ◌∙◌, arith}
use Rattle.std.proofs.lemmas.List.{length-take}
use Rattle.std.proofs.lemmas.Bool.Decides.{nat_tests}
use Rattle.std.specs.declared.option.Option.{Option}
use Rattle.hj_value.specs.declared.field.Field.{Field}
use Rattle.hj_base.specs.declared.outside.Role.{Role}
use Rattle.hj_base.specs.declared.outside.Role.TheVariants as role
use Rattle.hj_base.specs.Outside.{RoleState, ChangesOnlyStreams}
use Rattle.hj_msg.specs.declared.event.Event.{Event}
use Rattle.hj_msg.specs.Event.{IsWellFormed}
use Rattle.hj_msg.proofs.Numbered.{front_is_well_formed}
use Rattle.hj_query.specs.QueryParts.{QueryParts}
use Rattle.hj_record.specs.Pieces.{Stream}
use Rattle.hj_event.specs.declared.merger.Next.{Next}
use Rattle.hj_event.specs.declared.merger.Next.TheVariants as next
use Rattle.hj_event.specs.declared.stop.MergeEnd.{MergeEnd}
use Rattle.hj_event.specs.Arrivals.{too_many}
use Rattle.hj_event.specs.Events.{NumberedEvents, events_of, all_events_of}
use Rattle.hj_event.specs.Merger.{Merging, IsNewMerger, AnswersNext, AnswersFrom, TakesNext, events_from}
use Rattle.hj_event.specs.Roles.{IsInStep, IsReadOn}
use Rattle.hj_event.specs.Sides.{in_front, at_its_end, MayFollow}
use Rattle.hj_event.specs.Calls.{HasGiven, then_events}
use Rattle.hj_event.proofs.CallLemmas.{begins, goes_on}
use Rattle.hj_event.proofs.RoleLemmas.{not_read, read_more}
use Rattle.hj_event.proofs.Whole.{are_well_formed}

-- These events were given, of these bytes.
pub record Reads (query : QueryParts) (limit : ℕ) (events : List (Event (List Field))) (merger : Merging) (before now : Role → RoleState) : Type 0 where
  pub left_bytes : List ℕ
  pub right_bytes : List ℕ
  pub given : HasGiven query limit left_bytes right_bytes events merger
  pub going : merger.over ≡ None
  pub left : IsReadOn false left_bytes false merger.sides.left.reading.ended (before role.Left) (now role.Left)
  pub right : IsReadOn false right_bytes false merger.sides.right.reading.ended (before role.Right) (now role.Right)
  pub others : ChangesOnlyStreams before now

-- nothing is read of a role that is open
pub unread : (ended : Bool) (state : RoleState) → ended ≡ false → IsInStep false state → IsReadOn false [] false ended state state
unread ended state is step = subst (λ (e : Bool). IsReadOn false [] false e state state) (sym is) (not_read false state step)

-- a merger that is new has given nothing
pub reads_begin : (query : QueryParts) (limit : ℕ) (merger : Merging) (now : Role → RoleState) → IsNewMerger query limit merger → IsInStep false (now role.Left) → IsInStep false (now role.Right) → Reads query limit [] merger now now
reads_begin query limit merger now new left right = record {
  left_bytes = [];
  right_bytes = [];
  given = begins query limit merger new;
  going = new.over;
  left = unread merger.sides.left.reading.ended (now role.Left) new.left left;
  right = unread merger.sides.right.reading.ended (now role.Right) new.right right;
  others = λ of not_left not_right. refl;
}

-- a merger that gave only events goes on
pub taking : (answer : Next) (old new : Merging) (before now : Role → RoleState) → old.over ≡ None → AnswersNext answer old new before now → TakesNext answer old new before now
taking answer old new before now going answers = subst (λ (over : Option MergeEnd). AnswersFrom over answer old new before now) going answers

-- one event more
pub reads_more : (query : QueryParts) (limit : ℕ) (events : List (Event (List Field))) (event : Event (List Field)) (old new : Merging) (before mid now : Role → RoleState) → Reads query limit events old before mid → TakesNext (next.Event event) old new mid now
    → Reads query limit (events ++ event ∷ []) new before now
reads_more query limit events event old new before mid now reads takes = record {
  left_bytes = reads.left_bytes ++ takes.left_bytes;
  right_bytes = reads.right_bytes ++ takes.right_bytes;
  given = goes_on query limit reads.left_bytes reads.right_bytes events event old new mid now reads.given takes;
  going = takes.stays;
  left = read_more false reads.left_bytes takes.left_bytes false old.sides.left.reading.ended new.sides.left.reading.ended (before role.Left) (mid role.Left) (now role.Left) reads.left takes.left;
  right = read_more false reads.right_bytes takes.right_bytes false old.sides.right.reading.ended new.sides.right.reading.ended (before role.Right) (mid role.Right) (now role.Right) reads.right takes.right;
  others = λ of not_left not_right. takes.others of not_left not_right ∙ reads.others of not_left not_right;
}

-- the end may come at any time
pub end_follows : (ended : Bool) → MayFollow ended at_its_end
end_follows true = refl
end_follows false = tt

-- the events given begin those of some streams
pub some_events : (query : QueryParts) (limit : ℕ) (events : List (Event (List Field))) (merger : Merging) (before now : Role → RoleState) → (reads : Reads query limit events merger before now)
    → events_of query (in_front reads.left_bytes at_its_end) (in_front reads.right_bytes at_its_end) limit ≡ then_events events (events_from merger at_its_end at_its_end)
some_events query limit events merger before now reads =
    reads.given at_its_end at_its_end (end_follows merger.sides.left.reading.ended) (end_follows merger.sides.right.reading.ended)

up_to_within : (limit : ℕ) (all : NumberedEvents) (over : Bool) → ltb limit (length all.events) ≡ over → length (cond {A = NumberedEvents} over (record { events = take limit all.events; ending = too_many }) all).events ≤ limit
up_to_within limit all true is = omega (arith, length-take limit all.events)
up_to_within limit all false is = grind (arith, nat_tests)

-- the events of streams are no more than the limit
pub events_within : (query : QueryParts) (left right : Stream) (limit : ℕ) → length (events_of query left right limit).events ≤ limit
events_within query left right limit =
    let all = all_events_of query left right in
    up_to_within limit all (ltb limit (length all.events)) refl

-- the events given are numbered from 0
pub well_formed : (query : QueryParts) (limit : ℕ) (events : List (Event (List Field))) (merger : Merging) (before now : Role → RoleState) → Reads query limit events merger before now → IsWellFormed events
well_formed query limit events merger before now reads =
    let left = in_front reads.left_bytes at_its_end in
    let right = in_front reads.right_bytes at_its_end in
    front_is_well_formed events (events_from merger at_its_end at_its_end).events
    (subst (λ (n : NumberedEvents). IsWellFormed n.events) (some_events query limit events merger before now reads) (are_well_formed query left right limit))
