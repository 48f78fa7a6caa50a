-- What all calls of a merger together gave.
use Rattle.std.proofs.Common.{◌≡◌, ℕ, Bool, true, false, List, [], ◌∷◌, ◌++◌, sym, refl, ap, subst, ◌∙◌, append_assoc}
use Rattle.hj_value.specs.declared.field.Field.{Field}
use Rattle.hj_base.specs.declared.numbers.Side.TheVariants.{Left, Right}
use Rattle.hj_base.specs.declared.outside.Role.{Role}
use Rattle.hj_base.specs.declared.outside.Role.TheVariants as role
use Rattle.hj_base.specs.Outside.{RoleState}
use Rattle.hj_msg.specs.declared.event.Event.{Event}
use Rattle.hj_query.specs.QueryParts.{QueryParts}
use Rattle.hj_record.specs.Pieces.{Stream}
use Rattle.hj_event.specs.declared.merger.Next.{Next}
use Rattle.hj_event.specs.declared.merger.Next.TheVariants as next
use Rattle.hj_event.specs.Events.{NumberedEvents, events_of}
use Rattle.hj_event.specs.Merger.{Merging, IsNewMerger, TakesNext, NextLeads, events_from, fails_next}
use Rattle.hj_event.specs.Roles.{IsReadOn}
use Rattle.hj_event.specs.Sides.{in_front, at_its_end, MayFollow, Follows}
use Rattle.hj_event.specs.Calls.{HasGiven, GivesAll, then_events}

abbrev pub Roles : Type 0
Roles = Role → RoleState

-- what may come behind the bytes of a call may come behind those before it
pub follows_before : (failed : Bool) (bytes : List ℕ) (was ended : Bool) (before now : RoleState) (stream : Stream) → IsReadOn failed bytes was ended before now → Follows failed ended stream → MayFollow was (in_front bytes stream)
follows_before failed bytes false ended before now stream reads follows = tt
follows_before failed bytes true ended before now stream reads follows =
    let none = reads.no_more refl in
    let at_end : MayFollow ended stream = subst (λ (f : Bool). Follows f ended stream) none.2 follows in
    let is : stream ≡ at_its_end = subst (λ (e : Bool). MayFollow e stream) none.0 at_end in
    ap (λ (s : Stream). in_front bytes s) is ∙ ap (λ (xs : List ℕ). in_front xs at_its_end) none.1

both_in_front : (xs ys : List ℕ) (stream : Stream) → in_front (xs ++ ys) stream ≡ in_front xs (in_front ys stream)
both_in_front xs ys stream = ap (λ (bytes : List ℕ). record { bytes = bytes; whole = stream.whole }) (append_assoc xs ys stream.bytes)

pub begins : (query : QueryParts) (limit : ℕ) (now : Merging) → IsNewMerger query limit now → HasGiven query limit [] [] [] now
begins query limit now new l r l_follows r_follows = sym (new.events l r)

-- after any call, the events of both streams are those given before it, and then those that were to come
pub before_call : (query : QueryParts) (limit : ℕ) (left right : List ℕ) (events : List (Event (List Field))) (answer : Next) (old new : Merging) (before now : Roles) → HasGiven query limit left right events old → (takes : TakesNext answer old new before now) → (l r : Stream)
    → Follows (fails_next answer Left) new.sides.left.reading.ended l → Follows (fails_next answer Right) new.sides.right.reading.ended r
    → events_of query (in_front (left ++ takes.left_bytes) l) (in_front (right ++ takes.right_bytes) r) limit ≡ then_events events (events_from old (in_front takes.left_bytes l) (in_front takes.right_bytes r))
before_call query limit left right events answer old new before now given takes l r l_follows r_follows =
    ap (λ (s : Stream). events_of query s (in_front (right ++ takes.right_bytes) r) limit) (both_in_front left takes.left_bytes l)
    ∙ (ap (λ (s : Stream). events_of query (in_front left (in_front takes.left_bytes l)) s limit) (both_in_front right takes.right_bytes r)
    ∙ given (in_front takes.left_bytes l) (in_front takes.right_bytes r)
    (follows_before (fails_next answer Left) takes.left_bytes old.sides.left.reading.ended new.sides.left.reading.ended (before role.Left) (now role.Left) l takes.left l_follows)
    (follows_before (fails_next answer Right) takes.right_bytes old.sides.right.reading.ended new.sides.right.reading.ended (before role.Right) (now role.Right) r takes.right r_follows))

pub goes_on : (query : QueryParts) (limit : ℕ) (left right : List ℕ) (events : List (Event (List Field))) (event : Event (List Field)) (old new : Merging) (before now : Roles) → HasGiven query limit left right events old → (takes : TakesNext (next.Event event) old new before now)
    → HasGiven query limit (left ++ takes.left_bytes) (right ++ takes.right_bytes) (events ++ event ∷ []) new
goes_on query limit left right events event old new before now given takes l r l_follows r_follows =
    before_call query limit left right events (next.Event event) old new before now given takes l r l_follows r_follows
    ∙ (ap (then_events events) (takes.leads l r l_follows r_follows)
    ∙ ap (λ (es : List (Event (List Field))). record { events = es; ending = (events_from new l r).ending }) (sym (append_assoc events (event ∷ []) (events_from new l r).events)))

ends_by : (answer : Next) (events : List (Event (List Field))) (all ahead behind : NumberedEvents) → all ≡ then_events events ahead → NextLeads answer ahead behind → GivesAll answer events all
ends_by (next.Event event) events all ahead behind is leads = tt
ends_by next.Done events all ahead behind is leads = is ∙ ap (then_events events) leads
ends_by (next.Bad side at why) events all ahead behind is leads = is ∙ ap (then_events events) leads
ends_by (next.Failed side) events all ahead behind is leads = is ∙ ap (then_events events) leads
ends_by next.TooMany events all ahead behind is leads = is ∙ ap (then_events events) leads
ends_by next.Memory events all ahead behind is leads = tt

pub ends : (query : QueryParts) (limit : ℕ) (left right : List ℕ) (events : List (Event (List Field))) (answer : Next) (old new : Merging) (before now : Roles) → HasGiven query limit left right events old → (takes : TakesNext answer old new before now) → (l r : Stream)
    → Follows (fails_next answer Left) new.sides.left.reading.ended l → Follows (fails_next answer Right) new.sides.right.reading.ended r
    → GivesAll answer events (events_of query (in_front (left ++ takes.left_bytes) l) (in_front (right ++ takes.right_bytes) r) limit)
ends query limit left right events answer old new before now given takes l r l_follows r_follows =
    ends_by answer events (events_of query (in_front (left ++ takes.left_bytes) l) (in_front (right ++ takes.right_bytes) r) limit) (events_from old (in_front takes.left_bytes l) (in_front takes.right_bytes r)) (events_from new l r)
    (before_call query limit left right events answer old new before now given takes l r l_follows r_follows) (takes.leads l r l_follows r_follows)
