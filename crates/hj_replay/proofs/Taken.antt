-- What a feed read of both streams, and what this says of their events.
use Rattle.std.proofs.Common.{◌≡◌, ℕ, true, false, ◌&&◌, List, [], ◌++◌, length, None, Some, refl, sym, ap, subst, ◌∙◌, append-nil, true≢false}
use Rattle.std.specs.Prelude.{◌↔◌}
use Rattle.std.specs.declared.option.Option.{Option}
use Rattle.hj_value.specs.declared.field.Field.{Field}
use Rattle.hj_base.specs.declared.numbers.Side.TheVariants.{Left, Right}
use Rattle.hj_base.specs.declared.outside.Role.{Role}
use Rattle.hj_base.specs.declared.outside.Role.TheVariants as role
use Rattle.hj_base.specs.Outside.{RoleState}
use Rattle.hj_record.specs.Pieces.{Stream}
use Rattle.hj_msg.specs.declared.event.Event.{Event}
use Rattle.hj_query.specs.QueryParts.{QueryParts}
use Rattle.hj_event.specs.declared.merger.Next.{Next}
use Rattle.hj_event.specs.declared.merger.Next.TheVariants as next
use Rattle.hj_event.specs.Arrivals.{Ending, clean, bad, unread, too_many}
use Rattle.hj_event.specs.Calls.{GivesAll, then_events}
use Rattle.hj_event.specs.Events.{NumberedEvents, events_of}
use Rattle.hj_event.specs.Merger.{events_from, fails_next}
use Rattle.hj_event.specs.Numbering.{no_event}
use Rattle.hj_event.specs.Sides.{in_front, Follows}
use Rattle.hj_event.proofs.CallLemmas.{before_call, ends}
use Rattle.hj_event.proofs.RoleLemmas.{read_more}
use Rattle.hj_stream.specs.declared.outcome.Outcome.{Outcome}
use Rattle.hj_stream.specs.declared.outcome.Outcome.TheVariants as outcome
use Rattle.hj_stream.specs.Feeding.{Feeding}
use Rattle.hj_stream.specs.Joining.{AreEnded, FailsOn}
use Rattle.hj_stream.proofs.Fed.{Fed}
use Rattle.hj_stream.proofs.Joining.{are_ended, ended_by, ended_is, fails_so, not_both}
use Rattle.hj_replay.specs.Feeds.{MayCome}
use Rattle.hj_replay.specs.Tracing.{ReadOf}

abbrev Events : Type 0
Events = List (Event (List Field))

-- How events end, and how many they are, by an outcome.
abbrev pub EndsSo : Outcome → NumberedEvents → Type 0
EndsSo (outcome.Done events) all = (all.ending ≡ clean) × (length all.events ≡ events)
EndsSo (outcome.Bad side at found) all = all.ending ≡ bad side at found
EndsSo (outcome.SourceFault role.Query) all = ⊥
EndsSo (outcome.SourceFault role.SecondQuery) all = ⊥
EndsSo (outcome.SourceFault role.Left) all = all.ending ≡ unread Left
EndsSo (outcome.SourceFault role.Right) all = all.ending ≡ unread Right
EndsSo (outcome.SourceFault role.Third) all = ⊥
EndsSo (outcome.SourceFault role.Trace) all = ⊥
EndsSo (outcome.SourceFault role.Output) all = ⊥
EndsSo outcome.SinkFault all = ⊥
EndsSo outcome.TooMany all = all.ending ≡ too_many
EndsSo outcome.Memory all = Unit {0}

-- the events are these, and others that may come
pub record Goes (ended : Option Outcome) (events : Events) (all : NumberedEvents) : Type 0 where
  pub more : Events
  pub may : MayCome ended more
  pub are : all.events ≡ events ++ more

pub record Taken (query : QueryParts) (limit : ℕ) (before now : Role → RoleState) (ended : Option Outcome) (events : Events) : Type 0 where
  pub left : ReadOf (before role.Left) (now role.Left)
  pub right : ReadOf (before role.Right) (now role.Right)
  pub one : (left.failed && right.failed) ≡ false
  pub goes : (l r : Stream) → Follows left.failed left.ended l → Follows right.failed right.ended r → Goes ended events (events_of query (in_front left.bytes l) (in_front right.bytes r) limit)
  pub failed : (made : Outcome) → ended ≡ Some made → FailsOn made left.failed right.failed
  pub ends : (made : Outcome) → ended ≡ Some made → AreEnded made left.ended right.ended
  -- a read of a side failed exactly where the events have ended so
  pub left_tells : (left.failed ≡ true) ↔ (ended ≡ Some (outcome.SourceFault role.Left))
  pub right_tells : (right.failed ≡ true) ↔ (ended ≡ Some (outcome.SourceFault role.Right))
  pub so : (made : Outcome) → ended ≡ Some made → (l r : Stream) → Follows left.failed left.ended l → Follows right.failed right.ended r → EndsSo made (events_of query (in_front left.bytes l) (in_front right.bytes r) limit)

ended_so : (last : Next) (events : Events) (all : NumberedEvents) → GivesAll last events all → EndsSo (ended_by (length events) last) all
ended_so (next.Event event) events all gives = tt
ended_so next.Done events all gives = (ap (λ (n : NumberedEvents). n.ending) gives, ap (λ (n : NumberedEvents). length n.events) gives ∙ ap length (append-nil events))
ended_so (next.Bad side at why) events all gives = ap (λ (n : NumberedEvents). n.ending) gives
ended_so (next.Failed Left) events all gives = ap (λ (n : NumberedEvents). n.ending) gives
ended_so (next.Failed Right) events all gives = ap (λ (n : NumberedEvents). n.ending) gives
ended_so next.TooMany events all gives = ap (λ (n : NumberedEvents). n.ending) gives
ended_so next.Memory events all gives = tt

none_left : (events : Events) (all : NumberedEvents) (ending : Ending) → all ≡ then_events events (no_event ending)
    → all.events ≡ events ++ []
none_left events all ending is = ap (λ (n : NumberedEvents). n.events) is

goes_so : (last : Next) (events : Events) (all others : NumberedEvents) → all ≡ then_events events others → GivesAll last events all → Goes (Some (ended_by (length events) last)) events all
goes_so (next.Event event) events all others is gives = record { more = others.events; may = tt; are = ap (λ (n : NumberedEvents). n.events) is }
goes_so next.Done events all others is gives = record { more = []; may = refl; are = none_left events all clean gives }
goes_so (next.Bad side at why) events all others is gives = record { more = []; may = refl; are = none_left events all (bad side at why) gives }
goes_so (next.Failed Left) events all others is gives = record { more = []; may = refl; are = none_left events all (unread Left) gives }
goes_so (next.Failed Right) events all others is gives = record { more = []; may = refl; are = none_left events all (unread Right) gives }
goes_so next.TooMany events all others is gives = record { more = []; may = refl; are = none_left events all too_many gives }
goes_so next.Memory events all others is gives = record { more = others.events; may = tt; are = ap (λ (n : NumberedEvents). n.events) is }

same_made : (o made : Outcome) → Some o ≡ Some made → o ≡ made
same_made o made is = cc

-- which side's read failed
tells_left : (count : ℕ) (last : Next) → (fails_next last Left ≡ true) ↔ (Some (ended_by count last) ≡ Some (outcome.SourceFault role.Left))
tells_left count (next.Event event) = (λ e. absurd (true≢false (sym e)), λ e. absurd (let wrong : Some (outcome.Memory) ≡ Some (outcome.SourceFault role.Left) = e in cc))
tells_left count next.Done = (λ e. absurd (true≢false (sym e)), λ e. absurd (let wrong : Some (outcome.Done count) ≡ Some (outcome.SourceFault role.Left) = e in cc))
tells_left count (next.Bad side at why) = (λ e. absurd (true≢false (sym e)), λ e. absurd (let wrong : Some (outcome.Bad side at why) ≡ Some (outcome.SourceFault role.Left) = e in cc))
tells_left count (next.Failed Left) = (λ e. refl, λ e. refl)
tells_left count (next.Failed Right) = (λ e. absurd (true≢false (sym e)), λ e. absurd (let wrong : Some (outcome.SourceFault role.Right) ≡ Some (outcome.SourceFault role.Left) = e in cc))
tells_left count next.TooMany = (λ e. absurd (true≢false (sym e)), λ e. absurd (let wrong : Some (outcome.TooMany) ≡ Some (outcome.SourceFault role.Left) = e in cc))
tells_left count next.Memory = (λ e. absurd (true≢false (sym e)), λ e. absurd (let wrong : Some (outcome.Memory) ≡ Some (outcome.SourceFault role.Left) = e in cc))

tells_right : (count : ℕ) (last : Next) → (fails_next last Right ≡ true) ↔ (Some (ended_by count last) ≡ Some (outcome.SourceFault role.Right))
tells_right count (next.Event event) = (λ e. absurd (true≢false (sym e)), λ e. absurd (let wrong : Some (outcome.Memory) ≡ Some (outcome.SourceFault role.Right) = e in cc))
tells_right count next.Done = (λ e. absurd (true≢false (sym e)), λ e. absurd (let wrong : Some (outcome.Done count) ≡ Some (outcome.SourceFault role.Right) = e in cc))
tells_right count (next.Bad side at why) = (λ e. absurd (true≢false (sym e)), λ e. absurd (let wrong : Some (outcome.Bad side at why) ≡ Some (outcome.SourceFault role.Right) = e in cc))
tells_right count (next.Failed Left) = (λ e. absurd (true≢false (sym e)), λ e. absurd (let wrong : Some (outcome.SourceFault role.Left) ≡ Some (outcome.SourceFault role.Right) = e in cc))
tells_right count (next.Failed Right) = (λ e. refl, λ e. refl)
tells_right count next.TooMany = (λ e. absurd (true≢false (sym e)), λ e. absurd (let wrong : Some (outcome.TooMany) ≡ Some (outcome.SourceFault role.Right) = e in cc))
tells_right count next.Memory = (λ e. absurd (true≢false (sym e)), λ e. absurd (let wrong : Some (outcome.Memory) ≡ Some (outcome.SourceFault role.Right) = e in cc))

pub taken : (ended : Option Outcome) (query : QueryParts) (limit : ℕ) (before : Role → RoleState) (events : Events) (now : Feeding) → Fed ended query limit before events now → Taken query limit before now.roles ended events
taken None query limit before events now fed =
    let reads = fed.reads in
    record {
      left = record { bytes = reads.left_bytes; failed = false; ended = now.merger.sides.left.reading.ended; read = reads.left };
      right = record { bytes = reads.right_bytes; failed = false; ended = now.merger.sides.right.reading.ended; read = reads.right };
      one = refl;
      goes = λ l r left right. record { more = (events_from now.merger l r).events; may = tt; are = ap (λ (n : NumberedEvents). n.events) (reads.given l r left right) };
      failed = λ made is. absurd (let e : None ≡ Some made = is in cc);
      ends = λ made is. absurd (let e : None ≡ Some made = is in cc);
      left_tells = (λ e. absurd (true≢false (sym e)), λ e. absurd (let wrong : None ≡ Some (outcome.SourceFault role.Left) = e in cc));
      right_tells = (λ e. absurd (true≢false (sym e)), λ e. absurd (let wrong : None ≡ Some (outcome.SourceFault role.Right) = e in cc));
      so = λ made is. absurd (let e : None ≡ Some made = is in cc);
    }
taken (Some kept) query limit before events now fed =
    let reads = fed.reads in
    let takes = fed.takes in
    let by : ended_by (length events) fed.last ≡ kept = ended_is (length events) fed.last kept fed.made in
    record {
      left = record {
        bytes = reads.left_bytes ++ takes.left_bytes;
        failed = fails_next fed.last Left;
        ended = now.merger.sides.left.reading.ended;
        read = read_more (fails_next fed.last Left) reads.left_bytes takes.left_bytes false fed.merger.sides.left.reading.ended now.merger.sides.left.reading.ended (before role.Left) (fed.roles role.Left) (now.roles role.Left) reads.left takes.left;
      };
      right = record {
        bytes = reads.right_bytes ++ takes.right_bytes;
        failed = fails_next fed.last Right;
        ended = now.merger.sides.right.reading.ended;
        read = read_more (fails_next fed.last Right) reads.right_bytes takes.right_bytes false fed.merger.sides.right.reading.ended now.merger.sides.right.reading.ended (before role.Right) (fed.roles role.Right) (now.roles role.Right) reads.right takes.right;
      };
      one = not_both fed.last;
      goes = λ l r left right.
          let all = events_of query (in_front (reads.left_bytes ++ takes.left_bytes) l) (in_front (reads.right_bytes ++ takes.right_bytes) r) limit in
          subst (λ (o : Outcome). Goes (Some o) events all) by
          (goes_so fed.last events all (events_from fed.merger (in_front takes.left_bytes l) (in_front takes.right_bytes r))
          (before_call query limit reads.left_bytes reads.right_bytes events fed.last fed.merger now.merger fed.roles now.roles reads.given takes l r left right)
          (ends query limit reads.left_bytes reads.right_bytes events fed.last fed.merger now.merger fed.roles now.roles reads.given takes l r left right));
      failed = λ made is. subst (λ (o : Outcome). FailsOn o (fails_next fed.last Left) (fails_next fed.last Right)) (by ∙ same_made kept made is) (fails_so (length events) fed.last);
      ends = λ made is. subst (λ (o : Outcome). AreEnded o now.merger.sides.left.reading.ended now.merger.sides.right.reading.ended) (by ∙ same_made kept made is)
          (are_ended (length events) fed.last now.merger.sides.left.reading.ended now.merger.sides.right.reading.ended takes.ended);
      left_tells = subst (λ (o : Outcome). (fails_next fed.last Left ≡ true) ↔ (Some o ≡ Some (outcome.SourceFault role.Left))) by (tells_left (length events) fed.last);
      right_tells = subst (λ (o : Outcome). (fails_next fed.last Right ≡ true) ↔ (Some o ≡ Some (outcome.SourceFault role.Right))) by (tells_right (length events) fed.last);
      so = λ made is l r left right.
          let all = events_of query (in_front (reads.left_bytes ++ takes.left_bytes) l) (in_front (reads.right_bytes ++ takes.right_bytes) r) limit in
          subst (λ (o : Outcome). EndsSo o all) (by ∙ same_made kept made is)
          (ended_so fed.last events all (ends query limit reads.left_bytes reads.right_bytes events fed.last fed.merger now.merger fed.roles now.roles reads.given takes l r left right));
    }
