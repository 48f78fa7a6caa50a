-- How a join ends whose events and pairs are known.
use Rattle.std.proofs.Common.{◌≡◌, ◌≢◌, ℕ, true, false, List, [], ◌++◌, length, None, Some, refl, sym, ap, subst, ◌∙◌, append-nil}
use Rattle.std.specs.Io.KnownBytes.{Appends}
use Rattle.std.specs.declared.option.Option.{Option}
use Rattle.hj_value.specs.declared.field.Field.{Field}
use Rattle.hj_base.specs.declared.output.Sent.{Sent}
use Rattle.hj_base.specs.declared.output.Sent.TheVariants as sent
use Rattle.hj_base.specs.declared.numbers.Side.TheVariants.{Left, Right}
use Rattle.hj_base.specs.declared.outside.Role.{Role}
use Rattle.hj_base.specs.declared.outside.Role.TheVariants as role
use Rattle.hj_base.specs.Output.{AppendsFront}
use Rattle.hj_base.specs.Journals.{IsPrefix}
use Rattle.hj_base.specs.Outside.{RoleState}
use Rattle.hj_msg.specs.declared.drain.Drained.{Drained}
use Rattle.hj_msg.specs.declared.event.Event.{Event}
use Rattle.hj_msg.specs.declared.event.Pair.{Pair}
use Rattle.hj_msg.specs.declared.feed.Given.{Given}
use Rattle.hj_msg.specs.declared.fin.Fin.{Fin}
use Rattle.hj_msg.specs.declared.fin.Fin.TheVariants as fin
use Rattle.hj_msg.specs.Drain.{pairs_in}
use Rattle.hj_msg.specs.Feed.{FeedState, events_in}
use Rattle.hj_msg.specs.Kang.{kang}
use Rattle.hj_msg.specs.RunsJoin.{EndsJoin, RunsJoin}
use Rattle.hj_query.specs.QueryParts.{QueryParts}
use Rattle.hj_record.specs.Pieces.{Stream}
use Rattle.hj_eval.specs.Holds.{holds}
use Rattle.hj_event.specs.declared.merger.Next.{Next}
use Rattle.hj_event.specs.declared.merger.Next.TheVariants as next
use Rattle.hj_event.specs.Calls.{GivesAll, then_events}
use Rattle.hj_event.specs.Events.{NumberedEvents, events_of}
use Rattle.hj_event.specs.Merger.{Merging, IsNewMerger, TakesNext, events_from, fails_next}
use Rattle.hj_event.specs.Roles.{IsInStep}
use Rattle.hj_event.specs.Sides.{in_front}
use Rattle.hj_event.proofs.CallLemmas.{before_call, ends}
use Rattle.hj_event.proofs.RoleLemmas.{read_more}
use Rattle.hj_stream.specs.declared.outcome.Outcome.{Outcome}
use Rattle.hj_stream.specs.declared.outcome.Outcome.TheVariants as outcome
use Rattle.hj_stream.specs.Draining.{SendsLine, refusal_of}
use Rattle.hj_stream.specs.Ending.{EndsAs}
use Rattle.hj_stream.specs.Feeding.{Feeding, Gives}
use Rattle.hj_stream.specs.Joining.{CountsSinkFault, JoinsBy}
use Rattle.hj_stream.specs.JoinText.{Line, joined_by, joined_text, text_by}
use Rattle.hj_stream.specs.Runs.{EndsRun, OfEvents}
use Rattle.hj_stream.proofs.Drained.{Draining, all_kept, last_refused}
use Rattle.hj_stream.proofs.Fed.{Fed, HasEnded, fed_all, fed_first, fed_well}
use Rattle.hj_stream.proofs.Joining.{SaysBegun, are_ended, counts_refusal, ended_by, ended_is, fails_so, front_of_all, memory_says, not_both, refusal_says, sink_same, text-front, writes_all}
use Rattle.hj_stream.proofs.Prefixes.{IsPrefix-trans}
use Rattle.hj_stream.proofs.Reading.{Reads}

abbrev Events : Type 0
Events = List (Event (List Field))

abbrev Pairs : Type 0
Pairs = List (Pair (List Field))

-- A join by a run that ended so: these events began those of its streams, and a prefix of the text of these pairs was written; where
-- the events ended, these were all, and all of that text was written.
pub record JoinsOver (line : Line) (made : Outcome) (ended : Fin) (query : QueryParts) (limit : ℕ) (before now : Role → RoleState) (old new : Option (List ℕ)) (events : Events) (pairs : Pairs) : Type 0 where
  pub joins : JoinsBy line made query limit before now old new
  pub begins : OfEvents joins (λ all. IsPrefix events all)
  pub writes : IsPrefix joins.grown (text_by line pairs)
  pub ends : EndsRun made ended (OfEvents joins (λ all. events ≡ all) × (joins.grown ≡ text_by line pairs))

no_more : (events : Events) (all others : NumberedEvents) → all ≡ then_events events others → others.events ≡ [] → events ≡ all.events
no_more events all others is none = sym (ap (λ (n : NumberedEvents). n.events) is ∙ (ap (λ (l : Events). events ++ l) none ∙ append-nil events))

begins_all : (events : Events) (all others : NumberedEvents) → all ≡ then_events events others → IsPrefix events all.events
begins_all events all others is = record { rest = others.events; is = ap (λ (n : NumberedEvents). n.events) is }

-- all of it begins itself
whole : {X : Type 0} (xs : List X) → IsPrefix xs xs
whole xs = record { rest = []; is = sym (append-nil xs) }

-- After an answer that is no event all events were had, unless memory ran out.
ends_done : (count : ℕ) (last : Next) (events : Events) (left_follows right_follows : Stream → Type 0) (all : Stream → Stream → NumberedEvents) (wrote : Type 0) → wrote
    → ((l r : Stream) → left_follows l → right_follows r → GivesAll last events (all l r))
    → EndsRun (ended_by count last) fin.Done (((l r : Stream) → left_follows l → right_follows r → events ≡ (all l r).events) × wrote)
ends_done count (next.Event event) events left_follows right_follows all wrote written each = tt
ends_done count next.Done events left_follows right_follows all wrote written each = (refl, (λ l r left right. no_more events (all l r) _ (each l r left right) refl, written))
ends_done count (next.Bad side at why) events left_follows right_follows all wrote written each = (refl, (λ l r left right. no_more events (all l r) _ (each l r left right) refl, written))
ends_done count (next.Failed side) events left_follows right_follows all wrote written each = (refl, (λ l r left right. no_more events (all l r) _ (each l r left right) refl, written))
ends_done count next.TooMany events left_follows right_follows all wrote written each = (refl, (λ l r left right. no_more events (all l r) _ (each l r left right) refl, written))
ends_done count next.Memory events left_follows right_follows all wrote written each = tt

-- the events ended, and the lines of all were sent
pub over_last : (line : Line) (query : QueryParts) (limit : ℕ) (events : Events) (last : Next) (merger later : Merging) (before mid now : Role → RoleState) (old new : Option (List ℕ))
    → Reads query limit events merger before mid → TakesNext last merger later mid now → Appends old new (joined_text line query events) → JoinsOver line (ended_by (length events) last) fin.Done query limit before now old new events (kang (holds query) events)
over_last line query limit events last merger later before mid now old new reads takes written = record {
  joins = record {
    left_bytes = reads.left_bytes ++ takes.left_bytes;
    right_bytes = reads.right_bytes ++ takes.right_bytes;
    left_failed = fails_next last Left;
    right_failed = fails_next last Right;
    left_ended = later.sides.left.reading.ended;
    right_ended = later.sides.right.reading.ended;
    left = read_more (fails_next last Left) reads.left_bytes takes.left_bytes false merger.sides.left.reading.ended later.sides.left.reading.ended (before role.Left) (mid role.Left) (now role.Left) reads.left takes.left;
    right = read_more (fails_next last Right) reads.right_bytes takes.right_bytes false merger.sides.right.reading.ended later.sides.right.reading.ended (before role.Right) (mid role.Right) (now role.Right) reads.right takes.right;
    failed = fails_so (length events) last;
    others = λ of not_left not_right. takes.others of not_left not_right ∙ reads.others of not_left not_right;
    grown = joined_text line query events;
    written = written;
    text = λ l r left right.
        writes_all line query (length events) last events (events_of query (in_front (reads.left_bytes ++ takes.left_bytes) l) (in_front (reads.right_bytes ++ takes.right_bytes) r) limit) (events_from merger (in_front takes.left_bytes l) (in_front takes.right_bytes r))
        (before_call query limit reads.left_bytes reads.right_bytes events last merger later mid now reads.given takes l r left right)
        (ends query limit reads.left_bytes reads.right_bytes events last merger later mid now reads.given takes l r left right)
        refl;
    ends = are_ended (length events) last later.sides.left.reading.ended later.sides.right.reading.ended takes.ended;
  };
  begins = λ l r left right.
      begins_all events (events_of query (in_front (reads.left_bytes ++ takes.left_bytes) l) (in_front (reads.right_bytes ++ takes.right_bytes) r) limit) (events_from merger (in_front takes.left_bytes l) (in_front takes.right_bytes r))
      (before_call query limit reads.left_bytes reads.right_bytes events last merger later mid now reads.given takes l r left right);
  writes = whole (joined_text line query events);
  ends = ends_done (length events) last events _ _ (λ l r. events_of query (in_front (reads.left_bytes ++ takes.left_bytes) l) (in_front (reads.right_bytes ++ takes.right_bytes) r) limit) _ refl
      (λ l r left right. ends query limit reads.left_bytes reads.right_bytes events last merger later mid now reads.given takes l r left right);
}

-- a prefix of the lines of the events given was sent
pub over_begun : (line : Line) (made : Outcome) (ended : Fin) → SaysBegun made → ((all : Type 0) → EndsRun made ended all) → (was : Option Outcome) (query : QueryParts) (limit : ℕ) (before : Role → RoleState) (events : Events) (pairs : Pairs) (now : Feeding) (old new : Option (List ℕ))
    → Fed was query limit before events now → (sends : AppendsFront (joined_text line query events) old new) → IsPrefix sends.grown (text_by line pairs) → JoinsOver line made ended query limit before now.roles old new events pairs
over_begun line made ended says so None query limit before events pairs now old new fed sends front =
    let reads = fed.reads in
    record {
      joins = record {
        left_bytes = reads.left_bytes;
        right_bytes = reads.right_bytes;
        left_failed = false;
        right_failed = false;
        left_ended = now.merger.sides.left.reading.ended;
        right_ended = now.merger.sides.right.reading.ended;
        left = reads.left;
        right = reads.right;
        failed = says.failed false false refl;
        others = reads.others;
        grown = sends.grown;
        written = sends.written;
        text = λ l r left right. says.writes sends.grown (joined_by line query (in_front reads.left_bytes l) (in_front reads.right_bytes r) limit)
            (front_of_all line query events (events_of query (in_front reads.left_bytes l) (in_front reads.right_bytes r) limit) (events_from now.merger l r) sends.grown (reads.given l r left right) sends.front);
        ends = says.ends now.merger.sides.left.reading.ended now.merger.sides.right.reading.ended;
      };
      begins = λ l r left right. begins_all events (events_of query (in_front reads.left_bytes l) (in_front reads.right_bytes r) limit) (events_from now.merger l r) (reads.given l r left right);
      writes = front;
      ends = so _;
    }
over_begun line made ended says so (Some kept) query limit before events pairs now old new fed sends front =
    let reads = fed.reads in
    let takes = fed.takes in
    record {
      joins = record {
        left_bytes = reads.left_bytes ++ takes.left_bytes;
        right_bytes = reads.right_bytes ++ takes.right_bytes;
        left_failed = fails_next fed.last Left;
        right_failed = fails_next fed.last Right;
        left_ended = now.merger.sides.left.reading.ended;
        right_ended = now.merger.sides.right.reading.ended;
        left = read_more (fails_next fed.last Left) reads.left_bytes takes.left_bytes false fed.merger.sides.left.reading.ended now.merger.sides.left.reading.ended (before role.Left) (fed.roles role.Left) (now.roles role.Left) reads.left takes.left;
        right = read_more (fails_next fed.last Right) reads.right_bytes takes.right_bytes false fed.merger.sides.right.reading.ended now.merger.sides.right.reading.ended (before role.Right) (fed.roles role.Right) (now.roles role.Right) reads.right takes.right;
        failed = says.failed (fails_next fed.last Left) (fails_next fed.last Right) (not_both fed.last);
        others = λ of not_left not_right. takes.others of not_left not_right ∙ reads.others of not_left not_right;
        grown = sends.grown;
        written = sends.written;
        text = λ l r left right. says.writes sends.grown (joined_by line query (in_front (reads.left_bytes ++ takes.left_bytes) l) (in_front (reads.right_bytes ++ takes.right_bytes) r) limit)
            (front_of_all line query events (events_of query (in_front (reads.left_bytes ++ takes.left_bytes) l) (in_front (reads.right_bytes ++ takes.right_bytes) r) limit) (events_from fed.merger (in_front takes.left_bytes l) (in_front takes.right_bytes r)) sends.grown
            (before_call query limit reads.left_bytes reads.right_bytes events fed.last fed.merger now.merger fed.roles now.roles reads.given takes l r left right) sends.front);
        ends = says.ends now.merger.sides.left.reading.ended now.merger.sides.right.reading.ended;
      };
      begins = λ l r left right.
          begins_all events (events_of query (in_front (reads.left_bytes ++ takes.left_bytes) l) (in_front (reads.right_bytes ++ takes.right_bytes) r) limit) (events_from fed.merger (in_front takes.left_bytes l) (in_front takes.right_bytes r))
          (before_call query limit reads.left_bytes reads.right_bytes events fed.last fed.merger now.merger fed.roles now.roles reads.given takes l r left right);
      writes = front;
      ends = so _;
    }

pub refusal_ends : (last : Sent) (all : Type 0) → EndsRun (refusal_of last) fin.Refused all
refusal_ends sent.Whole all = tt
refusal_ends sent.Failed all = refl
refusal_ends sent.Memory all = tt

-- A run of a chain between a feed over two streams that is seen so, and a drain to a sink that is seen so.
module _ {F D : Type 0} (gives : F → Given (List Field) → F → Type 0) (state : F → FeedState) (takes : D → Pair (List Field) → Drained → D → Type 0) (view : F → Feeding) (line_by : D → Line) (seen : D → Draining)
    (each_answer : (old : F) (answer : Given (List Field)) (new : F) → gives old answer new → Gives answer (view old) (view new))
    (same_line : (old : D) (pair : Pair (List Field)) (answer : Drained) (new : D) → takes old pair answer new → line_by new ≡ line_by old)
    (each_pair : (old : D) (pair : Pair (List Field)) (answer : Drained) (new : D) → takes old pair answer new → SendsLine (line_by old pair) answer (seen new).last (seen old).told (seen new).told (seen old).faults (seen new).faults)
    (query : QueryParts) (limit : ℕ) (from to : F) (unfilled filled : D) (new : IsNewMerger query limit (view from).merger) (none : (view from).events ≡ 0) (going : (view from).ended ≡ None)
    (left : IsInStep false ((view from).roles role.Left)) (right : IsInStep false ((view from).roles role.Right)) where
  abbrev line : Line
  line = line_by unfilled

  abbrev Ran : Fin → Type 0
  Ran ended = RunsJoin gives state takes (holds query) ended from to unfilled filled

  module _ (ended : Fin) (ran : Ran ended) where
    abbrev events : Events
    events = events_in ran.answers

    fed : Fed (view to).ended query limit (view from).roles events (view to)
    fed = fed_all query limit (view from).roles gives view each_answer [] ran.answers from to (fed_first query limit (view from) going none new left right) ran.feed

    ending : EndsJoin ended (state to).stopped ran.taken (kang (holds query) events)
    ending = ran.ends (fed_well (view to).ended query limit (view from).roles events (view to) fed)

  -- the join, and the sink's count of faults
  abbrev pub Over : (made : Outcome) (ended : Fin) → Ran ended → Type 0
  Over made ended ran =
      JoinsOver line made ended query limit (view from).roles (view to).roles (seen unfilled).told (seen filled).told (events_in ran.answers) (pairs_in ran.taken) × CountsSinkFault made (seen unfilled).faults (seen filled).faults

  pub has_stopped : (ended : Fin) → Ran ended → ended ≡ fin.Done → (state to).stopped ≡ true
  has_stopped fin.Done ran is = (ending fin.Done ran).0
  has_stopped fin.Refused ran is = absurd (let wrong : fin.Refused ≡ fin.Done = is in cc)
  has_stopped fin.Memory ran is = absurd (let wrong : fin.Memory ≡ fin.Done = is in cc)

  pub was_refused : (ended : Fin) → Ran ended → ended ≡ fin.Refused → (seen filled).last ≢ sent.Whole
  was_refused fin.Done ran is = absurd (let wrong : fin.Done ≡ fin.Refused = is in cc)
  was_refused fin.Refused ran is =
      let refused = (ending fin.Refused ran).0 in
      (last_refused takes line_by seen same_line each_pair refused.0 ran.taken unfilled filled ran.drain refused.1).refused
  was_refused fin.Memory ran is = absurd (let wrong : fin.Memory ≡ fin.Refused = is in cc)

  -- all is done
  over_done : (made : Outcome) (ran : Ran fin.Done) → HasEnded made query limit (view from).roles (events fin.Done ran) (view to) → Over made fin.Done ran
  over_done made ran over =
      let all = events fin.Done ran in
      let kept = all_kept takes line_by seen same_line each_pair ran.taken unfilled filled ran.drain (ending fin.Done ran).1 in
      let is = ended_is (length all) over.last made over.made in
      let written : Appends (seen unfilled).told (seen filled).told (joined_text line query all) =
      subst (λ (pairs : Pairs). Appends (seen unfilled).told (seen filled).told (text_by line pairs)) (ending fin.Done ran).2 kept.0 in (
        subst (λ (o : Outcome). JoinsOver line o fin.Done query limit (view from).roles (view to).roles (seen unfilled).told (seen filled).told all (pairs_in ran.taken)) is
            (subst (λ (pairs : Pairs). JoinsOver line (ended_by (length all) over.last) fin.Done query limit (view from).roles (view to).roles (seen unfilled).told (seen filled).told all pairs) (sym (ending fin.Done ran).2)
            (over_last line query limit all over.last over.merger (view to).merger (view from).roles over.roles (view to).roles (seen unfilled).told (seen filled).told over.reads over.takes written)),
        subst (λ (o : Outcome). CountsSinkFault o (seen unfilled).faults (seen filled).faults) is (sink_same (length all) over.last (seen unfilled).faults (seen filled).faults kept.1),
      )

  -- a pair was refused
  over_refused : (ran : Ran fin.Refused) → Over (refusal_of (seen filled).last) fin.Refused ran
  over_refused ran =
      let all = events fin.Refused ran in
      let ends = ending fin.Refused ran in
      let sent = last_refused takes line_by seen same_line each_pair ends.0.0 ran.taken unfilled filled ran.drain ends.0.1 in
      let front : IsPrefix sent.sends.grown (joined_text line query all) = IsPrefix-trans sent.sends.grown (text_by line (pairs_in ran.taken)) (joined_text line query all) sent.sends.front (text-front line (pairs_in ran.taken) (kang (holds query) all) ends.1) in (
        over_begun line (refusal_of (seen filled).last) fin.Refused (refusal_says (seen filled).last) (refusal_ends (seen filled).last) (view to).ended query limit (view from).roles all (pairs_in ran.taken) (view to) (seen unfilled).told (seen filled).told (fed fin.Refused ran)
            (record { grown = sent.sends.grown; written = sent.sends.written; front = front }) sent.sends.front,
        counts_refusal (seen filled).last (seen unfilled).faults (seen filled).faults sent.faults,
      )

  -- memory ran out in the chain
  over_memory : (ran : Ran fin.Memory) → Over outcome.Memory fin.Memory ran
  over_memory ran =
      let all = events fin.Memory ran in
      let ends = ending fin.Memory ran in
      let kept = all_kept takes line_by seen same_line each_pair ran.taken unfilled filled ran.drain ends.0 in (
        over_begun line outcome.Memory fin.Memory memory_says (λ all. tt) (view to).ended query limit (view from).roles all (pairs_in ran.taken) (view to) (seen unfilled).told (seen filled).told (fed fin.Memory ran)
            (record { grown = text_by line (pairs_in ran.taken); written = kept.0; front = text-front line (pairs_in ran.taken) (kang (holds query) all) ends.1 }) (whole (text_by line (pairs_in ran.taken))),
        kept.1,
      )

  -- how a join ends whose run ended so
  pub joins_over : (ended : Fin) (made : Outcome) (ran : Ran ended) → EndsAs ended (view to).ended (seen filled).last made → Over made ended ran
  joins_over fin.Done made ran is = over_done made ran (subst (λ (o : Option Outcome). Fed o query limit (view from).roles (events fin.Done ran) (view to)) is (fed fin.Done ran))
  joins_over fin.Refused made ran is = subst (λ (o : Outcome). Over o fin.Refused ran) (sym is) (over_refused ran)
  joins_over fin.Memory made ran is = subst (λ (o : Outcome). Over o fin.Memory ran) (sym is) (over_memory ran)
