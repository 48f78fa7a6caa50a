-- The join of two streams that are ready: what its outcome says of the streams of the call, and so of the order.
use Rattle.std.proofs.Common.{◌≡◌, ◌≢◌, ◌⊎◌, ◌+◌, ◌^◌, ◌-◌, min, ℕ, Bool, true, false, List, [], Ok, Err, Result, None, Some, unwrap_or, sym, ◌∙◌, ap, subst, inl, inr, refl, arith, append-nil}
use Rattle.std.proofs.lemmas.Bool.{cases_lt}
use Rattle.std.specs.Io.KnownBytes.{Appends, Consumes, IsAtEnd}
use Rattle.std.specs.declared.option.Option.{Option}
use Rattle.hj_base.specs.declared.numbers.Side.{Side}
use Rattle.hj_base.specs.declared.numbers.Side.TheVariants as side
use Rattle.hj_base.specs.declared.outside.Role.{Role}
use Rattle.hj_base.specs.declared.outside.Role.TheVariants as role
use Rattle.hj_base.specs.Counts.{Rose}
use Rattle.hj_base.specs.Outside.{RoleState, opened, role_of, unbegun}
use Rattle.hj_stream.specs.declared.outcome.Outcome.{Outcome}
use Rattle.hj_stream.specs.declared.outcome.Outcome.TheVariants as outcome
use Rattle.hj_stream.specs.Joining.{AreEnded, CountsSinkFault, FailsOn, Joins, WritesText}
use Rattle.hj_stream.proofs.Joining.{joins_saying}
use Rattle.hj_stream.specs.JoinText.{join_result}
use Rattle.hj_event.specs.Arrivals.{Ending, clean, bad, unread, too_many}
use Rattle.hj_event.specs.Events.{events_of}
use Rattle.hj_event.specs.Roles.{CountsFailure, IsReadOn, name_of}
use Rattle.hj_event.specs.Sides.{Follows, at_its_end, in_front}
use Rattle.hj_query.specs.QueryParts.{QueryParts}
use Rattle.hj_record.specs.Pieces.{Stream}
use Rattle.hj_raw.specs.Text.{raw_text}
use Rattle.hj_notes.specs.declared.note.Note.{Note}
use Rattle.hj_notes.specs.declared.note.Note.TheVariants as note
use Rattle.hj_opening.specs.Calls.{Call, call}
use Rattle.hj_opening.specs.Joining.{BeginsText, JoinsKind, WritesAll, WritesWhole}
use Rattle.hj_opening.specs.Opening.{AreOpened, IsOpened}
use Rattle.hj_opening.specs.Queries.{IsQueryOf}
use Rattle.hj_opening.specs.Ready.{IsReady}
use Rattle.hj_opening.specs.Run.{RunsOrder, end_of}
use Rattle.hj_opening.specs.Serve.{AcceptsQuery, AreOpen, BeginsSource, IsJoinRole}
use Rattle.hj_opening.specs.Streams.{AreStreams, Fails, IsStream, NoneFails, StandsUnder, has_ended}
use Rattle.hj_opening.specs.Texts.{IsTextFront, IsWholeText, WritesKind}
use Rattle.hj_opening.specs.Words.{Names, QuerySource, TextKind, join_streams, pair_lines, raw_items, step_lines}
use Rattle.hj_opening.proofs.Endings.{CountsSink, JoinCause, join_runs}
use Rattle.hj_opening.proofs.Prefixes.{begins_all, begins_itself}
use Rattle.hj_opening.proofs.Phases.{Roles, begun-opened, open-opened}
use Rattle.hj_opening.proofs.Readying.{reads_side}

-- ---- whether a role's count of faults rose

pub SomeFails : Roles → Roles → Type 0
SomeFails before now = (of : Role) × Fails of before now

rose_or_not : (before now : ℕ) → ¬ (Rose before now) ⊎ Rose before now
rose_or_not before now = elim (cases_lt now (min (before + 1) (2 ^ 64 - 1))) [ inl below ↦ inl (λ rose. omega (arith, below, rose)) | inr above ↦ inr above ]

-- this role fails, or what holds where it doesn't
unless_fails : {A : Type 0} (of : Role) (before now : Roles) → (¬ (Fails of before now) → A ⊎ SomeFails before now) → A ⊎ SomeFails before now
unfolding SomeFails
unless_fails of before now next = elim (rose_or_not (before of).faults (now of).faults) [ inl calm ↦ next calm | inr rose ↦ inr (of, rose) ]

pub fails_or_none : (before now : Roles) → NoneFails before now ⊎ SomeFails before now
fails_or_none before now =
    unless_fails role.Query before now (λ q.
    unless_fails role.SecondQuery before now (λ s.
    unless_fails role.Left before now (λ l.
    unless_fails role.Right before now (λ r.
    unless_fails role.Third before now (λ t.
    unless_fails role.Trace before now (λ c.
    unless_fails role.Output before now (λ o.
    inl (by_role q s l r t c o))))))))
  where
    by_role : ¬ (Fails role.Query before now) → ¬ (Fails role.SecondQuery before now) → ¬ (Fails role.Left before now) → ¬ (Fails role.Right before now) → ¬ (Fails role.Third before now) → ¬ (Fails role.Trace before now) → ¬ (Fails role.Output before now) → NoneFails before now
    by_role q s l r t c o role.Query = q
    by_role q s l r t c o role.SecondQuery = s
    by_role q s l r t c o role.Left = l
    by_role q s l r t c o role.Right = r
    by_role q s l r t c o role.Third = t
    by_role q s l r t c o role.Trace = c
    by_role q s l r t c o role.Output = o

-- ---- the stream of a role that was read

-- what stands behind the bytes that were read: nothing, where the stream is taken as far as it was read
rest_read : Bool → Stream
rest_read ended = record { bytes = []; whole = ended }

-- and the bytes that are left, where it is taken whole
rest_whole : Option (List ℕ) → Stream
rest_whole left = record { bytes = unwrap_or left []; whole = true }

follows_read : (failed ended : Bool) → (failed ≡ true → ended ≡ false) → Follows failed ended (rest_read ended)
unfolding rest_read
follows_read true ended unended = ap (λ (b : Bool). record { bytes = []; whole = b }) (unended refl)
follows_read false true unended = refl
follows_read false false unended = tt

rest_none : (left : Option (List ℕ)) → IsAtEnd left → rest_whole left ≡ at_its_end
unfolding rest_whole
rest_none None none = refl
rest_none (Some xs) none = ap (λ (bytes : List ℕ). record { bytes = bytes; whole = true }) none

follows_whole : (failed ended : Bool) (left : Option (List ℕ)) → failed ≡ false → (ended ≡ true → IsAtEnd left) → Follows failed ended (rest_whole left)
follows_whole true ended left none at_end = absurd cc
follows_whole false true left none at_end = rest_none left (at_end refl)
follows_whole false false left none at_end = tt

stands_whole : (told left : Option (List ℕ)) (bytes : List ℕ) → Consumes told left bytes → StandsUnder told (in_front bytes (rest_whole left)).bytes
unfolding rest_whole
stands_whole None left bytes c = tt
stands_whole (Some xs) None bytes c = absurd c
stands_whole (Some xs) (Some ys) bytes c = c

came_read : (told left : Option (List ℕ)) (bytes : List ℕ) (ended : Bool) → Consumes told left bytes → Consumes told left (in_front bytes (rest_read ended)).bytes
unfolding rest_read
came_read told left bytes ended c = subst (λ (xs : List ℕ). Consumes told left xs) (sym (append-nil bytes)) c

-- What stands behind the bytes that were read of a role, so that with them it is the role's stream in this call.
pub record Behind (told : Option (List ℕ)) (of : Role) (before now : Roles) (failed ended : Bool) (bytes : List ℕ) : Type 0 where
  pub rest : Stream
  pub follows : Follows failed ended rest
  pub is : IsStream told of before now (in_front bytes rest)

module _ (name : List ℕ) (told : Option (List ℕ)) (of : Role) (before mid now : Roles) (failed ended : Bool) (bytes : List ℕ)
    (ready : IsOpened name told (before of) (mid of)) (reads : IsReadOn failed bytes false ended (mid of) (now of)) where
  came_of : Consumes told (now of).left bytes
  came_of = subst (λ (left : Option (List ℕ)). Consumes left (now of).left bytes) ready.left reads.came

  pub phase_of : (now of).phase ≡ opened name ended
  phase_of = reads.in_step.phase ∙ ap (λ (n : List ℕ). opened n ended) (reads.name ∙ ap name_of ready.phase)

  failure : (f : Bool) → f ≡ true → CountsFailure f (mid of).faults (now of).faults → Fails of before now
  failure true e counts = subst (λ (n : ℕ). Rose n (now of).faults) ready.faults counts.1
  failure false e counts = absurd cc

  pub fails_of : failed ≡ true → Fails of before now
  fails_of e = failure failed e reads.faults

  unfailed : (f : Bool) → f ≡ failed → NoneFails before now → f ≡ false
  unfailed true e none = absurd (none of (fails_of (sym e)))
  unfailed false e none = refl

  behind_whole : NoneFails before now → Behind told of before now failed ended bytes
  unfolding rest_whole
  behind_whole none = record {
    rest = rest_whole (now of).left;
    follows = follows_whole failed ended (now of).left (unfailed failed refl none) reads.in_step.at_end;
    is = record {
      unfailed = λ same. record { bytes = stands_whole told (now of).left bytes came_of; whole = refl };
      failed = λ failing fails. absurd (none failing fails);
    };
  }

  behind_read : SomeFails before now → Behind told of before now failed ended bytes
  unfolding SomeFails rest_read
  behind_read some = record {
    rest = rest_read ended;
    follows = follows_read failed ended reads.unended;
    is = record {
      unfailed = λ none. absurd (none some.0 some.1);
      failed = λ failing fails. record { bytes = came_read told (now of).left bytes ended came_of; whole = sym (ap has_ended phase_of) };
    };
  }

  pub behind : NoneFails before now ⊎ SomeFails before now → Behind told of before now failed ended bytes
  behind which = elim which [ inl none ↦ behind_whole none | inr some ↦ behind_read some ]

-- a stream of which the end was read, and of which no read failed
pub whole_behind : (failed ended : Bool) (bytes : List ℕ) (rest : Stream) → failed ≡ false → ended ≡ true → Follows failed ended rest → (in_front bytes rest).whole ≡ true
whole_behind true ended bytes rest none end follows = absurd cc
whole_behind false true bytes rest none end follows = ap (λ (s : Stream). s.whole) follows
whole_behind false false bytes rest none end follows = absurd cc

-- ---- the text

-- a whole text is a front of itself
whole_begins : (kind : TextKind) (query : QueryParts) (left right : Stream) (limit : ℕ) (text : List ℕ) → IsWholeText kind query left right limit text → IsTextFront kind query left right limit text
whole_begins pair_lines query left right limit text whole = begins_all text (join_result query left right limit).text (sym whole)
whole_begins raw_items query left right limit text whole = record {
  first = (events_of query left right limit).events;
  are_first = begins_itself (events_of query left right limit).events;
  items = whole.items;
  tells = whole.tells;
  begins = begins_all text (raw_text whole.items) (sym whole.is);
}
whole_begins (step_lines chain rule) query left right limit text whole = record {
  schedule = whole.schedule;
  chosen = whole.chosen;
  begins = begins_all text _ (sym whole.is);
}

writes_lines : (ended : Outcome) (query : QueryParts) (left right : Stream) (limit : ℕ) (grown : List ℕ) → WritesText ended grown (join_result query left right limit) → WritesKind pair_lines ended query left right limit grown
writes_lines (outcome.Done events) query left right limit grown w = (w.0, w.1)
writes_lines (outcome.Bad of at why) query left right limit grown w = w
writes_lines (outcome.SourceFault role.Query) query left right limit grown w = absurd w
writes_lines (outcome.SourceFault role.SecondQuery) query left right limit grown w = absurd w
writes_lines (outcome.SourceFault role.Left) query left right limit grown w = w
writes_lines (outcome.SourceFault role.Right) query left right limit grown w = w
writes_lines (outcome.SourceFault role.Third) query left right limit grown w = absurd w
writes_lines (outcome.SourceFault role.Trace) query left right limit grown w = absurd w
writes_lines (outcome.SourceFault role.Output) query left right limit grown w = absurd w
writes_lines outcome.SinkFault query left right limit grown w = w
writes_lines outcome.TooMany query left right limit grown w = w
writes_lines outcome.Memory query left right limit grown w = w

-- a join that writes the line of each pair
pub joins_lines : {ended : Outcome} {query : QueryParts} {limit : ℕ} {before now : Roles} {old new : Option (List ℕ)} → Joins ended query limit before now old new → JoinsKind pair_lines ended query limit before now old new
joins_lines {ended} {query} {limit} joins = joins_saying joins joins.grown joins.written (λ l r l_follows r_follows.
    writes_lines ended query (in_front joins.left_bytes l) (in_front joins.right_bytes r) limit joins.grown
    (joins.text l r l_follows r_follows))

-- ---- the causes of an ending, under a query

-- A stream failed: where both are open, the events end in its missing read, and the whole text of these events was
-- written; else nothing was written.
record FailsStream (kind : TextKind) (of : Role) (query : QueryParts) (limit : ℕ) (names : Names) (call : Call) : Type 0 where
  pub side : Side
  pub is : of ≡ role_of side
  pub fails : Fails of call.before call.now
  pub unopened : ¬ (AreOpen call.now) → Appends call.old call.new []
  pub opened : AreOpen call.now → WritesAll kind (λ ending. ending ≡ unread side) query limit names call

abbrev CauseUnder : TextKind → Result (Unit {0}) Note → QueryParts → ℕ → Names → Call → Type 0
CauseUnder kind (Ok done) query limit names call = WritesWhole kind query limit names call
CauseUnder kind (Err (note.BadRecord side at found)) query limit names call =
    WritesAll kind (λ ending. ending ≡ bad side at found) query limit names call
CauseUnder kind (Err (note.Source of)) query limit names call = FailsStream kind of query limit names call
CauseUnder kind (Err note.Sink) query limit names call = Unit {0}
CauseUnder kind (Err note.Memory) query limit names call = Unit {0}
CauseUnder kind (Err (note.TooManyEvents most)) query limit names call =
    (most ≡ limit) × WritesAll kind (λ ending. ending ≡ too_many) query limit names call
CauseUnder kind (Err other) query limit names call = ⊥

-- ---- the outcome

module _ (kind : TextKind) (query : QueryParts) (limit : ℕ) (names : Names) (under : List ℕ → Option (List ℕ)) (before mid now : Roles) (old new : Option (List ℕ)) (faults faults' : ℕ) where
  -- What a join says of the streams of this call.
  record Found (ended : Outcome) (left_failed right_failed left_ended right_ended : Bool) (grown : List ℕ) : Type 0 where
    pub of_left : Stream
    pub of_right : Stream
    pub streams : AreStreams names under before now of_left of_right
    pub text : WritesKind kind ended query of_left of_right limit grown
    pub failed : FailsOn ended left_failed right_failed
    pub left_whole : left_failed ≡ false → left_ended ≡ true → of_left.whole ≡ true
    pub right_whole : right_failed ≡ false → right_ended ≡ true → of_right.whole ≡ true
    pub left_phase : (now role.Left).phase ≡ opened names.left left_ended
    pub right_phase : (now role.Right).phase ≡ opened names.right right_ended
    pub left_at_end : left_ended ≡ true → IsAtEnd (now role.Left).left
    pub right_at_end : right_ended ≡ true → IsAtEnd (now role.Right).left
    pub left_fails : left_failed ≡ true → Fails role.Left before now
    pub right_fails : right_failed ≡ true → Fails role.Right before now

  found_by : (ended : Outcome) → AreOpened names under before mid → (joins : JoinsKind kind ended query limit mid now old new) → Found ended joins.left_failed joins.right_failed joins.left_ended joins.right_ended joins.grown
  found_by ended are joins =
      let which = fails_or_none before now in
      let l = behind names.left (under names.left) role.Left before mid now joins.left_failed joins.left_ended joins.left_bytes are.of_left joins.left which in
      let r = behind names.right (under names.right) role.Right before mid now joins.right_failed joins.right_ended joins.right_bytes are.of_right joins.right which in
      record {
        of_left = in_front joins.left_bytes l.rest;
        of_right = in_front joins.right_bytes r.rest;
        streams = record { of_left = l.is; of_right = r.is };
        text = joins.text l.rest r.rest l.follows r.follows;
        failed = joins.failed;
        left_whole = λ none end. whole_behind joins.left_failed joins.left_ended joins.left_bytes l.rest none end l.follows;
        right_whole = λ none end. whole_behind joins.right_failed joins.right_ended joins.right_bytes r.rest none end r.follows;
        left_phase = phase_of names.left (under names.left) role.Left before mid now joins.left_failed joins.left_ended joins.left_bytes are.of_left joins.left;
        right_phase = phase_of names.right (under names.right) role.Right before mid now joins.right_failed joins.right_ended joins.right_bytes are.of_right joins.right;
        left_at_end = joins.left.in_step.at_end;
        right_at_end = joins.right.in_step.at_end;
        left_fails = fails_of names.left (under names.left) role.Left before mid now joins.left_failed joins.left_ended joins.left_bytes are.of_left joins.left;
        right_fails = fails_of names.right (under names.right) role.Right before mid now joins.right_failed joins.right_ended joins.right_bytes are.of_right joins.right;
      }

  this : Call
  this = call under before now old new faults faults'

  module _ (ended : Outcome) (left_failed right_failed left_ended right_ended : Bool) (grown : List ℕ) (written : Appends old new grown) (found : Found ended left_failed right_failed left_ended right_ended grown) where
    abbrev IsWritten : Type 0
    IsWritten = IsWholeText kind query found.of_left found.of_right limit grown

    abbrev ending : Ending
    ending = (join_result query found.of_left found.of_right limit).ending

    begins : IsTextFront kind query found.of_left found.of_right limit grown → BeginsText kind grown query limit names this
    unfolding this
    begins front = record { left = found.of_left; right = found.of_right; streams = found.streams; begins = front }

    begins_whole : IsWritten → BeginsText kind grown query limit names this
    begins_whole whole = begins (whole_begins kind query found.of_left found.of_right limit grown whole)

    writes_all : (found_so : Ending) → IsWritten → ending ≡ found_so → WritesAll kind (λ e. e ≡ found_so) query limit names this
    unfolding this
    writes_all found_so whole ends = record {
      left = found.of_left;
      right = found.of_right;
      streams = found.streams;
      ending = ends;
      text = grown;
      whole = whole;
      written = written;
    }

    writes_whole : left_failed ≡ false → right_failed ≡ false → left_ended ≡ true → right_ended ≡ true → IsWritten → ending ≡ clean → WritesWhole kind query limit names this
    unfolding this
    writes_whole left_unfailed right_unfailed left_end right_end whole ends = record {
      left = found.of_left;
      right = found.of_right;
      streams = found.streams;
      left_whole = found.left_whole left_unfailed left_end;
      right_whole = found.right_whole right_unfailed right_end;
      left_ended = (found.left_phase ∙ ap (λ (b : Bool). opened names.left b) left_end, found.left_at_end left_end);
      right_ended = (found.right_phase ∙ ap (λ (b : Bool). opened names.right b) right_end, found.right_at_end right_end);
      ending = ends;
      text = grown;
      whole = whole;
      written = written;
    }

    fails_stream : (side : Side) → Fails (role_of side) before now → IsWritten → ending ≡ unread side → FailsStream kind (role_of side) query limit names this
    unfolding this
    fails_stream side fails all ends = record {
      side = side;
      is = refl;
      fails = fails;
      unopened = λ no. absurd (no (open-opened names.left left_ended (now role.Left).phase found.left_phase, open-opened names.right right_ended (now role.Right).phase found.right_phase));
      opened = λ both. writes_all (unread side) all ends;
    }

  -- the cause of the ending, and what was written
  caused : (ended : Outcome) (left_failed right_failed left_ended right_ended : Bool) (grown : List ℕ) → Appends old new grown → Found ended left_failed right_failed left_ended right_ended grown → AreEnded ended left_ended right_ended
      → CauseUnder kind (end_of limit ended) query limit names this × BeginsText kind grown query limit names this
  caused (outcome.Done events) lf rf le re grown w f ends =
      (writes_whole (outcome.Done events) lf rf le re grown w f f.failed.0 f.failed.1 ends.0 ends.1 f.text.0 f.text.1, begins_whole (outcome.Done events) lf rf le re grown w f f.text.0)
  caused (outcome.Bad of at why) lf rf le re grown w f ends =
      (writes_all (outcome.Bad of at why) lf rf le re grown w f (bad of at why) f.text.0 f.text.1, begins_whole (outcome.Bad of at why) lf rf le re grown w f f.text.0)
  caused (outcome.SourceFault role.Query) lf rf le re grown w f ends = absurd f.text
  caused (outcome.SourceFault role.SecondQuery) lf rf le re grown w f ends = absurd f.text
  caused (outcome.SourceFault role.Third) lf rf le re grown w f ends = absurd f.text
  caused (outcome.SourceFault role.Trace) lf rf le re grown w f ends = absurd f.text
  caused (outcome.SourceFault role.Output) lf rf le re grown w f ends = absurd f.text
  caused (outcome.SourceFault role.Left) lf rf le re grown w f ends =
      (fails_stream (outcome.SourceFault role.Left) lf rf le re grown w f side.Left (f.left_fails f.failed.0) f.text.0 f.text.1, begins_whole (outcome.SourceFault role.Left) lf rf le re grown w f f.text.0)
  caused (outcome.SourceFault role.Right) lf rf le re grown w f ends =
      (fails_stream (outcome.SourceFault role.Right) lf rf le re grown w f side.Right (f.right_fails f.failed.1) f.text.0 f.text.1, begins_whole (outcome.SourceFault role.Right) lf rf le re grown w f f.text.0)
  caused outcome.SinkFault lf rf le re grown w f ends = (tt, begins outcome.SinkFault lf rf le re grown w f f.text)
  caused outcome.TooMany lf rf le re grown w f ends =
      ((refl, writes_all outcome.TooMany lf rf le re grown w f too_many f.text.0 f.text.1), begins_whole outcome.TooMany lf rf le re grown w f f.text.0)
  caused outcome.Memory lf rf le re grown w f ends = (tt, begins outcome.Memory lf rf le re grown w f f.text)

  counts_sink : (ended : Outcome) → CountsSinkFault ended faults faults' → CountsSink (end_of limit ended) faults faults'
  counts_sink (outcome.Done events) counts = counts
  counts_sink (outcome.Bad of at why) counts = counts
  counts_sink (outcome.SourceFault of) counts = counts
  counts_sink outcome.SinkFault counts = counts.1
  counts_sink outcome.TooMany counts = counts
  counts_sink outcome.Memory counts = counts

  -- ---- the order

  module _ (source : QuerySource) (accepts : AcceptsQuery source query this) where
    order_cause : (end : Result (Unit {0}) Note) → CauseUnder kind end query limit names this → JoinCause kind source names limit this end
    unfolding this
    order_cause (Ok done) cause = (query, accepts, cause)
    order_cause (Err (note.BadRecord of at found)) cause = (query, accepts, cause)
    order_cause (Err (note.Source of)) cause = record {
      has = reads_side source of cause.side cause.is;
      fails = cause.fails;
      unopened = cause.unopened;
      opened = λ are. (cause.side, cause.is, (query, accepts, cause.opened are));
    }
    order_cause (Err note.Sink) cause = tt
    order_cause (Err note.Memory) cause = tt
    order_cause (Err (note.TooManyEvents most)) cause = (cause.0, (query, accepts, cause.1))
    order_cause (Err note.Usage) cause = absurd cause
    order_cause (Err (note.BadQuery found)) cause = absurd cause

  module _ (source : QuerySource) (ready : IsReady query source names under before mid) where
    pub query_stays : (ended : Outcome) → JoinsKind kind ended query limit mid now old new → IsQueryOf source query under (before role.Query) (now role.Query)
    query_stays ended joins = subst (λ (s : RoleState). IsQueryOf source query under (before role.Query) s) (sym (joins.others role.Query (λ e. cc) (λ e. cc))) ready.accepted

    -- a join begins no role
    none_else : (ended : Outcome) → JoinsKind kind ended query limit mid now old new → (of : Role) → ¬ (IsJoinRole source of) → (now of).phase ≡ unbegun
    none_else ended joins = λ of none. ap (λ (s : RoleState). s.phase) (joins.others of (not_left of none) (not_right of none)) ∙ ready.others of none
      where
        not_left : (of : Role) → ¬ (IsJoinRole source of) → of ≢ role.Left
        not_left of none e = none (reads_side source of side.Left e)

        not_right : (of : Role) → ¬ (IsJoinRole source of) → of ≢ role.Right
        not_right of none e = none (reads_side source of side.Right e)

    joins_as : (ended : Outcome) → JoinsKind kind ended query limit mid now old new → CountsSinkFault ended faults faults'
        → RunsOrder (end_of limit ended) (join_streams kind source names limit) (call under before now old new faults faults')
    unfolding this
    joins_as ended joins counts =
        let found = found_by ended ready.opened joins in
        let came = caused ended joins.left_failed joins.right_failed joins.left_ended joins.right_ended joins.grown joins.written found joins.ends in
        let accepts : AcceptsQuery source query this = query_stays ended joins in
        join_runs kind source names limit (call under before now old new faults faults') (end_of limit ended) (order_cause source accepts (end_of limit ended) came.0) (counts_sink ended counts)
        joins.grown joins.written (inr (query, accepts, came.1))
        (record {
          query = subst (λ (s : RoleState). BeginsSource source s.phase) (sym (joins.others role.Query (λ e. cc) (λ e. cc))) ready.begun;
          left = begun-opened names.left joins.left_ended (now role.Left).phase found.left_phase;
          right = begun-opened names.right joins.right_ended (now role.Right).phase found.right_phase;
          query_first = λ started. (query, accepts);
          left_first = λ started. open-opened names.left joins.left_ended (now role.Left).phase found.left_phase;
        })
        (none_else ended joins)

    pub joins_so : (end : Result (Unit {0}) Note) (ended : Outcome) → end ≡ end_of limit ended → JoinsKind kind ended query limit mid now old new → CountsSinkFault ended faults faults'
        → RunsOrder end (join_streams kind source names limit) (call under before now old new faults faults')
    joins_so end ended e joins counts =
        subst (λ (r : Result (Unit {0}) Note). RunsOrder r (join_streams kind source names limit) (call under before now old new faults faults')) (sym e) (joins_as ended joins counts)
