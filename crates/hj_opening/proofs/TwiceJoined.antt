-- Two joins in a row of streams that are ready: what their ending says of the streams of the call, and so of the order.
use Rattle.std.proofs.Common.{◌≡◌, ◌⊎◌, ℕ, Bool, true, false, List, [], sym, ◌∙◌, ap, subst, inl, inr, refl}
use Rattle.std.specs.Io.KnownBytes.{Appends, IsAtEnd}
use Rattle.std.specs.declared.option.Option.{Option}
use Rattle.hj_base.specs.declared.numbers.Side.TheVariants as side
use Rattle.hj_base.specs.declared.outside.Role.{Role}
use Rattle.hj_base.specs.declared.outside.Role.TheVariants as role
use Rattle.hj_base.specs.Journals.{IsPrefix}
use Rattle.hj_base.specs.Outside.{RoleState, opened, unbegun}
use Rattle.hj_event.specs.Arrivals.{Ending, clean, bad, unread, too_many}
use Rattle.hj_event.specs.Events.{events_of}
use Rattle.hj_event.specs.Roles.{IsReadOn}
use Rattle.hj_event.specs.Sides.{in_front}
use Rattle.hj_record.specs.Pieces.{Stream}
use Rattle.hj_relay.specs.declared.ending.TwiceOutcome.{TwiceOutcome}
use Rattle.hj_relay.specs.declared.ending.TwiceOutcome.TheVariants as twice
use Rattle.hj_relay.specs.Twice.{AreEnded, CountsTwiceFault, FailsTwice, JoinsTwice, WritesTwice, second_result}
use Rattle.hj_stream.specs.declared.outcome.Outcome.TheVariants as outcome
use Rattle.hj_opening.specs.declared.twice.TwoQueries.{TwoQueries}
use Rattle.hj_opening.specs.Calls.{Call, call}
use Rattle.hj_opening.specs.Opening.{IsOpened}
use Rattle.hj_opening.specs.Queries.{IsAccepted}
use Rattle.hj_opening.specs.ReadyTwice.{IsTwiceReady}
use Rattle.hj_opening.specs.RunTwice.{RunsTwice, end_of_twice}
use Rattle.hj_opening.specs.Streams.{Fails, IsBegunUnder, IsStream, NoneFails}
use Rattle.hj_opening.specs.TwoJoins.{AcceptsBoth, AreAllOpen, BeginsSecond, BeginsTwice, BothJoins, EndsInFirst, EndsUnread, FailsJoins, FirstJoin, IsTwiceRole, WritesAllThree, WritesSecond}
use Rattle.hj_opening.specs.Words.{TwiceNames}
use Rattle.hj_opening.proofs.Joined.{Behind, SomeFails, behind, fails_of, fails_or_none, phase_of, whole_behind}
use Rattle.hj_opening.proofs.Phases.{Roles, begun-opened, open-opened}
use Rattle.hj_opening.proofs.Prefixes.{begins_all}
use Rattle.hj_opening.proofs.TwiceEndings.{CountsSinkTwice, TwiceCause, TwiceEnd, twice_runs}
use Rattle.hj_opening.proofs.TwiceReading.{not_role}

-- ---- the stream of a role in a call

record IsStreamOf (name : List ℕ) (told : Option (List ℕ)) (of : Role) (before now : Roles) (failed ended : Bool) (stream : Stream) : Type 0 where
  pub is : IsStream told of before now stream
  pub whole : failed ≡ false → ended ≡ true → stream.whole ≡ true
  pub phase : (now of).phase ≡ opened name ended
  pub at_end : ended ≡ true → IsAtEnd (now of).left
  pub fails : failed ≡ true → Fails of before now

module _ (name : List ℕ) (told : Option (List ℕ)) (of : Role) (before mid now : Roles) (failed ended : Bool) (bytes : List ℕ)
    (ready : IsOpened name told (before of) (mid of)) (reads : IsReadOn failed bytes false ended (mid of) (now of)) (comes : Behind told of before now failed ended bytes) where
  stream_of : IsStreamOf name told of before now failed ended (in_front bytes comes.rest)
  stream_of = record {
    is = comes.is;
    whole = λ none end. whole_behind failed ended bytes comes.rest none end comes.follows;
    phase = phase_of name told of before mid now failed ended bytes ready reads;
    at_end = reads.in_step.at_end;
    fails = fails_of name told of before mid now failed ended bytes ready reads;
  }

-- ---- the ending

module _ (queries : TwoQueries) (names : TwiceNames) (limit : ℕ) (under : List ℕ → Option (List ℕ)) (before now : Roles) (old new : Option (List ℕ)) (faults faults' : ℕ)
    (accepted : AcceptsBoth queries.first queries.second names under before now) where
  this : Call
  this = call under before now old new faults faults'

  -- What two joins say of the streams of this call.
  record Found (ended : TwiceOutcome) (left_failed right_failed third_failed left_ended right_ended third_ended : Bool) (grown : List ℕ) : Type 0 where
    pub left : Stream
    pub right : Stream
    pub third : Stream
    pub of_left : IsStreamOf names.streams.left (under names.streams.left) role.Left before now left_failed left_ended left
    pub of_right : IsStreamOf names.streams.right (under names.streams.right) role.Right before now right_failed right_ended right
    pub of_third : IsStreamOf names.third (under names.third) role.Third before now third_failed third_ended third
    pub text : WritesTwice ended grown queries.first queries.second limit left right third
    pub failed : FailsTwice ended left_failed right_failed third_failed
    pub written : Appends old new grown

  module _ (ended : TwiceOutcome) (lf rf tf le re te : Bool) (grown : List ℕ) (found : Found ended lf rf tf le re te grown) where
    abbrev first_ending : Ending
    first_ending = (events_of queries.first found.left found.right limit).ending

    abbrev second_ending : Ending
    second_ending = (second_result queries.first queries.second limit found.left found.right found.third).ending

    abbrev whole_text : List ℕ
    whole_text = (second_result queries.first queries.second limit found.left found.right found.third).text

    first_join : FirstJoin names this
    unfolding this
    first_join = record {
      first = queries.first;
      second = queries.second;
      accepted = accepted;
      left = found.left;
      right = found.right;
      streams = record { of_left = found.of_left.is; of_right = found.of_right.is };
    }

    both_joins : BothJoins names this
    unfolding this
    both_joins = record { of_first = first_join; third = found.third; of_third = found.of_third.is }

    stops : (ending : Ending) → grown ≡ [] → first_ending ≡ ending → EndsInFirst ending names limit this
    unfolding this first_join
    stops ending none ends = record {
      joins = first_join;
      ends = ends;
      nothing = subst (λ (text : List ℕ). Appends old new text) none found.written;
    }

    writes : (ending : Ending) → first_ending ≡ clean → grown ≡ whole_text → second_ending ≡ ending → WritesSecond ending names limit this
    unfolding this first_join both_joins
    writes ending first_ends all ends = record {
      joins = both_joins;
      first_ends = first_ends;
      ends = ends;
      written = subst (λ (text : List ℕ). Appends old new text) all found.written;
    }

    writes_all : lf ≡ false → rf ≡ false → tf ≡ false → le ≡ true → re ≡ true → te ≡ true → first_ending ≡ clean → grown ≡ whole_text → second_ending ≡ clean → WritesAllThree names limit this
    unfolding this first_join both_joins writes
    writes_all l_unfailed r_unfailed t_unfailed l_end r_end t_end first_ends all ends = record {
      writes = writes clean first_ends all ends;
      left_whole = found.of_left.whole l_unfailed l_end;
      right_whole = found.of_right.whole r_unfailed r_end;
      third_whole = found.of_third.whole t_unfailed t_end;
      left_ended = (found.of_left.phase ∙ ap (λ (b : Bool). opened names.streams.left b) l_end, found.of_left.at_end l_end);
      right_ended = (found.of_right.phase ∙ ap (λ (b : Bool). opened names.streams.right b) r_end, found.of_right.at_end r_end);
      third_ended = (found.of_third.phase ∙ ap (λ (b : Bool). opened names.third b) t_end, found.of_third.at_end t_end);
    }

    begins : IsPrefix grown whole_text → BeginsSecond grown names limit this
    unfolding this first_join both_joins
    begins front = record { joins = both_joins; begins = front }

    begins_whole : grown ≡ whole_text → BeginsSecond grown names limit this
    begins_whole all = begins (begins_all grown whole_text (sym all))

    all_open : AreAllOpen now
    all_open role.Query has = open-opened names.query true (now role.Query).phase accepted.of_first.read.ended.0
    all_open role.SecondQuery has = open-opened names.second true (now role.SecondQuery).phase accepted.of_second.read.ended.0
    all_open role.Left has = open-opened names.streams.left le (now role.Left).phase found.of_left.phase
    all_open role.Right has = open-opened names.streams.right re (now role.Right).phase found.of_right.phase
    all_open role.Third has = open-opened names.third te (now role.Third).phase found.of_third.phase
    all_open role.Trace has = absurd has
    all_open role.Output has = absurd has

    fails_role : (of : Role) → IsTwiceRole of → Fails of before now → EndsUnread of names limit this → FailsJoins of names limit this
    unfolding this
    fails_role of has fails ends = record { has = has; fails = fails; unopened = λ no. absurd (no all_open); opened = λ are. ends }

  -- the cause of the ending, and what was written
  abbrev Caused : TwiceOutcome → List ℕ → Type 0
  Caused ended grown = TwiceCause names limit this (end_of_twice limit ended) × ((grown ≡ []) ⊎ BeginsSecond grown names limit this)

  caused : (ended : TwiceOutcome) (lf rf tf le re te : Bool) (grown : List ℕ) (third_before third_now : RoleState) → Found ended lf rf tf le re te grown → AreEnded ended le re te third_before third_now → Caused ended grown
  unfolding this
  caused (twice.Done events more) lf rf tf le re te grown s n f ends =
      let all = f.text.1.0 in (
        writes_all (twice.Done events more) lf rf tf le re te grown f f.failed.0 f.failed.1 f.failed.2 ends.0 ends.1 ends.2 f.text.0.1 all f.text.1.1,
        inr (begins_whole (twice.Done events more) lf rf tf le re te grown f all),
      )
  caused (twice.First (outcome.Done events)) lf rf tf le re te grown s n f ends = absurd f.text.1
  caused (twice.First (outcome.Bad of at why)) lf rf tf le re te grown s n f ends =
      (stops (twice.First (outcome.Bad of at why)) lf rf tf le re te grown f (bad of at why) f.text.0 f.text.1, inl f.text.0)
  caused (twice.First (outcome.SourceFault role.Left)) lf rf tf le re te grown s n f ends =
      let ended : TwiceOutcome = twice.First (outcome.SourceFault role.Left) in
      (fails_role ended lf rf tf le re te grown f role.Left tt (f.of_left.fails f.failed.0.0) (inl (side.Left, refl, stops ended lf rf tf le re te grown f (unread side.Left) f.text.0 f.text.1)), inl f.text.0)
  caused (twice.First (outcome.SourceFault role.Right)) lf rf tf le re te grown s n f ends =
      let ended : TwiceOutcome = twice.First (outcome.SourceFault role.Right) in
      (fails_role ended lf rf tf le re te grown f role.Right tt (f.of_right.fails f.failed.0.1) (inl (side.Right, refl, stops ended lf rf tf le re te grown f (unread side.Right) f.text.0 f.text.1)), inl f.text.0)
  caused (twice.First (outcome.SourceFault role.Query)) lf rf tf le re te grown s n f ends = absurd f.text.1
  caused (twice.First (outcome.SourceFault role.SecondQuery)) lf rf tf le re te grown s n f ends = absurd f.text.1
  caused (twice.First (outcome.SourceFault role.Third)) lf rf tf le re te grown s n f ends = absurd f.text.1
  caused (twice.First (outcome.SourceFault role.Trace)) lf rf tf le re te grown s n f ends = absurd f.text.1
  caused (twice.First (outcome.SourceFault role.Output)) lf rf tf le re te grown s n f ends = absurd f.text.1
  caused (twice.First outcome.SinkFault) lf rf tf le re te grown s n f ends = absurd f.text.1
  caused (twice.First outcome.TooMany) lf rf tf le re te grown s n f ends =
      ((refl, inl (stops (twice.First outcome.TooMany) lf rf tf le re te grown f too_many f.text.0 f.text.1)), inl f.text.0)
  caused (twice.First outcome.Memory) lf rf tf le re te grown s n f ends = (tt, inl f.text.0)
  caused (twice.Second (outcome.Done events)) lf rf tf le re te grown s n f ends = absurd f.text.1
  caused (twice.Second (outcome.Bad side.Left at why)) lf rf tf le re te grown s n f ends =
      let ended : TwiceOutcome = twice.Second (outcome.Bad side.Left at why) in
      ((f.text.1.0, writes ended lf rf tf le re te grown f (bad side.Left at why) f.text.0 f.text.1.1 f.text.1.2), inr (begins_whole ended lf rf tf le re te grown f f.text.1.1))
  caused (twice.Second (outcome.Bad side.Right at why)) lf rf tf le re te grown s n f ends =
      let ended : TwiceOutcome = twice.Second (outcome.Bad side.Right at why) in
      (writes ended lf rf tf le re te grown f (bad side.Right at why) f.text.0 f.text.1.0 f.text.1.1, inr (begins_whole ended lf rf tf le re te grown f f.text.1.0))
  caused (twice.Second (outcome.SourceFault role.Third)) lf rf tf le re te grown s n f ends =
      let ended : TwiceOutcome = twice.Second (outcome.SourceFault role.Third) in (
        fails_role ended lf rf tf le re te grown f role.Third tt (f.of_third.fails f.failed.2) (inr (refl, writes ended lf rf tf le re te grown f (unread side.Right) f.text.0 f.text.1.0 f.text.1.1)),
        inr (begins_whole ended lf rf tf le re te grown f f.text.1.0),
      )
  caused (twice.Second (outcome.SourceFault role.Query)) lf rf tf le re te grown s n f ends = absurd f.text.1
  caused (twice.Second (outcome.SourceFault role.SecondQuery)) lf rf tf le re te grown s n f ends = absurd f.text.1
  caused (twice.Second (outcome.SourceFault role.Left)) lf rf tf le re te grown s n f ends = absurd f.text.1
  caused (twice.Second (outcome.SourceFault role.Right)) lf rf tf le re te grown s n f ends = absurd f.text.1
  caused (twice.Second (outcome.SourceFault role.Trace)) lf rf tf le re te grown s n f ends = absurd f.text.1
  caused (twice.Second (outcome.SourceFault role.Output)) lf rf tf le re te grown s n f ends = absurd f.text.1
  caused (twice.Second outcome.SinkFault) lf rf tf le re te grown s n f ends = (tt, inr (begins (twice.Second outcome.SinkFault) lf rf tf le re te grown f f.text.1))
  caused (twice.Second outcome.TooMany) lf rf tf le re te grown s n f ends =
      let ended : TwiceOutcome = twice.Second outcome.TooMany in
      ((refl, inr (writes ended lf rf tf le re te grown f too_many f.text.0 f.text.1.0 f.text.1.1)), inr (begins_whole ended lf rf tf le re te grown f f.text.1.0))
  caused (twice.Second outcome.Memory) lf rf tf le re te grown s n f ends = (tt, inr (begins (twice.Second outcome.Memory) lf rf tf le re te grown f f.text.1))

  counts_sink : (ended : TwiceOutcome) (grown : List ℕ) (left right third : Stream) → WritesTwice ended grown queries.first queries.second limit left right third → CountsTwiceFault ended faults faults' → CountsSinkTwice (end_of_twice limit ended) faults faults'
  counts_sink (twice.Done events more) grown l r t w counts = counts
  counts_sink (twice.First (outcome.Done events)) grown l r t w counts = counts
  counts_sink (twice.First (outcome.Bad of at why)) grown l r t w counts = counts
  counts_sink (twice.First (outcome.SourceFault of)) grown l r t w counts = counts
  counts_sink (twice.First outcome.SinkFault) grown l r t w counts = absurd w.1
  counts_sink (twice.First outcome.TooMany) grown l r t w counts = counts
  counts_sink (twice.First outcome.Memory) grown l r t w counts = counts
  counts_sink (twice.Second (outcome.Done events)) grown l r t w counts = counts
  counts_sink (twice.Second (outcome.Bad of at why)) grown l r t w counts = counts
  counts_sink (twice.Second (outcome.SourceFault of)) grown l r t w counts = counts
  counts_sink (twice.Second outcome.SinkFault) grown l r t w counts = counts.1
  counts_sink (twice.Second outcome.TooMany) grown l r t w counts = counts
  counts_sink (twice.Second outcome.Memory) grown l r t w counts = counts

-- ---- the order

module _ (queries : TwoQueries) (names : TwiceNames) (limit : ℕ) (under : List ℕ → Option (List ℕ)) (before mid now : Roles) (old new : Option (List ℕ)) (faults faults' : ℕ)
    (ready : IsTwiceReady queries names under before mid) (ended : TwiceOutcome) (joins : JoinsTwice ended queries.first queries.second limit mid now old new) where
  first_stays : now role.Query ≡ mid role.Query
  first_stays = joins.others role.Query (λ e. cc) (λ e. cc) (λ e. cc)

  second_stays : now role.SecondQuery ≡ mid role.SecondQuery
  second_stays = joins.others role.SecondQuery (λ e. cc) (λ e. cc) (λ e. cc)

  accepted_now : AcceptsBoth queries.first queries.second names under before now
  accepted_now = record {
    of_first = subst (λ (s : RoleState). IsAccepted queries.first names.query (under names.query) (before role.Query) s) (sym first_stays) ready.accepted.of_first;
    of_second = subst (λ (s : RoleState). IsAccepted queries.second names.second (under names.second) (before role.SecondQuery) s) (sym second_stays) ready.accepted.of_second;
    fits = ready.accepted.fits;
  }

  -- a join begins no role
  none_else : (of : Role) → ¬ (IsTwiceRole of) → (now of).phase ≡ unbegun
  none_else of none = ap (λ (s : RoleState). s.phase) (joins.others of (not_role of role.Left tt none) (not_role of role.Right tt none) (not_role of role.Third tt none)) ∙ ready.others of none

  module _ (which : NoneFails before now ⊎ SomeFails before now) where
    left_comes : Behind (under names.streams.left) role.Left before now joins.left_failed joins.left_ended joins.left_bytes
    left_comes = behind names.streams.left (under names.streams.left) role.Left before mid now joins.left_failed joins.left_ended joins.left_bytes ready.left joins.left which

    right_comes : Behind (under names.streams.right) role.Right before now joins.right_failed joins.right_ended joins.right_bytes
    right_comes = behind names.streams.right (under names.streams.right) role.Right before mid now joins.right_failed joins.right_ended joins.right_bytes ready.right joins.right which

    third_comes : Behind (under names.third) role.Third before now joins.third_failed joins.third_ended joins.third_bytes
    third_comes = behind names.third (under names.third) role.Third before mid now joins.third_failed joins.third_ended joins.third_bytes ready.third joins.third which

    found_in : Found queries names limit under before now old new faults faults' accepted_now ended joins.left_failed joins.right_failed joins.third_failed joins.left_ended joins.right_ended joins.third_ended joins.grown
    found_in = record {
      left = in_front joins.left_bytes left_comes.rest;
      right = in_front joins.right_bytes right_comes.rest;
      third = in_front joins.third_bytes third_comes.rest;
      of_left = stream_of names.streams.left (under names.streams.left) role.Left before mid now joins.left_failed joins.left_ended joins.left_bytes ready.left joins.left left_comes;
      of_right = stream_of names.streams.right (under names.streams.right) role.Right before mid now joins.right_failed joins.right_ended joins.right_bytes ready.right joins.right right_comes;
      of_third = stream_of names.third (under names.third) role.Third before mid now joins.third_failed joins.third_ended joins.third_bytes ready.third joins.third third_comes;
      text = joins.text left_comes.rest right_comes.rest third_comes.rest left_comes.follows right_comes.follows third_comes.follows;
      failed = joins.failed;
      written = joins.written;
    }

  begins_all_roles : BeginsTwice names under before now
  begins_all_roles =
      let found = found_in (fails_or_none before now) in
      record {
        query = subst (λ (s : RoleState). IsBegunUnder names.query s.phase) (sym first_stays) ready.first_begun;
        second = subst (λ (s : RoleState). IsBegunUnder names.second s.phase) (sym second_stays) ready.second_begun;
        left = begun-opened names.streams.left joins.left_ended (now role.Left).phase found.of_left.phase;
        right = begun-opened names.streams.right joins.right_ended (now role.Right).phase found.of_right.phase;
        third = begun-opened names.third joins.third_ended (now role.Third).phase found.of_third.phase;
        first_accepted = λ begun. (queries.first, accepted_now.of_first);
        both_accepted = λ begun. (queries.first, (queries.second, accepted_now));
        left_open = λ begun. open-opened names.streams.left joins.left_ended (now role.Left).phase found.of_left.phase;
        right_open = λ begun. open-opened names.streams.right joins.right_ended (now role.Right).phase found.of_right.phase;
      }

  joins_as : CountsTwiceFault ended faults faults' → RunsTwice (end_of_twice limit ended) names limit (call under before now old new faults faults')
  unfolding this
  joins_as counts =
      let found = found_in (fails_or_none before now) in
      let came = caused queries names limit under before now old new faults faults' accepted_now ended joins.left_failed joins.right_failed joins.third_failed joins.left_ended joins.right_ended joins.third_ended joins.grown (mid role.Third) (now role.Third) found joins.ends in
      twice_runs names limit (call under before now old new faults faults') (end_of_twice limit ended) came.0
      (counts_sink queries names limit under before now old new faults faults' accepted_now ended joins.grown found.left found.right found.third found.text counts)
      joins.grown joins.written came.1 begins_all_roles none_else

  pub joins_twice : (end : TwiceEnd) → end ≡ end_of_twice limit ended → CountsTwiceFault ended faults faults' → RunsTwice end names limit (call under before now old new faults faults')
  joins_twice end e counts = subst (λ (r : TwiceEnd). RunsTwice r names limit (call under before now old new faults faults')) (sym e) (joins_as counts)
