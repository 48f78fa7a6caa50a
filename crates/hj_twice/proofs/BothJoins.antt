-- How two joins in a row end, by how each of them ended.
use Rattle.std.proofs.Common.{◌≡◌, ◌≢◌, ℕ, Bool, true, false, List, [], ◌++◌, Some, refl, sym, ap, subst, ◌∙◌, arith}
use Rattle.std.proofs.KnownBytes.{Appends-nil}
use Rattle.std.specs.declared.option.Option.{Option}
use Rattle.hj_base.specs.declared.numbers.Side.TheVariants.{Left, Right}
use Rattle.hj_base.specs.declared.outside.Role.{Role}
use Rattle.hj_base.specs.declared.outside.Role.TheVariants as role
use Rattle.hj_base.specs.Outside.{ChangesOnly, RoleState}
use Rattle.hj_event.specs.declared.fault.RecordFault.{RecordFault}
use Rattle.hj_event.specs.Arrivals.{bad}
use Rattle.hj_event.specs.Roles.{IsInStep, IsReadOn}
use Rattle.hj_event.specs.Rows.{Rows, bad as rows_bad, rows_of}
use Rattle.hj_event.specs.Sides.{Follows, at_its_end, cut_off, in_front}
use Rattle.hj_event.proofs.RoleLemmas.{not_read}
use Rattle.hj_held.specs.Held.{HeldState, KeptState, open_role}
use Rattle.hj_query.specs.QueryParts.{QueryParts}
use Rattle.hj_record.specs.Pieces.{Stream}
use Rattle.hj_stream.specs.declared.outcome.Outcome.{Outcome}
use Rattle.hj_stream.specs.declared.outcome.Outcome.TheVariants as outcome
use Rattle.hj_stream.specs.JoinText.{JoinResult, join_result}
use Rattle.hj_stream.specs.Joining.{AreEnded as AreJoined, CountsSinkFault, FailsOn, Joins, JoinsBy, WritesText}
use Rattle.hj_relay.specs.declared.ending.TwiceOutcome.{TwiceOutcome}
use Rattle.hj_relay.specs.declared.ending.TwiceOutcome.TheVariants as twice
use Rattle.hj_relay.specs.Fits.{Fits}
use Rattle.hj_relay.specs.Relay.{relay, relay_line, relay_pairs, relay_result, whole}
use Rattle.hj_twice.specs.Relayed.{relayed_role}
use Rattle.hj_relay.specs.Rows.{EndsRead, IsTooLong}
use Rattle.hj_relay.specs.Twice.{AreEnded, CountsTwiceFault, EndsFirst, FailsTwice, JoinsTwice, WritesTwice, second_result, twice_behind}
use Rattle.hj_relay.proofs.LeftEnd.{left_rows_end}
use Rattle.hj_relay.proofs.ReadBack.{relay_read_back}

abbrev Roles : Type 0
Roles = Role → RoleState

-- ---- the first join alone

-- a first join isn't done, and its relay can't fail
abbrev IsAlone : Outcome → Type 0
IsAlone (outcome.Done events) = ⊥
IsAlone outcome.SinkFault = ⊥
IsAlone ended = Unit {0}

pub is_alone : (ended : Outcome) → ((events : ℕ) → ended ≢ outcome.Done events) → CountsSinkFault ended 0 0 → IsAlone ended
is_alone (outcome.Done events) undone counts = absurd (undone events refl)
is_alone outcome.SinkFault undone counts = omega (arith, counts.1)
is_alone (outcome.Bad side at found) undone counts = tt
is_alone (outcome.SourceFault of) undone counts = tt
is_alone outcome.TooMany undone counts = tt
is_alone outcome.Memory undone counts = tt

ends_first : (ended : Outcome) (written : List ℕ) (joined : JoinResult) → IsAlone ended → WritesText ended written joined → EndsFirst ended joined
ends_first (outcome.Done events) written joined alone writes = absurd alone
ends_first outcome.SinkFault written joined alone writes = absurd alone
ends_first (outcome.Bad side at found) written joined alone writes = writes.1
ends_first (outcome.SourceFault role.Left) written joined alone writes = writes.1
ends_first (outcome.SourceFault role.Right) written joined alone writes = writes.1
ends_first (outcome.SourceFault role.Query) written joined alone writes = absurd writes
ends_first (outcome.SourceFault role.SecondQuery) written joined alone writes = absurd writes
ends_first (outcome.SourceFault role.Third) written joined alone writes = absurd writes
ends_first (outcome.SourceFault role.Trace) written joined alone writes = absurd writes
ends_first (outcome.SourceFault role.Output) written joined alone writes = absurd writes
ends_first outcome.TooMany written joined alone writes = writes.1
ends_first outcome.Memory written joined alone writes = tt

pub joins_first : (ended : Outcome) (first second : QueryParts) (limit : ℕ) (before now : Roles) (empty text out : Option (List ℕ)) → IsAlone ended → JoinsBy relay_line ended first limit before now empty text
    → IsInStep false (before role.Third) → JoinsTwice (twice.First ended) first second limit before now out out
joins_first ended first second limit before now empty text out alone joins step =
    let same : now role.Third ≡ before role.Third = joins.others role.Third (λ e. cc) (λ e. cc) in
    record {
      left_bytes = joins.left_bytes;
      right_bytes = joins.right_bytes;
      third_bytes = [];
      left_failed = joins.left_failed;
      right_failed = joins.right_failed;
      third_failed = false;
      left_ended = joins.left_ended;
      right_ended = joins.right_ended;
      third_ended = false;
      left = joins.left;
      right = joins.right;
      third = subst (λ (state : RoleState). IsReadOn false [] false false (before role.Third) state) (sym same) (not_read false (before role.Third) step);
      failed = (joins.failed, refl);
      others = λ of not_left not_right not_third. joins.others of not_left not_right;
      grown = [];
      written = Appends-nil out;
      text = λ l r t left right third. (refl, ends_first ended joins.grown (relay_result first (in_front joins.left_bytes l) (in_front joins.right_bytes r) limit) alone (joins.text l r left right));
      ends = same;
    }

-- ---- the relay as a stream

-- what is left of a stream in memory follows what was read of it
follows_rest : (failed ended : Bool) (rest : List ℕ) → failed ≡ false → (ended ≡ true → rest ≡ []) → Follows failed ended (whole rest)
follows_rest true ended rest none at_end = absurd cc
follows_rest false true rest none at_end = ap whole (at_end refl)
follows_rest false false rest none at_end = tt

none_fails : (failed ended : Bool) (bytes : List ℕ) (was now : HeldState) → IsReadOn failed bytes false ended (open_role was) (open_role now) → failed ≡ false
none_fails true ended bytes was now reads = absurd (omega (arith, reads.faults.1))
none_fails false ended bytes was now reads = refl

-- some stream follows what was read
follows_some : (failed ended : Bool) → (stream : Stream) × Follows failed ended stream
follows_some true ended = (cut_off, refl)
follows_some false true = (at_its_end, refl)
follows_some false false = (at_its_end, tt)

abbrev unread_relay : List ℕ → HeldState
unread_relay text = record { rest = text; ended = false }

-- ---- both joins

module _ (first second : QueryParts) (fits : Fits first second) (limit events : ℕ) (ended : Outcome) (before mid now : Roles) (text : List ℕ) (after : HeldState) (old new : Option (List ℕ))
    (made : JoinsBy relay_line (outcome.Done events) first limit before mid (Some []) (Some text))
    (joined : Joins ended second limit (relayed_role (unread_relay text) mid) (relayed_role after now) old new)
    (others : ChangesOnly role.Third mid now) where
  relay_unfailed : joined.left_failed ≡ false
  relay_unfailed = none_fails joined.left_failed joined.left_ended joined.left_bytes (unread_relay text) after joined.left

  same_left : now role.Left ≡ mid role.Left
  same_left = others role.Left (λ e. cc)

  same_right : now role.Right ≡ mid role.Right
  same_right = others role.Right (λ e. cc)

  same_third : mid role.Third ≡ before role.Third
  same_third = made.others role.Third (λ e. cc) (λ e. cc)

  module _ (l r t : Stream) (left : Follows made.left_failed made.left_ended l) (right : Follows made.right_failed made.right_ended r) (third : Follows joined.right_failed joined.right_ended t) where
    abbrev left_stream : Stream
    left_stream = in_front made.left_bytes l

    abbrev right_stream : Stream
    right_stream = in_front made.right_bytes r

    abbrev third_stream : Stream
    third_stream = in_front joined.right_bytes t

    first_wrote : WritesText (outcome.Done events) made.grown (relay_result first left_stream right_stream limit)
    first_wrote = made.text l r left right

    text_is : text ≡ relay first left_stream right_stream limit
    text_is = let written : text ≡ made.grown = made.written in written ∙ first_wrote.0

    -- what was read of the relay, with what is left of it, is the whole
    relay_is : in_front joined.left_bytes (whole after.rest) ≡ whole (relay first left_stream right_stream limit)
    relay_is = let came : text ≡ joined.left_bytes ++ after.rest = joined.left.came in ap whole (sym came ∙ text_is)

    second_wrote : WritesText ended joined.grown (second_result first second limit left_stream right_stream third_stream)
    second_wrote =
        subst (λ (stream : Stream). WritesText ended joined.grown (join_result second stream third_stream limit)) relay_is
        (joined.text (whole after.rest) t (follows_rest joined.left_failed joined.left_ended after.rest relay_unfailed joined.left.in_step.at_end) third)

    -- Of the relay only a line or the whole is refused.
    too_long : (at : ℕ) (found : RecordFault) → (second_result first second limit left_stream right_stream third_stream).ending ≡ bad Left at found → IsTooLong found
    too_long at found e =
        let read : Rows = rows_of second.left.columns second.slack (whole (relay first left_stream right_stream limit)) in
        let back = relay_read_back first second fits left_stream right_stream limit in
        let ends : read.ending ≡ rows_bad at found = left_rows_end at found second (whole (relay first left_stream right_stream limit)) third_stream limit e in
        subst (EndsRead (relay_pairs first left_stream right_stream limit) read.rows) ends back.ends

    writes : (made_of : Outcome) → (made_of ≡ outcome.SourceFault role.Left → ⊥) → WritesText made_of joined.grown (second_result first second limit left_stream right_stream third_stream)
        → WritesTwice (twice_behind events made_of) joined.grown first second limit left_stream right_stream third_stream
    writes (outcome.Done second_events) known wrote = ((refl, first_wrote.1, first_wrote.2), wrote)
    writes (outcome.Bad Left at found) known wrote = (first_wrote.1, (too_long at found wrote.1, wrote.0, wrote.1))
    writes (outcome.Bad Right at found) known wrote = (first_wrote.1, wrote)
    writes (outcome.SourceFault role.Left) known wrote = absurd (known refl)
    writes (outcome.SourceFault role.Right) known wrote = (first_wrote.1, wrote)
    writes (outcome.SourceFault role.Query) known wrote = absurd wrote
    writes (outcome.SourceFault role.SecondQuery) known wrote = absurd wrote
    writes (outcome.SourceFault role.Third) known wrote = absurd wrote
    writes (outcome.SourceFault role.Trace) known wrote = absurd wrote
    writes (outcome.SourceFault role.Output) known wrote = absurd wrote
    writes outcome.SinkFault known wrote = (first_wrote.1, wrote)
    writes outcome.TooMany known wrote = (first_wrote.1, wrote)
    writes outcome.Memory known wrote = (first_wrote.1, wrote)

  -- how a second join ended, where its relay didn't fail
  unfailed : FailsOn ended joined.left_failed joined.right_failed → (made_of : Outcome) → made_of ≡ ended → made_of ≡ outcome.SourceFault role.Left → ⊥
  unfailed failed made_of is left =
      let fails : FailsOn (outcome.SourceFault role.Left) joined.left_failed joined.right_failed = subst (λ (o : Outcome). FailsOn o joined.left_failed joined.right_failed) (sym is ∙ left) failed in
      let wrong : false ≡ true = sym relay_unfailed ∙ fails.0 in
      cc

  fails : (made_of : Outcome) (written : List ℕ) (result : JoinResult) → (made_of ≡ outcome.SourceFault role.Left → ⊥) → WritesText made_of written result → FailsOn made_of joined.left_failed joined.right_failed
      → FailsTwice (twice_behind events made_of) made.left_failed made.right_failed joined.right_failed
  fails (outcome.Done second_events) written result known wrote failed = (made.failed.0, made.failed.1, failed.1)
  fails (outcome.Bad side at found) written result known wrote failed = (made.failed.0, made.failed.1, failed.1)
  fails (outcome.SourceFault role.Left) written result known wrote failed = absurd (known refl)
  fails (outcome.SourceFault role.Right) written result known wrote failed = (made.failed.0, made.failed.1, failed.1)
  fails (outcome.SourceFault role.Query) written result known wrote failed = absurd wrote
  fails (outcome.SourceFault role.SecondQuery) written result known wrote failed = absurd wrote
  fails (outcome.SourceFault role.Third) written result known wrote failed = absurd wrote
  fails (outcome.SourceFault role.Trace) written result known wrote failed = absurd wrote
  fails (outcome.SourceFault role.Output) written result known wrote failed = absurd wrote
  fails outcome.SinkFault written result known wrote failed = (made.failed.0, made.failed.1, tt)
  fails outcome.TooMany written result known wrote failed = (made.failed.0, made.failed.1, failed.1)
  fails outcome.Memory written result known wrote failed = (made.failed.0, made.failed.1, tt)

  ended_so : (made_of : Outcome) → AreJoined made_of joined.left_ended joined.right_ended → AreEnded (twice_behind events made_of) made.left_ended made.right_ended joined.right_ended (before role.Third) (now role.Third)
  ended_so (outcome.Done second_events) ends = (made.ends.0, made.ends.1, ends.1)
  ended_so (outcome.Bad side at found) ends = (made.ends.0, made.ends.1)
  ended_so (outcome.SourceFault of) ends = (made.ends.0, made.ends.1)
  ended_so outcome.SinkFault ends = (made.ends.0, made.ends.1)
  ended_so outcome.TooMany ends = (made.ends.0, made.ends.1)
  ended_so outcome.Memory ends = (made.ends.0, made.ends.1)

  pub joins_both : JoinsTwice (twice_behind events ended) first second limit before now old new
  joins_both =
      let left = follows_some made.left_failed made.left_ended in
      let right = follows_some made.right_failed made.right_ended in
      let third = follows_some joined.right_failed joined.right_ended in
      let wrote = second_wrote left.0 right.0 third.0 left.1 right.1 third.1 in
      let known = unfailed joined.failed ended refl in
      record {
        left_bytes = made.left_bytes;
        right_bytes = made.right_bytes;
        third_bytes = joined.right_bytes;
        left_failed = made.left_failed;
        right_failed = made.right_failed;
        third_failed = joined.right_failed;
        left_ended = made.left_ended;
        right_ended = made.right_ended;
        third_ended = joined.right_ended;
        left = subst (λ (state : RoleState). IsReadOn made.left_failed made.left_bytes false made.left_ended (before role.Left) state) (sym same_left) made.left;
        right = subst (λ (state : RoleState). IsReadOn made.right_failed made.right_bytes false made.right_ended (before role.Right) state) (sym same_right) made.right;
        third = subst (λ (state : RoleState). IsReadOn joined.right_failed joined.right_bytes false joined.right_ended state (now role.Third)) same_third joined.right;
        failed = fails ended joined.grown (second_result first second limit (in_front made.left_bytes left.0) (in_front made.right_bytes right.0) (in_front joined.right_bytes third.0)) known wrote joined.failed;
        others = λ of not_left not_right not_third. others of not_third ∙ made.others of not_left not_right;
        grown = joined.grown;
        written = joined.written;
        text = λ l r t l_follows r_follows t_follows. writes l r t l_follows r_follows t_follows ended known (second_wrote l r t l_follows r_follows t_follows);
        ends = ended_so ended joined.ends;
      }

pub counts_behind : (events : ℕ) (ended : Outcome) (old new : ℕ) → CountsSinkFault ended old new → CountsTwiceFault (twice_behind events ended) old new
counts_behind events (outcome.Done second_events) old new counts = counts
counts_behind events (outcome.Bad side at found) old new counts = counts
counts_behind events (outcome.SourceFault of) old new counts = counts
counts_behind events outcome.SinkFault old new counts = counts
counts_behind events outcome.TooMany old new counts = counts
counts_behind events outcome.Memory old new counts = counts

-- ---- as they are made

module _ (first second : QueryParts) (limit : ℕ) (before : Roles) (out : Option (List ℕ)) (made_so : Outcome) (empty kept : KeptState) where
  pub made_alone : (now : Roles) → ((events : ℕ) → made_so ≢ outcome.Done events) → CountsSinkFault made_so 0 0 → JoinsBy relay_line made_so first limit before now (Some empty.text) (Some kept.text)
      → IsInStep false (before role.Third) → JoinsTwice (twice.First made_so) first second limit before now out out
  made_alone now undone counts joins step = joins_first made_so first second limit before now (Some empty.text) (Some kept.text) out (is_alone made_so undone counts) joins step

  pub made_both : (fits : Fits first second) (events : ℕ) (ended : Outcome) (mid now : Roles) (bytes : List ℕ) (relay_stream after : HeldState) (new : Option (List ℕ)) (result : TwiceOutcome)
      → empty ≡ record { text = []; refusals = 0 } → made_so ≡ outcome.Done events → bytes ≡ kept.text → relay_stream ≡ record { rest = bytes; ended = false } → result ≡ twice_behind events ended
      → JoinsBy relay_line made_so first limit before mid (Some empty.text) (Some kept.text) → Joins ended second limit (relayed_role relay_stream mid) (relayed_role after now) out new → ChangesOnly role.Third mid now
      → JoinsTwice result first second limit before now out new
  made_both fits events ended mid now bytes relay_stream after new result none done same held is made joined others =
      let unread : relay_stream ≡ unread_relay kept.text = held ∙ ap unread_relay same in
      let wrote : JoinsBy relay_line (outcome.Done events) first limit before mid (Some []) (Some kept.text) =
      subst (λ (k : KeptState). JoinsBy relay_line (outcome.Done events) first limit before mid (Some k.text) (Some kept.text)) none
      (subst (λ (o : Outcome). JoinsBy relay_line o first limit before mid (Some empty.text) (Some kept.text)) done made) in
      let read : Joins ended second limit (relayed_role (unread_relay kept.text) mid) (relayed_role after now) out new =
      subst (λ (s : HeldState). Joins ended second limit (relayed_role s mid) (relayed_role after now) out new) unread joined in
      subst (λ (t : TwiceOutcome). JoinsTwice t first second limit before now out new) (sym is) (joins_both first second fits limit events ended before mid now kept.text after out new wrote read others)
