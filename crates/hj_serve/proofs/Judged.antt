-- The check of a trace and an output, from the verdict on what was read of its four streams.
use Rattle.std.proofs.Common.{◌≡◌, ◌≢◌, ◌⊎◌, ℕ, Bool, true, false, List, [], Result, sym, ◌∙◌, ap, subst, inl, refl, arith}
use Rattle.std.proofs.KnownBytes.{Appends-nil}
use Rattle.std.specs.declared.option.Option.{Option}
use Rattle.hj_base.specs.declared.outside.Role.{Role}
use Rattle.hj_base.specs.declared.outside.Role.TheVariants as role
use Rattle.hj_base.specs.Outside.{RoleState, opened, unbegun}
use Rattle.hj_record.specs.Pieces.{Stream}
use Rattle.hj_query.specs.QueryParts.{QueryParts}
use Rattle.hj_event.specs.Arrivals.{Ending, bad, clean, too_many}
use Rattle.hj_event.specs.Events.{NumberedEvents, events_of}
use Rattle.hj_event.specs.Roles.{CountsFailure}
use Rattle.hj_event.specs.Sides.{Follows, in_front}
use Rattle.hj_stream.specs.declared.outcome.Outcome.TheVariants as outcome
use Rattle.hj_notes.specs.declared.verify_note.VerifyNote.{VerifyNote}
use Rattle.hj_notes.specs.VerifyText.{status_of_verify, text_of_verify}
use Rattle.hj_verify.specs.declared.verdict.Verdict.{Verdict}
use Rattle.hj_verify.specs.declared.verdict.Verdict.TheVariants as verdict
use Rattle.hj_verify.specs.Checked.{IsChecked as IsReadRole}
use Rattle.hj_verify.specs.Reading.{fault_of}
use Rattle.hj_verify.specs.Verifying.{AreRight as JudgedRight, Judges, Verifies}
use Rattle.hj_opening.specs.Calls.{Call, call}
use Rattle.hj_opening.specs.ReadyToCheck.{IsReadyToCheck, RunsVerify}
use Rattle.hj_opening.specs.Keeping as keeping
use Rattle.hj_opening.specs.Streams.{Fails, IsBegunUnder}
use Rattle.hj_opening.specs.Queries.{IsAccepted}
use Rattle.hj_opening.specs.Verifying.{BeginsCheck, Checked, FindsNone, IsCheckRole, ServesVerify}
use Rattle.hj_opening.specs.Verifying as tells
use Rattle.hj_opening.specs.Words.{ChainShape, CheckedNames, check_trace}
use Rattle.hj_opening.proofs.Joined.{Behind, behind, fails_of, fails_or_none, phase_of}
use Rattle.hj_opening.proofs.Phases.{Roles, begun-opened, open-opened}
use Rattle.hj_opening.proofs.Verified.{EndsCheckOf, serves_verify}
use Rattle.hj_serve.specs.Verdicts.{end_of_verdict}

-- nothing comes behind the end
nothing_behind : (failed ended : Bool) (rest : Stream) → Follows failed ended rest → ended ≡ true → rest.bytes ≡ []
nothing_behind true ended rest follows end = ap (λ (s : Stream). s.bytes) follows
nothing_behind false true rest follows end = ap (λ (s : Stream). s.bytes) follows
nothing_behind false false rest follows end = absurd cc

-- a role that is read is one of a check
check_role : (of : Role) → IsReadRole of → IsCheckRole of
check_role role.Query read = absurd read
check_role role.SecondQuery read = absurd read
check_role role.Left read = tt
check_role role.Right read = tt
check_role role.Third read = absurd read
check_role role.Trace read = tt
check_role role.Output read = tt

module _ (chain : ChainShape) (name : List ℕ) (names : CheckedNames) (limit : ℕ) (under : List ℕ → Option (List ℕ)) (before mid now : Roles) (told : Option (List ℕ)) (faults : ℕ) (query : QueryParts)
    (ready : IsReadyToCheck query name names under before mid) (judged : Verdict) (made : Verifies judged query chain.cores chain.flight limit mid now) where
  abbrev this : Call
  this = call under before now told told faults faults

  -- ---- the streams of the call

  behind_left : Behind (under names.streams.left) role.Left before now made.left.failed made.left.ended made.left.bytes
  behind_left = behind names.streams.left (under names.streams.left) role.Left before mid now made.left.failed made.left.ended made.left.bytes ready.opened.of_left made.left.read (fails_or_none before now)

  behind_right : Behind (under names.streams.right) role.Right before now made.right.failed made.right.ended made.right.bytes
  behind_right = behind names.streams.right (under names.streams.right) role.Right before mid now made.right.failed made.right.ended made.right.bytes ready.opened.of_right made.right.read (fails_or_none before now)

  behind_trace : Behind (under names.trace) role.Trace before now made.trace.failed made.trace.ended made.trace.bytes
  behind_trace = behind names.trace (under names.trace) role.Trace before mid now made.trace.failed made.trace.ended made.trace.bytes ready.trace made.trace.read (fails_or_none before now)

  behind_output : Behind (under names.output) role.Output before now made.output.failed made.output.ended made.output.bytes
  behind_output = behind names.output (under names.output) role.Output before mid now made.output.failed made.output.ended made.output.bytes ready.output made.output.read (fails_or_none before now)

  abbrev left : Stream
  left = in_front made.left.bytes behind_left.rest

  abbrev right : Stream
  right = in_front made.right.bytes behind_right.rest

  abbrev trace : Stream
  trace = in_front made.trace.bytes behind_trace.rest

  abbrev output : Stream
  output = in_front made.output.bytes behind_output.rest

  abbrev all : NumberedEvents
  all = events_of query left right limit

  judges : Judges judged query chain.cores chain.flight all trace.bytes output.bytes
  judges = made.judges behind_left.rest behind_right.rest behind_trace.rest.bytes behind_output.rest.bytes behind_left.follows behind_right.follows
      (nothing_behind made.trace.failed made.trace.ended behind_trace.rest behind_trace.follows) (nothing_behind made.output.failed made.output.ended behind_output.rest behind_output.follows)

  accepted : IsAccepted query name (under name) (before role.Query) (now role.Query)
  accepted = subst (λ (s : RoleState). IsAccepted query name (under name) (before role.Query) s) (sym (made.others role.Query (λ read. read))) ready.accepted

  abbrev checked : Checked name names this
  checked = record {
    query = query;
    left = left;
    right = right;
    trace = trace;
    output = output;
    accepted = accepted;
    of_streams = record { of_left = behind_left.is; of_right = behind_right.is };
    of_trace = behind_trace.is;
    of_output = behind_output.is;
  }

  -- ---- the ending

  finds : (ending : Ending) → all.ending ≡ ending → JudgedRight query chain.cores chain.flight all trace.bytes output.bytes → FindsNone (λ e. e ≡ ending) chain name names limit this
  finds ending is so = record {
    checked = checked;
    ending = is;
    are_right = record { right = so.right; none = so.nothing };
  }

  fails : (of : Role) → judged ≡ fault_of of → IsReadRole of → Fails of before now
  fails role.Query is read = absurd read
  fails role.SecondQuery is read = absurd read
  fails role.Left is read = fails_of names.streams.left (under names.streams.left) role.Left before mid now made.left.failed made.left.ended made.left.bytes ready.opened.of_left made.left.read (made.left_failed.1 is)
  fails role.Right is read = fails_of names.streams.right (under names.streams.right) role.Right before mid now made.right.failed made.right.ended made.right.bytes ready.opened.of_right made.right.read (made.right_failed.1 is)
  fails role.Third is read = absurd read
  fails role.Trace is read = fails_of names.trace (under names.trace) role.Trace before mid now made.trace.failed made.trace.ended made.trace.bytes ready.trace made.trace.read (made.trace_failed.1 is)
  fails role.Output is read = fails_of names.output (under names.output) role.Output before mid now made.output.failed made.output.ended made.output.bytes ready.output made.output.read (made.output_failed.1 is)

  abbrev status_with : Verdict → ℕ
  status_with v = status_of_verify (end_of_verdict limit v)

  ends : (v : Verdict) → judged ≡ v → Judges v query chain.cores chain.flight all trace.bytes output.bytes → EndsCheckOf chain name names limit this (status_with v) (text_of_verify (end_of_verdict limit v))
  ends (verdict.Accepted events) is j = keeping.own (tells.accepted refl refl (finds clean j.0 j.2))
  ends (verdict.Refused found) is j = keeping.own (tells.refused found refl refl (record { checked = checked; stands = j }))
  ends (verdict.Ended (outcome.Done events)) is j = absurd j
  ends (verdict.Ended (outcome.Bad side at found)) is j = keeping.own (tells.bad_record side at found refl refl (finds (bad side at found) j.0 j.1))
  ends (verdict.Ended (outcome.SourceFault of)) is j = keeping.own (tells.failed_source of refl refl (check_role of j) (fails of is j))
  ends (verdict.Ended outcome.SinkFault) is j = absurd j
  ends (verdict.Ended outcome.TooMany) is j = keeping.own (tells.events refl refl (finds too_many j.0 j.1))
  ends (verdict.Ended outcome.Memory) is j = keeping.memory refl refl

  no_sink : (v : Verdict) → Judges v query chain.cores chain.flight all trace.bytes output.bytes → status_with v ≢ 5
  no_sink (verdict.Accepted events) j = λ e. omega (arith, e)
  no_sink (verdict.Refused found) j = λ e. omega (arith, e)
  no_sink (verdict.Ended (outcome.Done events)) j = absurd j
  no_sink (verdict.Ended (outcome.Bad side at found)) j = λ e. omega (arith, e)
  no_sink (verdict.Ended (outcome.SourceFault of)) j = λ e. omega (arith, e)
  no_sink (verdict.Ended outcome.SinkFault) j = absurd j
  no_sink (verdict.Ended outcome.TooMany) j = λ e. omega (arith, e)
  no_sink (verdict.Ended outcome.Memory) j = λ e. omega (arith, e)

  -- ---- what failed

  abbrev IsFault : Type 0
  IsFault = (status_with judged ≡ 4) ⊎ (status_with judged ≡ 6)

  counted : (of : Role) (failed : Bool) → CountsFailure failed (mid of).faults (now of).faults → (failed ≡ true → judged ≡ fault_of of) → (now of).faults ≢ (before of).faults → IsFault
  counted of true counts fault other = inl (ap status_with (fault refl))
  counted of false counts fault other = absurd (other (counts ∙ ready.unfailed of))

  kept : (of : Role) → now of ≡ mid of → (now of).faults ≢ (before of).faults → IsFault
  kept of same other = absurd (other (ap (λ (s : RoleState). s.faults) same ∙ ready.unfailed of))

  failing : (of : Role) → (now of).faults ≢ (before of).faults → IsFault
  failing role.Query other = kept role.Query (made.others role.Query (λ read. read)) other
  failing role.SecondQuery other = kept role.SecondQuery (made.others role.SecondQuery (λ read. read)) other
  failing role.Left other = counted role.Left made.left.failed made.left.read.faults made.left_failed.0 other
  failing role.Right other = counted role.Right made.right.failed made.right.read.faults made.right_failed.0 other
  failing role.Third other = kept role.Third (made.others role.Third (λ read. read)) other
  failing role.Trace other = counted role.Trace made.trace.failed made.trace.read.faults made.trace_failed.0 other
  failing role.Output other = counted role.Output made.output.failed made.output.read.faults made.output_failed.0 other

  -- ---- the roles

  left_phase : (now role.Left).phase ≡ opened names.streams.left made.left.ended
  left_phase = phase_of names.streams.left (under names.streams.left) role.Left before mid now made.left.failed made.left.ended made.left.bytes ready.opened.of_left made.left.read

  right_phase : (now role.Right).phase ≡ opened names.streams.right made.right.ended
  right_phase = phase_of names.streams.right (under names.streams.right) role.Right before mid now made.right.failed made.right.ended made.right.bytes ready.opened.of_right made.right.read

  trace_phase : (now role.Trace).phase ≡ opened names.trace made.trace.ended
  trace_phase = phase_of names.trace (under names.trace) role.Trace before mid now made.trace.failed made.trace.ended made.trace.bytes ready.trace made.trace.read

  output_phase : (now role.Output).phase ≡ opened names.output made.output.ended
  output_phase = phase_of names.output (under names.output) role.Output before mid now made.output.failed made.output.ended made.output.bytes ready.output made.output.read

  begins : BeginsCheck name names this
  begins = record {
    query = subst (λ (s : RoleState). IsBegunUnder name s.phase) (sym (made.others role.Query (λ read. read))) ready.begun;
    left = begun-opened names.streams.left made.left.ended (now role.Left).phase left_phase;
    right = begun-opened names.streams.right made.right.ended (now role.Right).phase right_phase;
    trace = begun-opened names.trace made.trace.ended (now role.Trace).phase trace_phase;
    output = begun-opened names.output made.output.ended (now role.Output).phase output_phase;
    query_first = λ started. (query, accepted);
    left_first = λ started. open-opened names.streams.left made.left.ended (now role.Left).phase left_phase;
    right_first = λ started. open-opened names.streams.right made.right.ended (now role.Right).phase right_phase;
    trace_first = λ started. open-opened names.trace made.trace.ended (now role.Trace).phase trace_phase;
  }

  none_else : (of : Role) → ¬ (IsCheckRole of) → (now of).phase ≡ unbegun
  none_else of none = ap (λ (s : RoleState). s.phase) (made.others of (λ read. none (check_role of read))) ∙ ready.others of none

  serves : ServesVerify chain name names limit (status_with judged) (text_of_verify (end_of_verdict limit judged)) this
  serves = serves_verify chain name names limit this (status_with judged) (text_of_verify (end_of_verdict limit judged)) (ends judged refl judges) (no_sink judged judges) (Appends-nil told) refl begins none_else failing

  pub verified : (end : Result (Unit {0}) VerifyNote) → end ≡ end_of_verdict limit judged → RunsVerify end (check_trace chain name names limit) (call under before now told told faults faults)
  verified end is = subst (λ (e : Result (Unit {0}) VerifyNote). RunsVerify e (check_trace chain name names limit) this) (sym is) serves
