-- What `verify` promises, from the cause of its ending and the roles that it began; and where it ended before a check.
use Rattle.std.proofs.Common.{◌≡◌, ◌≢◌, ◌⊎◌, ℕ, List, [], Err, false, sym, ◌∙◌, ap, subst, inl, inr, refl, arith}
use Rattle.std.proofs.KnownBytes.{Appends-nil}
use Rattle.std.specs.Io.KnownBytes.{Appends}
use Rattle.std.specs.declared.option.Option.{Option}
use Rattle.hj_base.specs.declared.outside.Role.{Role}
use Rattle.hj_base.specs.declared.outside.Role.TheVariants as role
use Rattle.hj_base.specs.Counts.{Rose}
use Rattle.hj_base.specs.Outside.{RoleState, ChangesOnly, IsOpen, opened, unbegun}
use Rattle.hj_event.specs.Arrivals.{Ending, bad, clean, too_many}
use Rattle.hj_notes.specs.declared.note.Note.{Note}
use Rattle.hj_notes.specs.declared.note.Note.TheVariants as why
use Rattle.hj_notes.specs.NoteText.{note_text, status_of}
use Rattle.hj_query.specs.QueryParts.{QueryParts}
use Rattle.hj_opening.specs.Calls.{Call, call}
use Rattle.hj_opening.specs.Opening.{IsOpened, Opens}
use Rattle.hj_opening.specs.Queries.{IsAccepted}
use Rattle.hj_opening.specs.Ready.{EndsEarly, IsReady}
use Rattle.hj_opening.specs.ReadyToCheck.{IsReadyToCheck}
use Rattle.hj_opening.specs.Keeping.{EndsCommand, NothingFails, RefusesQuery, status_of_ending}
use Rattle.hj_opening.specs.Keeping as keeping
use Rattle.hj_opening.specs.Serve.{AreOpen, EndsJoin, IsJoinRole, RefusesNamed, ServesJoin}
use Rattle.hj_opening.specs.Serve as says
use Rattle.hj_opening.specs.Streams.{Fails, IsBegunUnder}
use Rattle.hj_opening.specs.Verifying.{BeginsCheck, EndsVerify, FindsNone, IsCheckDecided, IsCheckRole, ServesVerify}
use Rattle.hj_opening.specs.Verifying as tells
use Rattle.hj_opening.specs.Words.{ChainShape, CheckedNames, TextKind, join_streams, named}
use Rattle.hj_opening.proofs.Kept.{decides, kept}
use Rattle.hj_opening.proofs.Phases.{Roles, begun-opened, begun-refused, begun-unbegun, fails_as, open-opened}
use Rattle.hj_opening.proofs.RunningOrders.{same_name}

-- the statuses with which a command ends before its streams are read
abbrev IsEarly : ℕ → Roles → Type 0
IsEarly status now = (status ≡ 2) ⊎ (status ≡ 6) ⊎ ((status ≡ 4) × ¬ (AreOpen now))

not_early : (status other : ℕ) (now : Roles) → IsEarly status now → status ≡ other → other ≢ 2 → other ≢ 4 → other ≢ 6 → ⊥
not_early status other now early is no_two no_four no_six = elim early [
  | inl two ↦ no_two (sym is ∙ two)
  | inr later ↦ elim later [ inl six ↦ no_six (sym is ∙ six) | inr four ↦ no_four (sym is ∙ four.0) ]
]

-- a role of a join by a query that is read under a name
check_role : (name : List ℕ) (of : Role) → IsJoinRole (named name) of → IsCheckRole of
check_role name role.Query has = tt
check_role name role.SecondQuery has = absurd has
check_role name role.Left has = tt
check_role name role.Right has = tt
check_role name role.Third has = absurd has
check_role name role.Trace has = tt
check_role name role.Output has = tt

module _ (chain : ChainShape) (name : List ℕ) (names : CheckedNames) (limit : ℕ) (call : Call) where
  abbrev pub EndsCheckOf : ℕ → List ℕ → Type 0
  EndsCheckOf status note = EndsCommand (EndsVerify chain name names limit call) status note call

  by_ending : (status : ℕ) (ending : Ending) → status ≡ status_of_ending ending → FindsNone (λ e. e ≡ ending) chain name names limit call → FindsNone (λ e. status ≡ status_of_ending e) chain name names limit call
  by_ending status ending is finds = record {
    checked = finds.checked;
    ending = is ∙ sym (ap status_of_ending finds.ending);
    are_right = finds.are_right;
  }

  own_decides : (status : ℕ) (note : List ℕ) → EndsVerify chain name names limit call status note → NothingFails call → IsCheckDecided status chain name names limit call
  own_decides status note (tells.accepted is told finds) none = inr (inr (by_ending status clean is finds))
  own_decides status note (tells.bad_query found is told refuses) none = inl (is, (found, refuses))
  own_decides status note (tells.bad_record side at found is told finds) none = inr (inr (by_ending status (bad side at found) is finds))
  own_decides status note (tells.failed_source of is told has fails) none = absurd (none.roles of fails)
  own_decides status note (tells.events is told finds) none = inr (inr (by_ending status too_many is finds))
  own_decides status note (tells.refused found is told finds) none = inr (inl (is, (found, finds)))

  pub serves_verify : (status : ℕ) (note : List ℕ) → EndsCheckOf status note → status ≢ 5 → Appends call.old call.new [] → call.faults_now ≡ call.faults_before → BeginsCheck name names call
      → ((of : Role) → ¬ (IsCheckRole of) → (call.now of).phase ≡ unbegun) → ((of : Role) → (call.now of).faults ≢ (call.before of).faults → (status ≡ 4) ⊎ (status ≡ 6))
      → ServesVerify chain name names limit status note call
  serves_verify status note ends no_sink nothing sink roles others failing = record {
    keeps = kept ends [] nothing (inl refl) others (λ other. sink);
    no_sink = no_sink;
    roles = roles;
    failing = failing;
    complete = decides (λ s. IsCheckDecided s chain name names limit call) own_decides ends;
  }

  -- ---- a check that ended as a join would

  refuses_query : (found : _) → RefusesNamed found (named name) call → RefusesQuery found name call
  refuses_query found refuses = subst (λ (n : List ℕ). RefusesQuery found n call) (same_name name refuses.name refuses.named_so) refuses.refuses

  module _ (kind : TextKind) (status : ℕ) (note : List ℕ) (early : IsEarly status call.now) where
    own_early : EndsJoin kind (named name) names.streams limit call status note → EndsVerify chain name names limit call status note
    own_early (says.joined is told whole) = absurd (not_early status 0 call.now early is (λ e. omega (arith, e)) (λ e. omega (arith, e)) (λ e. omega (arith, e)))
    own_early (says.bad_query found is told refuses) = tells.bad_query found is told (refuses_query found refuses)
    own_early (says.bad_record side at found is told all) = absurd (not_early status 3 call.now early is (λ e. omega (arith, e)) (λ e. omega (arith, e)) (λ e. omega (arith, e)))
    own_early (says.failed_source of is told fails) = tells.failed_source of is told (check_role name of fails.has) fails.fails
    own_early (says.events is told all) = absurd (not_early status 7 call.now early is (λ e. omega (arith, e)) (λ e. omega (arith, e)) (λ e. omega (arith, e)))

    no_fault : status ≢ 5
    no_fault is = not_early status 5 call.now early is (λ e. omega (arith, e)) (λ e. omega (arith, e)) (λ e. omega (arith, e))

    ends_early : EndsCommand (EndsJoin kind (named name) names.streams limit call) status note call → EndsCheckOf status note
    ends_early (keeping.own how) = keeping.own (own_early how)
    ends_early (keeping.failed_sink is told rose) = absurd (no_fault is)
    ends_early (keeping.memory is told) = keeping.memory is told

    failing_early : (status ≡ 2 → (of : Role) → (call.now of).faults ≡ (call.before of).faults) → (of : Role) → (call.now of).faults ≢ (call.before of).faults → (status ≡ 4) ⊎ (status ≡ 6)
    failing_early unfailed of other = elim early [
      | inl two ↦ absurd (other (unfailed two of))
      | inr later ↦ elim later [ inl six ↦ inr six | inr four ↦ inl four.0 ]
    ]

    pub serves_early : ServesJoin kind (named name) names.streams limit status note call → (status ≡ 2 → (of : Role) → (call.now of).faults ≡ (call.before of).faults) → Appends call.old call.new []
        → ServesVerify chain name names limit status note call
    serves_early serves unfailed nothing =
        let trace : (call.now role.Trace).phase ≡ unbegun = serves.keeps.others role.Trace (λ has. has) in
        let output : (call.now role.Output).phase ≡ unbegun = serves.keeps.others role.Output (λ has. has) in
        serves_verify status note (ends_early serves.keeps.ends) no_fault nothing (serves.keeps.sink no_fault)
        (record {
          query = serves.roles.query;
          left = serves.roles.left;
          right = serves.roles.right;
          trace = begun-unbegun names.trace (call.now role.Trace).phase trace;
          output = begun-unbegun names.output (call.now role.Output).phase output;
          query_first = serves.roles.query_first;
          left_first = serves.roles.left_first;
          right_first = λ started. absurd (started trace);
          trace_first = λ started. absurd (started output);
        })
        (λ of no. serves.keeps.others of (λ has. no (check_role name of has)))
        (failing_early unfailed)

module _ (kind : TextKind) (chain : ChainShape) (name : List ℕ) (names : CheckedNames) (limit : ℕ) (under : List ℕ → Option (List ℕ)) (before : Roles) where
  abbrev EndsNow : Note → Roles → Type 0
  EndsNow note now = (told : Option (List ℕ)) (faults : ℕ) → ServesVerify chain name names limit (status_of note) (note_text note) (call under before now told told faults faults)

  -- ---- what a check that ended before its streams were open says

  pub ends_before : (note : Note) (now : Roles) → EndsEarly note (join_streams kind (named name) names.streams limit) under before now → EndsNow note now
  ends_before note now early told faults =
      serves_early chain name names limit (call under before now told told faults faults) kind (status_of note) (note_text note) early.early (early.runs told faults) early.unfailed (Appends-nil told)

  -- ---- both streams are open

  module _ (asked : Roles) (query : QueryParts) (ready : IsReady query (named name) names.streams under before asked) where
    module _ (now : Roles) (stays : (of : Role) → of ≢ role.Trace → of ≢ role.Output → now of ≡ asked of) where
      accepted : IsAccepted query name (under name) (before role.Query) (now role.Query)
      accepted = subst (λ (s : RoleState). IsAccepted query name (under name) (before role.Query) s) (sym (stays role.Query (λ e. cc) (λ e. cc))) ready.accepted

      begun : IsBegunUnder name (now role.Query).phase
      begun = subst (λ (s : RoleState). IsBegunUnder name s.phase) (sym (stays role.Query (λ e. cc) (λ e. cc))) ready.begun

      left_open : (now role.Left).phase ≡ opened names.streams.left false
      left_open = ap (λ (s : RoleState). s.phase) (stays role.Left (λ e. cc) (λ e. cc)) ∙ ready.opened.of_left.phase

      right_open : (now role.Right).phase ≡ opened names.streams.right false
      right_open = ap (λ (s : RoleState). s.phase) (stays role.Right (λ e. cc) (λ e. cc)) ∙ ready.opened.of_right.phase

      none_else : (of : Role) → ¬ (IsCheckRole of) → (now of).phase ≡ unbegun
      none_else role.Query none = absurd (none tt)
      none_else role.SecondQuery none = ap (λ (s : RoleState). s.phase) (stays role.SecondQuery (λ e. cc) (λ e. cc)) ∙ ready.others role.SecondQuery (λ has. has)
      none_else role.Left none = absurd (none tt)
      none_else role.Right none = absurd (none tt)
      none_else role.Third none = ap (λ (s : RoleState). s.phase) (stays role.Third (λ e. cc) (λ e. cc)) ∙ ready.others role.Third (λ has. has)
      none_else role.Trace none = absurd (none tt)
      none_else role.Output none = absurd (none tt)

      module _ (trace : IsBegunUnder names.trace (now role.Trace).phase) (output : IsBegunUnder names.output (now role.Output).phase) (trace_first : (now role.Output).phase ≢ unbegun → IsOpen (now role.Trace).phase) where
        begins : (told : Option (List ℕ)) (faults : ℕ) → BeginsCheck name names (call under before now told told faults faults)
        begins told faults = record {
          query = begun;
          left = begun-opened names.streams.left false (now role.Left).phase left_open;
          right = begun-opened names.streams.right false (now role.Right).phase right_open;
          trace = trace;
          output = output;
          query_first = λ started. (query, accepted);
          left_first = λ started. open-opened names.streams.left false (now role.Left).phase left_open;
          right_first = λ started. open-opened names.streams.right false (now role.Right).phase right_open;
          trace_first = trace_first;
        }

        start_failed : (failed : Role) → IsCheckRole failed → Fails failed before now → EndsNow (why.Source failed) now
        start_failed failed has fails told faults =
            serves_verify chain name names limit (call under before now told told faults faults) 4 (note_text (why.Source failed)) (keeping.own (tells.failed_source failed refl refl has fails)) (λ e. omega (arith, e))
            (Appends-nil told) refl (begins told faults) none_else (λ of other. inl refl)

        start_wants_memory : EndsNow why.Memory now
        start_wants_memory told faults =
            serves_verify chain name names limit (call under before now told told faults faults) 6 (note_text why.Memory) (keeping.memory refl refl) (λ e. omega (arith, e))
            (Appends-nil told) refl (begins told faults) none_else (λ of other. inr refl)

    trace_before : (asked role.Trace).phase ≡ unbegun
    trace_before = ready.others role.Trace (λ has. has)

    output_before : (asked role.Output).phase ≡ unbegun
    output_before = ready.others role.Output (λ has. has)

    -- and the trace couldn't be opened
    pub trace_unopened : (now : Roles) (note : Note) (told : Option (List ℕ)) → ChangesOnly role.Trace asked now → Opens (Err note) role.Trace names.trace told (asked role.Trace) (now role.Trace) → EndsNow note now
    trace_unopened now note told others opens = unopened note opens
      where
        output : (now role.Output).phase ≡ unbegun
        output = ap (λ (s : RoleState). s.phase) (others role.Output (λ e. cc)) ∙ output_before

        stays : (of : Role) → of ≢ role.Trace → of ≢ role.Output → now of ≡ asked of
        stays of no_trace no_output = others of no_trace

        unopened : (note : Note) → Opens (Err note) role.Trace names.trace told (asked role.Trace) (now role.Trace) → EndsNow note now
        unopened (why.Source failed) opens =
            start_failed now stays (begun-refused names.trace (now role.Trace).phase opens.1.phase) (begun-unbegun names.output (now role.Output).phase output) (λ started. absurd (started output))
            failed (subst IsCheckRole (sym opens.0) tt) (fails_as failed role.Trace before now opens.0 (subst (λ (n : ℕ). Rose n (now role.Trace).faults) (ready.unfailed role.Trace) opens.1.fails))
        unopened why.Memory opens =
            start_wants_memory now stays (begun-unbegun names.trace (now role.Trace).phase (ap (λ (s : RoleState). s.phase) opens ∙ trace_before)) (begun-unbegun names.output (now role.Output).phase output) (λ started. absurd (started output))
        unopened why.Usage opens = absurd opens
        unopened (why.BadQuery found) opens = absurd opens
        unopened (why.BadRecord of at found) opens = absurd opens
        unopened why.Sink opens = absurd opens
        unopened (why.TooManyEvents most) opens = absurd opens

    -- the trace was opened
    module _ (mid now : Roles) (trace_told : Option (List ℕ)) (ready_trace : IsOpened names.trace trace_told (asked role.Trace) (mid role.Trace)) (opening : ChangesOnly role.Trace asked mid) (opening_output : ChangesOnly role.Output mid now) where
      stays_both : (of : Role) → of ≢ role.Trace → of ≢ role.Output → now of ≡ asked of
      stays_both of no_trace no_output = opening_output of no_output ∙ opening of no_trace

      output_mid : mid role.Output ≡ asked role.Output
      output_mid = opening role.Output (λ e. cc)

      trace_stays : now role.Trace ≡ mid role.Trace
      trace_stays = opening_output role.Trace (λ e. cc)

      trace_open : (now role.Trace).phase ≡ opened names.trace false
      trace_open = ap (λ (s : RoleState). s.phase) trace_stays ∙ ready_trace.phase

      -- and the output couldn't be
      pub output_unopened : (note : Note) (told : Option (List ℕ)) → Opens (Err note) role.Output names.output told (mid role.Output) (now role.Output) → EndsNow note now
      output_unopened (why.Source failed) told opens =
          start_failed now stays_both (begun-opened names.trace false (now role.Trace).phase trace_open) (begun-refused names.output (now role.Output).phase opens.1.phase) (λ started. open-opened names.trace false (now role.Trace).phase trace_open)
          failed (subst IsCheckRole (sym opens.0) tt)
          (fails_as failed role.Output before now opens.0 (subst (λ (n : ℕ). Rose n (now role.Output).faults) (ap (λ (s : RoleState). s.faults) output_mid ∙ ready.unfailed role.Output) opens.1.fails))
      output_unopened why.Memory told opens =
          start_wants_memory now stays_both (begun-opened names.trace false (now role.Trace).phase trace_open)
          (begun-unbegun names.output (now role.Output).phase (ap (λ (s : RoleState). s.phase) (opens ∙ output_mid) ∙ output_before)) (λ started. open-opened names.trace false (now role.Trace).phase trace_open)
      output_unopened why.Usage told opens = absurd opens
      output_unopened (why.BadQuery found) told opens = absurd opens
      output_unopened (why.BadRecord of at found) told opens = absurd opens
      output_unopened why.Sink told opens = absurd opens
      output_unopened (why.TooManyEvents most) told opens = absurd opens

      -- and the output too
      module _ (output_told : Option (List ℕ)) (same_trace : trace_told ≡ under names.trace) (same_output : output_told ≡ under names.output) (output : IsOpened names.output output_told (mid role.Output) (now role.Output)) where
        of_left : IsOpened names.streams.left (under names.streams.left) (before role.Left) (now role.Left)
        of_left = subst (λ (s : RoleState). IsOpened names.streams.left (under names.streams.left) (before role.Left) s) (sym (stays_both role.Left (λ e. cc) (λ e. cc))) ready.opened.of_left

        of_right : IsOpened names.streams.right (under names.streams.right) (before role.Right) (now role.Right)
        of_right = subst (λ (s : RoleState). IsOpened names.streams.right (under names.streams.right) (before role.Right) s) (sym (stays_both role.Right (λ e. cc) (λ e. cc))) ready.opened.of_right

        of_trace : IsOpened names.trace (under names.trace) (before role.Trace) (now role.Trace)
        of_trace = record {
          phase = trace_open;
          left = ap (λ (s : RoleState). s.left) trace_stays ∙ ready_trace.left ∙ same_trace;
          faults = ap (λ (s : RoleState). s.faults) trace_stays ∙ ready_trace.faults ∙ ready.unfailed role.Trace;
        }

        of_output : IsOpened names.output (under names.output) (before role.Output) (now role.Output)
        of_output = record {
          phase = output.phase;
          left = output.left ∙ same_output;
          faults = output.faults ∙ ap (λ (s : RoleState). s.faults) output_mid ∙ ready.unfailed role.Output;
        }

        unfailed : (of : Role) → (now of).faults ≡ (before of).faults
        unfailed role.Query = ap (λ (s : RoleState). s.faults) (stays_both role.Query (λ e. cc) (λ e. cc)) ∙ ready.unfailed role.Query
        unfailed role.SecondQuery = ap (λ (s : RoleState). s.faults) (stays_both role.SecondQuery (λ e. cc) (λ e. cc)) ∙ ready.unfailed role.SecondQuery
        unfailed role.Left = of_left.faults
        unfailed role.Right = of_right.faults
        unfailed role.Third = ap (λ (s : RoleState). s.faults) (stays_both role.Third (λ e. cc) (λ e. cc)) ∙ ready.unfailed role.Third
        unfailed role.Trace = of_trace.faults
        unfailed role.Output = of_output.faults

        pub all_opened : IsReadyToCheck query name names under before now
        all_opened = record {
          accepted = accepted now stays_both;
          begun = begun now stays_both;
          opened = record { of_left = of_left; of_right = of_right };
          trace = of_trace;
          output = of_output;
          unfailed = unfailed;
          others = none_else now stays_both;
        }
