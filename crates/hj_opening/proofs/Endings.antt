-- What the run of a command promises, from the cause of its ending, what it wrote and the roles that it began.
use Rattle.std.proofs.Common.{◌≡◌, ◌≢◌, ◌⊎◌, ℕ, List, [], Ok, Err, Result, sym, ◌∙◌, ap, inl, inr, refl}
use Rattle.std.specs.Io.KnownBytes.{Appends}
use Rattle.hj_base.specs.declared.outside.Role.{Role}
use Rattle.hj_base.specs.declared.outside.Role.TheVariants as role
use Rattle.hj_base.specs.Counts.{Rose}
use Rattle.hj_base.specs.Outside.{unbegun}
use Rattle.hj_event.specs.Arrivals.{Ending, bad, too_many}
use Rattle.hj_notes.specs.declared.note.Note.{Note}
use Rattle.hj_notes.specs.declared.note.Note.TheVariants as why
use Rattle.hj_notes.specs.NoteText.{status_of_end, text_of_end}
use Rattle.hj_notes.specs.Notes.{source_note}
use Rattle.hj_query.specs.declared.fault.QueryFault.{QueryFault}
use Rattle.hj_opening.specs.Calls.{Call}
use Rattle.hj_opening.specs.Check.{BeginsCanonical, WritesCanonical}
use Rattle.hj_opening.specs.Generating.{BeginsSummary, WritesSummary}
use Rattle.hj_opening.specs.Run.{RunsOrder}
use Rattle.hj_opening.specs.Keeping.{EndsCommand, IsQueryAlone, NothingFails, RefusesQuery, status_of_ending}
use Rattle.hj_opening.specs.Serve.{BeginsInOrder, BeginsSource, EndsBy, EndsCheck, EndsGen, EndsJoin, FailsJoin, IsJoinDecided, IsJoinFront, IsJoinRole, IsNamedQuery, JoinsAll, JoinsWhole, RefusesNamed}
use Rattle.hj_opening.specs.Keeping as keeping
use Rattle.hj_opening.specs.Serve as says
use Rattle.hj_opening.specs.Streams.{Fails, IsBegunUnder}
use Rattle.hj_opening.specs.Words.{Names, Recipe, QuerySource, TextKind, check_query, join_streams, keyed, most_events, named, sum_up}
use Rattle.hj_opening.proofs.Kept.{decides, kept}
use Rattle.hj_opening.proofs.Phases.{Roles}

abbrev pub End : Type 0
End = Result (Unit {0}) Note

-- A fault of the sink is the one ending with which its count rose.
abbrev pub CountsSink : End → ℕ → ℕ → Type 0
CountsSink (Err why.Sink) before now = Rose before now
CountsSink ended before now = now ≡ before

sink_kept : (ended : End) (before now : ℕ) → CountsSink ended before now → status_of_end ended ≢ 5 → now ≡ before
sink_kept (Err why.Sink) before now counts other = absurd (other refl)
sink_kept _ before now counts other = counts

-- ---- a join

-- no role is begun but those of the query and of the two streams
abbrev pub NoOther : Roles → Type 0
NoOther now = (of : Role) → of ≢ role.Query → of ≢ role.Left → of ≢ role.Right → (now of).phase ≡ unbegun

unread_query : (source : QuerySource) (now : Roles) → BeginsSource source (now role.Query).phase → ¬ (IsNamedQuery source) → (now role.Query).phase ≡ unbegun
unread_query (keyed rows) now begun unread = begun
unread_query (named name) now begun unread = absurd (unread tt)

pub join_others : (source : QuerySource) (now : Roles) → BeginsSource source (now role.Query).phase → NoOther now → (of : Role) → ¬ (IsJoinRole source of) → (now of).phase ≡ unbegun
join_others source now begun none role.Query unread = unread_query source now begun unread
join_others source now begun none role.Left unread = absurd (unread tt)
join_others source now begun none role.Right unread = absurd (unread tt)
join_others source now begun none role.SecondQuery unread = none role.SecondQuery (λ e. cc) (λ e. cc) (λ e. cc)
join_others source now begun none role.Third unread = none role.Third (λ e. cc) (λ e. cc) (λ e. cc)
join_others source now begun none role.Trace unread = none role.Trace (λ e. cc) (λ e. cc) (λ e. cc)
join_others source now begun none role.Output unread = none role.Output (λ e. cc) (λ e. cc) (λ e. cc)

module _ (kind : TextKind) (source : QuerySource) (names : Names) (limit : ℕ) (call : Call) where
  abbrev pub JoinCause : End → Type 0
  JoinCause (Ok done) = JoinsWhole kind source names limit call
  JoinCause (Err why.Usage) = ⊥
  JoinCause (Err (why.BadQuery found)) = RefusesNamed found source call
  JoinCause (Err (why.BadRecord side at found)) = JoinsAll kind (λ ending. ending ≡ bad side at found) source names limit call
  JoinCause (Err (why.Source of)) = FailsJoin kind of source names limit call
  JoinCause (Err why.Sink) = Unit {0}
  JoinCause (Err why.Memory) = Unit {0}
  JoinCause (Err (why.TooManyEvents most)) = (most ≡ limit) × JoinsAll kind (λ ending. ending ≡ too_many) source names limit call

  join_ends : (ended : End) → JoinCause ended → CountsSink ended call.faults_before call.faults_now → EndsCommand (EndsJoin kind source names limit call) (status_of_end ended) (text_of_end ended) call
  join_ends (Ok done) cause counts = keeping.own (says.joined refl refl cause)
  join_ends (Err why.Usage) cause counts = absurd cause
  join_ends (Err (why.BadQuery found)) cause counts = keeping.own (says.bad_query found refl refl cause)
  join_ends (Err (why.BadRecord side at found)) cause counts = keeping.own (says.bad_record side at found refl refl cause)
  join_ends (Err (why.Source of)) cause counts = keeping.own (says.failed_source of refl refl cause)
  join_ends (Err why.Sink) cause counts = keeping.failed_sink refl refl counts
  join_ends (Err why.Memory) cause counts = keeping.memory refl refl
  join_ends (Err (why.TooManyEvents most)) cause counts = keeping.own (says.events refl (ap (λ (n : ℕ). text_of_end (Err (why.TooManyEvents n))) cause.0) cause.1)

  ends_by : (status : ℕ) (ending : Ending) → status ≡ status_of_ending ending → JoinsAll kind (λ e. e ≡ ending) source names limit call → EndsBy status source names limit call
  ends_by status ending is all =
      let w = all.2 in
      record { query = all.0; accepted = all.1; left = w.left; right = w.right; streams = w.streams; ending = is ∙ sym (ap status_of_ending w.ending) }

  ends_clean : (status : ℕ) → status ≡ 0 → JoinsWhole kind source names limit call → EndsBy status source names limit call
  ends_clean status is all =
      let w = all.2 in
      record { query = all.0; accepted = all.1; left = w.left; right = w.right; streams = w.streams; ending = is ∙ sym (ap status_of_ending w.ending) }

  own_decides : (status : ℕ) (note : List ℕ) → EndsJoin kind source names limit call status note → NothingFails call → IsJoinDecided status source names limit call
  own_decides status note (says.joined is told whole) none = inr (ends_clean status is whole)
  own_decides status note (says.bad_query found is told refuses) none = inl (is, (found, refuses))
  own_decides status note (says.bad_record side at found is told all) none = inr (ends_by status (bad side at found) is all)
  own_decides status note (says.failed_source of is told fails) none = absurd (none.roles of fails.fails)
  own_decides status note (says.events is told all) none = inr (ends_by status too_many is all)

  pub join_runs : (ended : End) → JoinCause ended → CountsSink ended call.faults_before call.faults_now → (grown : List ℕ) → Appends call.old call.new grown → (grown ≡ []) ⊎ IsJoinFront kind source names limit call grown
      → BeginsInOrder source names call → ((of : Role) → ¬ (IsJoinRole source of) → (call.now of).phase ≡ unbegun) → RunsOrder ended (join_streams kind source names limit) call
  join_runs ended cause counts grown written front roles none = record {
    keeps = kept (join_ends ended cause counts) grown written front none (sink_kept ended call.faults_before call.faults_now counts);
    roles = roles;
    complete = decides (λ status. IsJoinDecided status source names limit call) own_decides (join_ends ended cause counts);
  }

-- ---- a check

module _ (name : List ℕ) (call : Call) where
  abbrev pub CheckCause : End → Type 0
  CheckCause (Ok done) = WritesCanonical name call
  CheckCause (Err why.Usage) = ⊥
  CheckCause (Err (why.BadQuery found)) = RefusesQuery found name call
  CheckCause (Err (why.BadRecord side at found)) = ⊥
  CheckCause (Err (why.Source of)) = (of ≡ role.Query) × Fails role.Query call.before call.now × Appends call.old call.new []
  CheckCause (Err why.Sink) = Unit {0}
  CheckCause (Err why.Memory) = Unit {0}
  CheckCause (Err (why.TooManyEvents most)) = ⊥

  check_ends : (ended : End) → CheckCause ended → CountsSink ended call.faults_before call.faults_now → EndsCommand (EndsCheck name call) (status_of_end ended) (text_of_end ended) call
  check_ends (Ok done) cause counts = keeping.own (says.checked refl refl cause)
  check_ends (Err why.Usage) cause counts = absurd cause
  check_ends (Err (why.BadQuery found)) cause counts = keeping.own (says.refused found refl refl cause)
  check_ends (Err (why.BadRecord side at found)) cause counts = absurd cause
  check_ends (Err (why.Source of)) cause counts = keeping.own (says.failed_query refl (ap source_note cause.0) cause.1 cause.2)
  check_ends (Err why.Sink) cause counts = keeping.failed_sink refl refl counts
  check_ends (Err why.Memory) cause counts = keeping.memory refl refl
  check_ends (Err (why.TooManyEvents most)) cause counts = absurd cause

  abbrev CheckDecided : ℕ → Type 0
  CheckDecided status = ((status ≡ 2) × ((found : QueryFault) × RefusesQuery found name call)) ⊎ ((status ≡ 0) × WritesCanonical name call)

  own_check : (status : ℕ) (note : List ℕ) → EndsCheck name call status note → NothingFails call → CheckDecided status
  own_check status note (says.checked is told written) none = inr (is, written)
  own_check status note (says.refused found is told refuses) none = inl (is, (found, refuses))
  own_check status note (says.failed_query is told fails nothing) none = absurd (none.roles role.Query fails)

  pub check_runs : (ended : End) → CheckCause ended → CountsSink ended call.faults_before call.faults_now → (grown : List ℕ) → Appends call.old call.new grown → (grown ≡ []) ⊎ BeginsCanonical grown name call
      → IsBegunUnder name (call.now role.Query).phase → IsQueryAlone call.now → RunsOrder ended (check_query name) call
  check_runs ended cause counts grown written front query alone = record {
    keeps = kept (check_ends ended cause counts) grown written front alone (sink_kept ended call.faults_before call.faults_now counts);
    query = query;
    complete = decides CheckDecided own_check (check_ends ended cause counts);
  }

-- ---- a summary

module _ (recipe : Recipe) (call : Call) where
  abbrev pub GenCause : End → Type 0
  GenCause (Ok done) = WritesSummary recipe most_events call
  GenCause (Err why.Sink) = Unit {0}
  GenCause (Err why.Memory) = Unit {0}
  GenCause (Err other) = ⊥

  gen_ends : (ended : End) → GenCause ended → CountsSink ended call.faults_before call.faults_now → EndsCommand (EndsGen recipe call) (status_of_end ended) (text_of_end ended) call
  gen_ends (Ok done) cause counts = keeping.own (says.summed refl refl cause)
  gen_ends (Err why.Sink) cause counts = keeping.failed_sink refl refl counts
  gen_ends (Err why.Memory) cause counts = keeping.memory refl refl
  gen_ends (Err why.Usage) cause counts = absurd cause
  gen_ends (Err (why.BadQuery found)) cause counts = absurd cause
  gen_ends (Err (why.BadRecord side at found)) cause counts = absurd cause
  gen_ends (Err (why.Source of)) cause counts = absurd cause
  gen_ends (Err (why.TooManyEvents most)) cause counts = absurd cause

  own_summed : (status : ℕ) (note : List ℕ) → EndsGen recipe call status note → NothingFails call
      → (status ≡ 0) × WritesSummary recipe most_events call
  own_summed status note (says.summed is told written) none = (is, written)

  pub gen_runs : (ended : End) → GenCause ended → CountsSink ended call.faults_before call.faults_now → (grown : List ℕ) → Appends call.old call.new grown → (grown ≡ []) ⊎ BeginsSummary grown recipe most_events
      → ((of : Role) → call.now of ≡ call.before of) → ((of : Role) → (call.now of).phase ≡ unbegun) → RunsOrder ended (sum_up recipe) call
  gen_runs ended cause counts grown written front untouched unbegun_now = record {
    keeps = kept (gen_ends ended cause counts) grown written front (λ of no. unbegun_now of)
        (sink_kept ended call.faults_before call.faults_now counts);
    untouched = untouched;
    complete = decides (λ status. (status ≡ 0) × WritesSummary recipe most_events call) own_summed (gen_ends ended cause counts);
  }
