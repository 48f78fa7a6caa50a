-- The run of an order whose query wasn't got, and of a check.
use Rattle.std.proofs.Common.{◌≡◌, ◌≢◌, ◌⊎◌, ℕ, List, [], Ok, Err, sym, ◌∙◌, ap, subst, inl, inr, refl}
use Rattle.std.proofs.KnownBytes.{Appends-nil}
use Rattle.std.specs.Io.KnownBytes.{Appends}
use Rattle.std.specs.declared.option.Option.{Option}
use Rattle.hj_base.specs.declared.outside.Role.{Role}
use Rattle.hj_base.specs.declared.outside.Role.TheVariants as role
use Rattle.hj_base.specs.Counts.{Rose}
use Rattle.hj_base.specs.Journals.{IsPrefix}
use Rattle.hj_base.specs.Outside.{RoleState, ChangesOnly, IsOpen, unbegun}
use Rattle.hj_query.specs.Canonical.{canonical}
use Rattle.hj_query.specs.QueryParts.{QueryParts}
use Rattle.hj_notes.specs.declared.note.Note.{Note}
use Rattle.hj_notes.specs.declared.note.Note.TheVariants as why
use Rattle.hj_opening.specs.Calls.{Call, call}
use Rattle.hj_opening.specs.Check.{BeginsCanonical, SendsCanonical}
use Rattle.hj_opening.specs.Opening.{GetsQuery, QueryCause}
use Rattle.hj_opening.specs.Queries.{IsRefused}
use Rattle.hj_opening.specs.Run.{RunsOrder}
use Rattle.hj_opening.specs.Keeping.{IsQueryAlone}
use Rattle.hj_opening.specs.Serve.{IsJoinRole, IsNamedQuery}
use Rattle.hj_opening.specs.Streams.{Fails}
use Rattle.hj_opening.specs.Words.{Names, QuerySource, TextKind, check_query, join_streams, keyed, named}
use Rattle.hj_opening.proofs.Endings.{CheckCause, CountsSink, End, JoinCause, check_runs, join_others, join_runs}
use Rattle.hj_opening.proofs.Phases.{Roles, begun-unbegun}
use Rattle.hj_opening.proofs.Prefixes.{begins_all}

not_open : (state : RoleState) → state.phase ≡ unbegun → ¬ (IsOpen state.phase)
not_open state e o = subst IsOpen e o

-- ---- an order whose query wasn't got

query_role-fails : (failed : Role) (before now : Roles) → failed ≡ role.Query → Rose (before role.Query).faults (now role.Query).faults → Fails failed before now
query_role-fails failed before now e rose = subst (λ (r : Role). Fails r before now) (sym e) rose

is_read : (source : QuerySource) (name : List ℕ) → source ≡ named name → IsNamedQuery source
is_read (keyed rows) name e = absurd cc
is_read (named given) name e = tt

-- the role of a query that is read under a name is one of a join's
reads_query : (source : QuerySource) (name : List ℕ) (of : Role) → source ≡ named name → of ≡ role.Query → IsJoinRole source of
reads_query source name of e is = subst (λ (r : Role). IsJoinRole source r) (sym is) (is_read source name e)

name_of : QuerySource → List ℕ
name_of (keyed rows) = []
name_of (named name) = name

pub same_name : (name given : List ℕ) → named name ≡ named given → given ≡ name
unfolding name_of
same_name name given e = sym (ap name_of e)

stays_unbegun : (before now : Roles) (of : Role) → of ≢ role.Query → ChangesOnly role.Query before now → (before of).phase ≡ unbegun → (now of).phase ≡ unbegun
stays_unbegun before now of other others none = ap (λ (s : RoleState). s.phase) (others of other) ∙ none

module _ (under : List ℕ → Option (List ℕ)) (before now : Roles) (told : Option (List ℕ)) (faults : ℕ) where
  abbrev this : Call
  this = call under before now told told faults faults

  -- such an ending is no fault of the sink
  no_fault : (note : Note) (source : QuerySource) → QueryCause (Err note) role.Query source under (before role.Query) (now role.Query) → CountsSink (Err note) faults faults
  no_fault (why.BadQuery found) source cause = refl
  no_fault (why.Source failed) source cause = refl
  no_fault why.Memory source cause = refl
  no_fault why.Usage source cause = absurd cause
  no_fault (why.BadRecord of at found) source cause = absurd cause
  no_fault why.Sink source cause = absurd cause
  no_fault (why.TooManyEvents limit) source cause = absurd cause

  module _ (alone : IsQueryAlone now) where
    join_cause : (kind : TextKind) (source : QuerySource) (names : Names) (limit : ℕ) (note : Note) → QueryCause (Err note) role.Query source under (before role.Query) (now role.Query) → JoinCause kind source names limit this (Err note)
    join_cause kind source names limit (why.BadQuery found) cause = record {
      name = cause.0;
      named_so = cause.1;
      refuses = record { refused = cause.2; alone = alone; nothing = Appends-nil told };
    }
    join_cause kind source names limit (why.Source failed) cause = record {
      has = reads_query source cause.0 failed cause.1 cause.2;
      fails = query_role-fails failed before now cause.2 cause.3;
      unopened = λ no. Appends-nil told;
      opened = λ are. absurd (not_open (now role.Left) (alone role.Left (λ e. cc)) are.0);
    }
    join_cause kind source names limit why.Memory cause = tt
    join_cause kind source names limit why.Usage cause = absurd cause
    join_cause kind source names limit (why.BadRecord of at found) cause = absurd cause
    join_cause kind source names limit why.Sink cause = absurd cause
    join_cause kind source names limit (why.TooManyEvents most) cause = absurd cause

    check_cause : (name : List ℕ) (note : Note) → QueryCause (Err note) role.Query (named name) under (before role.Query) (now role.Query) → CheckCause name this (Err note)
    check_cause name (why.BadQuery found) cause = record {
      refused = subst (λ (n : List ℕ). IsRefused found n (under n) (before role.Query) (now role.Query)) (same_name name cause.0 cause.1) cause.2;
      alone = alone;
      nothing = Appends-nil told;
    }
    check_cause name (why.Source failed) cause = (cause.2, cause.3, Appends-nil told)
    check_cause name why.Memory cause = tt
    check_cause name why.Usage cause = absurd cause
    check_cause name (why.BadRecord of at found) cause = absurd cause
    check_cause name why.Sink cause = absurd cause
    check_cause name (why.TooManyEvents most) cause = absurd cause

  module _ (unbegun_before : (of : Role) → (before of).phase ≡ unbegun) where
    -- a join
    pub join_refused : (kind : TextKind) (source : QuerySource) (names : Names) (limit : ℕ) (note : Note) → GetsQuery (Err note) role.Query source under before now
        → RunsOrder (Err note) (join_streams kind source names limit) (call under before now told told faults faults)
    join_refused kind source names limit note gets =
        let alone : IsQueryAlone now = λ of other. stays_unbegun before now of other gets.others (unbegun_before of) in
        let left : (now role.Left).phase ≡ unbegun = alone role.Left (λ e. cc) in
        let right : (now role.Right).phase ≡ unbegun = alone role.Right (λ e. cc) in
        join_runs kind source names limit this (Err note) (join_cause alone kind source names limit note gets.cause) (no_fault note source gets.cause) [] (Appends-nil told) (inl refl)
        (record {
          query = gets.begun;
          left = begun-unbegun names.left (now role.Left).phase left;
          right = begun-unbegun names.right (now role.Right).phase right;
          query_first = λ begun. absurd (begun left);
          left_first = λ begun. absurd (begun right);
        })
        (join_others source now gets.begun (λ of no_query no_left no_right. alone of no_query))

    -- a check
    pub check_refused : (name : List ℕ) (note : Note) → GetsQuery (Err note) role.Query (named name) under before now
        → RunsOrder (Err note) (check_query name) (call under before now told told faults faults)
    check_refused name note gets =
        let alone : IsQueryAlone now = λ of other. stays_unbegun before now of other gets.others (unbegun_before of) in
        check_runs name this (Err note) (check_cause alone name note gets.cause) (no_fault note (named name) gets.cause) [] (Appends-nil told) (inl refl) gets.begun alone

-- ---- a check that got its query

module _ (name : List ℕ) (under : List ℕ → Option (List ℕ)) (before now : Roles) (unbegun_before : (of : Role) → (before of).phase ≡ unbegun) (query : QueryParts) (gets : GetsQuery (Ok query) role.Query (named name) under before now) where
  abbrev ended_so : Option (List ℕ) → Option (List ℕ) → ℕ → ℕ → Call
  ended_so old new faults faults' = call under before now old new faults faults'

  runs_check : (old new : Option (List ℕ)) (faults faults' : ℕ) (ended : End) → CheckCause name (ended_so old new faults faults') ended → CountsSink ended faults faults'
      → (grown : List ℕ) → Appends old new grown → (grown ≡ []) ⊎ BeginsCanonical grown name (ended_so old new faults faults') → RunsOrder ended (check_query name) (ended_so old new faults faults')
  runs_check old new faults faults' ended cause counts grown written front =
      check_runs name (ended_so old new faults faults') ended cause counts grown written front gets.begun
      (λ of other. stays_unbegun before now of other gets.others (unbegun_before of))

  module _ (old new : Option (List ℕ)) (faults faults' : ℕ) where
    begins : (grown : List ℕ) → IsPrefix grown (canonical query) → BeginsCanonical grown name (ended_so old new faults faults')
    begins grown front = record { query = query; accepted = gets.cause.0; begins = front }

    -- its text was sent, or what begins it
    pub check_sent : (ended : End) → SendsCanonical ended query old new faults faults' → RunsOrder ended (check_query name) (call under before now old new faults faults')
    check_sent (Ok done) sends =
        runs_check old new faults faults' (Ok done) (record { query = query; accepted = gets.cause.0; written = sends.0 }) sends.1
        (canonical query) sends.0 (inr (begins (canonical query) (begins_all (canonical query) (canonical query) refl)))
    check_sent (Err why.Sink) sends = runs_check old new faults faults' (Err why.Sink) tt sends.1.1 sends.0.grown sends.0.written (inr (begins sends.0.grown sends.0.front))
    check_sent (Err why.Memory) sends = runs_check old new faults faults' (Err why.Memory) tt sends.1 sends.0.grown sends.0.written (inr (begins sends.0.grown sends.0.front))
    check_sent (Err why.Usage) sends = absurd sends
    check_sent (Err (why.BadQuery found)) sends = absurd sends
    check_sent (Err (why.Source of)) sends = absurd sends
    check_sent (Err (why.BadRecord of at found)) sends = absurd sends
    check_sent (Err (why.TooManyEvents most)) sends = absurd sends
