-- What a run says of the call of `serve` that made it.
use Rattle.std.proofs.Common.{◌≡◌, ◌≤◌, ℕ, List, [], Result, Ok, Err, None, Some, sym, subst, inl, inr, refl, arith}
use Rattle.std.proofs.KnownBytes.{Appends-nil}
use Rattle.std.specs.declared.option.Option.{Option}
use Rattle.hj_base.specs.declared.outside.Role.{Role}
use Rattle.hj_base.specs.declared.outside.Role.TheVariants as role
use Rattle.hj_base.specs.Outside.{unbegun}
use Rattle.hj_notes.specs.declared.note.Note.TheVariants as why
use Rattle.hj_notes.specs.declared.twice_note.TwiceNote.TheVariants as why_twice
use Rattle.hj_notes.specs.NoteText.{note_text, status_by, status_of, status_of_end, text_by, text_of_end}
use Rattle.hj_notes.specs.declared.verify_note.VerifyNote.{VerifyNote}
use Rattle.hj_notes.specs.declared.verify_note.VerifyNote.TheVariants as verify
use Rattle.hj_notes.specs.VerifyText.{status_of_verify, text_of_verify, verify_status, verify_text}
use Rattle.hj_notes.specs.NoteWritten.{NoteWritten}
use Rattle.hj_notes.specs.TwiceText.{status_of_twice, text_of_twice, twice_status, twice_text}
use Rattle.hj_notes.specs.Notes.{memory_note, usage_note}
use Rattle.hj_opening.specs.Calls.{Call}
use Rattle.hj_opening.specs.Calls.{call as as_call}
use Rattle.hj_opening.specs.ReadyToCheck.{RunsVerify}
use Rattle.hj_opening.specs.Run.{RunsOrder}
use Rattle.hj_opening.specs.RunTwice.{RunsTwice}
use Rattle.hj_opening.specs.Serve.{BeginsInOrder, BeginsSource}
use Rattle.hj_opening.specs.Serve.{Serves, ServesOrder}
use Rattle.hj_opening.specs.Keeping as keeping
use Rattle.hj_opening.specs.Serve as says
use Rattle.hj_opening.specs.TwoJoins.{BeginsTwice}
use Rattle.hj_opening.specs.Verifying.{BeginsCheck}
use Rattle.hj_opening.specs.Words.{CheckedNames, Names, Order, QuerySource, TwiceNames, check_query, check_trace, join_streams, join_twice, keyed, named, sum_up}
use Rattle.hj_opening.proofs.Endings.{End, check_runs, gen_runs, join_runs}
use Rattle.hj_opening.proofs.Kept.{kept}
use Rattle.hj_opening.proofs.Phases.{Roles, begun-unbegun}
use Rattle.hj_opening.proofs.TwiceEndings.{TwiceEnd, twice_runs}
use Rattle.hj_opening.proofs.Verified.{serves_verify}

at_most_eight : (ended : End) → status_of_end ended ≤ 8
at_most_eight (Ok done) = omega arith
at_most_eight (Err why.Usage) = omega arith
at_most_eight (Err (why.BadQuery found)) = omega arith
at_most_eight (Err (why.BadRecord side at found)) = omega arith
at_most_eight (Err (why.Source of)) = omega arith
at_most_eight (Err why.Sink) = omega arith
at_most_eight (Err why.Memory) = omega arith
at_most_eight (Err (why.TooManyEvents limit)) = omega arith

at_most_twice : (ended : TwiceEnd) → status_of_twice ended ≤ 8
at_most_twice (Ok done) = omega arith
at_most_twice (Err (why_twice.Common found)) = at_most_eight (Err found)
at_most_twice (Err (why_twice.BadSecondQuery found)) = omega arith
at_most_twice (Err why_twice.Shape) = omega arith
at_most_twice (Err (why_twice.BadSecondRecord side at found)) = omega arith

-- an ending whose status was answered, and whose note was written
serves_by : {Why : Type 0} (status_of : Why → ℕ) (text_of : Why → List ℕ)
    → ((ended : Result (Unit {0}) Why) → status_by status_of ended ≤ 8) → (call : Call) (status : ℕ) (ended : Result (Unit {0}) Why)
    (order : Option Order) (told told' : Option (List ℕ)) (refused refused' : ℕ) → status ≡ status_by status_of ended → ServesOrder order (status_by status_of ended) (text_by text_of ended) call
    → NoteWritten (text_by text_of ended) told told' refused refused' → Serves status order call told told' refused refused'
serves_by status_of text_of at_most call status ended order told told' refused refused' is serves w =
    subst (λ (n : ℕ). Serves n order call told told' refused refused') (sym is)
    (record { note = text_by text_of ended; serves = serves; noted = w; statuses = at_most ended })

serves_end : (call : Call) (status : ℕ) (ended : End) (order : Option Order) (told told' : Option (List ℕ)) (refused refused' : ℕ)
    → status ≡ status_of_end ended → ServesOrder order (status_of_end ended) (text_of_end ended) call
    → NoteWritten (text_of_end ended) told told' refused refused' → Serves status order call told told' refused refused'
serves_end = serves_by status_of note_text at_most_eight

-- an order that ran
pub serves_order : (call : Call) (status : ℕ) (ended : End) (order : Order) (told told' : Option (List ℕ)) (refused refused' : ℕ) → status ≡ status_of_end ended → RunsOrder ended order call
    → NoteWritten (text_of_end ended) told told' refused refused' → Serves status (Some order) call told told' refused refused'
serves_order call status ended order = serves_end call status ended (Some order)

-- a check of a trace that ran
at_most_verify : (ended : Result (Unit {0}) VerifyNote) → status_of_verify ended ≤ 8
at_most_verify (Ok done) = omega arith
at_most_verify (Err (verify.Common note)) = at_most_eight (Err note)
at_most_verify (Err (verify.Refused found)) = omega arith

pub serves_check : (call : Call) (status : ℕ) (ended : Result (Unit {0}) VerifyNote) (order : Order) (told told' : Option (List ℕ)) (refused refused' : ℕ) → status ≡ status_of_verify ended → RunsVerify ended order call
    → NoteWritten (text_of_verify ended) told told' refused refused' → Serves status (Some order) call told told' refused refused'
serves_check call status ended order = serves_by verify_status verify_text at_most_verify call status ended (Some order)

-- two joins in a row that ran
pub serves_twice : (call : Call) (status : ℕ) (ended : TwiceEnd) (names : TwiceNames) (limit : ℕ) (told told' : Option (List ℕ)) (refused refused' : ℕ) → status ≡ status_of_twice ended → RunsTwice ended names limit call
    → NoteWritten (text_of_twice ended) told told' refused refused' → Serves status (Some (join_twice names limit)) call told told' refused refused'
serves_twice call status ended names limit =
    serves_by twice_status twice_text at_most_twice call status ended (Some (join_twice names limit))

-- ---- words that were read as no order

module _ (under : List ℕ → Option (List ℕ)) (before : Roles) (old : Option (List ℕ)) (faults : ℕ) (unbegun_before : (of : Role) → (before of).phase ≡ unbegun) where
  abbrev untouched : Call
  untouched = as_call under before before old old faults faults

  begins_source : (source : QuerySource) → BeginsSource source (before role.Query).phase
  begins_source (keyed rows) = unbegun_before role.Query
  begins_source (named name) = begun-unbegun name (before role.Query).phase (unbegun_before role.Query)

  begins_none : (source : QuerySource) (names : Names) → BeginsInOrder source names untouched
  begins_none source names = record {
    query = begins_source source;
    left = begun-unbegun names.left (before role.Left).phase (unbegun_before role.Left);
    right = begun-unbegun names.right (before role.Right).phase (unbegun_before role.Right);
    query_first = λ begun. absurd (begun (unbegun_before role.Left));
    left_first = λ begun. absurd (begun (unbegun_before role.Right));
  }

  begins_no_check : (name : List ℕ) (names : CheckedNames) → BeginsCheck name names untouched
  begins_no_check name names = record {
    query = begun-unbegun name (before role.Query).phase (unbegun_before role.Query);
    left = begun-unbegun names.streams.left (before role.Left).phase (unbegun_before role.Left);
    right = begun-unbegun names.streams.right (before role.Right).phase (unbegun_before role.Right);
    trace = begun-unbegun names.trace (before role.Trace).phase (unbegun_before role.Trace);
    output = begun-unbegun names.output (before role.Output).phase (unbegun_before role.Output);
    query_first = λ begun. absurd (begun (unbegun_before role.Left));
    left_first = λ begun. absurd (begun (unbegun_before role.Right));
    right_first = λ begun. absurd (begun (unbegun_before role.Trace));
    trace_first = λ begun. absurd (begun (unbegun_before role.Output));
  }

  begins_no_twice : (names : TwiceNames) → BeginsTwice names under before before
  begins_no_twice names = record {
    query = begun-unbegun names.query (before role.Query).phase (unbegun_before role.Query);
    second = begun-unbegun names.second (before role.SecondQuery).phase (unbegun_before role.SecondQuery);
    left = begun-unbegun names.streams.left (before role.Left).phase (unbegun_before role.Left);
    right = begun-unbegun names.streams.right (before role.Right).phase (unbegun_before role.Right);
    third = begun-unbegun names.third (before role.Third).phase (unbegun_before role.Third);
    first_accepted = λ begun. absurd (begun (unbegun_before role.SecondQuery));
    both_accepted = λ begun. absurd (begun (unbegun_before role.Left));
    left_open = λ begun. absurd (begun (unbegun_before role.Right));
    right_open = λ begun. absurd (begun (unbegun_before role.Third));
  }

  no_memory : (order : Option Order) → ServesOrder order 6 memory_note untouched
  no_memory None = record {
    keeps = kept (keeping.memory refl refl) [] (Appends-nil old) (inl refl) (λ of no. unbegun_before of) (λ other. refl);
    no_order = inr refl;
  }
  no_memory (Some (join_streams kind source names limit)) = join_runs kind source names limit untouched (Err why.Memory) tt refl [] (Appends-nil old) (inl refl) (begins_none source names) (λ of none. unbegun_before of)
  no_memory (Some (check_trace chain name names limit)) =
      serves_verify chain name names limit untouched 6 memory_note (keeping.memory refl refl) (λ e. omega (arith, e)) (Appends-nil old) refl (begins_no_check name names) (λ of none. unbegun_before of) (λ of other. inr refl)
  no_memory (Some (check_query name)) =
      check_runs name untouched (Err why.Memory) tt refl [] (Appends-nil old) (inl refl) (begun-unbegun name (before role.Query).phase (unbegun_before role.Query)) (λ of other. unbegun_before of)
  no_memory (Some (join_twice names limit)) = twice_runs names limit untouched (Err (why_twice.Common why.Memory)) tt refl [] (Appends-nil old) (inl refl) (begins_no_twice names) (λ of none. unbegun_before of)
  no_memory (Some (sum_up recipe)) = gen_runs recipe untouched (Err why.Memory) tt refl [] (Appends-nil old) (inl refl) (λ of. refl) unbegun_before

  no_words : ServesOrder None 1 usage_note untouched
  no_words = record {
    keeps = kept (keeping.own (says.usage refl refl)) [] (Appends-nil old) (inl refl) (λ of no. unbegun_before of) (λ other. refl);
    no_order = inl refl;
  }

  module _ (status : ℕ) (order : Option Order) (told told' : Option (List ℕ)) (refused refused' : ℕ) where
    pub serves_memory : status ≡ 6 → NoteWritten memory_note told told' refused refused' → Serves status order untouched told told' refused refused'
    serves_memory is w = serves_end untouched status (Err why.Memory) order told told' refused refused' is (no_memory order) w

    pub serves_usage : order ≡ None → status ≡ 1 → NoteWritten usage_note told told' refused refused' → Serves status order untouched told told' refused refused'
    serves_usage none is w =
        subst (λ (o : Option Order). Serves status o untouched told told' refused refused') (sym none) (serves_end untouched status (Err why.Usage) None told told' refused refused' is no_words w)
