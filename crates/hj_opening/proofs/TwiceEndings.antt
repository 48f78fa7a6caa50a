-- What a run of `twice` promises, from the cause of its ending, what it wrote and the roles that it began.
use Rattle.std.proofs.Common.{◌≡◌, ◌≢◌, ◌⊎◌, ℕ, List, [], Ok, Err, Result, ap, inl, inr, refl}
use Rattle.std.specs.Io.KnownBytes.{Appends}
use Rattle.hj_base.specs.declared.numbers.Side.TheVariants as side
use Rattle.hj_base.specs.declared.outside.Role.{Role}
use Rattle.hj_base.specs.Counts.{Rose}
use Rattle.hj_base.specs.Outside.{unbegun}
use Rattle.hj_event.specs.Arrivals.{bad, clean, too_many}
use Rattle.hj_notes.specs.declared.note.Note.TheVariants as why
use Rattle.hj_notes.specs.declared.twice_note.TwiceNote.{TwiceNote}
use Rattle.hj_notes.specs.declared.twice_note.TwiceNote.TheVariants as note
use Rattle.hj_notes.specs.TwiceText.{status_of_twice, text_of_twice}
use Rattle.hj_relay.specs.Rows.{IsTooLong}
use Rattle.hj_opening.specs.Calls.{Call}
use Rattle.hj_opening.specs.Keeping.{EndsCommand, NothingFails, RefusesQuery}
use Rattle.hj_opening.specs.Keeping as keeping
use Rattle.hj_opening.specs.RunTwice.{RunsTwice}
use Rattle.hj_opening.specs.TwoJoins.{BeginsSecond, BeginsTwice, EndsInFirst, EndsTwice, FailsJoins, IsTwiceDecided, IsTwiceRole, RefusesSecond, RefusesShape, WritesAllThree, WritesSecond}
use Rattle.hj_opening.specs.TwoJoins as says
use Rattle.hj_opening.specs.Words.{TwiceNames}
use Rattle.hj_opening.proofs.Kept.{decides, kept}

abbrev pub TwiceEnd : Type 0
TwiceEnd = Result (Unit {0}) TwiceNote

-- A fault of the sink is the one ending with which its count rose.
abbrev pub CountsSinkTwice : TwiceEnd → ℕ → ℕ → Type 0
CountsSinkTwice (Err (note.Common why.Sink)) before now = Rose before now
CountsSinkTwice ended before now = now ≡ before

sink_kept : (ended : TwiceEnd) (before now : ℕ) → CountsSinkTwice ended before now → status_of_twice ended ≢ 5 → now ≡ before
sink_kept (Err (note.Common why.Sink)) before now counts other = absurd (other refl)
sink_kept _ before now counts other = counts

module _ (names : TwiceNames) (limit : ℕ) (call : Call) where
  abbrev pub TwiceCause : TwiceEnd → Type 0
  TwiceCause (Ok done) = WritesAllThree names limit call
  TwiceCause (Err (note.Common why.Usage)) = ⊥
  TwiceCause (Err (note.Common (why.BadQuery found))) = RefusesQuery found names.query call
  TwiceCause (Err (note.Common (why.BadRecord of at found))) = EndsInFirst (bad of at found) names limit call
  TwiceCause (Err (note.Common (why.Source of))) = FailsJoins of names limit call
  TwiceCause (Err (note.Common why.Sink)) = Unit {0}
  TwiceCause (Err (note.Common why.Memory)) = Unit {0}
  TwiceCause (Err (note.Common (why.TooManyEvents most))) =
      (most ≡ limit) × (EndsInFirst too_many names limit call ⊎ WritesSecond too_many names limit call)
  TwiceCause (Err (note.BadSecondQuery found)) = RefusesSecond found names call
  TwiceCause (Err note.Shape) = RefusesShape names call
  TwiceCause (Err (note.BadSecondRecord side.Left at found)) = IsTooLong found × WritesSecond (bad side.Left at found) names limit call
  TwiceCause (Err (note.BadSecondRecord side.Right at found)) = WritesSecond (bad side.Right at found) names limit call

  twice_ends : (ended : TwiceEnd) → TwiceCause ended → CountsSinkTwice ended call.faults_before call.faults_now → EndsCommand (EndsTwice names limit call) (status_of_twice ended) (text_of_twice ended) call
  twice_ends (Ok done) cause counts = keeping.own (says.joined refl refl cause)
  twice_ends (Err (note.Common why.Usage)) cause counts = absurd cause
  twice_ends (Err (note.Common (why.BadQuery found))) cause counts = keeping.own (says.bad_query found refl refl cause)
  twice_ends (Err (note.Common (why.BadRecord of at found))) cause counts = keeping.own (says.bad_record of at found refl refl cause)
  twice_ends (Err (note.Common (why.Source of))) cause counts = keeping.own (says.failed_source of refl refl cause)
  twice_ends (Err (note.Common why.Sink)) cause counts = keeping.failed_sink refl refl counts
  twice_ends (Err (note.Common why.Memory)) cause counts = keeping.memory refl refl
  twice_ends (Err (note.Common (why.TooManyEvents most))) cause counts =
      keeping.own (says.events refl (ap (λ (n : ℕ). text_of_twice (Err (note.Common (why.TooManyEvents n)))) cause.0) cause.1)
  twice_ends (Err (note.BadSecondQuery found)) cause counts = keeping.own (says.bad_second found refl refl cause)
  twice_ends (Err note.Shape) cause counts = keeping.own (says.unfit refl refl cause)
  twice_ends (Err (note.BadSecondRecord side.Left at found)) cause counts = keeping.own (says.bad_relay at found refl refl cause.0 cause.1)
  twice_ends (Err (note.BadSecondRecord side.Right at found)) cause counts = keeping.own (says.bad_third at found refl refl cause)

  own_decides : (status : ℕ) (text : List ℕ) → EndsTwice names limit call status text → NothingFails call → IsTwiceDecided names limit call status
  own_decides status text (says.joined is told all) none = says.by_second clean is all.writes
  own_decides status text (says.bad_query found is told refuses) none = says.by_query found is refuses
  own_decides status text (says.bad_second found is told refuses) none = says.by_second_query found is refuses
  own_decides status text (says.unfit is told refuses) none = says.by_shape is refuses
  own_decides status text (says.bad_record of at found is told ends) none = says.by_first (bad of at found) (λ e. cc) is ends
  own_decides status text (says.bad_relay at found is told long writes) none = says.by_second (bad side.Left at found) is writes
  own_decides status text (says.bad_third at found is told writes) none = says.by_second (bad side.Right at found) is writes
  own_decides status text (says.failed_source of is told fails) none = absurd (none.roles of fails.fails)
  own_decides status text (says.events is told many) none =
      elim many [ inl ends ↦ says.by_first too_many (λ e. cc) is ends | inr writes ↦ says.by_second too_many is writes ]

  pub twice_runs : (ended : TwiceEnd) → TwiceCause ended → CountsSinkTwice ended call.faults_before call.faults_now → (grown : List ℕ) → Appends call.old call.new grown → (grown ≡ []) ⊎ BeginsSecond grown names limit call
      → BeginsTwice names call.under call.before call.now → ((of : Role) → ¬ (IsTwiceRole of) → (call.now of).phase ≡ unbegun) → RunsTwice ended names limit call
  twice_runs ended cause counts grown written front roles none = record {
    keeps = kept (twice_ends ended cause counts) grown written front none (sink_kept ended call.faults_before call.faults_now counts);
    roles = roles;
    complete = decides (IsTwiceDecided names limit call) own_decides (twice_ends ended cause counts);
  }
