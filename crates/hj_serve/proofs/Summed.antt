-- The run of an order that sums up the join of two streams that it makes, once the line is there.
use Rattle.std.proofs.Common.{◌≡◌, ℕ, List, [], Ok, Err, None, Some, sym, subst, inl, inr, refl, arith}
use Rattle.std.proofs.KnownBytes.{Appends-nil}
use Rattle.std.specs.declared.option.Option.{Option}
use Rattle.std.specs.Io.KnownBytes.{Appends}
use Rattle.hj_base.specs.declared.output.Sent.{Sent}
use Rattle.hj_base.specs.declared.output.Sent.TheVariants as sent
use Rattle.hj_base.specs.declared.outside.Role.{Role}
use Rattle.hj_base.specs.Output.{CountsFaults, SendsPiece}
use Rattle.hj_base.specs.Journals.{IsPrefix}
use Rattle.hj_base.specs.Outside.{unbegun}
use Rattle.hj_value.specs.declared.field.Field.{Field}
use Rattle.hj_crew.specs.Ran.{RanSeen}
use Rattle.hj_notes.specs.declared.note.Note.TheVariants as why
use Rattle.hj_opening.specs.Calls.{Call, call}
use Rattle.hj_serve.specs.Crew.{CameToJoin, ShowsMade}
use Rattle.hj_opening.specs.Generating.{IsSummary}
use Rattle.hj_notes.specs.NoteText.{status_of_end}
use Rattle.hj_serve.specs.OnCrew.{RunsOnCrew}
use Rattle.hj_opening.specs.Run.{RunsOrder}
use Rattle.hj_opening.specs.Words.{ChainShape, Recipe, most_events, sum_up}
use Rattle.hj_opening.proofs.Phases.{Roles}
use Rattle.hj_opening.proofs.Prefixes.{begins_all}
use Rattle.hj_opening.proofs.Endings.{CountsSink, End, GenCause, gen_runs}

-- the ending of an order whose line was sent so
abbrev pub sent_end : Sent → End
sent_end sent.Whole = Ok tt
sent_end sent.Failed = Err why.Sink
sent_end sent.Memory = Err why.Memory

module _ (recipe : Recipe) (line : List ℕ) (summary : IsSummary line recipe most_events) (under : List ℕ → Option (List ℕ)) (roles : Roles) (none : (of : Role) → (roles of).phase ≡ unbegun) (old new : Option (List ℕ)) (faults faults' : ℕ) where
  abbrev this : Call
  this = call under roles roles old new faults faults'

  runs : (ended : End) → GenCause recipe this ended → CountsSink ended faults faults' → (grown : List ℕ) → Appends old new grown → IsPrefix grown line → RunsOrder ended (sum_up recipe) this
  runs ended cause counts grown written front = gen_runs recipe this ended cause counts grown written (inr (record { line = line; summary = summary; begins = front })) (λ of. refl) none

  runs_sent : (sending : Sent) → SendsPiece sending line old new → CountsFaults sending faults faults' → RunsOrder (sent_end sending) (sum_up recipe) this
  runs_sent sent.Whole sends counts = runs (Ok tt) (record { line = line; summary = summary; written = sends }) counts line sends (begins_all line line refl)
  runs_sent sent.Failed sends counts = runs (Err why.Sink) tt counts.1 sends.grown sends.written sends.front
  runs_sent sent.Memory sends counts = runs (Err why.Memory) tt counts sends.grown sends.written sends.front

  came : (crew : ChainShape) (sending : Sent) → CameToJoin (Some crew) (status_of_end (sent_end sending)) roles
  came crew sent.Whole = record { threads = refl; words = λ e. omega (arith, e); query = λ e. omega (arith, e); streams = λ e. absurd (omega (arith, e)) }
  came crew sent.Failed = record { threads = refl; words = λ e. omega (arith, e); query = λ e. omega (arith, e); streams = λ e. absurd (omega (arith, e)) }
  came crew sent.Memory = record { threads = refl; words = λ e. omega (arith, e); query = λ e. omega (arith, e); streams = λ e. absurd (omega (arith, e)) }

  pub summed_runs : (crew : ChainShape) (ran : RanSeen (List Field)) → ShowsMade crew recipe most_events ran → (sending : Sent) (end : End) → end ≡ sent_end sending → SendsPiece sending line old new → CountsFaults sending faults faults'
      → RunsOnCrew crew (record { end = end; ran = Some ran }) (sum_up recipe) this
  summed_runs crew ran shows sending end is sends counts =
      subst (λ (e : End). RunsOnCrew crew (record { end = e; ran = Some ran }) (sum_up recipe) this) (sym is)
      (record { runs = runs_sent sending sends counts; ran = λ other. ((λ some. came crew sending), (λ back. refl)); shows = shows })

-- the line couldn't be made
pub unmade_runs : (recipe : Recipe) (under : List ℕ → Option (List ℕ)) (roles : Roles) → ((of : Role) → (roles of).phase ≡ unbegun) → (told : Option (List ℕ)) (faults : ℕ) (crew : ChainShape)
    → RunsOnCrew crew (record { end = Err why.Memory; ran = None }) (sum_up recipe) (call under roles roles told told faults faults)
unmade_runs recipe under roles none told faults crew = record {
  runs = gen_runs recipe (call under roles roles told told faults faults) (Err why.Memory) tt refl [] (Appends-nil told) (inl refl) (λ of. refl) none;
  ran = λ other. absurd (other refl);
  shows = tt;
}
