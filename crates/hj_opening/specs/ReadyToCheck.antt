-- What stands before a check of a trace: the query, and four open streams.
use Rattle.std.specs.Prelude.{◌≡◌, ℕ, List, Some, Ok, Err}
use Rattle.std.specs.declared.option.Option.{Option}
use Rattle.std.specs.declared.result.Result.{Result}
use Rattle.hj_base.specs.declared.outside.Role.{Role}
use Rattle.hj_base.specs.declared.outside.Role.TheVariants as role
use Rattle.hj_base.specs.Outside.{RoleState, unbegun}
use Rattle.hj_query.specs.QueryParts.{QueryParts}
use Rattle.hj_notes.specs.declared.note.Note.{Note}
use Rattle.hj_notes.specs.NoteText.{note_text, status_of}
use Rattle.hj_notes.specs.declared.verify_note.VerifyNote.{VerifyNote}
use Rattle.hj_notes.specs.VerifyText.{status_of_verify, text_of_verify}
use Rattle.hj_opening.specs.Calls.{Call, call}
use Rattle.hj_opening.specs.Opening.{AreOpened, IsOpened}
use Rattle.hj_opening.specs.Queries.{IsAccepted}
use Rattle.hj_opening.specs.Serve.{ServesOrder}
use Rattle.hj_opening.specs.Streams.{IsBegunUnder}
use Rattle.hj_opening.specs.Verifying.{IsCheckRole}
use Rattle.hj_opening.specs.Words.{ChainShape, CheckedNames, Order, check_trace}

-- The query was accepted, and the streams, the trace and the output are open; nothing was read of them, and nothing failed.
pub record IsReadyToCheck (query : QueryParts) (name : List ℕ) (names : CheckedNames) (under : List ℕ → Option (List ℕ))
    (before now : Role → RoleState) : Type 0 where
  pub accepted : IsAccepted query name (under name) (before role.Query) (now role.Query)
  pub begun : IsBegunUnder name (now role.Query).phase
  pub opened : AreOpened names.streams under before now
  pub trace : IsOpened names.trace (under names.trace) (before role.Trace) (now role.Trace)
  pub output : IsOpened names.output (under names.output) (before role.Output) (now role.Output)
  pub unfailed : (of : Role) → (now of).faults ≡ (before of).faults
  -- no other role was begun
  pub others : (of : Role) → ¬ (IsCheckRole of) → (now of).phase ≡ unbegun

-- the order of a check, as a promise has it
abbrev pub RunsVerify : Result (Unit {0}) VerifyNote → Order → Call → Type 0
RunsVerify ended order call = ServesOrder (Some order) (status_of_verify ended) (text_of_verify ended) call

-- Getting ready for a check: all is there; or the check ends with this note, whatever the output is, and nothing is written to it.
abbrev pub MakesReadyToCheck : Result QueryParts Note → ChainShape → List ℕ → CheckedNames → ℕ → (List ℕ → Option (List ℕ))
    → (Role → RoleState) → (Role → RoleState) → Type 0
MakesReadyToCheck (Ok query) chain name names limit under before now = IsReadyToCheck query name names under before now
MakesReadyToCheck (Err note) chain name names limit under before now =
    (told : Option (List ℕ)) (faults : ℕ)
    → ServesOrder (Some (check_trace chain name names limit)) (status_of note) (note_text note) (call under before now told told faults faults)
