-- How a check ends with a verdict.
use Rattle.std.specs.Prelude.{ℕ, Ok, Err}
use Rattle.std.specs.declared.result.Result.{Result}
use Rattle.hj_notes.specs.declared.note.Note.{Note}
use Rattle.hj_notes.specs.declared.verify_note.VerifyNote.{VerifyNote}
use Rattle.hj_notes.specs.declared.verify_note.VerifyNote.TheVariants as verify
use Rattle.hj_opening.specs.Run.{end_of}
use Rattle.hj_verify.specs.declared.verdict.Verdict.{Verdict}
use Rattle.hj_verify.specs.declared.verdict.Verdict.TheVariants as verdict

-- an ending that other commands have too
abbrev pub common_end : Result (Unit {0}) Note → Result (Unit {0}) VerifyNote
common_end (Ok done) = Ok done
common_end (Err note) = Err (verify.Common note)

abbrev pub end_of_verdict : ℕ → Verdict → Result (Unit {0}) VerifyNote
end_of_verdict limit (verdict.Accepted events) = Ok tt
end_of_verdict limit (verdict.Refused fault) = Err (verify.Refused fault)
end_of_verdict limit (verdict.Ended outcome) = common_end (end_of limit outcome)
