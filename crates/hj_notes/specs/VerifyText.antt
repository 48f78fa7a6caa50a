-- The text of each note of `verify`, and the exit status that goes with it.
use Rattle.std.specs.Prelude.{ℕ, List, ◌++◌, codes}
use Rattle.std.specs.Fmt.{decimal}
use Rattle.std.specs.declared.result.Result.{Result}
use Rattle.hj_notes.specs.declared.verify_note.VerifyNote.{VerifyNote}
use Rattle.hj_notes.specs.declared.verify_note.VerifyNote.TheVariants as verify
use Rattle.hj_notes.specs.NoteText.{note_text, status_by, status_of, text_by}
use Rattle.hj_trace.specs.declared.fault.TraceFault.{TraceFault}
use Rattle.hj_trace.specs.declared.fault.TraceFault.TheVariants as fault

-- A line of the trace, by its number from 1, breaks a rule.
abbrev pub line_note : ℕ → List ℕ → List ℕ
line_note line rule = codes "trace line " ++ decimal line ++ codes ": " ++ rule ++ codes "\n"

abbrev pub refusal_note : TraceFault → List ℕ
refusal_note (fault.Form line) = line_note line (codes "Form")
refusal_note (fault.NotEnabled line) = line_note line (codes "NotEnabled")
refusal_note (fault.Text line) = line_note line (codes "Text")
refusal_note (fault.Early line) = line_note line (codes "Early")
refusal_note (fault.Late line) = line_note line (codes "Late")
refusal_note (fault.Output at) = codes "output byte " ++ decimal at ++ codes "\n"

abbrev pub verify_text : VerifyNote → List ℕ
verify_text (verify.Common why) = note_text why
verify_text (verify.Refused found) = refusal_note found

abbrev pub verify_status : VerifyNote → ℕ
verify_status (verify.Common why) = status_of why
verify_status (verify.Refused found) = 8

abbrev pub text_of_verify : Result (Unit {0}) VerifyNote → List ℕ
text_of_verify ended = text_by verify_text ended

abbrev pub status_of_verify : Result (Unit {0}) VerifyNote → ℕ
status_of_verify ended = status_by verify_status ended
