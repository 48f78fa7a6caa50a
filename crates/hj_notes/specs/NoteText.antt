-- The text of each note, and the exit status that goes with it.
use Rattle.std.specs.Prelude.{ℕ, List, [], Ok, Err}
use Rattle.std.specs.declared.result.Result.{Result}
use Rattle.hj_notes.specs.declared.note.Note.{Note}
use Rattle.hj_notes.specs.declared.note.Note.TheVariants as note
use Rattle.hj_notes.specs.Notes.{usage_note, query_note, source_note, sink_note, memory_note, events_note, record_note}

abbrev pub note_text : Note → List ℕ
note_text note.Usage = usage_note
note_text (note.BadQuery found) = query_note found
note_text (note.BadRecord of at found) = record_note of at found
note_text (note.Source of) = source_note of
note_text note.Sink = sink_note
note_text note.Memory = memory_note
note_text (note.TooManyEvents limit) = events_note limit

abbrev pub status_of : Note → ℕ
status_of note.Usage = 1
status_of (note.BadQuery found) = 2
status_of (note.BadRecord of at found) = 3
status_of (note.Source of) = 4
status_of note.Sink = 5
status_of note.Memory = 6
status_of (note.TooManyEvents limit) = 7

-- What is told of a run by why it didn't end well: a run that ended well has no note, and the status 0.
abbrev pub text_by : {Why : Type 0} → (Why → List ℕ) → Result (Unit {0}) Why → List ℕ
text_by text (Ok done) = []
text_by text (Err why) = text why

abbrev pub status_by : {Why : Type 0} → (Why → ℕ) → Result (Unit {0}) Why → ℕ
status_by status (Ok done) = 0
status_by status (Err why) = status why

abbrev pub text_of_end : Result (Unit {0}) Note → List ℕ
text_of_end ended = text_by note_text ended

abbrev pub status_of_end : Result (Unit {0}) Note → ℕ
status_of_end ended = status_by status_of ended
