-- The run of an order, before its note is written: it ended well, or for the reason that its note gives.
use Rattle.std.specs.Prelude.{ℕ, Some, Ok, Err}
use Rattle.std.specs.declared.result.Result.{Result}
use Rattle.hj_notes.specs.declared.note.Note.{Note}
use Rattle.hj_notes.specs.declared.note.Note.TheVariants as note
use Rattle.hj_notes.specs.NoteText.{status_of_end, text_of_end}
use Rattle.hj_stream.specs.declared.outcome.Outcome.{Outcome}
use Rattle.hj_stream.specs.declared.outcome.Outcome.TheVariants as outcome
use Rattle.hj_opening.specs.Calls.{Call}
use Rattle.hj_opening.specs.Serve.{ServesOrder}
use Rattle.hj_opening.specs.Words.{Order}

-- The ending of a run whose join ended so.
abbrev pub end_of : ℕ → Outcome → Result (Unit {0}) Note
end_of limit (outcome.Done events) = Ok tt
end_of limit (outcome.Bad side at found) = Err (note.BadRecord side at found)
end_of limit (outcome.SourceFault of) = Err (note.Source of)
end_of limit outcome.SinkFault = Err note.Sink
end_of limit outcome.TooMany = Err (note.TooManyEvents limit)
end_of limit outcome.Memory = Err note.Memory

-- The promise of the order's command is kept, with the status and the note of the ending.
abbrev pub RunsOrder : Result (Unit {0}) Note → Order → Call → Type 0
RunsOrder ended order call = ServesOrder (Some order) (status_of_end ended) (text_of_end ended) call
