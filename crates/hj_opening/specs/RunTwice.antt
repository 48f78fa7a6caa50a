-- The run of `twice`, before its note is written.
use Rattle.std.specs.Prelude.{ℕ, Ok, Err}
use Rattle.std.specs.declared.result.Result.{Result}
use Rattle.hj_notes.specs.declared.note.Note.{Note}
use Rattle.hj_notes.specs.declared.twice_note.TwiceNote.{TwiceNote}
use Rattle.hj_notes.specs.declared.twice_note.TwiceNote.TheVariants as note
use Rattle.hj_notes.specs.TwiceText.{status_of_twice, text_of_twice}
use Rattle.hj_relay.specs.declared.ending.TwiceOutcome.{TwiceOutcome}
use Rattle.hj_relay.specs.declared.ending.TwiceOutcome.TheVariants as twice
use Rattle.hj_stream.specs.declared.outcome.Outcome.{Outcome}
use Rattle.hj_stream.specs.declared.outcome.Outcome.TheVariants as outcome
use Rattle.hj_opening.specs.declared.twice.TwiceOrder.{TwiceOrder}
use Rattle.hj_opening.specs.Calls.{Call}
use Rattle.hj_opening.specs.Run.{end_of}
use Rattle.hj_opening.specs.TwoJoins.{ServesTwice}
use Rattle.hj_opening.specs.Words.{TwiceNames}

abbrev pub twice_names : TwiceOrder → TwiceNames
twice_names joins = record {
  query = joins.query.now;
  streams = record { left = joins.left.now; right = joins.right.now };
  second = joins.second.now;
  third = joins.third.now;
}

-- an ending that another command may have too
abbrev pub common : Result (Unit {0}) Note → Result (Unit {0}) TwiceNote
common (Ok done) = Ok tt
common (Err why) = Err (note.Common why)

-- The ending of a run whose second join ended so: its bad records have notes of their own.
abbrev pub end_of_second : ℕ → Outcome → Result (Unit {0}) TwiceNote
end_of_second limit (outcome.Bad side at found) = Err (note.BadSecondRecord side at found)
end_of_second limit ended = common (end_of limit ended)

-- The ending of a run whose two joins ended so.
abbrev pub end_of_twice : ℕ → TwiceOutcome → Result (Unit {0}) TwiceNote
end_of_twice limit (twice.Done first second) = Ok tt
end_of_twice limit (twice.First ended) = common (end_of limit ended)
end_of_twice limit (twice.Second ended) = end_of_second limit ended

-- The promise of `twice` is kept, with the status and the note of the ending.
abbrev pub RunsTwice : Result (Unit {0}) TwiceNote → TwiceNames → ℕ → Call → Type 0
RunsTwice ended names limit call = ServesTwice names limit (status_of_twice ended) (text_of_twice ended) call
