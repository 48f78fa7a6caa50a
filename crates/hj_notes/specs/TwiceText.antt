-- The text of each note of `twice`, and the exit status that goes with it.
use Rattle.std.specs.Prelude.{ℕ, List, codes}
use Rattle.std.specs.declared.result.Result.{Result}
use Rattle.hj_base.specs.declared.numbers.Side.{Side}
use Rattle.hj_base.specs.declared.numbers.Side.TheVariants as side
use Rattle.hj_base.specs.declared.outside.Role.TheVariants as role
use Rattle.hj_notes.specs.declared.twice_note.TwiceNote.{TwiceNote}
use Rattle.hj_notes.specs.declared.twice_note.TwiceNote.TheVariants as twice
use Rattle.hj_notes.specs.Notes.{refused_note, role_name, stream_note}
use Rattle.hj_notes.specs.NoteText.{note_text, status_by, status_of, text_by}

-- The columns of the second query's left stream aren't those of the first join's pairs.
abbrev pub shape_note : List ℕ
shape_note = codes "query: Shape\n"

-- the streams of the second join: the pairs of the first one, and the third stream
abbrev pub second_name : Side → List ℕ
second_name side.Left = codes "relay"
second_name side.Right = role_name role.Third

abbrev pub twice_text : TwiceNote → List ℕ
twice_text (twice.Common why) = note_text why
twice_text (twice.BadSecondQuery found) = refused_note (role_name role.SecondQuery) found
twice_text twice.Shape = shape_note
twice_text (twice.BadSecondRecord of at found) = stream_note (second_name of) at found

abbrev pub twice_status : TwiceNote → ℕ
twice_status (twice.Common why) = status_of why
twice_status (twice.BadSecondQuery found) = 2
twice_status twice.Shape = 2
twice_status (twice.BadSecondRecord of at found) = 3

abbrev pub text_of_twice : Result (Unit {0}) TwiceNote → List ℕ
text_of_twice ended = text_by twice_text ended

abbrev pub status_of_twice : Result (Unit {0}) TwiceNote → ℕ
status_of_twice ended = status_by twice_status ended
