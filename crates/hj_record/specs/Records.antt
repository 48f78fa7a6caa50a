-- The record of a piece, as `csv` reads it by its defaults: comma, double quote, and two double quotes inside quotes for
-- one; LF, CR and CR LF each end a record, and an empty line gives none.
use Rattle.std.specs.Prelude.{◌≡◌, ℕ, Bool, true, false, List, [], ◌∷◌, if◌then◌else◌, None, Some, Ok, Err}
use Rattle.std.specs.declared.option.Option.{Option}
use Rattle.std.specs.declared.result.Result.{Result}
use Rattle.csv.specs.Machine.{Read, next_record}
use Rattle.csv.specs.Reading.{default_config, is_bom}
use Rattle.csv.specs.declared.parser.State.TheVariants as st
use Rattle.hj_record.specs.declared.fault.PieceFault.{PieceFault}
use Rattle.hj_record.specs.declared.fault.PieceFault.TheVariants as fault

-- The bytes without byte order marks in front: while they begin with EF BB BF, these three are dropped.
abbrev pub without_marks : List ℕ → List ℕ
without_marks [] = []
without_marks (a ∷ []) = a ∷ []
without_marks (a ∷ b ∷ []) = a ∷ b ∷ []
without_marks (a ∷ b ∷ c ∷ rest) = if is_bom a b c then without_marks rest else a ∷ b ∷ c ∷ rest

-- fields behind which no second record may stand
abbrev pub if_last : List (List ℕ) → Option Read → Result (Option (List (List ℕ))) PieceFault
if_last fields None = Ok (Some fields)
if_last fields (Some second) = Err fault.NotOneRecord

-- the fields of the first record, where it is the only one
abbrev pub only_record : Option Read → Result (Option (List (List ℕ))) PieceFault
only_record None = Ok None
only_record (Some first) = if_last first.0 (next_record default_config first.1 [] [] first.2)

-- The fields of a text's one record, None where it has none.
abbrev pub record_in : List ℕ → Result (Option (List (List ℕ))) PieceFault
record_in text = only_record (next_record default_config st.StartRecord [] [] text)

abbrev pub record_of : List ℕ → Result (Option (List (List ℕ))) PieceFault
record_of piece = record_in (without_marks piece)

-- What reading a piece answers: its record, unless memory ran out.
abbrev pub AnswersPiece : Result (Option (List (List ℕ))) PieceFault → List ℕ → Type 0
AnswersPiece (Ok found) piece = record_of piece ≡ Ok found
AnswersPiece (Err fault.Memory) piece = Unit {0}
AnswersPiece (Err found) piece = record_of piece ≡ Err found

-- What reading a piece into fields answers: whether it holds a record, whose fields they are then.
abbrev pub ReadsInto : Result Bool PieceFault → List (List ℕ) → List ℕ → Type 0
ReadsInto (Ok true) fields piece = record_of piece ≡ Ok (Some fields)
ReadsInto (Ok false) fields piece = record_of piece ≡ Ok None
ReadsInto (Err fault.Memory) fields piece = Unit {0}
ReadsInto (Err found) fields piece = record_of piece ≡ Err found
