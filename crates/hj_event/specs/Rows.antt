-- The rows of a stream by the columns of a schema, put in order of time as far as a slack allows.
use Rattle.std.specs.Prelude.{ℕ, ◌+◌, ◌^◌, ℤ, pos, ◌-ℤ◌, Bool, false, List, [], ◌∷◌, if◌then◌else◌, int_lt, int_le, None, Some, Ok, Err}
use Rattle.std.specs.List.{filter}
use Rattle.std.specs.declared.option.Option.{Option}
use Rattle.std.specs.declared.result.Result.{Result}
use Rattle.hj_value.specs.declared.column.Column.{Column}
use Rattle.hj_value.specs.declared.field.Field.{Field}
use Rattle.hj_value.specs.Row.{time_of}
use Rattle.hj_record.specs.declared.fault.PieceFault.{PieceFault}
use Rattle.hj_record.specs.Pieces.{Stream, Pieces, PiecesEnd, pieces_of, clean as pieces_clean, bad as pieces_bad, unread as pieces_unread}
use Rattle.hj_record.specs.Records.{record_of}
use Rattle.hj_event.specs.declared.schema.fault.RowFault.{RowFault}
use Rattle.hj_event.specs.declared.fault.RecordFault.{RecordFault}
use Rattle.hj_event.specs.declared.fault.RecordFault.TheVariants as fault
use Rattle.hj_event.specs.SchemaRows.{row_of}

-- The row, unless its time is below the greatest time of the rows before less the slack.
abbrev pub in_time : ℕ → Option ℤ → List Field → Result (Option (List Field)) RecordFault
in_time slack None row = Ok (Some row)
in_time slack (Some greatest) row = if int_lt (time_of row) (greatest -ℤ pos slack) then Err (fault.TimeBack greatest (time_of row)) else Ok (Some row)

abbrev pub row_in_time : ℕ → Option ℤ → Result (List Field) RowFault → Result (Option (List Field)) RecordFault
row_in_time slack greatest (Err found) = Err (fault.Row found)
row_in_time slack greatest (Ok row) = in_time slack greatest row

abbrev pub record_row : List Column → ℕ → Option ℤ → Result (Option (List (List ℕ))) PieceFault → Result (Option (List Field)) RecordFault
record_row columns slack greatest (Err found) = Err (fault.Piece found)
record_row columns slack greatest (Ok None) = Ok None
record_row columns slack greatest (Ok (Some fields)) = row_in_time slack greatest (row_of columns fields)

-- The row of a piece by these columns and this slack, where the greatest time of the rows before is this; None where the piece
-- holds no record.
abbrev pub row_at : List Column → ℕ → Option ℤ → List ℕ → Result (Option (List Field)) RecordFault
row_at columns slack greatest piece = record_row columns slack greatest (record_of piece)

-- How a stream's rows end: with its bytes, in a bad record, by its number from 1, or where it was cut off.
pub data RowsEnd : Type 0 where
  clean : RowsEnd
  bad : (record_no : ℕ) → RecordFault → RowsEnd
  unread : RowsEnd

pub record Rows : Type 0 where
  pub rows : List (List Field)
  pub ending : RowsEnd

abbrev pub no_row : RowsEnd → Rows
no_row ending = record { rows = []; ending = ending }

abbrev pub then_rows : List Field → Rows → Rows
then_rows row others = record { rows = row ∷ others.rows; ending = others.ending }

-- the ending of the pieces, where the next record would have this number
abbrev pub end_at : ℕ → PiecesEnd → RowsEnd
end_at record_no pieces_clean = clean
end_at record_no (pieces_bad found) = bad record_no (fault.Piece found)
end_at record_no pieces_unread = unread

-- the greatest time, with one more
abbrev pub with_time : Option ℤ → ℤ → ℤ
with_time None time = time
with_time (Some greatest) time = if int_lt time greatest then greatest else time

-- What a piece adds to the rows of the pieces behind it, which depend on the next record's number and the greatest time before:
-- its row; nothing where it holds no record; and behind a bad record no row comes.
abbrev pub put_row : ℕ → Option ℤ → Result (Option (List Field)) RecordFault → (ℕ → Option ℤ → Rows) → Rows
put_row record_no greatest (Err found) behind = no_row (bad record_no found)
put_row record_no greatest (Ok None) behind = behind record_no greatest
put_row record_no greatest (Ok (Some row)) behind = then_rows row (behind (record_no + 1) (Some (with_time greatest (time_of row))))

-- The rows of pieces as they are read, where the first record has this number and the greatest time before it is this.
abbrev pub rows_from : List Column → ℕ → ℕ → Option ℤ → List (List ℕ) → PiecesEnd → Rows
rows_from columns slack record_no greatest [] ending = no_row (end_at record_no ending)
rows_from columns slack record_no greatest (piece ∷ pieces) ending =
    put_row record_no greatest (row_at columns slack greatest piece) (λ next time. rows_from columns slack next time pieces ending)

abbrev pub rows_in : List Column → ℕ → ℕ → Option ℤ → Pieces → Rows
rows_in columns slack record_no greatest cut = rows_from columns slack record_no greatest cut.pieces cut.ending

-- the greatest time, with those of these rows
abbrev pub greatest_of : Option ℤ → List (List Field) → Option ℤ
greatest_of greatest [] = greatest
greatest_of greatest (row ∷ rows) = greatest_of (Some (with_time greatest (time_of row))) rows

-- a row behind all of these that aren't later
abbrev pub put_in : List Field → List (List Field) → List (List Field)
put_in row [] = row ∷ []
put_in row (other ∷ others) = if int_lt (time_of row) (time_of other) then row ∷ other ∷ others else other ∷ put_in row others

-- The second rows put among the first, one after another: in order of time, rows of equal time in the order in which they were read.
abbrev pub put_all : List (List Field) → List (List Field) → List (List Field)
put_all waiting [] = waiting
put_all waiting (row ∷ rows) = put_all (put_in row waiting) rows

-- No row that is still to be read can come before this one: its time is at most the greatest less the slack.
abbrev pub is_sure : ℕ → Option ℤ → List Field → Bool
is_sure slack None row = false
is_sure slack (Some greatest) row = int_le (time_of row) (greatest -ℤ pos slack)

-- Where the stream was cut off, only the rows that are sure stay.
abbrev pub staying : RowsEnd → ℕ → Option ℤ → List (List Field) → List (List Field)
staying unread slack greatest rows = filter (is_sure slack greatest) rows
staying ending slack greatest rows = rows

-- The rows that were read put in order, among those that wait; before them the greatest time is this.
abbrev pub in_order : ℕ → Option ℤ → List (List Field) → Rows → Rows
in_order slack greatest waiting read =
    record { rows = staying read.ending slack (greatest_of greatest read.rows) (put_all waiting read.rows); ending = read.ending }

-- how many bytes a stream may have
abbrev pub most_in_stream : ℕ
most_in_stream = 2 ^ 62

-- the rows of a stream by these columns and this slack, as they are read
abbrev pub read_of : List Column → ℕ → Stream → Rows
read_of columns slack stream = rows_in columns slack 1 None (pieces_of most_in_stream stream)

-- The rows of a stream by these columns and this slack, in order.
abbrev pub rows_of : List Column → ℕ → Stream → Rows
rows_of columns slack stream = in_order slack None [] (read_of columns slack stream)
