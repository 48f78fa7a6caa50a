-- A side of a merge as far as it was read, and the rows that are to come of it, as a function of the bytes to come.
use Rattle.std.specs.Prelude.{◌≡◌, ℕ, Bool, true, false, ℤ, List, [], ◌++◌, None, Some}
use Rattle.std.specs.declared.option.Option.{Option}
use Rattle.hj_value.specs.declared.column.Column.{Column}
use Rattle.hj_value.specs.declared.field.Field.{Field}
use Rattle.hj_record.specs.declared.fault.PieceFault.{PieceFault}
use Rattle.hj_record.specs.Pieces.{Stream, Pieces, pieces_of, ended, bad}
use Rattle.hj_event.specs.declared.fault.RecordFault.{RecordFault}
use Rattle.hj_event.specs.Rows.{Rows, no_row, then_rows, rows_in, in_order, most_in_stream, bad as rows_bad}
use Rattle.hj_event.specs.Arrivals.{Arrivals, arrivals_of}

-- The bytes of a side as far as they were looked at.
pub record ReaderState : Type 0 where
  pub columns : List Column
  pub slack : ℕ
  -- how many bytes the stream may still have, from the first of the current piece on
  pub room : ℕ
  -- the bytes of the current piece that were looked at
  pub part : List ℕ
  -- the bytes that were read and not looked at
  pub rest : List ℕ
  -- the fault of the pieces that was met
  pub fault : Option PieceFault
  -- a read answered the end
  pub ended : Bool
  -- the number that the next record has
  pub record_no : ℕ
  -- the greatest time of the rows before
  pub time : Option ℤ

-- A side: the row that it is at, where that was looked at, and what was read behind it.
pub record SideState : Type 0 where
  pub head : Option (List Field)
  pub reading : ReaderState
  -- the rows that were read and not looked at, in order
  pub waiting : List (List Field)
  -- the number of the record that was refused behind them, and why
  pub stop : Option (ℕ × RecordFault)

pub record Sides : Type 0 where
  pub left : SideState
  pub right : SideState

-- a side of which nothing was read
abbrev pub new_reading : List Column → ℕ → ReaderState
new_reading columns slack = record { columns = columns; slack = slack; room = most_in_stream; part = []; rest = []; fault = None; ended = false; record_no = 1; time = None }

abbrev pub new_side : List Column → ℕ → SideState
new_side columns slack = record { head = None; reading = new_reading columns slack; waiting = []; stop = None }

abbrev pub new_sides : List Column → List Column → ℕ → Sides
new_sides left right slack = record { left = new_side left slack; right = new_side right slack }

-- a stream with these bytes in front
abbrev pub in_front : List ℕ → Stream → Stream
in_front bytes stream = record { bytes = bytes ++ stream.bytes; whole = stream.whole }

-- the end of a whole stream
abbrev pub at_its_end : Stream
at_its_end = record { bytes = []; whole = true }

-- a stream that is cut off here
abbrev pub cut_off : Stream
cut_off = record { bytes = []; whole = false }

-- Behind a read that answered the end nothing comes; else any stream may.
abbrev pub MayFollow : Bool → Stream → Type 0
MayFollow true stream = stream ≡ at_its_end
MayFollow false stream = Unit {0}

-- Behind a failed read the stream is cut off.
abbrev pub Follows : Bool → Bool → Stream → Type 0
Follows true ended stream = stream ≡ cut_off
Follows false ended stream = MayFollow ended stream

abbrev pub unless_refused : Option PieceFault → Pieces → Pieces
unless_refused None pieces = pieces
unless_refused (Some found) pieces = ended (bad found)

-- the pieces to come, where this stream comes
abbrev pub pieces_ahead : ReaderState → Stream → Pieces
pieces_ahead side stream =
    unless_refused side.fault (pieces_of side.room (record { bytes = side.part ++ (side.rest ++ stream.bytes); whole = stream.whole }))

-- the rows that are still to be read
abbrev pub read_ahead : ReaderState → Stream → Rows
read_ahead side stream = rows_in side.columns side.slack side.record_no side.time (pieces_ahead side stream)

-- behind a record that was refused no row comes
abbrev pub unless_stopped : Option (ℕ × RecordFault) → Rows → Rows
unless_stopped None rows = rows
unless_stopped (Some stop) rows = no_row (rows_bad stop.0 stop.1)

-- the rows to come behind the one that the side is at
abbrev pub rows_ahead : SideState → Stream → Rows
rows_ahead side stream = in_order side.reading.slack side.reading.time side.waiting (unless_stopped side.stop (read_ahead side.reading stream))

abbrev pub with_head : Option (List Field) → Rows → Rows
with_head None rows = rows
with_head (Some row) rows = then_rows row rows

abbrev pub side_ahead : SideState → Stream → Rows
side_ahead side stream = with_head side.head (rows_ahead side stream)

-- the arrivals to come, where these streams come
abbrev pub arrivals_ahead : Sides → Stream → Stream → Arrivals
arrivals_ahead sides left right = arrivals_of (side_ahead sides.left left) (side_ahead sides.right right)
