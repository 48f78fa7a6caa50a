-- What the lines of a relay are as rows.
use Rattle.std.specs.Prelude.{◌≡◌, ◌≤◌, ◌⊎◌, ℤ, List, [], ◌∷◌, ◌++◌, length, map, int_le, true}
use Rattle.hj_base.specs.Journals.{IsPrefix}
use Rattle.hj_value.specs.declared.field.Field.{Field}
use Rattle.hj_value.specs.declared.field.Field.TheVariants.{Int}
use Rattle.hj_value.specs.Row.{time_of}
use Rattle.hj_msg.specs.declared.event.Pair.{Pair}
use Rattle.hj_query.specs.QueryParts.{QueryParts}
use Rattle.hj_record.specs.declared.fault.PieceFault.TheVariants as fault
use Rattle.hj_record.specs.Pieces.{most_in_piece}
use Rattle.hj_event.specs.declared.fault.RecordFault.{RecordFault}
use Rattle.hj_event.specs.declared.fault.RecordFault.TheVariants as record_fault
use Rattle.hj_event.specs.Rows.{Rows, RowsEnd, clean, bad, unread, rows_of}
use Rattle.hj_relay.specs.Relay.{later_row, relay_line, whole}

-- the time at which a pair was joined: that of its later row
abbrev pub time_at : Pair (List Field) → ℤ
time_at pair = time_of (later_row pair)

-- the row of a pair: this time, and the fields of both rows
abbrev pub relay_row : Pair (List Field) → List Field
relay_row pair = Int (time_at pair) ∷ (pair.left ++ pair.right)

-- The times of pairs never fall.
abbrev pub TimesNeverFall : List (Pair (List Field)) → Type 0
TimesNeverFall pairs = (before between behind : List (Pair (List Field))) (one other : Pair (List Field))
    → pairs ≡ before ++ one ∷ (between ++ other ∷ behind) → int_le (time_at one) (time_at other) ≡ true

-- The line of a pair, unless it is too long for a record, is read by the left columns of a query as the pair's row.
abbrev pub ReadsBack : QueryParts → Pair (List Field) → Type 0
ReadsBack query pair = length (relay_line pair) ≤ most_in_piece
    → rows_of query.left.columns query.slack (whole (relay_line pair)) ≡ record { rows = relay_row pair ∷ []; ending = clean }

-- a fault of a line or of a stream that is too long
abbrev pub IsTooLong : RecordFault → Type 0
IsTooLong found = (found ≡ record_fault.Piece fault.TooLong) ⊎ (found ≡ record_fault.Piece fault.StreamLong)

-- The rows of pairs ended well, and were all, or ended where a line or the stream was too long.
abbrev pub EndsRead : List (Pair (List Field)) → List (List Field) → RowsEnd → Type 0
EndsRead pairs rows clean = rows ≡ map relay_row pairs
EndsRead pairs rows (bad record_no found) = IsTooLong found
EndsRead pairs rows unread = ⊥

-- The rows are those of pairs, one behind the other: of all pairs, or of those before a line that is too long, or before the end of a
-- stream that is too long.
pub record AreReadBack (pairs : List (Pair (List Field))) (read : Rows) : Type 0 where
  pub begin : IsPrefix read.rows (map relay_row pairs)
  pub ends : EndsRead pairs read.rows read.ending
