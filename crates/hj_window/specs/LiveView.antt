-- Live rows as they are kept, a list for each side, seen as one list in the order of arrival.
use Rattle.std.specs.Prelude.{List, [], ◌∷◌, map, nat_lt, if◌then◌else◌}
use Rattle.hj_base.specs.declared.numbers.Side.{Side}
use Rattle.hj_base.specs.declared.numbers.Side.TheVariants.{Left, Right}
use Rattle.hj_window.specs.declared.side_rows.HeldRow.{HeldRow}
use Rattle.hj_window.specs.LiveRows.{LiveRow, LiveRows}
use Rattle.hj_window.specs.SideRows.{SideRowsState}

abbrev pub live_row : Side → HeldRow → LiveRow
live_row side held = record { no = held.no.0; side = side; time = held.time }

abbrev pub live_rows : Side → List HeldRow → List LiveRow
live_rows side rows = map (live_row side) rows

-- a row, put among those behind it: `behind` takes the rows of the other side that are left
abbrev pub among : LiveRow → (List LiveRow → List LiveRow) → List LiveRow → List LiveRow
among row behind [] = row ∷ behind []
among row behind (other ∷ others) = if nat_lt row.no other.no then row ∷ behind (other ∷ others) else other ∷ among row behind others

-- The rows of two lists by number.
abbrev pub merged : List LiveRow → List LiveRow → List LiveRow
merged [] others = others
merged (row ∷ rows) others = among row (merged rows) others

abbrev pub live_of : SideRowsState → SideRowsState → LiveRows
live_of left right =
    record { left = left.window; right = right.window; rows = merged (live_rows Left left.rows) (live_rows Right right.rows) }
