-- The rows of both streams in the order in which they arrive: by time, on a tie the left row first.
use Rattle.std.specs.Prelude.{ℕ, List, [], ◌∷◌, int_le, if◌then◌else◌}
use Rattle.hj_value.specs.declared.field.Field.{Field}
use Rattle.hj_value.specs.Row.{time_of}
use Rattle.hj_base.specs.declared.numbers.Side.{Side}
use Rattle.hj_base.specs.declared.numbers.Side.TheVariants.{Left, Right}
use Rattle.hj_event.specs.declared.fault.RecordFault.{RecordFault}
use Rattle.hj_event.specs.Rows.{Rows, RowsEnd, clean as rows_clean, bad as rows_bad, unread as rows_unread}

pub record Arrival : Type 0 where
  pub side : Side
  pub row : List Field

-- How the merge ends: with both streams, in a bad record of a side, where a side was cut off, or where it would give one
-- event more than its limit.
pub data Ending : Type 0 where
  clean : Ending
  bad : (side : Side) (record_no : ℕ) → RecordFault → Ending
  unread : (side : Side) → Ending
  too_many : Ending

pub record Arrivals : Type 0 where
  pub rows : List Arrival
  pub ending : Ending

abbrev pub no_arrival : Ending → Arrivals
no_arrival ending = record { rows = []; ending = ending }

abbrev pub then_arrivals : Side → List Field → Arrivals → Arrivals
then_arrivals side row others = record { rows = record { side = side; row = row } ∷ others.rows; ending = others.ending }

-- A side's head that is a bad record or a missing read stops the merge; where the side has ended, the other's rows follow.
abbrev pub stop_or : Side → RowsEnd → Arrivals → Arrivals
stop_or side rows_clean others = others
stop_or side (rows_bad record_no found) others = no_arrival (bad side record_no found)
stop_or side rows_unread others = no_arrival (unread side)

-- The right rows alone, once the left side has ended.
abbrev pub right_only : List (List Field) → RowsEnd → Arrivals
right_only [] ending = stop_or Right ending (no_arrival clean)
right_only (row ∷ rows) ending = then_arrivals Right row (right_only rows ending)

-- The right rows that come before this left row, then the left row, and then what `behind` says of the right rows that are left.
abbrev pub left_among : List Field → (List (List Field) → Arrivals) → List (List Field) → RowsEnd → Arrivals
left_among row behind [] ending = stop_or Right ending (then_arrivals Left row (behind []))
left_among row behind (other ∷ others) ending =
    if int_le (time_of row) (time_of other) then then_arrivals Left row (behind (other ∷ others))
    else then_arrivals Right other (left_among row behind others ending)

-- Before each arrival the left head is looked at, and then the right one.
abbrev pub merge : List (List Field) → RowsEnd → List (List Field) → RowsEnd → Arrivals
merge [] left_end right right_end = stop_or Left left_end (right_only right right_end)
merge (row ∷ rows) left_end right right_end = left_among row (λ others. merge rows left_end others right_end) right right_end

-- The arrivals of two streams.
abbrev pub arrivals_of : Rows → Rows → Arrivals
arrivals_of left right = merge left.rows left.ending right.rows right.ending
