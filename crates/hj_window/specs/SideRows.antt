-- What is seen of the live rows of one side.
use Rattle.std.specs.Prelude.{◌≡◌, ℕ, true, false, not, Bool, ℤ, ◌-ℤ◌, ◌≤ℤ◌, List, [], ◌∷◌, ◌++◌, length, filter, drop, nat_lt, if◌then◌else◌, Some, None}
use Rattle.std.specs.declared.option.Option.{Option}
use Rattle.hj_base.specs.declared.numbers.EventNo.{EventNo}
use Rattle.hj_base.specs.declared.numbers.Side.{Side}
use Rattle.hj_base.specs.declared.numbers.Side.TheVariants.{Left, Right}
use Rattle.hj_base.specs.declared.numbers.Window.{Window}
use Rattle.hj_base.specs.declared.numbers.Window.TheVariants.{Rows, Time}
use Rattle.hj_window.specs.declared.side_rows.HeldRow.{HeldRow}
use Rattle.hj_window.specs.declared.side_rows.AgedRow.{AgedRow}
use Rattle.hj_window.specs.LiveRows.{is_gone_at}

pub record SideRowsState : Type 0 where
  pub window : Window
  -- the rows, the oldest first
  pub rows : List HeldRow
  -- for how many more rows there is room
  pub room : ℕ

-- No row's time is below this one.
abbrev pub NoneBefore : ℤ → List HeldRow → Type 0
NoneBefore time [] = Unit {0}
NoneBefore time (held ∷ rows) = (time ≤ℤ held.time) × NoneBefore time rows

-- The times never fall.
abbrev pub IsInTime : List HeldRow → Type 0
IsInTime [] = Unit {0}
IsInTime (held ∷ rows) = NoneBefore held.time rows × IsInTime rows

-- what the mark of a side says
abbrev pub OnceInTime : Bool → List HeldRow → Type 0
OnceInTime mark rows = mark ≡ true → IsInTime rows

abbrev pub is_aged : Window → ℤ → HeldRow → Bool
is_aged window now held = is_gone_at window (now -ℤ held.time)

-- the rows that are gone by their age, and the others
abbrev pub aged : Window → ℤ → List HeldRow → List HeldRow
aged window now rows = filter (is_aged window now) rows

abbrev pub unaged : Window → ℤ → List HeldRow → List HeldRow
unaged window now rows = filter (λ held. not (is_aged window now held)) rows

-- Under a window that counts its rows none is aged.
abbrev pub counts_rows : Window → Bool
counts_rows (Rows count) = true
counts_rows (Time span) = false

-- whether the window counts its rows, and holds one more
abbrev pub has_room : Window → List HeldRow → Bool
has_room (Rows count) rows = nat_lt (length rows) count
has_room (Time span) rows = false

-- an aged row that was found, and those behind it
abbrev pub due_rows : Window → ℤ → List HeldRow → Option AgedRow → List HeldRow
due_rows window now rows None = []
due_rows window now rows (Some due) = due.held ∷ aged window now (drop due.next rows)

-- the one of two rows that arrived first; the right one where the numbers are the same
abbrev pub first_of : Option AgedRow → Option AgedRow → Option (Side × AgedRow)
first_of None None = None
first_of (Some left) None = Some (Left, left)
first_of None (Some right) = Some (Right, right)
first_of (Some left) (Some right) = if nat_lt left.held.no.0 right.held.no.0 then Some (Left, left) else Some (Right, right)

-- Where there are more rows than the window holds, the first leaves, and its number is answered.
pub record Overflow : Type 0 where
  pub gone : Option EventNo
  pub rows : List HeldRow

abbrev pub overflow : Window → List HeldRow → Overflow
overflow (Time span) rows = record { gone = None; rows = rows }
overflow (Rows count) [] = record { gone = None; rows = [] }
overflow (Rows count) (oldest ∷ others) =
    if nat_lt count (length (oldest ∷ others)) then record { gone = Some oldest.no; rows = others }
    else record { gone = None; rows = oldest ∷ others }

-- The same rows under the same window; the room may be another.
abbrev pub IsAsBefore : SideRowsState → SideRowsState → Type 0
IsAsBefore old new = (new.window ≡ old.window) × (new.rows ≡ old.rows)

-- the side's rows behind an arrival: the aged ones are gone, and the new one is the last
abbrev pub entered : SideRowsState → HeldRow → List HeldRow
entered old held = unaged old.window held.time old.rows ++ held ∷ []
