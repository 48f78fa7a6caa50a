-- Live rows, and which of them expire where a row arrives. A row of a time window is gone once it is as old as its window
-- is long; a row of a window of rows is gone once so many later rows of its side have arrived.
use Rattle.std.specs.Prelude.{ℕ, ◌+◌, ◌<◌, Bool, true, false, not, ◌&&◌, ◌==◌, ℤ, pos, ◌-ℤ◌, int_le, List, [], ◌∷◌, ◌++◌, length, filter, nat_lt, if◌then◌else◌, Some, None}
use Rattle.std.specs.declared.option.Option.{Option}
use Rattle.hj_base.specs.declared.numbers.Side.{Side}
use Rattle.hj_base.specs.declared.numbers.Side.TheVariants.{Left, Right}
use Rattle.hj_base.specs.declared.numbers.Window.{Window}
use Rattle.hj_base.specs.declared.numbers.Window.TheVariants.{Rows, Time}

-- a live row, by the number of its arrival
pub record LiveRow : Type 0 where
  pub no : ℕ
  pub side : Side
  pub time : ℤ

-- The live rows of both sides, in the order of their arrival, and the windows of the sides.
pub record LiveRows : Type 0 where
  pub left : Window
  pub right : Window
  pub rows : List LiveRow

abbrev pub window_of : LiveRows → Side → Window
window_of live Left = live.left
window_of live Right = live.right

abbrev pub is_same_side : Side → Side → Bool
is_same_side Left Left = true
is_same_side Left Right = false
is_same_side Right Left = false
is_same_side Right Right = true

-- the rows of one side
abbrev pub of_side : Side → List LiveRow → List LiveRow
of_side side rows = filter (λ row. is_same_side side row.side) rows

-- A row of this age is gone. Under a window of rows no age is too high.
abbrev pub is_gone_at : Window → ℤ → Bool
is_gone_at (Rows count) age = false
is_gone_at (Time span) age = int_le (pos span) age

-- the row is gone at this time, by its age
abbrev pub is_gone : LiveRows → ℤ → LiveRow → Bool
is_gone live now row = is_gone_at (window_of live row.side) (now -ℤ row.time)

-- The oldest of a side's rows, where they are more than the window holds. Under a time window no number is too high.
abbrev pub one_too_many : Window → List LiveRow → Option LiveRow
one_too_many (Time span) rows = None
one_too_many (Rows count) [] = None
one_too_many (Rows count) (oldest ∷ others) = if nat_lt count (length (oldest ∷ others)) then Some oldest else None

-- the rows but this one
abbrev pub without : Option LiveRow → List LiveRow → List LiveRow
without None rows = rows
without (Some gone) rows = filter (λ row. not (is_same_side gone.side row.side && gone.no == row.no)) rows

-- What comes of an arrival.
pub record Arrived : Type 0 where
  -- the rows that expire before it, in the order of their arrival
  pub before : List LiveRow
  -- the row that expires after it
  pub after : Option LiveRow
  -- what is live then
  pub live : LiveRows

-- A row of a side arrives at a time. The number is the one that it has if no row expires before it; each row that does
-- takes a number.
abbrev pub arrive : LiveRows → Side → ℤ → ℕ → Arrived
arrive live side time at =
    let before = filter (is_gone live time) live.rows in
    let row : LiveRow = record { no = at + length before; side = side; time = time } in
    let entered = filter (λ other. not (is_gone live time other)) live.rows ++ row ∷ [] in
    let after = one_too_many (window_of live side) (of_side side entered) in
    record { before = before; after = after; live = record live { rows = without after entered } }

-- Each row has a number above this one.
abbrev pub AllAbove : ℕ → List LiveRow → Type 0
AllAbove at [] = Unit {0}
AllAbove at (row ∷ rows) = (at < row.no) × AllAbove at rows

-- Each row has a number below this one.
abbrev pub AllBelow : ℕ → List LiveRow → Type 0
AllBelow at [] = Unit {0}
AllBelow at (row ∷ rows) = (row.no < at) × AllBelow at rows

-- The numbers rise from row to row.
abbrev pub IsInOrder : List LiveRow → Type 0
IsInOrder [] = Unit {0}
IsInOrder (row ∷ rows) = AllAbove row.no rows × IsInOrder rows
