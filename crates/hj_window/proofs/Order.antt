-- Rows in the order of their numbers.
use Rattle.std.proofs.Common.{◌≡◌, ℕ, ◌+◌, ◌<◌, ◌≤◌, Bool, true, false, not, cond, ℤ, List, [], ◌∷◌, ◌++◌, length, ap, ◌∙◌, sym, subst, arith, Some, None, Option}
use Rattle.std.specs.List.{filter}
use Rattle.std.proofs.lemmas.List.{length-map}
use Rattle.hj_base.specs.declared.numbers.EventNo.{EventNo}
use Rattle.hj_base.specs.declared.numbers.Side.{Side}
use Rattle.hj_window.specs.Numbers.{numbers_of}
use Rattle.hj_window.specs.LiveRows.{LiveRow, LiveRows, AllAbove, AllBelow, IsInOrder, is_gone, arrive, without, one_too_many, of_side, window_of}

pub above_filter : (test : LiveRow → Bool) (at : ℕ) (rows : List LiveRow) → AllAbove at rows → AllAbove at (filter test rows)
above_filter test at [] above = tt
above_filter test at (row ∷ rows) above = elim (test row) as (λ b. AllAbove at (cond b (row ∷ filter test rows) (filter test rows))) [
  | true ↦ (above.0, above_filter test at rows above.1)
  | false ↦ above_filter test at rows above.1
]

pub below_filter : (test : LiveRow → Bool) (at : ℕ) (rows : List LiveRow) → AllBelow at rows → AllBelow at (filter test rows)
below_filter test at [] below = tt
below_filter test at (row ∷ rows) below = elim (test row) as (λ b. AllBelow at (cond b (row ∷ filter test rows) (filter test rows))) [
  | true ↦ (below.0, below_filter test at rows below.1)
  | false ↦ below_filter test at rows below.1
]

pub in_order_filter : (test : LiveRow → Bool) (rows : List LiveRow) → IsInOrder rows → IsInOrder (filter test rows)
in_order_filter test [] order = tt
in_order_filter test (row ∷ rows) order = elim (test row) as (λ b. IsInOrder (cond b (row ∷ filter test rows) (filter test rows))) [
  | true ↦ (above_filter test row.no rows order.0, in_order_filter test rows order.1)
  | false ↦ in_order_filter test rows order.1
]

pub above_lower : (at lower : ℕ) (rows : List LiveRow) → lower ≤ at → AllAbove at rows → AllAbove lower rows
above_lower at lower [] less above = tt
above_lower at lower (row ∷ rows) less above = (omega arith, above_lower at lower rows less above.1)

pub below_higher : (at higher : ℕ) (rows : List LiveRow) → at ≤ higher → AllBelow at rows → AllBelow higher rows
below_higher at higher [] more below = tt
below_higher at higher (row ∷ rows) more below = (omega arith, below_higher at higher rows more below.1)

above_push : (at : ℕ) (rows : List LiveRow) (row : LiveRow) → AllAbove at rows → at < row.no → AllAbove at (rows ++ row ∷ [])
above_push at [] row above last = (last, tt)
above_push at (first ∷ rows) row above last = (above.0, above_push at rows row above.1 last)

pub below_push : (at : ℕ) (rows : List LiveRow) (row : LiveRow) → AllBelow at rows → row.no < at → AllBelow at (rows ++ row ∷ [])
below_push at [] row below last = (last, tt)
below_push at (first ∷ rows) row below last = (below.0, below_push at rows row below.1 last)

-- a row with a number above all others comes behind them
pub in_order_push : (rows : List LiveRow) (row : LiveRow) → IsInOrder rows → AllBelow row.no rows → IsInOrder (rows ++ row ∷ [])
in_order_push [] row order below = (tt, tt)
in_order_push (first ∷ rows) row order below = (above_push first.no rows row order.0 below.0, in_order_push rows row order.1 below.1)

-- Each row has this number or a higher one.
abbrev pub AllFrom : ℕ → List LiveRow → Type 0
AllFrom at [] = Unit {0}
AllFrom at (row ∷ rows) = (at ≤ row.no) × AllFrom at rows

pub from_filter : (test : LiveRow → Bool) (at : ℕ) (rows : List LiveRow) → AllFrom at rows → AllFrom at (filter test rows)
from_filter test at [] from = tt
from_filter test at (row ∷ rows) from = elim (test row) as (λ b. AllFrom at (cond b (row ∷ filter test rows) (filter test rows))) [
  | true ↦ (from.0, from_filter test at rows from.1)
  | false ↦ from_filter test at rows from.1
]

pub from_above : (at lower : ℕ) (rows : List LiveRow) → lower ≤ at + 1 → AllAbove at rows → AllFrom lower rows
from_above at lower [] less above = tt
from_above at lower (row ∷ rows) less above = (omega arith, from_above at lower rows less above.1)

in_order_without : (gone : Option LiveRow) (rows : List LiveRow) → IsInOrder rows → IsInOrder (without gone rows)
in_order_without None rows order = order
in_order_without (Some gone) rows order = in_order_filter _ rows order

below_without : (at : ℕ) (gone : Option LiveRow) (rows : List LiveRow) → AllBelow at rows → AllBelow at (without gone rows)
below_without at None rows below = below
below_without at (Some gone) rows below = below_filter _ at rows below

-- Where the numbers rise and that of the arrival is above them, they rise also behind the arrival.
pub arrive_in_order : (live : LiveRows) (side : Side) (time : ℤ) (at : ℕ) → IsInOrder live.rows → AllBelow at live.rows → IsInOrder (arrive live side time at).live.rows
arrive_in_order live side time at order below =
    let keeps : LiveRow → Bool = λ other. not (is_gone live time other) in
    let before : List LiveRow = filter (is_gone live time) live.rows in
    let row : LiveRow = record { no = at + length before; side = side; time = time } in
    in_order_without (one_too_many (window_of live side) (of_side side (filter keeps live.rows ++ row ∷ []))) (filter keeps live.rows ++ row ∷ [])
    (in_order_push (filter keeps live.rows) row (in_order_filter keeps live.rows order) (below_higher at row.no (filter keeps live.rows) (omega arith) (below_filter keeps at live.rows below)))

-- Then all live numbers are below the next one.
pub arrive_below : (live : LiveRows) (side : Side) (time : ℤ) (at : ℕ) → AllBelow at live.rows → AllBelow (at + length (arrive live side time at).before + 1) (arrive live side time at).live.rows
arrive_below live side time at below =
    let keeps : LiveRow → Bool = λ other. not (is_gone live time other) in
    let before : List LiveRow = filter (is_gone live time) live.rows in
    let row : LiveRow = record { no = at + length before; side = side; time = time } in
    below_without (at + length before + 1) (one_too_many (window_of live side) (of_side side (filter keeps live.rows ++ row ∷ []))) (filter keeps live.rows ++ row ∷ [])
    (below_push (at + length before + 1) (filter keeps live.rows) row (below_higher at (at + length before + 1) (filter keeps live.rows) (omega arith) (below_filter keeps at live.rows below)) (omega arith))

-- What is live after an arrival is below each number from the next event's on.
pub live_below : (live after : LiveRows) (side : Side) (time : ℤ) (at next : ℕ) (before : List (Side × EventNo)) → AllBelow at live.rows → before ≡ numbers_of (arrive live side time at).before
    → after ≡ (arrive live side time at).live → at + length before + 1 ≤ next → AllBelow next after.rows
live_below live after side time at next before below expired is behind =
    let count : length before ≡ length (arrive live side time at).before = ap length expired ∙ length-map _ _ in
    subst (λ (l : LiveRows). AllBelow next l.rows) (sym is) (below_higher _ next _ (omega arith) (arrive_below live side time at below))
