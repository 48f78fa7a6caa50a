-- The rows of one side that are gone by their age, and the order of the times.
use Rattle.std.proofs.Common.{◌≡◌, ℕ, ◌+◌, ◌-◌, ◌<◌, ◌≤◌, true, false, not, cond, ℤ, ◌-ℤ◌, ◌≤ℤ◌, zero, suc, List, [], ◌∷◌, ◌++◌, length, get_or, drop, refl, sym, ap, ◌∙◌, subst, arith}
use Rattle.std.proofs.lemmas.Int.{ints}
use Rattle.std.proofs.lemmas.List.{drop_more}
use Rattle.std.proofs.lemmas.List.Filters.{length-filter_both}
use Rattle.hj_base.specs.declared.numbers.Window.{Window}
use Rattle.hj_base.specs.declared.numbers.Window.TheVariants.{Rows, Time}
use Rattle.hj_window.specs.declared.side_rows.HeldRow.{HeldRow}
use Rattle.hj_window.specs.LiveRows.{is_gone_at}
use Rattle.hj_window.specs.SideRows.{NoneBefore, IsInTime, counts_rows, is_aged, aged, unaged}

none_by_rows : (count : ℕ) (now : ℤ) (rows : List HeldRow) → aged (Rows count) now rows ≡ []
none_by_rows count now [] = refl
none_by_rows count now (held ∷ rows) = none_by_rows count now rows

-- under a window of rows no row is aged
pub none_aged : (window : Window) (count : ℕ) (now : ℤ) (rows : List HeldRow) → window ≡ Rows count → aged window now rows ≡ []
none_aged window count now rows is = subst (λ w. aged w now rows ≡ []) (sym is) (none_by_rows count now rows)

-- a row that came later is no older
pub later_is_younger : (window : Window) (now time later : ℤ) → time ≤ℤ later → is_gone_at window (now -ℤ time) ≡ false → is_gone_at window (now -ℤ later) ≡ false
later_is_younger (Rows count) now time later order young = refl
later_is_younger (Time span) now time later order young = grind (arith, ints)

none_before_aged : (window : Window) (now time : ℤ) (rows : List HeldRow) → NoneBefore time rows → is_gone_at window (now -ℤ time) ≡ false → aged window now rows ≡ []
none_before_aged window now time [] order young = refl
none_before_aged window now time (held ∷ rows) order young =
    subst (λ b. cond b (held ∷ aged window now rows) (aged window now rows) ≡ []) (sym (later_is_younger window now time held.time order.0 young)) (none_before_aged window now time rows order.1 young)

-- where the times never fall and the first row isn't aged, none is
pub none_behind : (window : Window) (now : ℤ) (held : HeldRow) (rows : List HeldRow) → IsInTime (held ∷ rows) → is_aged window now held ≡ false → aged window now (held ∷ rows) ≡ []
none_behind window now held rows order young =
    subst (λ b. cond b (held ∷ aged window now rows) (aged window now rows) ≡ []) (sym young) (none_before_aged window now held.time rows order.0 young)

-- where no row is aged, all stay
pub all_unaged : (window : Window) (now : ℤ) (rows : List HeldRow) → aged window now rows ≡ [] → unaged window now rows ≡ rows
all_unaged window now [] none = refl
all_unaged window now (held ∷ rows) none = elim (is_aged window now held) as (λ b. cond b (held ∷ aged window now rows) (aged window now rows) ≡ [] → cond (not b) (held ∷ unaged window now rows) (unaged window now rows) ≡ held ∷ rows) [
  | true ↦ λ bad. cc
  | false ↦ λ none'. ap (λ l. held ∷ l) (all_unaged window now rows none')
] none

-- under a window that counts its rows all stay
pub counted_stay : (window : Window) (now : ℤ) (rows : List HeldRow) → counts_rows window ≡ true → unaged window now rows ≡ rows
counted_stay (Rows count) now rows counts = all_unaged (Rows count) now rows (none_by_rows count now rows)
counted_stay (Time span) now rows counts = cc

in_time_drop : (rows : List HeldRow) (at : ℕ) → IsInTime rows → IsInTime (drop at rows)
in_time_drop [] zero order = tt
in_time_drop [] (suc at) order = tt
in_time_drop (held ∷ rows) zero order = order
in_time_drop (held ∷ rows) (suc at) order = in_time_drop rows at order.1

drop_here : (rows : List HeldRow) (at : ℕ) (held : HeldRow) → at < length rows → held ≡ get_or rows at held → drop at rows ≡ held ∷ drop (at + 1) rows
drop_here rows at held below read = drop_more rows at held below ∙ ap (λ x. x ∷ drop (at + 1) rows) (sym read)

-- and where the times never fall
pub aged_nowhere : (window : Window) (now : ℤ) (rows : List HeldRow) (at : ℕ) (held : HeldRow) → at < length rows → held ≡ get_or rows at held → is_aged window now held ≡ false → IsInTime rows
    → aged window now (drop at rows) ≡ []
aged_nowhere window now rows at held below read young order =
    let here = drop_here rows at held below read in
    ap (aged window now) here ∙ none_behind window now held (drop (at + 1) rows) (subst IsInTime here (in_time_drop rows at order)) young

none_before_at : (time : ℤ) (rows : List HeldRow) (at : ℕ) (other : HeldRow) → NoneBefore time rows → at < length rows → time ≤ℤ (get_or rows at other).time
none_before_at time [] at other order below = absurd (omega arith)
none_before_at time (held ∷ rows) zero other order below = order.0
none_before_at time (held ∷ rows) (suc at) other order below = none_before_at time rows at other order.1 (omega arith)

in_time_at : (rows : List HeldRow) (at later : ℕ) (other : HeldRow) → IsInTime rows → at ≤ later → later < length rows → (get_or rows at other).time ≤ℤ (get_or rows later other).time
in_time_at [] at later other order from below = absurd (omega arith)
in_time_at (held ∷ rows) zero zero other order from below = omega (arith, ints)
in_time_at (held ∷ rows) zero (suc later) other order from below = none_before_at held.time rows later other order.0 (omega arith)
in_time_at (held ∷ rows) (suc at) zero other order from below = absurd (omega arith)
in_time_at (held ∷ rows) (suc at) (suc later) other order from below = in_time_at rows at later other order.1 (omega arith) (omega arith)

none_before_push : (time : ℤ) (rows : List HeldRow) (held : HeldRow) → NoneBefore time rows → time ≤ℤ held.time → NoneBefore time (rows ++ held ∷ [])
none_before_push time [] held order last = (last, tt)
none_before_push time (first ∷ rows) held order last = (order.0, none_before_push time rows held order.1 last)

in_time_behind : (rows : List HeldRow) (held other : HeldRow) → IsInTime rows → ((at : ℕ) → at < length rows → (get_or rows at other).time ≤ℤ held.time) → IsInTime (rows ++ held ∷ [])
in_time_behind [] held other order last = (tt, tt)
in_time_behind (first ∷ rows) held other order last =
    (none_before_push first.time rows held order.0 (last 0 (omega arith)), in_time_behind rows held other order.1 (λ at below. last (suc at) (omega arith)))

-- a row that isn't older than the newest comes behind it
pub in_time_push : (rows : List HeldRow) (newest held : HeldRow) (len : ℕ) → IsInTime rows → len ≡ length rows → 0 < len → newest ≡ get_or rows (len - 1) newest → newest.time ≤ℤ held.time → IsInTime (rows ++ held ∷ [])
in_time_push rows newest held len order count some read last =
    in_time_behind rows held newest order
    (λ at below. let upto : (get_or rows at newest).time ≤ℤ newest.time = subst (λ (h : HeldRow). (get_or rows at newest).time ≤ℤ h.time) (sym read) (in_time_at rows at (len - 1) newest order (omega arith) (omega arith)) in omega (arith, ints))

-- where the times never fall and the first row isn't aged, all stay
pub all_stay : (window : Window) (now : ℤ) (rows : List HeldRow) (held : HeldRow) → 0 < length rows → held ≡ get_or rows 0 held → is_aged window now held ≡ false → IsInTime rows → rows ≡ unaged window now rows
all_stay window now rows held some read young order = sym (all_unaged window now rows (aged_nowhere window now rows 0 held some read young order))

-- where the aged rows leave, they leave room
pub room_left : (window : Window) (now : ℤ) (rows : List HeldRow) (cap cap' len len' : ℕ) → len ≡ length rows → len' ≡ length (unaged window now rows) → cap' ≡ cap → len ≤ cap → cap - len + length (aged window now rows) ≤ cap' - len'
room_left window now rows cap cap' len len' before behind same fits =
    let all : length (aged window now rows) + length (unaged window now rows) ≡ length rows = length-filter_both (is_aged window now) (λ held. not (is_aged window now held)) (λ _. refl) rows in
    omega arith
