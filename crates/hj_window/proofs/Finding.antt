-- The rows that are gone by their age, found one after another on both sides.
use Rattle.std.proofs.Common.{◌≡◌, true, false, cond, ltb, ℤ, ◌-ℤ◌, refl, List, [], ◌∷◌, ◌++◌, drop, sym, ap, ◌∙◌, subst, Some, None, Option, unwrap_or, append_assoc}
use Rattle.std.specs.List.{filter}
use Rattle.hj_base.specs.declared.numbers.EventNo.{EventNo}
use Rattle.hj_base.specs.declared.numbers.Side.{Side}
use Rattle.hj_base.specs.declared.numbers.Side.TheVariants.{Left, Right}
use Rattle.hj_window.specs.declared.side_rows.AgedRow.{AgedRow}
use Rattle.hj_base.specs.declared.numbers.Window.{Window}
use Rattle.hj_base.specs.declared.numbers.Window.TheVariants.{Rows, Time}
use Rattle.hj_window.specs.LiveRows.{LiveRow, LiveRows, IsInOrder, is_gone, is_gone_at, window_of}
use Rattle.hj_window.specs.Numbers.{number_of, numbers_of}
use Rattle.hj_window.specs.SideRows.{SideRowsState, aged, counts_rows, due_rows, first_of}
use Rattle.hj_window.specs.LiveView.{live_row, live_rows, among, merged, live_of}
use Rattle.hj_window.proofs.Order.{in_order_filter}
use Rattle.hj_window.proofs.Merging.{filter_merged, filter_seen, lefts_of, rights_of}

never_gone : (window : Window) (age : ℤ) → counts_rows window ≡ true → is_gone_at window age ≡ false
never_gone (Rows count) age counts = refl
never_gone (Time span) age counts = cc

stays_on : (live : LiveRows) (side : Side) (age : ℤ) → counts_rows live.left ≡ true → counts_rows live.right ≡ true → is_gone_at (window_of live side) age ≡ false
stays_on live Left age left right = never_gone live.left age left
stays_on live Right age left right = never_gone live.right age right

-- where both windows count their rows, none is gone by its age
pub none_gone : (live : LiveRows) (now : ℤ) (rows : List LiveRow) → counts_rows live.left ≡ true → counts_rows live.right ≡ true → filter (is_gone live now) rows ≡ []
none_gone live now [] left right = refl
none_gone live now (row ∷ rows) left right =
    ap (λ b. cond b (row ∷ filter (is_gone live now) rows) (filter (is_gone live now) rows)) (stays_on live row.side (now -ℤ row.time) left right) ∙ none_gone live now rows left right

-- the rows that are still to be answered
abbrev pub still_due : ℤ → SideRowsState → SideRowsState → Option AgedRow → Option AgedRow → List LiveRow
still_due now left right first other = merged (live_rows Left (due_rows left.window now left.rows first)) (live_rows Right (due_rows right.window now right.rows other))

pub lefts_in_order : (left right : SideRowsState) → IsInOrder (live_of left right).rows → IsInOrder (live_rows Left left.rows)
lefts_in_order left right order = subst IsInOrder (lefts_of left.rows right.rows) (in_order_filter _ (live_of left right).rows order)

pub rights_in_order : (left right : SideRowsState) → IsInOrder (live_of left right).rows → IsInOrder (live_rows Right right.rows)
rights_in_order left right order = subst IsInOrder (rights_of left.rows right.rows) (in_order_filter _ (live_of left right).rows order)

-- at first all are
pub all_due : (live : LiveRows) (now : ℤ) (left right : SideRowsState) (first other : Option AgedRow) → live_of left right ≡ live → IsInOrder (live_of left right).rows
    → aged left.window now left.rows ≡ due_rows left.window now left.rows first → aged right.window now right.rows ≡ due_rows right.window now right.rows other
    → filter (is_gone live now) live.rows ≡ still_due now left right first other
all_due live now left right first other seen order left_due right_due =
    let gone = is_gone (live_of left right) now in
    subst (λ (l : LiveRows). filter (is_gone l now) l.rows ≡ still_due now left right first other) seen
    (filter_merged gone (live_rows Left left.rows) (live_rows Right right.rows) (lefts_in_order left right order) (rights_in_order left right order)
    ∙ ap (λ l. merged l (filter gone (live_rows Right right.rows))) (filter_seen gone Left left.rows ∙ ap (live_rows Left) left_due)
    ∙ ap (merged (live_rows Left (due_rows left.window now left.rows first))) (filter_seen gone Right right.rows ∙ ap (live_rows Right) right_due))

abbrev pub found : Side → AgedRow → Option (Side × AgedRow)
found side due = Some (side, due)

same_side : (side other : Side) (due next : AgedRow) → found side due ≡ found other next → side ≡ other
same_side side other due next is = ap (λ o. (unwrap_or {T = Side × AgedRow} o (side, due)).0) is

same_due : (side other : Side) (due next : AgedRow) → found side due ≡ found other next → due ≡ next
same_due side other due next is = ap (λ o. (unwrap_or {T = Side × AgedRow} o (side, due)).1) is

right_isn't_left : (due next : AgedRow) → found Right due ≡ found Left next → ⊥
right_isn't_left due next is = let sides : Right ≡ Left = same_side Right Left due next is in cc

-- the side of the row that was found
pub found_on : (side wanted : Side) (due : AgedRow) (answer : Option (Side × AgedRow)) → found side due ≡ answer → side ≡ wanted → answer ≡ found wanted due
found_on side wanted due answer is of = sym is ∙ ap (λ s. found s due) of

-- where the left row is the first of two, it comes first
left_first : (now : ℤ) (left right : SideRowsState) (first other : Option AgedRow) (due : AgedRow) → first_of first other ≡ found Left due
    → still_due now left right first other ≡ live_row Left due.held ∷ merged (live_rows Left (aged left.window now (drop due.next left.rows))) (live_rows Right (due_rows right.window now right.rows other))
left_first now left right None None due is = cc
left_first now left right None (Some other) due is = absurd (right_isn't_left other due is)
left_first now left right (Some first) None due is =
    ap (λ (d : AgedRow). live_row Left d.held ∷ merged (live_rows Left (aged left.window now (drop d.next left.rows))) []) (same_due Left Left first due is)
left_first now left right (Some first) (Some other) due is =
    let lefts = live_rows Left (aged left.window now (drop first.next left.rows)) in
    let rights = live_rows Right (aged right.window now (drop other.next right.rows)) in
    elim (ltb first.held.no.0 other.held.no.0) as (λ b. cond b (found Left first) (found Right other) ≡ found Left due
    → cond b (live_row Left first.held ∷ merged lefts (live_row Right other.held ∷ rights)) (live_row Right other.held ∷ among (live_row Left first.held) (merged lefts) rights)
    ≡ live_row Left due.held ∷ merged (live_rows Left (aged left.window now (drop due.next left.rows))) (live_row Right other.held ∷ rights)) [
      | true ↦ λ is'. ap (λ (d : AgedRow). live_row Left d.held ∷ merged (live_rows Left (aged left.window now (drop d.next left.rows))) (live_row Right other.held ∷ rights)) (same_due Left Left first due is')
      | false ↦ λ is'. absurd (right_isn't_left other due is')
    ] is

-- and so the right one
right_first : (now : ℤ) (left right : SideRowsState) (first other : Option AgedRow) (due : AgedRow) → first_of first other ≡ found Right due
    → still_due now left right first other ≡ live_row Right due.held ∷ merged (live_rows Left (due_rows left.window now left.rows first)) (live_rows Right (aged right.window now (drop due.next right.rows)))
right_first now left right None None due is = cc
right_first now left right None (Some other) due is =
    ap (λ (d : AgedRow). live_row Right d.held ∷ live_rows Right (aged right.window now (drop d.next right.rows))) (same_due Right Right other due is)
right_first now left right (Some first) None due is = absurd (right_isn't_left due first (sym is))
right_first now left right (Some first) (Some other) due is =
    let lefts = live_rows Left (aged left.window now (drop first.next left.rows)) in
    let rights = live_rows Right (aged right.window now (drop other.next right.rows)) in
    elim (ltb first.held.no.0 other.held.no.0) as (λ b. cond b (found Left first) (found Right other) ≡ found Right due
    → cond b (live_row Left first.held ∷ merged lefts (live_row Right other.held ∷ rights)) (live_row Right other.held ∷ among (live_row Left first.held) (merged lefts) rights)
    ≡ live_row Right due.held ∷ merged (live_row Left first.held ∷ lefts) (live_rows Right (aged right.window now (drop due.next right.rows)))) [
      | true ↦ λ is'. absurd (right_isn't_left due first (sym is'))
      | false ↦ λ is'. ap (λ (d : AgedRow). live_row Right d.held ∷ merged (live_row Left first.held ∷ lefts) (live_rows Right (aged right.window now (drop d.next right.rows)))) (same_due Right Right other due is')
    ] is

answered : (row : LiveRow) (rest all due : List LiveRow) (before after : List (Side × EventNo)) → numbers_of all ≡ before ++ numbers_of due → due ≡ row ∷ rest
    → after ≡ before ++ (row.side, number_of row) ∷ [] → numbers_of all ≡ after ++ numbers_of rest
answered row rest all due before after so_far next is =
    so_far ∙ ap (λ l. before ++ numbers_of l) next ∙ sym (append_assoc before ((row.side, number_of row) ∷ []) (numbers_of rest)) ∙ ap (λ l. l ++ numbers_of rest) (sym is)

-- a left row was answered, and the next one of its side was looked for
pub answered_left : (now : ℤ) (left right : SideRowsState) (first other next : Option AgedRow) (due : AgedRow) (all : List LiveRow) (before after : List (Side × EventNo))
    → numbers_of all ≡ before ++ numbers_of (still_due now left right first other) → first_of first other ≡ found Left due → after ≡ before ++ (Left, due.held.no) ∷ []
    → aged left.window now (drop due.next left.rows) ≡ due_rows left.window now left.rows next → numbers_of all ≡ after ++ numbers_of (still_due now left right next other)
answered_left now left right first other next due all before after so_far is grown behind =
    answered (live_row Left due.held) (merged (live_rows Left (aged left.window now (drop due.next left.rows))) (live_rows Right (due_rows right.window now right.rows other))) all (still_due now left right first other) before after so_far
    (left_first now left right first other due is) grown
    ∙ ap (λ l. after ++ numbers_of (merged (live_rows Left l) (live_rows Right (due_rows right.window now right.rows other)))) behind

-- and so a right row
pub answered_right : (now : ℤ) (left right : SideRowsState) (first other next : Option AgedRow) (due : AgedRow) (all : List LiveRow) (before after : List (Side × EventNo))
    → numbers_of all ≡ before ++ numbers_of (still_due now left right first other) → first_of first other ≡ found Right due → after ≡ before ++ (Right, due.held.no) ∷ []
    → aged right.window now (drop due.next right.rows) ≡ due_rows right.window now right.rows next → numbers_of all ≡ after ++ numbers_of (still_due now left right first next)
answered_right now left right first other next due all before after so_far is grown behind =
    answered (live_row Right due.held) (merged (live_rows Left (due_rows left.window now left.rows first)) (live_rows Right (aged right.window now (drop due.next right.rows)))) all (still_due now left right first other) before after so_far
    (right_first now left right first other due is) grown
    ∙ ap (λ l. after ++ numbers_of (merged (live_rows Left (due_rows left.window now left.rows first)) (live_rows Right l))) behind
