-- What an arrival leaves on both sides is what it leaves of the rows of both sides, by number.
use Rattle.std.proofs.Common.{◌≡◌, ℕ, ◌+◌, Bool, true, false, not, ◌&&◌, ◌==◌, cond, ltb, suc, ℤ, List, [], ◌∷◌, ◌++◌, length, refl, sym, ap, ◌∙◌, subst, arith, Some, None}
use Rattle.std.specs.List.{filter}
use Rattle.std.proofs.lemmas.List.{map-append, length-map}
use Rattle.std.proofs.lemmas.Bool.Decides.{nat_tests}
use Rattle.hj_base.specs.declared.numbers.Side.{Side}
use Rattle.hj_base.specs.declared.numbers.Side.TheVariants.{Left, Right}
use Rattle.hj_base.specs.declared.numbers.Window.{Window}
use Rattle.hj_base.specs.declared.numbers.Window.TheVariants.{Rows, Time}
use Rattle.hj_window.specs.declared.side_rows.HeldRow.{HeldRow}
use Rattle.hj_window.specs.LiveRows.{LiveRow, LiveRows, AllAbove, AllBelow, IsInOrder, is_gone, is_same_side, window_of, of_side, one_too_many, without, Arrived, arrive}
use Rattle.hj_window.specs.Numbers.{number_of_some}
use Rattle.hj_window.specs.SideRows.{SideRowsState, unaged, Overflow, overflow, entered}
use Rattle.hj_window.specs.LiveView.{live_row, live_rows, merged, live_of}
use Rattle.hj_window.proofs.Order.{below_filter, below_higher, in_order_filter, in_order_push, arrive_in_order}
use Rattle.hj_window.proofs.Merging.{filter_merged, filter_seen, lefts_of, rights_of, push_left, push_right}
use Rattle.hj_window.proofs.Finding.{lefts_in_order, rights_in_order}

-- the oldest of a side's rows, where they are too many
oldest_seen : (count : ℕ) (side : Side) (oldest : HeldRow) (others : List HeldRow) → one_too_many (Rows count) (live_rows side (oldest ∷ others)) ≡ cond (ltb count (length (oldest ∷ others))) (Some (live_row side oldest)) None
oldest_seen count side oldest others = ap (λ n. cond (ltb count (suc n)) (Some (live_row side oldest)) None) (length-map others (live_row side))

-- the number of the row that leaves
pub gone_seen : (window : Window) (side : Side) (rows : List HeldRow) → (overflow window rows).gone ≡ number_of_some (one_too_many window (live_rows side rows))
gone_seen (Time span) side rows = refl
gone_seen (Rows count) side [] = refl
gone_seen (Rows count) side (oldest ∷ others) = elim (ltb count (length (oldest ∷ others))) as (λ b. (cond b (let left : Overflow = record { gone = Some oldest.no; rows = others } in left) (record { gone = None; rows = oldest ∷ others })).gone ≡ number_of_some (cond b (Some (live_row side oldest)) None)) [
  | true ↦ refl
  | false ↦ refl
] ∙ ap number_of_some (sym (oldest_seen count side oldest others))

none_leaves : (gone : LiveRow) (rows : List LiveRow) → AllAbove gone.no rows → without (Some gone) rows ≡ rows
none_leaves gone [] above = refl
none_leaves gone (row ∷ rows) above =
    let differs : (gone.no == row.no) ≡ false = grind (arith, nat_tests) in
    let stays : not (is_same_side gone.side row.side && (gone.no == row.no)) ≡ true = ap (λ b. not (is_same_side gone.side row.side && b)) differs ∙ elim (is_same_side gone.side row.side) as (λ b. not (b && false) ≡ true) [ true ↦ refl | false ↦ refl ] in
    ap (λ b. cond b (row ∷ without (Some gone) rows) (without (Some gone) rows)) stays ∙ ap (λ l. row ∷ l) (none_leaves gone rows above.1)

same_itself : (side : Side) → is_same_side side side ≡ true
same_itself Left = refl
same_itself Right = refl

-- the first row of a side leaves alone
first_leaves : (row : LiveRow) (rows : List LiveRow) → AllAbove row.no rows → without (Some row) (row ∷ rows) ≡ rows
first_leaves row rows above =
    let itself : (row.no == row.no) ≡ true = grind (arith, nat_tests) in
    let leaves : not (is_same_side row.side row.side && (row.no == row.no)) ≡ false = ap (λ b. not (b && (row.no == row.no))) (same_itself row.side) ∙ ap (λ b. not b) itself in
    ap (λ b. cond b (row ∷ without (Some row) rows) (without (Some row) rows)) leaves ∙ none_leaves row rows above

-- the rows of the other side stay
others_stay : (gone : LiveRow) (side : Side) (rows : List HeldRow) → is_same_side gone.side side ≡ false → without (Some gone) (live_rows side rows) ≡ live_rows side rows
others_stay gone side [] differs = refl
others_stay gone side (held ∷ rows) differs =
    ap (λ b. cond (not (b && (gone.no == held.no.0))) (live_row side held ∷ without (Some gone) (live_rows side rows)) (without (Some gone) (live_rows side rows))) differs
    ∙ ap (λ l. live_row side held ∷ l) (others_stay gone side rows differs)

without_left : (window : Window) (rows others : List HeldRow) → IsInOrder (live_rows Left rows) → IsInOrder (live_rows Right others)
    → without (one_too_many window (live_rows Left rows)) (merged (live_rows Left rows) (live_rows Right others)) ≡ merged (live_rows Left (overflow window rows).rows) (live_rows Right others)
without_left (Time span) rows others order order' = refl
without_left (Rows count) [] others order order' = refl
without_left (Rows count) (oldest ∷ rows) others order order' =
    let all = merged (live_rows Left (oldest ∷ rows)) (live_rows Right others) in
    ap (λ gone. without gone all) (oldest_seen count Left oldest rows)
    ∙ elim (ltb count (length (oldest ∷ rows))) as (λ b. without (cond b (Some (live_row Left oldest)) None) all ≡ merged (live_rows Left (cond b (let left : Overflow = record { gone = Some oldest.no; rows = rows } in left) (record { gone = None; rows = oldest ∷ rows })).rows) (live_rows Right others)) [
      | true ↦ filter_merged _ (live_rows Left (oldest ∷ rows)) (live_rows Right others) order order'
          ∙ ap (λ l. merged l (without (Some (live_row Left oldest)) (live_rows Right others))) (first_leaves (live_row Left oldest) (live_rows Left rows) order.0)
          ∙ ap (merged (live_rows Left rows)) (others_stay (live_row Left oldest) Right others refl)
      | false ↦ refl
    ]

without_right : (window : Window) (rows others : List HeldRow) → IsInOrder (live_rows Left rows) → IsInOrder (live_rows Right others)
    → without (one_too_many window (live_rows Right others)) (merged (live_rows Left rows) (live_rows Right others)) ≡ merged (live_rows Left rows) (live_rows Right (overflow window others).rows)
without_right (Time span) rows others order order' = refl
without_right (Rows count) rows [] order order' = refl
without_right (Rows count) rows (oldest ∷ others) order order' =
    let all = merged (live_rows Left rows) (live_rows Right (oldest ∷ others)) in
    ap (λ gone. without gone all) (oldest_seen count Right oldest others)
    ∙ elim (ltb count (length (oldest ∷ others))) as (λ b. without (cond b (Some (live_row Right oldest)) None) all ≡ merged (live_rows Left rows) (live_rows Right (cond b (let left : Overflow = record { gone = Some oldest.no; rows = others } in left) (record { gone = None; rows = oldest ∷ others })).rows)) [
      | true ↦ filter_merged _ (live_rows Left rows) (live_rows Right (oldest ∷ others)) order order'
          ∙ ap (λ l. merged (without (Some (live_row Right oldest)) (live_rows Left rows)) l) (first_leaves (live_row Right oldest) (live_rows Right others) order'.0)
          ∙ ap (λ l. merged l (live_rows Right others)) (others_stay (live_row Right oldest) Left rows refl)
      | false ↦ refl
    ]

-- the rows that stay at an arrival
abbrev stays : LiveRows → ℤ → LiveRow → Bool
stays live time row = not (is_gone live time row)

rows_that_stay : (left right : SideRowsState) (time : ℤ) → IsInOrder (live_of left right).rows
    → filter (stays (live_of left right) time) (live_of left right).rows ≡ merged (live_rows Left (unaged left.window time left.rows)) (live_rows Right (unaged right.window time right.rows))
rows_that_stay left right time order =
    let test = stays (live_of left right) time in
    filter_merged test (live_rows Left left.rows) (live_rows Right right.rows) (lefts_in_order left right order) (rights_in_order left right order)
    ∙ ap (λ l. merged l (filter test (live_rows Right right.rows))) (filter_seen test Left left.rows)
    ∙ ap (merged (live_rows Left (unaged left.window time left.rows))) (filter_seen test Right right.rows)

below_lefts : (left right : SideRowsState) (time : ℤ) (at : ℕ) → AllBelow at (live_of left right).rows → AllBelow at (live_rows Left (unaged left.window time left.rows))
below_lefts left right time at below =
    let test = stays (live_of left right) time in
    subst (AllBelow at) (filter_seen test Left left.rows) (below_filter test at (live_rows Left left.rows) (subst (AllBelow at) (lefts_of left.rows right.rows) (below_filter _ at (live_of left right).rows below)))

below_rights : (left right : SideRowsState) (time : ℤ) (at : ℕ) → AllBelow at (live_of left right).rows → AllBelow at (live_rows Right (unaged right.window time right.rows))
below_rights left right time at below =
    let test = stays (live_of left right) time in
    subst (AllBelow at) (filter_seen test Right right.rows) (below_filter test at (live_rows Right right.rows) (subst (AllBelow at) (rights_of left.rows right.rows) (below_filter _ at (live_of left right).rows below)))

entered_left : (left right : SideRowsState) (held : HeldRow) → IsInOrder (live_of left right).rows
    → AllBelow held.no.0 (live_of left right).rows
    → filter (stays (live_of left right) held.time) (live_of left right).rows ++ live_row Left held ∷ [] ≡ merged (live_rows Left (entered left held)) (live_rows Right (unaged right.window held.time right.rows))
entered_left left right held order below =
    let lefts = unaged left.window held.time left.rows in
    let rights = unaged right.window held.time right.rows in
    ap (λ l. l ++ live_row Left held ∷ []) (rows_that_stay left right held.time order)
    ∙ push_left (live_rows Left lefts) (live_rows Right rights) (live_row Left held) (below_rights left right held.time held.no.0 below)
    ∙ ap (λ l. merged l (live_rows Right rights)) (sym (map-append (live_row Left) lefts (held ∷ [])))

entered_right : (left right : SideRowsState) (held : HeldRow) → IsInOrder (live_of left right).rows
    → AllBelow held.no.0 (live_of left right).rows
    → filter (stays (live_of left right) held.time) (live_of left right).rows ++ live_row Right held ∷ [] ≡ merged (live_rows Left (unaged left.window held.time left.rows)) (live_rows Right (entered right held))
entered_right left right held order below =
    let lefts = unaged left.window held.time left.rows in
    let rights = unaged right.window held.time right.rows in
    ap (λ l. l ++ live_row Right held ∷ []) (rows_that_stay left right held.time order)
    ∙ push_right (live_rows Left lefts) (live_rows Right rights) (live_row Right held) (below_lefts left right held.time held.no.0 below)
    ∙ ap (merged (live_rows Left lefts)) (sym (map-append (live_row Right) rights (held ∷ [])))

in_order_entered : (live : LiveRows) (row : LiveRow) → IsInOrder live.rows → AllBelow row.no live.rows → IsInOrder (filter (stays live row.time) live.rows ++ row ∷ [])
in_order_entered live row order below =
    in_order_push (filter (stays live row.time) live.rows) row (in_order_filter _ live.rows order) (below_filter _ row.no live.rows below)

-- What comes of the arrival of a row under its number.
abbrev arrived : LiveRows → LiveRow → Arrived
arrived live row =
    let all = filter (stays live row.time) live.rows ++ row ∷ [] in
    let after = one_too_many (window_of live row.side) (of_side row.side all) in
    record { before = filter (is_gone live row.time) live.rows; after = after; live = record live { rows = without after all } }

-- the row's number is the one behind those that expire before it
abbrev pub IsNumberOf : LiveRows → HeldRow → ℕ → Type 0
IsNumberOf live held at = held.no.0 ≡ at + length (filter (is_gone live held.time) live.rows)

arrives : (live : LiveRows) (side : Side) (held : HeldRow) (at : ℕ) → IsNumberOf live held at → arrived live (live_row side held) ≡ arrive live side held.time at
arrives live side held at number = ap (λ n. let row : LiveRow = record { no = n; side = side; time = held.time } in arrived live row) number

after_left : (left right : SideRowsState) (held : HeldRow) → IsInOrder (live_of left right).rows
    → AllBelow held.no.0 (live_of left right).rows
    → number_of_some (arrived (live_of left right) (live_row Left held)).after ≡ (overflow left.window (entered left held)).gone
after_left left right held order below =
    ap (λ l. number_of_some (one_too_many left.window (of_side Left l))) (entered_left left right held order below)
    ∙ ap (λ l. number_of_some (one_too_many left.window l)) (lefts_of (entered left held) (unaged right.window held.time right.rows))
    ∙ sym (gone_seen left.window Left (entered left held))

after_right : (left right : SideRowsState) (held : HeldRow) → IsInOrder (live_of left right).rows
    → AllBelow held.no.0 (live_of left right).rows
    → number_of_some (arrived (live_of left right) (live_row Right held)).after ≡ (overflow right.window (entered right held)).gone
after_right left right held order below =
    ap (λ l. number_of_some (one_too_many right.window (of_side Right l))) (entered_right left right held order below)
    ∙ ap (λ l. number_of_some (one_too_many right.window l)) (rights_of (unaged left.window held.time left.rows) (entered right held))
    ∙ sym (gone_seen right.window Right (entered right held))

rows_left : (left right : SideRowsState) (held : HeldRow) → IsInOrder (live_of left right).rows
    → AllBelow held.no.0 (live_of left right).rows
    → (arrived (live_of left right) (live_row Left held)).live.rows ≡ merged (live_rows Left (overflow left.window (entered left held)).rows) (live_rows Right (unaged right.window held.time right.rows))
rows_left left right held order below =
    let lefts = entered left held in
    let rights = unaged right.window held.time right.rows in
    let all = merged (live_rows Left lefts) (live_rows Right rights) in
    let ordered : IsInOrder all = subst IsInOrder (entered_left left right held order below) (in_order_entered (live_of left right) (live_row Left held) order below) in
    ap (λ l. without (one_too_many left.window (of_side Left l)) l) (entered_left left right held order below)
    ∙ ap (λ l. without (one_too_many left.window l) all) (lefts_of lefts rights)
    ∙ without_left left.window lefts rights (subst IsInOrder (lefts_of lefts rights) (in_order_filter _ all ordered)) (subst IsInOrder (rights_of lefts rights) (in_order_filter _ all ordered))

rows_right : (left right : SideRowsState) (held : HeldRow) → IsInOrder (live_of left right).rows
    → AllBelow held.no.0 (live_of left right).rows
    → (arrived (live_of left right) (live_row Right held)).live.rows ≡ merged (live_rows Left (unaged left.window held.time left.rows)) (live_rows Right (overflow right.window (entered right held)).rows)
rows_right left right held order below =
    let lefts = unaged left.window held.time left.rows in
    let rights = entered right held in
    let all = merged (live_rows Left lefts) (live_rows Right rights) in
    let ordered : IsInOrder all = subst IsInOrder (entered_right left right held order below) (in_order_entered (live_of left right) (live_row Right held) order below) in
    ap (λ l. without (one_too_many right.window (of_side Right l)) l) (entered_right left right held order below)
    ∙ ap (λ l. without (one_too_many right.window l) all) (rights_of lefts rights)
    ∙ without_right right.window lefts rights (subst IsInOrder (lefts_of lefts rights) (in_order_filter _ all ordered)) (subst IsInOrder (rights_of lefts rights) (in_order_filter _ all ordered))

-- what an arrival on a side leaves of its own rows, and of those of the other side
pub record Enters (old other new other_new : SideRowsState) (held : HeldRow) : Type 0 where
  pub windows : (new.window ≡ old.window) × (other_new.window ≡ other.window)
  pub own_rows : new.rows ≡ (overflow old.window (entered old held)).rows
  pub other_rows : other_new.rows ≡ unaged other.window held.time other.rows

same_live : (left right : Window) (rows others : List HeldRow) (new other : SideRowsState) → new.window ≡ left → other.window ≡ right → new.rows ≡ rows → other.rows ≡ others
    → live_of new other ≡ record { left = left; right = right; rows = merged (live_rows Left rows) (live_rows Right others) }
same_live left right rows others new other window window' is is' =
    ap (λ w. let live : LiveRows = record { left = w; right = other.window; rows = merged (live_rows Left new.rows) (live_rows Right other.rows) } in live) window
    ∙ ap (λ w. let live : LiveRows = record { left = left; right = w; rows = merged (live_rows Left new.rows) (live_rows Right other.rows) } in live) window'
    ∙ ap (λ l. let live : LiveRows = record { left = left; right = right; rows = merged (live_rows Left l) (live_rows Right other.rows) } in live) is
    ∙ ap (λ l. let live : LiveRows = record { left = left; right = right; rows = merged (live_rows Left rows) (live_rows Right l) } in live) is'

below_number : (live : LiveRows) (held : HeldRow) (at : ℕ) → IsNumberOf live held at → AllBelow at live.rows → AllBelow held.no.0 live.rows
below_number live held at number below = below_higher at held.no.0 live.rows (omega arith) below

-- the row of the left side that expires after an arrival
pub left_after : (live : LiveRows) (left right : SideRowsState) (held : HeldRow) (at : ℕ) → live_of left right ≡ live → IsInOrder (live_of left right).rows → AllBelow at live.rows → IsNumberOf live held at
    → (overflow left.window (entered left held)).gone ≡ number_of_some (arrive live Left held.time at).after
left_after live left right held at seen order below number =
    let base = live_of left right in
    let number' = subst (λ (l : LiveRows). IsNumberOf l held at) (sym seen) number in
    let below' = below_number base held at number' (subst (λ (l : LiveRows). AllBelow at l.rows) (sym seen) below) in
    sym (after_left left right held order below') ∙ ap (λ (a : Arrived). number_of_some a.after) (arrives base Left held at number') ∙ ap (λ l. number_of_some (arrive l Left held.time at).after) seen

pub right_after : (live : LiveRows) (left right : SideRowsState) (held : HeldRow) (at : ℕ) → live_of left right ≡ live → IsInOrder (live_of left right).rows → AllBelow at live.rows → IsNumberOf live held at
    → (overflow right.window (entered right held)).gone ≡ number_of_some (arrive live Right held.time at).after
right_after live left right held at seen order below number =
    let base = live_of left right in
    let number' = subst (λ (l : LiveRows). IsNumberOf l held at) (sym seen) number in
    let below' = below_number base held at number' (subst (λ (l : LiveRows). AllBelow at l.rows) (sym seen) below) in
    sym (after_right left right held order below') ∙ ap (λ (a : Arrived). number_of_some a.after) (arrives base Right held at number') ∙ ap (λ l. number_of_some (arrive l Right held.time at).after) seen

-- what is live after an arrival on the left
pub left_live : (live : LiveRows) (left right new other : SideRowsState) (held : HeldRow) (at : ℕ) → live_of left right ≡ live → IsInOrder (live_of left right).rows → AllBelow at live.rows → IsNumberOf live held at
    → Enters left right new other held → live_of new other ≡ (arrive live Left held.time at).live
left_live live left right new other held at seen order below number enters =
    let base = live_of left right in
    let number' = subst (λ (l : LiveRows). IsNumberOf l held at) (sym seen) number in
    let below' = below_number base held at number' (subst (λ (l : LiveRows). AllBelow at l.rows) (sym seen) below) in
    same_live left.window right.window _ _ new other enters.windows.0 enters.windows.1 enters.own_rows enters.other_rows
    ∙ ap (λ l. let live : LiveRows = record { left = left.window; right = right.window; rows = l } in live) (sym (rows_left left right held order below'))
    ∙ ap (λ (a : Arrived). a.live) (arrives base Left held at number') ∙ ap (λ l. (arrive l Left held.time at).live) seen

-- and on the right
pub right_live : (live : LiveRows) (left right new other : SideRowsState) (held : HeldRow) (at : ℕ) → live_of left right ≡ live → IsInOrder (live_of left right).rows → AllBelow at live.rows → IsNumberOf live held at
    → Enters right left new other held → live_of other new ≡ (arrive live Right held.time at).live
right_live live left right new other held at seen order below number enters =
    let base = live_of left right in
    let number' = subst (λ (l : LiveRows). IsNumberOf l held at) (sym seen) number in
    let below' = below_number base held at number' (subst (λ (l : LiveRows). AllBelow at l.rows) (sym seen) below) in
    same_live left.window right.window _ _ other new enters.windows.1 enters.windows.0 enters.other_rows enters.own_rows
    ∙ ap (λ l. let live : LiveRows = record { left = left.window; right = right.window; rows = l } in live) (sym (rows_right left right held order below'))
    ∙ ap (λ (a : Arrived). a.live) (arrives base Right held at number') ∙ ap (λ l. (arrive l Right held.time at).live) seen

order_after : (live after : LiveRows) (left right : SideRowsState) (side : Side) (time : ℤ) (at : ℕ) → live_of left right ≡ live → IsInOrder (live_of left right).rows → AllBelow at live.rows → after ≡ (arrive live side time at).live → IsInOrder after.rows
order_after live after left right side time at seen order below is =
    subst (λ (l : LiveRows). IsInOrder l.rows) (sym is) (arrive_in_order live side time at (subst (λ (l : LiveRows). IsInOrder l.rows) seen order) below)

-- and the numbers rise
pub left_order : (live : LiveRows) (left right new other : SideRowsState) (held : HeldRow) (at : ℕ) → live_of left right ≡ live → IsInOrder (live_of left right).rows → AllBelow at live.rows → IsNumberOf live held at
    → Enters left right new other held → IsInOrder (live_of new other).rows
left_order live left right new other held at seen order below number enters =
    order_after live (live_of new other) left right Left held.time at seen order below (left_live live left right new other held at seen order below number enters)

pub right_order : (live : LiveRows) (left right new other : SideRowsState) (held : HeldRow) (at : ℕ) → live_of left right ≡ live → IsInOrder (live_of left right).rows → AllBelow at live.rows → IsNumberOf live held at
    → Enters right left new other held → IsInOrder (live_of other new).rows
right_order live left right new other held at seen order below number enters =
    order_after live (live_of other new) left right Right held.time at seen order below (right_live live left right new other held at seen order below number enters)
