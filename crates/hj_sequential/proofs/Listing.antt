-- What the stores of a sequential join find and keep at an event, where they hold its windows.
use Rattle.std.proofs.Common.{◌≡◌, ℕ, ◌<◌, Bool, true, false, cond, not, ◌&&◌, ◌==◌, nat_lt, List, [], ◌∷◌, ◌++◌, map, filter, Contains, refl, ap, sym, ◌∙◌, subst, arith}
use Rattle.std.proofs.lemmas.Bool.Decides.{nat_tests}
use Rattle.hj_base.specs.declared.numbers.EventNo.{EventNo}
use Rattle.hj_base.specs.declared.numbers.Side.{Side}
use Rattle.hj_base.specs.declared.numbers.Side.TheVariants.{Left, Right}
use Rattle.hj_msg.specs.declared.drain.Drained.{Drained}
use Rattle.hj_msg.specs.declared.event.Event.{Event}
use Rattle.hj_msg.specs.declared.event.Event.TheVariants.{Arrive, Expire}
use Rattle.hj_msg.specs.declared.event.Pair.{Pair}
use Rattle.hj_msg.specs.declared.fin.Fin.{Fin}
use Rattle.hj_msg.specs.declared.message.Report.TheVariants.{Handled}
use Rattle.hj_msg.specs.declared.partner.Partner.{Partner}
use Rattle.hj_msg.specs.Event.{IsWellFormed}
use Rattle.hj_msg.specs.Kang.{Held, Windows, after, listed, windows_after, without}
use Rattle.hj_msg.specs.Met.{pairs_of}
use Rattle.hj_msg.specs.Order.{insert_by, sort_by}
use Rattle.hj_msg.specs.Store.{Resting, by_number, joins, settled_matches, settled_partners, with_entry, without_entry}
use Rattle.hj_msg.proofs.Joined.{windows_and_join}
use Rattle.hj_msg.proofs.Members.{Contains-cons, Contains-head, Ranked, Ranked-filter, Ranked-map}
use Rattle.hj_msg.proofs.Numbered.{front_is_well_formed, number-last}
use Rattle.hj_msg.proofs.Windows.{AreWindows, IsWindow-below}
use Rattle.hj_sequential.specs.Giving.{GivesListed}
use Rattle.hj_sequential.specs.Stores.{HoldWindows, at_rest}

-- a list in order stays as it is when it is sorted
sorted_same : {X : Type 0} (before : X → X → Bool) (xs : List X) → Ranked (λ x y. before y x ≡ false) xs → sort_by before xs ≡ xs
sorted_same before [] ranked = refl
sorted_same {X} before (x ∷ xs) ranked = ap (insert_by before x) (sorted_same before xs ranked.1) ∙ first xs ranked.0
  where
    first : (ys : List X) → ((y : X) → Contains ys y → before y x ≡ false) → insert_by before x ys ≡ x ∷ ys
    first [] none = refl
    first (y ∷ ys) none = rw (none y (Contains-head y ys)) refl

abbrev as_partner : {P : Type 0} → Held P → Partner P
as_partner held = record { no = record { 0 = held.no }; row = held.row }

map-map : {X Y Z : Type 0} (g : Y → Z) (f : X → Y) (xs : List X) → map g (map f xs) ≡ map (λ x. g (f x)) xs
map-map g f [] = refl
map-map g f (x ∷ xs) = ap (λ l. g (f x) ∷ l) (map-map g f xs)

-- the rows of a window that pass a test
tested : {P : Type 0} (test : P → Bool) (window : List (Held P)) → settled_partners test (at_rest window) ≡ map as_partner (filter (λ held. test held.row) window)
tested test [] = refl
tested {P} test (held ∷ window) = go (test held.row) (tested test window)
  where
    go : (b : Bool) → settled_partners test (at_rest window) ≡ map as_partner (filter (λ held. test held.row) window)
        → map (λ (entry : Resting P). record { no = record { 0 = entry.no }; row = entry.row }) (cond b (record { no = held.no; row = held.row; settled = true } ∷ filter (λ entry. entry.settled && test entry.row) (at_rest window)) (filter (λ entry. entry.settled && test entry.row) (at_rest window)))
        ≡ map as_partner (cond b (held ∷ filter (λ held. test held.row) window) (filter (λ held. test held.row) window))
    go true deeper = ap (λ partners. as_partner held ∷ partners) deeper
    go false deeper = deeper

not_before : (a b : ℕ) → a < b → nat_lt b a ≡ false
not_before a b less = grind (arith, nat_tests, less)

-- a probe of a window finds its rows that join, oldest first
found : {P : Type 0} (matches : P → P → Bool) (side : Side) (against : P) (window : List (Held P)) → Ranked (λ (x y : Held P). x.no < y.no) window
    → settled_matches matches side against (at_rest window) ≡ map as_partner (filter (λ held. joins matches side held.row against) window)
found {P} matches side against window rising =
    let test = λ (row : P). joins matches side row against in
    ap by_number (tested test window)
    ∙ sorted_same (λ (x y : Partner P). nat_lt x.no.0 y.no.0) (map as_partner (filter (λ held. test held.row) window))
    (Ranked-map (λ x y. x.no < y.no) (λ (x y : Partner P). nat_lt y.no.0 x.no.0 ≡ false) as_partner (filter (λ held. test held.row) window) (λ x y k l less. not_before x.no y.no less)
    (Ranked-filter (λ x y. x.no < y.no) (λ held. test held.row) window rising))

-- a row under a number above all others comes last
put_last : {P : Type 0} (at : ℕ) (row : P) (window : List (Held P)) → ((held : Held P) → Contains window held → held.no < at)
    → with_entry (record { no = at; row = row; settled = true }) (at_rest window) ≡ at_rest (window ++ record { no = at; row = row } ∷ [])
put_last at row [] below = refl
put_last {P} at row (held ∷ window) below = go (held.no == at) refl (put_last at row window (λ other k. below other (Contains-cons held other window k)))
  where
    own : held.no < at
    own = below held (Contains-head held window)

    entry : Resting P
    entry = record { no = at; row = row; settled = true }

    go : (b : Bool) → (held.no == at) ≡ b → with_entry entry (at_rest window) ≡ at_rest (window ++ record { no = at; row = row } ∷ [])
        → cond b (entry ∷ at_rest window) (record { no = held.no; row = held.row; settled = true } ∷ with_entry entry (at_rest window)) ≡ record { no = held.no; row = held.row; settled = true } ∷ at_rest (window ++ record { no = at; row = row } ∷ [])
    go true e deeper = absurd (grind (arith, nat_tests, e, own))
    go false e deeper = ap (λ l. record { no = held.no; row = held.row; settled = true } ∷ l) deeper

-- a row is taken out
taken_out : {P : Type 0} (at : ℕ) (window : List (Held P)) → without_entry at (at_rest window) ≡ at_rest (without at window)
taken_out at [] = refl
taken_out {P} at (held ∷ window) = go (not (held.no == at)) (taken_out at window)
  where
    own : Resting P
    own = record { no = held.no; row = held.row; settled = true }

    go : (b : Bool) → without_entry at (at_rest window) ≡ at_rest (without at window) → cond b (own ∷ without_entry at (at_rest window)) (without_entry at (at_rest window)) ≡ at_rest (cond b (held ∷ without at window) (without at window))
    go true deeper = ap (λ l. own ∷ l) deeper
    go false deeper = deeper

-- the windows before an event
windows_before : {P : Type 0} (matches : P → P → Bool) (before : List (Event P)) (event : Event P) → IsWellFormed (before ++ event ∷ []) → AreWindows before (windows_after before)
windows_before matches before event well = (windows_and_join matches before (front_is_well_formed before (event ∷ []) well)).windows

module _ {P S : Type 0} (rows : S → List (Resting P)) (matches : P → P → Bool) (before : List (Event P)) (left right : S) (holds : HoldWindows rows (windows_after before) left right) where
  module _ (at : EventNo) (row : P) where
    -- a left row that arrives
    module _ (well : IsWellFormed (before ++ Arrive at Left row ∷ [])) where
      left_listed : pairs_of (Handled at Left row (settled_matches matches Right row (rows right))) ≡ listed matches (windows_after before) (Arrive at Left row)
      left_listed =
          ap (λ (entries : List (Resting P)). pairs_of (Handled at Left row (settled_matches matches Right row entries))) holds.on_right
          ∙ ap (λ (partners : List (Partner P)). pairs_of (Handled at Left row partners)) (found matches Right row (windows_after before).right (windows_before matches before (Arrive at Left row) well).right.rising)
          ∙ map-map (λ (partner : Partner P). record { left_no = at; right_no = partner.no; left = row; right = partner.row }) as_partner (filter (λ held. matches row held.row) (windows_after before).right)

      pub left_gives : {D : Type 0} (takes : D → Pair P → Drained → D → Type 0) (ended : Fin) (unfilled filled : D) → GivesListed takes (pairs_of (Handled at Left row (settled_matches matches Right row (rows right)))) ended unfilled filled
          → GivesListed takes (listed matches (windows_after before) (Arrive at Left row)) ended unfilled filled
      left_gives takes ended unfilled filled gives = subst (λ (pairs : List (Pair P)). GivesListed takes pairs ended unfilled filled) left_listed gives

      pub left_holds : (new_left new_right : S) → rows new_left ≡ with_entry (record { no = at.0; row = row; settled = true }) (rows left) → new_right ≡ right
          → HoldWindows rows (after (windows_after before) (Arrive at Left row)) new_left new_right
      left_holds new_left new_right kept same =
          let front = front_is_well_formed before (Arrive at Left row ∷ []) well in
          let window = (windows_before matches before (Arrive at Left row) well).left in
          record {
            on_left =
                kept ∙ ap (with_entry (record { no = at.0; row = row; settled = true })) holds.on_left
                ∙ put_last at.0 row (windows_after before).left (λ held k. omega (arith, IsWindow-below before Left (windows_after before).left held front window k, number-last before (Arrive at Left row) well));
            on_right = ap rows same ∙ holds.on_right;
          }

    -- a right row that arrives
    module _ (well : IsWellFormed (before ++ Arrive at Right row ∷ [])) where
      right_listed : pairs_of (Handled at Right row (settled_matches matches Left row (rows left))) ≡ listed matches (windows_after before) (Arrive at Right row)
      right_listed =
          ap (λ (entries : List (Resting P)). pairs_of (Handled at Right row (settled_matches matches Left row entries))) holds.on_left
          ∙ ap (λ (partners : List (Partner P)). pairs_of (Handled at Right row partners)) (found matches Left row (windows_after before).left (windows_before matches before (Arrive at Right row) well).left.rising)
          ∙ map-map (λ (partner : Partner P). record { left_no = partner.no; right_no = at; left = partner.row; right = row }) as_partner (filter (λ held. matches held.row row) (windows_after before).left)

      pub right_gives : {D : Type 0} (takes : D → Pair P → Drained → D → Type 0) (ended : Fin) (unfilled filled : D) → GivesListed takes (pairs_of (Handled at Right row (settled_matches matches Left row (rows left)))) ended unfilled filled
          → GivesListed takes (listed matches (windows_after before) (Arrive at Right row)) ended unfilled filled
      right_gives takes ended unfilled filled gives = subst (λ (pairs : List (Pair P)). GivesListed takes pairs ended unfilled filled) right_listed gives

      pub right_holds : (new_left new_right : S) → new_left ≡ left → rows new_right ≡ with_entry (record { no = at.0; row = row; settled = true }) (rows right)
          → HoldWindows rows (after (windows_after before) (Arrive at Right row)) new_left new_right
      right_holds new_left new_right same kept =
          let front = front_is_well_formed before (Arrive at Right row ∷ []) well in
          let window = (windows_before matches before (Arrive at Right row) well).right in
          record {
            on_left = ap rows same ∙ holds.on_left;
            on_right =
                kept ∙ ap (with_entry (record { no = at.0; row = row; settled = true })) holds.on_right
                ∙ put_last at.0 row (windows_after before).right (λ held k. omega (arith, IsWindow-below before Right (windows_after before).right held front window k, number-last before (Arrive at Right row) well));
          }

-- a row expires
module _ {P S : Type 0} (rows : S → List (Resting P)) (windows : Windows P) (left right : S) (holds : HoldWindows rows windows left right) (at of : EventNo) where
  pub left_expires : (side : Side) (new_left : S) → side ≡ Left → rows new_left ≡ without_entry of.0 (rows left) → HoldWindows rows (after windows (Expire at side of)) new_left right
  left_expires side new_left is kept =
      subst (λ (of_side : Side). HoldWindows rows (after windows (Expire at of_side of)) new_left right) (sym is)
      (record { on_left = kept ∙ ap (without_entry of.0) holds.on_left ∙ taken_out of.0 windows.left; on_right = holds.on_right })

  pub right_expires : (side : Side) (new_right : S) → side ≡ Right → rows new_right ≡ without_entry of.0 (rows right) → HoldWindows rows (after windows (Expire at side of)) left new_right
  right_expires side new_right is kept =
      subst (λ (of_side : Side). HoldWindows rows (after windows (Expire at of_side of)) left new_right) (sym is)
      (record { on_left = holds.on_left; on_right = kept ∙ ap (without_entry of.0) holds.on_right ∙ taken_out of.0 windows.right })
