use Rattle.std.proofs.Common.{◌≡◌, ◌+◌, ◌-◌, ◌≤◌, ◌∙◌, ℤ, Bool, List, not, length, ap, subst, rules, tests}
use Rattle.std.specs.Fn.{CalledAt}
use Rattle.std.specs.List.Retain.{IsFiltered}
use Rattle.std.specs.VecDeque.{deque_len, deque_capacity}
use Rattle.std.proofs.lemmas.Fn.{filter_same}
use Rattle.std.proofs.lemmas.Int.{to_z-of_z}
use denote.Param.Members.{Mut}
use denote.Ref.{Bor}
use Rattle.hj_base.specs.declared.numbers.Window.{Window}
use Rattle.hj_window.specs.declared.side_rows.HeldRow.{HeldRow}
use Rattle.hj_window.specs.SideRows.{SideRowsState, is_aged, aged, unaged}
use Rattle.hj_window.proofs.SideLemmas.{room_left}
use Rattle.hj_window.proofs.side_rows.SideRows.remove_aged.Goals as goal

-- what `retain` leaves by the test of a row's age
unaged_by : {F : Type 0} (g : Mut F (Bor HeldRow × Unit {0}) Bool) (window : Window) (now : ℤ) (f : F) → ((x : HeldRow) (b : Bool) (f' : F) → CalledAt g f x b f' → (b ≡ not (is_aged window now x)) × (f' ≡ f))
    → (old new : List HeldRow) → IsFiltered (CalledAt g) f old new → new ≡ unaged window now old
unaged_by g window now f tests_age old new filtered = filter_same (CalledAt g) (λ held. not (is_aged window now held)) f tests_age old new filtered

kept : (c : goal.After-retain) → c.retain.new.self.items ≡ unaged c.self.inside.window c.args.now c.self.inside.rows.items
kept c = unaged_by _ c.self.inside.window c.args.now _ (λ x b f' k. search (rules, tests)) _ _ c.retain.ensures.filtered

pub returns-else-self-clause-rows : goal.returns-else-self-clause-rows
returns-else-self-clause-rows c =
    kept c ∙ ap (λ k. unaged k.window c.args.now k.rows) c.self.view_is

pub returns-else-self-clause-room : goal.returns-else-self-clause-room
returns-else-self-clause-room c =
    let window = c.self.inside.window in
    let rows = c.self.inside.rows in
    let count : deque_len rows ≡ length rows.items = search rules in
    let left : deque_len c.retain.new.self ≡ length c.retain.new.self.items = search rules in
    let fits : deque_len rows ≤ deque_capacity rows = search rules in
    subst (λ (k : SideRowsState). k.room + length (aged k.window c.args.now k.rows) ≤ deque_capacity c.retain.new.self - deque_len c.retain.new.self) c.self.view_is
    (room_left window c.args.now rows.items _ _ _ _ count (left ∙ ap length (kept c)) c.retain.ensures.capacity fits)

pub returns-then-self-clause-room : goal.returns-then-self-clause-room
returns-then-self-clause-room c =
    let window = c.self.inside.window in
    let rows = c.self.inside.rows in
    let fits_now = c.ranges.now in
    let kept = simp to_z-of_z at c.pop_aged.ensures.items in
    let count : deque_len rows ≡ length rows.items = search rules in
    let left : deque_len c.pop_aged.new.rows ≡ length c.pop_aged.new.rows.items = search rules in
    let fits : deque_len rows ≤ deque_capacity rows = search rules in
    subst (λ (k : SideRowsState). k.room + length (aged k.window c.args.now k.rows) ≤ deque_capacity c.pop_aged.new.rows - deque_len c.pop_aged.new.rows) c.self.view_is
    (room_left window c.args.now rows.items _ _ _ _ count (left ∙ ap length kept) c.pop_aged.ensures.capacity fits)
