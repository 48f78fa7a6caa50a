use Rattle.std.proofs.Common.{◌≡◌, ◌<◌, ◌∙◌, [], false, drop, length, sym, ap, subst, rules, tests}
use Rattle.std.proofs.lemmas.Int.{to_z-of_z}
use Rattle.hj_window.specs.SideRows.{SideRowsState, aged, is_aged}
use Rattle.hj_window.proofs.SideLemmas.{none_aged, aged_nowhere}
use Rattle.hj_window.proofs.side_rows.SideRows.due_from.Goals as goal

pub returns-in-Rows : goal.returns-in-Rows
returns-in-Rows c = none_aged _ _ _ _ (sym (ap (λ k. k.window) c.self.view_is) ∙ c.in-Rows.is)

pub returns-then-self : goal.returns-then-self
returns-then-self c =
    let rows = c.self.inside.rows.items in
    let fits = c.ranges.now in
    let so_far = simp to_z-of_z at c.loop-at.invariant in
    let below : c.loop-at.at < length rows = search rules in
    let young : is_aged c.self.inside.window c.args.now c.index-held.result.now ≡ false = search (rules, tests) in
    subst (λ (k : SideRowsState). aged k.window c.args.now (drop c.args.from k.rows) ≡ []) c.self.view_is
    (so_far ∙ aged_nowhere c.self.inside.window c.args.now rows c.loop-at.at c.index-held.result.now below c.index-held.ensures young (c.self.invariant c.if-self.true))
