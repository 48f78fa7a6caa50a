use Rattle.std.proofs.Common.{◌≡◌, ◌<◌, ◌∙◌, false, length, rules, tests}
use Rattle.std.proofs.lemmas.Int.{to_z-of_z}
use Rattle.hj_window.specs.SideRows.{is_aged}
use Rattle.hj_window.proofs.SideLemmas.{all_stay}
use Rattle.hj_window.proofs.side_rows.pop_aged.Goals as goal

pub returns-then-not-is_aged-clause-items : goal.returns-then-not-is_aged-clause-items
returns-then-not-is_aged-clause-items c =
    let rows = c.loop-oldest.rows.items in
    let fits = c.ranges.now in
    let before = simp to_z-of_z at c.loop-oldest.invariant.items in
    let some : 0 < length rows = search rules in
    let young : is_aged c.args.window c.args.now c.in-Some.oldest.now ≡ false = search (rules, tests) in
    all_stay c.args.window c.args.now rows c.in-Some.oldest.now some c.in-Some.ensures.lookup young c.loop-oldest.invariant.in_time ∙ before
