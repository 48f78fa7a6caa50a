use Rattle.std.proofs.Common.{◌≡◌, ◌+◌, ℕ, FitsSigned, heap_items, refl, rules, subst, sym, w64, ◌∙◌}
use Rattle.std.proofs.lemmas.Int.{to_z-of_z}
use Rattle.hj_event.specs.Late.{AreLate}
use Rattle.hj_event.specs.Days.{all_late}
use Rattle.hj_event.proofs.LateLemmas.{late_after, rows_after}
use Rattle.hj_event.proofs.late.LateRows.put.Goals as goal

pub invariant_of-self : goal.invariant_of-self
invariant_of-self c =
    let next : c.in-Some.next ≡ c.self.inside.next + 1 = search rules in
    let fits : FitsSigned w64 c.args.time = search rules in
    let old = all_late (heap_items c.self.inside.others) c.self.inside.days in
    let new = all_late (heap_items c.put_row.new.others) c.put_row.new.days in (
      c.put_row.ensures.heap,
      c.put_row.ensures.days,
      subst (λ (number : ℕ). AreLate number new) (sym next) (late_after c.self.inside.next old new c.self.invariant.2 _ refl (to_z-of_z w64 c.args.time fits ∙ c.requires) c.put_row.result c.put_row.ensures.ok c.put_row.ensures.err),
    )

pub returns-clause-ok : goal.returns-clause-ok
returns-clause-ok c =
    let fits : FitsSigned w64 c.args.time = search rules in
    let old = all_late (heap_items c.self.inside.others) c.self.inside.days in
    let new = all_late (heap_items c.put_row.new.others) c.put_row.new.days in
    rows_after c.self.inside.next old new c.self.invariant.2 _ refl (to_z-of_z w64 c.args.time fits ∙ c.requires) c.put_row.result c.args.self.now c.self.view_is c.put_row.ensures.ok
