use Rattle.std.proofs.Common.{FitsSigned, Some, ap, ap₂, arith, heap_items, rules, w64, ◌∙◌}
use Rattle.std.specs.Int.{int_min}
use Rattle.std.proofs.lemmas.Int.{to_z-of_z}
use Rattle.std.proofs.lemmas.List.{nil_from_length}
use Rattle.hj_event.specs.Days.{late_on}
use Rattle.hj_event.specs.Waiting.{first_time}
use Rattle.hj_event.proofs.LateLemmas.{time_of_both, time_of_late, time_of_other, top_first}
use Rattle.hj_event.proofs.late.LateRows.first_time.Goals as goal

pub returns-in-Some-Some : goal.returns-in-Some-Some
returns-in-Some-Some c =
    let others = heap_items c.self.inside.others in
    let late = late_on c.self.inside.days in
    let other = c.in-Some-Some.other.now in
    let first = c.in-Some-Some.first.now in
    let other_fits : FitsSigned w64 other.time = search rules in
    let first_fits : FitsSigned w64 first.time = search rules in
    let fits : FitsSigned w64 c.min.result = search rules in
    let top = top_first others other c.in-Some-Some.ensures.item.3.0 c.in-Some-Some.ensures.lookup (c.in-Some-Some.ensures.greatest c.self.invariant.0) in
    let least = c.min.ensures.value ∙ ap₂ int_min (to_z-of_z w64 other.time other_fits) (to_z-of_z w64 first.time first_fits) in
    ap Some (to_z-of_z w64 c.min.result fits) ∙ (time_of_both c.self.inside.next others late c.self.invariant.2 other first c.min.result top c.in-Some-Some.ensures'.first least ∙ ap first_time c.self.view_is)

pub returns-in-Some-None : goal.returns-in-Some-None
returns-in-Some-None c =
    let others = heap_items c.self.inside.others in
    let other = c.in-Some-None.other.now in
    let fits : FitsSigned w64 other.time = search rules in
    let top = top_first others other c.in-Some-None.ensures.item.3.0 c.in-Some-None.ensures.lookup (c.in-Some-None.ensures.greatest c.self.invariant.0) in
    ap Some (to_z-of_z w64 other.time fits) ∙ (time_of_other c.self.inside.next others (late_on c.self.inside.days) c.self.invariant.2 other top c.in-Some-None.ensures'.none ∙ ap first_time c.self.view_is)

pub returns-in-None-Some : goal.returns-in-None-Some
returns-in-None-Some c =
    let others = heap_items c.self.inside.others in
    let first = c.in-None-Some.first.now in
    let fits : FitsSigned w64 first.time = search rules in
    ap Some (to_z-of_z w64 first.time fits) ∙ (time_of_late c.self.inside.next others (late_on c.self.inside.days) c.self.invariant.2 first c.in-None-Some.ensures'.first (nil_from_length others (omega (arith, c.in-None-Some.ensures.item.3))) ∙ ap first_time c.self.view_is)
