use Rattle.std.proofs.Common.{heap_items, sym, ◌∙◌}
use Rattle.hj_event.specs.Days.{late_on}
use Rattle.hj_event.proofs.LateLemmas.{comes_first, others_first, top_first}
use Rattle.hj_event.proofs.late.is_on_day.Goals as goal

pub returns-in-Some-Some-clause-day : goal.returns-in-Some-Some-clause-day
returns-in-Some-Some-clause-day c before =
    comes_first (late_on c.args.days.now) (heap_items c.args.others.now) c.in-Some-Some.first.now c.in-Some-Some.other.now c.in-Some-Some.ensures'.first
    (top_first (heap_items c.args.others.now) c.in-Some-Some.other.now c.in-Some-Some.ensures.item.3.0 c.in-Some-Some.ensures.lookup (c.in-Some-Some.ensures.greatest c.requires.heap)) (sym c.comes_before.ensures ∙ before)

pub returns-in-Some-Some-clause-other : goal.returns-in-Some-Some-clause-other
returns-in-Some-Some-clause-other c before =
    others_first (late_on c.args.days.now) (heap_items c.args.others.now) c.in-Some-Some.first.now c.in-Some-Some.other.now c.in-Some-Some.ensures'.first
    (top_first (heap_items c.args.others.now) c.in-Some-Some.other.now c.in-Some-Some.ensures.item.3.0 c.in-Some-Some.ensures.lookup (c.in-Some-Some.ensures.greatest c.requires.heap)) (sym c.comes_before.ensures ∙ before)
