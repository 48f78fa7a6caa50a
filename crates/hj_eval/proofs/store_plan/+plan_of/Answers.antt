use Rattle.std.proofs.Common.{sym, ap, ap₂, ◌∙◌}
use Rattle.hj_eval.specs.Plan.{better_plan, conjuncts, plan_of}
use Rattle.hj_eval.proofs.Planning.{better-parts}
use Rattle.hj_eval.proofs.store_plan.+plan_of.Goals as goal

pub returns-in-And : goal.returns-in-And
returns-in-And t c =
    let left = c.plan_of.ensures ∙ ap plan_of c.deref.ensures in
    let right = c.plan_of-in-And.ensures ∙ ap plan_of c.deref-in-And.ensures in
    c.better.ensures ∙ ap₂ better_plan left right ∙ better-parts (conjuncts c.in-And.left.value) (conjuncts c.in-And.right.value) ∙ ap plan_of (sym c.in-And.is)
