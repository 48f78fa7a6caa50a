use Rattle.std.proofs.Common.{sym, ap, subst, ◌∙◌}
use Rattle.hj_query.specs.Grammar.{columns_of}
use Rattle.hj_eval.specs.declared.store_plan.StorePlan.{StorePlan}
use Rattle.hj_eval.specs.Plan.{plan_of, MeetsPlan}
use Rattle.hj_eval.proofs.Planning.{plan_met}
use Rattle.hj_eval.proofs.store_plan.plan.Goals as goal

pub returns-clause-met : goal.returns-clause-met
returns-clause-met c = λ left right e.
    let same = c.plan_of.ensures ∙ ap plan_of c.pred.ensures.pred in
    subst (λ (plan : StorePlan). MeetsPlan plan left right) (sym same) (plan_met (columns_of c.args.query.now) left right c.args.query.now.pred e)
