use Rattle.std.proofs.Common.{◌∙◌, Some, sym, ap}
use Rattle.hj_opening.specs.Orders.{chain_seen}
use Rattle.hj_opening.specs.Words.{ChainShape, asked_by, chooser_of, pair_lines, raw_items, step_lines}
use Rattle.hj_serve.specs.OrderPlan.{TwiceShape, twice_of}
use Rattle.hj_serve.proofs.Planned.{same_shape, same_trace}
use Rattle.hj_serve.proofs.plan.OrderPlan.of.Goals as goal

pub returns-in-Join-clause-asked : goal.returns-in-Join-clause-asked
returns-in-Join-clause-asked c = c.join_plan.ensures.asked ∙ c.named_join.ensures pair_lines ∙ sym (ap asked_by c.in-Join.is)

pub returns-in-Raw-clause-asked : goal.returns-in-Raw-clause-asked
returns-in-Raw-clause-asked c = c.raw_plan.ensures.asked ∙ c.named_join-in-Raw.ensures raw_items ∙ sym (ap asked_by c.in-Raw.is)

pub returns-in-Trace-clause-asked : goal.returns-in-Trace-clause-asked
returns-in-Trace-clause-asked c =
    let chain : ChainShape = record { cores = c.in-Trace.cores; flight = c.in-Trace.flight } in
    let rule = chooser_of c.in-Trace.schedule in
    same_trace c.named_join-in-Trace.result (chain_seen c.trace_plan.result.size) chain c.trace_plan.result.chooser rule (asked_by c.args.order.now) c.trace_plan.ensures.chain c.trace_plan.ensures.chooser
    (c.named_join-in-Trace.ensures (step_lines chain rule) ∙ sym (ap asked_by c.in-Trace.is))

pub returns-in-Twice-clause-asked : goal.returns-in-Twice-clause-asked
returns-in-Twice-clause-asked c = c.two_joins.ensures ∙ sym (ap asked_by c.in-Twice.is)

pub returns-in-Twice-clause-twice : goal.returns-in-Twice-clause-twice
returns-in-Twice-clause-twice c =
    ap (λ (shape : TwiceShape). Some shape) (same_shape _ _ _ _ _ _ c.twice_plan.ensures.crew c.twice_plan.ensures.threads c.twice_plan.ensures.serial)
    ∙ sym (ap twice_of c.in-Twice.is)
