use Rattle.std.proofs.Common.{◌∙◌, ap, arith, subst, inl, inr}
use Rattle.hj_gen.specs.Summary.{summary_of}
use Rattle.hj_serve.specs.Orders.{recipe_seen}
use Rattle.hj_serve.specs.OrderPlan.{crew_seen}
use Rattle.hj_serve.proofs.MadeJoin.{IsDoneOrMemory, done_shows, done_summed, is_done}
use Rattle.hj_serve.proofs.generate.join_summed.Goals as goal

pub returns-in-Done-clause-line : goal.returns-in-Done-clause-line
returns-in-Done-clause-line g c =
    done_summed (recipe_seen c.args.recipe) c.in_ok-query.query c.args.recipe.few_rows c.args.recipe.some_keys (omega (arith, c.args.recipe.few_keys)) c.in_ok-query.ensures c.in_ok-made.made.left c.in_ok-made.made.right c.in_ok-made.ensures.left c.in_ok-made.ensures.right
    (crew_seen c.args.plan.now.size) c.join_held-outcome.result.outcome c.join_held-outcome.result.text.text c.join_held-outcome.result.ran c.join_held-outcome.ensures c.in-Done.events c.in-Done.is
    c.in_ok-line-in-Done.line (c.in_ok-line-in-Done.ensures ∙ ap (summary_of c.in-Done.events) c.bytes.ensures)

pub returns-in-Done-clause-shows : goal.returns-in-Done-clause-shows
returns-in-Done-clause-shows g c =
    done_shows (recipe_seen c.args.recipe) c.in_ok-query.query c.args.recipe.few_rows c.args.recipe.some_keys (omega (arith, c.args.recipe.few_keys)) c.in_ok-query.ensures c.in_ok-made.made.left c.in_ok-made.made.right c.in_ok-made.ensures.left c.in_ok-made.ensures.right
    (crew_seen c.args.plan.now.size) c.join_held-outcome.result.outcome c.join_held-outcome.result.text.text c.join_held-outcome.result.ran c.join_held-outcome.ensures c.in-Done.events c.in-Done.is c.in-Some.ran c.in-Some.is

pub unreachable-requires-in-Bad : goal.unreachable-requires-in-Bad
unreachable-requires-in-Bad g c =
    let is : IsDoneOrMemory c.join_held-outcome.result.outcome =
    is_done (recipe_seen c.args.recipe) c.in_ok-query.query c.args.recipe.few_rows c.args.recipe.some_keys (omega (arith, c.args.recipe.few_keys)) c.in_ok-query.ensures c.in_ok-made.made.left c.in_ok-made.made.right c.in_ok-made.ensures.left c.in_ok-made.ensures.right
    (crew_seen c.args.plan.now.size) c.join_held-outcome.result.outcome c.join_held-outcome.result.text.text c.join_held-outcome.result.ran c.join_held-outcome.ensures in
    elim c.in-Bad.is [
      | inl bad ↦ subst IsDoneOrMemory bad.3 is
      | inr others ↦ elim others [
        | inl source ↦ subst IsDoneOrMemory source.1 is
        | inr more ↦ elim more [ inl sink ↦ subst IsDoneOrMemory sink is | inr too_many ↦ subst IsDoneOrMemory too_many is ]
      ]
    ]
