use Rattle.std.proofs.Common.{ℕ, List, sym, subst}
use Rattle.hj_base.specs.declared.output.Sent.TheVariants as sent
use Rattle.hj_opening.specs.Generating.{IsSummary}
use Rattle.hj_serve.specs.Orders.{recipe_seen}
use Rattle.hj_serve.specs.OrderPlan.{crew_seen}
use Rattle.hj_opening.specs.Words.{most_events}
use Rattle.hj_serve.proofs.Summed.{summed_runs, unmade_runs}
use Rattle.hj_serve.proofs.generate.generate.Goals.{in-Whole, in-Failed, in-Memory}
use Rattle.hj_serve.proofs.generate.generate.Goals as goal

pub returns : goal.returns
returns g c = λ under roles none.
    let summary : IsSummary c.bytes.result.now (recipe_seen c.args.recipe) most_events = subst (λ (bytes : List ℕ). IsSummary bytes (recipe_seen c.args.recipe) most_events) (sym c.bytes.ensures) c.in-Ok.ensures.line in
    let runs = summed_runs (recipe_seen c.args.recipe) c.bytes.result.now summary under roles none (g.K.Sink.told c.args.out.now) (g.K.Sink.told c.put_all.new.out) (g.K.Sink.faults c.args.out.now) (g.K.Sink.faults c.put_all.new.out)
    (crew_seen c.args.plan.now.size) c.in-Ok.field-0.ran c.in-Ok.ensures.shows in
    elim c.match-put_all.branch [
      | in-Whole w ↦ runs sent.Whole c.match-put_all.end w.end-is w.in-Whole.ensures.sends w.in-Whole.ensures.faults
      | in-Failed w ↦ runs sent.Failed c.match-put_all.end w.end-is w.in-Failed.ensures.sends w.in-Failed.ensures.faults
      | in-Memory w ↦ runs sent.Memory c.match-put_all.end w.end-is w.in-Memory.ensures.sends w.in-Memory.ensures.faults
    ]

pub returns-in_default : goal.returns-in_default
returns-in_default g c = λ under roles none. unmade_runs (recipe_seen c.args.recipe) under roles none (g.K.Sink.told c.args.out.now) (g.K.Sink.faults c.args.out.now) (crew_seen c.args.plan.now.size)
