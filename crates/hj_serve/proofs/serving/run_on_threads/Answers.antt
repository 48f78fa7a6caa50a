use Rattle.std.proofs.Common.{sym, subst}
use Rattle.hj_opening.specs.Calls.{call}
use Rattle.hj_serve.specs.declared.plan.ThreadsOrder.{ThreadsOrder}
use Rattle.hj_serve.specs.OnCrew.{RunsOnCrew}
use Rattle.hj_serve.specs.OrderPlan.{asked_threads, crew_seen}
use Rattle.hj_serve.proofs.serving.run_on_threads.Goals as goal

pub returns-in-Gen : goal.returns-in-Gen
returns-in-Gen g c =
    let before = g.O.Outside.state c.args.outside.now in
    subst (λ (order : ThreadsOrder). RunsOnCrew (crew_seen c.args.plan.now.size) c.generate.result (asked_threads order) (call (g.O.Outside.under c.args.outside.now) before before (g.K.Sink.told c.args.out.now) (g.K.Sink.told c.generate.new.out) (g.K.Sink.faults c.args.out.now) (g.K.Sink.faults c.generate.new.out)))
    (sym c.in-Gen.is) (c.generate.ensures (g.O.Outside.under c.args.outside.now) before c.requires.roles)
