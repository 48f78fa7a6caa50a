use Rattle.std.proofs.Common.{◌≡◌, ◌∙◌, refl, ap}
use Rattle.hj_crew.specs.declared.plan.CrewSize.{CrewSize}
use Rattle.hj_engine.proofs.Planned.{ready-for, runs-for}
use Rattle.hj_engine.proofs.crew.QueryRun.run_kind.Goals as goal

pub run_over-requires-clause-stores : goal.run_over-requires-clause-stores
run_over-requires-clause-stores g c κs within = ready-for (c.new-join.ensures ∙ c.requires.ready) (ap (λ (s : CrewSize). s.chain) c.for_light_cores-light.ensures.size) c.in-Hash.is c.requires.stores

pub run_over-requires-in-Ordered-clause-stores : goal.run_over-requires-in-Ordered-clause-stores
run_over-requires-in-Ordered-clause-stores g c κs within = ready-for (c.new-join.ensures ∙ c.requires.ready) (ap (λ (s : CrewSize). s.chain) c.for_light_cores-light.ensures.size) c.in-Ordered.is c.requires.stores

pub run_over-requires-in-Columns-clause-stores : goal.run_over-requires-in-Columns-clause-stores
run_over-requires-in-Columns-clause-stores g c κs within =
    let chain = c.args.self.now.plan.now.size.chain in
    let same : chain ≡ chain = refl in
    ready-for (c.new-join.ensures ∙ c.requires.ready) same c.in-Columns.is c.requires.stores

pub returns-in-Hash-clause-runs : goal.returns-in-Hash-clause-runs
returns-in-Hash-clause-runs g c =
    let run = c.run_over in
    runs-for (c.new-join.ensures ∙ c.requires.ready) (ap (λ (s : CrewSize). s.chain) c.for_light_cores-light.ensures.size) g.F.Feed.gives g.F.Feed.state g.O.Outlet.gave g.O.Outlet.rests c.args.feed run.result.1 c.args.outlet run.result.2 run.result.0 run.ensures.runs

pub returns-in-Ordered-clause-runs : goal.returns-in-Ordered-clause-runs
returns-in-Ordered-clause-runs g c =
    let run = c.run_over-in-Ordered in
    runs-for (c.new-join.ensures ∙ c.requires.ready) (ap (λ (s : CrewSize). s.chain) c.for_light_cores-light.ensures.size) g.F.Feed.gives g.F.Feed.state g.O.Outlet.gave g.O.Outlet.rests c.args.feed run.result.1 c.args.outlet run.result.2 run.result.0 run.ensures.runs
