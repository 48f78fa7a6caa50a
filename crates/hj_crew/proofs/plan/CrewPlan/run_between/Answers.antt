use Rattle.hj_crew.proofs.plan.CrewPlan.run_between.Goals as goal

pub returns-clause-runs : goal.returns-clause-runs
returns-clause-runs g c = c.run_crew-ran.ensures c.args.input.join.now c.in-Ok.ensures.crew
