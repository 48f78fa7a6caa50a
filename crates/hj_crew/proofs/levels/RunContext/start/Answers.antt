use Rattle.hj_crew.proofs.Staying.{team-stays}
use Rattle.hj_crew.proofs.levels.RunContext.start.Goals as goal

pub returns-then-is_kept-clause-refused : goal.returns-then-is_kept-clause-refused
returns-then-is_kept-clause-refused g c = team-stays c.args.team
