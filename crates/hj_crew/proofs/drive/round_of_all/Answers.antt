use Rattle.hj_crew.specs.Teams.{TeamStays}
use Rattle.hj_crew.proofs.Staying.{related-refl, team-stays}
use Rattle.hj_crew.proofs.drive.round_of_all.Goals as goal

pub returns-in-Over-clause-own : goal.returns-in-Over-clause-own
returns-in-Over-clause-own g c = related-refl TeamStays team-stays c.args.own.now
