use Rattle.hj_worker.specs.Turning.{StaysItself}
use Rattle.hj_crew.proofs.Staying.{related-refl, related-trans, stays, stays-on}
use Rattle.hj_crew.proofs.team.TeamContext.work.Goals as goal

pub loop-init : goal.loop-init
loop-init g c = related-refl StaysItself stays c.args.team.workers.items

pub loop-preserved : goal.loop-preserved
loop-preserved g c = related-trans StaysItself stays-on c.args.team.workers.items c.loop.team.workers.items c.round.new.self.workers.items c.loop.invariant c.round.ensures

pub loop-preserved-in-GotOn : goal.loop-preserved-in-GotOn
loop-preserved-in-GotOn g c = related-trans StaysItself stays-on c.args.team.workers.items c.loop.team.workers.items c.round.new.self.workers.items c.loop.invariant c.round.ensures

pub loop-preserved-in-NoMemory : goal.loop-preserved-in-NoMemory
loop-preserved-in-NoMemory g c = related-trans StaysItself stays-on c.args.team.workers.items c.loop.team.workers.items c.round.new.self.workers.items c.loop.invariant c.round.ensures

pub returns-in-Over : goal.returns-in-Over
returns-in-Over g c = related-trans StaysItself stays-on c.args.team.workers.items c.loop.team.workers.items c.round.new.self.workers.items c.loop.invariant c.round.ensures
