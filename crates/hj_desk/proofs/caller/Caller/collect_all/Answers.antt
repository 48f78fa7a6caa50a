use Rattle.std.proofs.Common.{[]}
use Rattle.hj_msg.specs.declared.drain.Drained.TheVariants.{Kept}
use Rattle.hj_desk.proofs.Going.{goes-nothing, goes-on}
use Rattle.hj_desk.proofs.caller.Caller.collect_all.Goals as goal

pub loop-place-init : goal.loop-place-init
loop-place-init g c = goes-nothing g.F.Feed.gives g.F.Feed.state g.O.Outlet.gave c.args.self.now

pub loop-place-preserved : goal.loop-place-preserved
loop-place-preserved g c = goes-on g.F.Feed.gives g.F.Feed.state g.O.Outlet.gave c.args.self.now c.loop-place.self c.collect_from.new.self [] [] Kept c.loop-place.invariant c.collect_from.ensures
