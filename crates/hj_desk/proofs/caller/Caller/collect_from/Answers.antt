use Rattle.std.proofs.Common.{[]}
use Rattle.hj_msg.specs.declared.drain.Drained.TheVariants.{Kept}
use Rattle.hj_desk.proofs.Going.{goes-collected, goes-nothing, goes-on}
use Rattle.hj_desk.proofs.caller.Caller.collect_from.Goals as goal

pub loop-taken-init : goal.loop-taken-init
loop-taken-init g c = goes-nothing g.F.Feed.gives g.F.Feed.state g.O.Outlet.gave c.args.self.now

pub returns-then-ne : goal.returns-then-ne
returns-then-ne g c =
    let old = c.loop-taken.self in
    goes-on g.F.Feed.gives g.F.Feed.state g.O.Outlet.gave c.args.self.now old (record old { desk = c.collect.new.self; outlet = c.collect.new.outlet }) [] [] Kept c.loop-taken.invariant
    (goes-collected g.F.Feed.gives g.F.Feed.state g.O.Outlet.gave old c.collect.new.self c.collect.new.outlet old.awaited c.args.core c.collect.result c.collect.ensures)

pub loop-taken-preserved : goal.loop-taken-preserved
loop-taken-preserved g c =
    let old = c.loop-taken.self in
    let awaited = c.saturating_sub-self.result in
    goes-on g.F.Feed.gives g.F.Feed.state g.O.Outlet.gave c.args.self.now old (record old { desk = c.collect.new.self; outlet = c.collect.new.outlet; awaited = awaited }) [] [] Kept c.loop-taken.invariant
    (goes-collected g.F.Feed.gives g.F.Feed.state g.O.Outlet.gave old c.collect.new.self c.collect.new.outlet awaited c.args.core c.collect.result c.collect.ensures)
