use Rattle.std.proofs.Common.{[]}
use Rattle.hj_msg.specs.declared.drain.Drained.TheVariants.{Kept}
use Rattle.hj_desk.proofs.Going.{goes-nothing, goes-on, goes-received}
use Rattle.hj_desk.proofs.caller.Caller.receive_from.Goals as goal

pub loop-taken-init : goal.loop-taken-init
loop-taken-init g c = goes-nothing g.F.Feed.gives g.F.Feed.state g.O.Outlet.gave c.args.self.now

pub returns-then-ne : goal.returns-then-ne
returns-then-ne g c =
    let old = c.loop-taken.self in
    goes-on g.F.Feed.gives g.F.Feed.state g.O.Outlet.gave c.args.self.now old (record old { desk = c.receive.new.self }) [] [] Kept c.loop-taken.invariant
    (goes-received g.F.Feed.gives g.F.Feed.state g.O.Outlet.gave old c.receive.new.self old.awaited c.args.port c.receive.result c.receive.ensures)

pub loop-taken-preserved : goal.loop-taken-preserved
loop-taken-preserved g c =
    let old = c.loop-taken.self in
    goes-on g.F.Feed.gives g.F.Feed.state g.O.Outlet.gave c.args.self.now old (record old { desk = c.receive.new.self }) [] [] Kept c.loop-taken.invariant
    (goes-received g.F.Feed.gives g.F.Feed.state g.O.Outlet.gave old c.receive.new.self old.awaited c.args.port c.receive.result c.receive.ensures)
