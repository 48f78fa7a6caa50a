use Rattle.std.proofs.Common.{[]}
use Rattle.hj_desk.proofs.Going.{asking-twice, goes-nothing}
use Rattle.hj_desk.proofs.caller.Caller.admit_all.Goals as goal

pub loop-put-init : goal.loop-put-init
loop-put-init g c = ([], goes-nothing g.F.Feed.gives g.F.Feed.state g.O.Outlet.gave c.args.self.now)

pub returns-then-not-admit_next : goal.returns-then-not-admit_next
returns-then-not-admit_next g c = asking-twice g.F.Feed.gives g.F.Feed.state g.O.Outlet.gave c.args.self.now c.loop-put.self c.admit_next.new.self c.loop-put.invariant c.admit_next.ensures

pub loop-put-preserved : goal.loop-put-preserved
loop-put-preserved g c = asking-twice g.F.Feed.gives g.F.Feed.state g.O.Outlet.gave c.args.self.now c.loop-put.self c.admit_next.new.self c.loop-put.invariant c.admit_next.ensures
