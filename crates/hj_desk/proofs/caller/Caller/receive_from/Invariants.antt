use Rattle.std.proofs.Common.{[]}
use Rattle.hj_msg.specs.declared.drain.Drained.TheVariants.{Kept}
use Rattle.hj_desk.specs.Caller.{Goes}
use Rattle.hj_desk.proofs.caller.Caller.receive_from.Given as goal

abbrev pub invariant-loop-taken : goal.invariant-loop-taken
invariant-loop-taken g l = Goes g.F.Feed.gives g.F.Feed.state g.O.Outlet.gave l.fn.self [] Kept l.self
