use Rattle.hj_desk.specs.Caller.{GoesOnAsking}
use Rattle.hj_desk.proofs.caller.Caller.admit_all.Given as goal

abbrev pub invariant-loop-put : goal.invariant-loop-put
invariant-loop-put g l = GoesOnAsking g.F.Feed.gives g.F.Feed.state g.O.Outlet.gave l.fn.self l.self
