use Rattle.std.specs.Prelude.{length}
use Rattle.std.specs.List.{AllZip}
use Rattle.hj_desk.specs.declared.caller.Round.TheVariants.{GotOn}
use Rattle.hj_desk.specs.Caller.{GoesRound}
use Rattle.hj_crew.specs.Begun.{CanStart}
use Rattle.hj_crew.specs.Teams.{TeamStays}
use Rattle.hj_crew.proofs.begun.BegunRun.run_to_end.Given as goal

-- What was done so far, and threads may be started.
abbrev pub invariant-loop : goal.invariant-loop
invariant-loop g l = record {
  goes : GoesRound g.F.Feed.gives g.F.Feed.state g.O.Outlet.gave g.O.Outlet.rests GotOn l.fn.self.caller l.begun.caller;
  teams : AllZip TeamStays l.fn.self.teams.items l.begun.teams.items;
  ready : CanStart g.F.Feed.state (length l.fn.signals) l.begun;
}
