use Rattle.std.specs.List.{AllZip}
use Rattle.hj_desk.specs.declared.caller.Round.TheVariants.{GotOn}
use Rattle.hj_desk.specs.Caller.{GoesRound}
use Rattle.hj_crew.specs.Teams.{TeamStays}
use Rattle.hj_crew.proofs.drive.make_rounds.Given as goal

abbrev pub invariant-loop : goal.invariant-loop
invariant-loop g l = record { goes : GoesRound g.F.Feed.gives g.F.Feed.state g.O.Outlet.gave g.O.Outlet.rests GotOn l.fn.caller l.caller; own : AllZip TeamStays l.fn.own l.own }
