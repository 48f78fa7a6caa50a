use Rattle.std.proofs.Common.{length}
use Rattle.hj_desk.specs.declared.caller.Round.TheVariants.{GotOn, Over}
use Rattle.hj_desk.specs.Caller.{GoesRound}
use Rattle.hj_crew.specs.Teams.{TeamStays}
use Rattle.hj_desk.proofs.Rounds.{no-round, round-behind}
use Rattle.hj_crew.proofs.Halting.{round-as}
use Rattle.hj_crew.proofs.Staying.{related-refl, related-trans, team-stays, team-stays-on}
use Rattle.hj_crew.proofs.begun.BegunRun.run_to_end.Goals as goal

pub loop-init : goal.loop-init
loop-init g c = record {
  goes = no-round g.F.Feed.gives g.F.Feed.state g.O.Outlet.gave g.O.Outlet.rests c.args.self.caller;
  teams = related-refl TeamStays team-stays c.args.self.teams.items;
  ready = c.requires;
}

pub returns-in-Over : goal.returns-in-Over
returns-in-Over g c =
    let back = c.run_under-halt.result.back in
    let goes : GoesRound g.F.Feed.gives g.F.Feed.state g.O.Outlet.gave g.O.Outlet.rests (Over c.in-Over.fin) c.loop.begun.caller back.caller =
    round-as g.F.Feed.gives g.F.Feed.state g.O.Outlet.gave g.O.Outlet.rests c.loop.begun.caller back.caller c.run_under-halt.result.halt _ c.in-Over.is c.run_under-halt.ensures.goes in
    record {
      ends = round-behind g.F.Feed.gives g.F.Feed.state g.O.Outlet.gave g.O.Outlet.rests (Over c.in-Over.fin) c.args.self.caller c.loop.begun.caller back.caller c.loop.invariant.goes goes;
      teams = related-trans TeamStays team-stays-on c.args.self.teams.items c.loop.begun.teams.items back.teams.items c.loop.invariant.teams c.run_under-halt.ensures.teams;
    }

pub loop-preserved : goal.loop-preserved
loop-preserved g c =
    let back = c.run_under-halt.result.back in
    let goes : GoesRound g.F.Feed.gives g.F.Feed.state g.O.Outlet.gave g.O.Outlet.rests GotOn c.loop.begun.caller back.caller =
    round-as g.F.Feed.gives g.F.Feed.state g.O.Outlet.gave g.O.Outlet.rests c.loop.begun.caller back.caller c.run_under-halt.result.halt _ c.in-GoesOn.is c.run_under-halt.ensures.goes in
    record {
      goes = round-behind g.F.Feed.gives g.F.Feed.state g.O.Outlet.gave g.O.Outlet.rests GotOn c.args.self.caller c.loop.begun.caller back.caller c.loop.invariant.goes goes;
      teams = related-trans TeamStays team-stays-on c.args.self.teams.items c.loop.begun.teams.items back.teams.items c.loop.invariant.teams c.run_under-halt.ensures.teams;
      ready = c.run_under-halt.ensures.ready (length c.args.signals.now) c.loop.invariant.ready;
    }
