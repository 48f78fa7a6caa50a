use Rattle.hj_desk.specs.declared.caller.Round.TheVariants.{GotOn, Over}
use Rattle.hj_crew.specs.Teams.{TeamStays}
use Rattle.hj_desk.proofs.Rounds.{no-round, round-behind, waited}
use Rattle.hj_crew.proofs.Staying.{related-refl, related-trans, team-stays, team-stays-on}
use Rattle.hj_crew.proofs.drive.make_rounds.Goals as goal

pub loop-init : goal.loop-init
loop-init g c = record { goes = no-round g.F.Feed.gives g.F.Feed.state g.O.Outlet.gave g.O.Outlet.rests c.args.caller.now; own = related-refl TeamStays team-stays c.args.own.now }

pub returns-in-Over-clause-goes : goal.returns-in-Over-clause-goes
returns-in-Over-clause-goes g c = round-behind g.F.Feed.gives g.F.Feed.state g.O.Outlet.gave g.O.Outlet.rests (Over c.in-Over.fin) c.args.caller.now c.loop.caller c.round_of_all.new.caller c.loop.invariant.goes c.in-Over.ensures.goes

pub returns-in-Over-clause-own : goal.returns-in-Over-clause-own
returns-in-Over-clause-own g c = related-trans TeamStays team-stays-on c.args.own.now c.loop.own c.round_of_all.new.own c.loop.invariant.own c.round_of_all.ensures.own

pub loop-preserved-in-GotOn : goal.loop-preserved-in-GotOn
loop-preserved-in-GotOn g c = record {
  goes = round-behind g.F.Feed.gives g.F.Feed.state g.O.Outlet.gave g.O.Outlet.rests GotOn c.args.caller.now c.loop.caller c.round_of_all.new.caller c.loop.invariant.goes c.in-GotOn.ensures.goes;
  own = related-trans TeamStays team-stays-on c.args.own.now c.loop.own c.round_of_all.new.own c.loop.invariant.own c.round_of_all.ensures.own;
}

pub loop-preserved : goal.loop-preserved
loop-preserved g c = record {
  goes =
      round-behind g.F.Feed.gives g.F.Feed.state g.O.Outlet.gave g.O.Outlet.rests GotOn c.args.caller.now c.loop.caller c.round_of_all.new.caller c.loop.invariant.goes
      (waited g.F.Feed.gives g.F.Feed.state g.O.Outlet.gave g.O.Outlet.rests c.loop.caller c.round_of_all.new.caller c.in-Waits.ensures.goes);
  own = related-trans TeamStays team-stays-on c.args.own.now c.loop.own c.round_of_all.new.own c.loop.invariant.own c.round_of_all.ensures.own;
}
