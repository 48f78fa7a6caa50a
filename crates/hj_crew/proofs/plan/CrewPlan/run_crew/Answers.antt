use Rattle.std.proofs.Common.{length, subst, sym}
use Rattle.hj_desk.specs.declared.caller.Caller.{Caller}
use Rattle.hj_crew.specs.Begun.{CanStart}
use Rattle.hj_crew.proofs.Running.{can-start, crew-back, shows-run}
use Rattle.hj_crew.proofs.plan.CrewPlan.run_crew.Goals as goal

pub run_to_end-caller-requires-after_bounds : goal.run_to_end-caller-requires-after_bounds
run_to_end-caller-requires-after_bounds g c κs within =
    let crew = c.args.crew in
    subst (λ signals. CanStart g.F.Feed.state (length signals) (record { caller = record { desk = crew.desk; feed = c.args.feed; outlet = c.args.outlet; awaited = 0 }; teams = crew.teams; own = crew.own; done = crew.done })) (sym c.as_slice.ensures.value)
    (can-start g.F.Feed.state c.requires.crew.0 c.args.self.now.size crew c.args.feed c.args.outlet c.requires.crew.1 c.requires.fresh)

pub close_crew-ran-requires-clause-crew : goal.close_crew-ran-requires-clause-crew
close_crew-ran-requires-clause-crew g c =
    let chain = c.args.self.now.size.chain in
    let back = c.run_to_end-caller.result in
    let manned = c.requires.crew.1 in (
      c.requires.crew.0,
      crew-back g.F.Feed.gives g.F.Feed.state g.O.Outlet.gave g.O.Outlet.rests c.requires.crew.0 chain.cores chain.flight (record { desk = c.args.crew.desk; feed = c.args.feed; outlet = c.args.outlet; awaited = 0 }) back.caller back.fin c.run_to_end-caller.ensures.ends c.args.crew.teams.items back.teams.items manned.chain
          c.run_to_end-caller.ensures.teams,
    )

pub returns : goal.returns
returns g c = λ join manned.
    let chain = c.args.self.now.size.chain in
    let begun : Caller g.row.P.Denot g.row.F.Denot g.row.O.Denot = record { desk = c.args.crew.desk; feed = c.args.feed; outlet = c.args.outlet; awaited = 0 } in
    let back = c.run_to_end-caller.result in
    let crew =
    crew-back g.F.Feed.gives g.F.Feed.state g.O.Outlet.gave g.O.Outlet.rests join chain.cores chain.flight begun back.caller back.fin c.run_to_end-caller.ensures.ends c.args.crew.teams.items back.teams.items manned.chain
    c.run_to_end-caller.ensures.teams
    in
    shows-run g.F.Feed.gives g.F.Feed.state g.O.Outlet.gave g.O.Outlet.rests join chain.cores chain.flight begun back.caller back.fin c.run_to_end-caller.ensures.ends c.args.crew.teams.items back.teams.items manned.chain c.run_to_end-caller.ensures.teams g.J.Join.predicate
    c.close_crew-ran.result (manned.stands (g.F.Feed.state c.args.feed) c.requires.fresh) manned.going chain.some_cores (c.close_crew-ran.ensures.closed join crew) c.close_crew-ran.ensures.flight c.close_crew-ran.ensures.ended
