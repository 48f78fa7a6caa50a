use Rattle.std.proofs.Common.{ap, arith, length}
use Rattle.std.proofs.lemmas.Slice.Zip.{AllZip-long}
use Rattle.hj_crew.specs.Teams.{TeamStays}
use Rattle.hj_crew.proofs.Halting.{has-halted, stays-empty}
use Rattle.hj_crew.proofs.Teaming.{all-back}
use Rattle.hj_crew.proofs.begun.BegunRun.start_all.Goals as goal

pub returns : goal.returns
returns g c =
    let begun = c.args.self in
    let new = c.start_from_last-halt.new.self in
    let given = c.start_from_last-halt.ensures in
    let back = all-back begun.teams.items begun.done.items new.done.items c.requires.none_done given.done in
    let long = AllZip-long TeamStays begun.teams.items new.done.items back in
    let no_own = stays-empty begun.own.items new.own.items c.requires.no_own given.own in
    has-halted g.F.Feed.gives g.F.Feed.state g.O.Outlet.gave g.O.Outlet.rests begun (record { caller = new.caller; teams = new.done; own = new.own; done = new.teams }) c.start_from_last-halt.result given.goes back
    (omega (arith, new.own.ok.0, ap length no_own, long, given.own_capacity, c.requires.can.own))
    (omega (arith, new.teams.ok.0, ap length given.none, long, given.teams_capacity, begun.teams.ok.0, begun.teams.ok.1)) no_own given.none
