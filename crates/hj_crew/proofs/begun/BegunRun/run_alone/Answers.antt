use Rattle.std.proofs.Common.{List, ap, arith, length, subst, sym}
use Rattle.std.specs.List.{AllZip}
use Rattle.std.specs.Vec.{with_items}
use Rattle.std.proofs.lemmas.Slice.Zip.{AllZip-long}
use Rattle.hj_crew.specs.declared.team.Team.{Team}
use Rattle.hj_crew.specs.Teams.{TeamStays}
use Rattle.hj_crew.proofs.Halting.{has-halted}
use Rattle.hj_crew.proofs.Staying.{written_back}
use Rattle.hj_crew.proofs.begun.BegunRun.run_alone.Goals as goal

pub returns : goal.returns
returns g c =
    let begun = c.args.self in
    let start = c.requires.1 in
    let turned = c.drive_alone-halt.new.teams in
    let same : AllZip TeamStays begun.teams.items turned =
    subst (λ (teams : List (Team g.row.P.Denot g.row.J.Denot g.row.S.Denot)). AllZip TeamStays teams turned) c.as_mut_slice.ensures.value c.drive_alone-halt.ensures.teams in
    let long = AllZip-long TeamStays begun.teams.items turned same in
    let written = written_back begun.teams.items turned begun.teams.len long begun.teams.ok.0 in
    has-halted g.F.Feed.gives g.F.Feed.state g.O.Outlet.gave g.O.Outlet.rests begun (record { caller = c.drive_alone-halt.new.caller; teams = with_items begun.teams turned; own = begun.own; done = begun.done })
    c.drive_alone-halt.result c.drive_alone-halt.ensures.goes (subst (AllZip TeamStays begun.teams.items) (sym written) same)
    (omega (arith, start.can.own, long, ap length written)) (omega (arith, start.can.done, long, ap length written)) start.no_own start.none_done
