use Rattle.hj_msg.specs.declared.drain.Drained.TheVariants.{Kept}
use Rattle.hj_desk.proofs.Going.{asking-on, goes-admitted, goes-stands}
use Rattle.hj_desk.proofs.caller.Caller.admit_next.Goals as goal

pub admit-requires : goal.admit-requires
admit-requires g c =
    let known = c.knows_next.new.self in
    let asked = c.knows_next.ensures in
    (g.F.Feed.state known.feed, goes-stands g.F.Feed.gives g.F.Feed.state g.O.Outlet.gave c.args.self.now known asked.0 Kept asked.1 c.requires)

pub returns-then-ne : goal.returns-then-ne
returns-then-ne g c =
    let known = c.knows_next.new.self in
    asking-on g.F.Feed.gives g.F.Feed.state g.O.Outlet.gave c.args.self.now known (record known { desk = c.admit.new.self }) c.knows_next.ensures
    (goes-admitted g.F.Feed.gives g.F.Feed.state g.O.Outlet.gave known c.admit.new.self known.awaited c.admit.result c.admit.ensures)

pub returns : goal.returns
returns g c =
    let known = c.knows_next.new.self in
    let awaited = c.saturating_add-self.result in
    asking-on g.F.Feed.gives g.F.Feed.state g.O.Outlet.gave c.args.self.now known (record known { desk = c.admit.new.self; awaited = awaited }) c.knows_next.ensures
    (goes-admitted g.F.Feed.gives g.F.Feed.state g.O.Outlet.gave known c.admit.new.self awaited c.admit.result c.admit.ensures)
