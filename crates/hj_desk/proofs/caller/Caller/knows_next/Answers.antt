use Rattle.std.proofs.Common.{[], ◌∷◌}
use Rattle.hj_desk.proofs.Going.{goes-asked, goes-nothing}
use Rattle.hj_desk.proofs.caller.Caller.knows_next.Goals as goal

pub returns-then-not-is_unasked : goal.returns-then-not-is_unasked
returns-then-not-is_unasked g c = ([], goes-nothing g.F.Feed.gives g.F.Feed.state g.O.Outlet.gave c.args.self.now)

pub returns-then-not-is_quiet : goal.returns-then-not-is_quiet
returns-then-not-is_quiet g c = ([], goes-nothing g.F.Feed.gives g.F.Feed.state g.O.Outlet.gave c.args.self.now)

pub returns : goal.returns
returns g c =
    let gave = c.ask.ensures.gives in (
      gave.0 ∷ [],
      goes-asked g.F.Feed.gives g.F.Feed.state g.O.Outlet.gave c.args.self.now gave.0 c.ask.new.self c.ask.new.feed gave.1 gave.2 c.ask.ensures.stands,
    )
