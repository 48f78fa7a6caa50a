use Rattle.std.proofs.Common.{◌≡◌, ◌≢◌, [], sym, ◌∙◌, rules}
use Rattle.hj_msg.specs.declared.drain.Drained.TheVariants.{Kept, Refused}
use Rattle.hj_desk.proofs.Going.{goes-on, goes-stands}
use Rattle.hj_collect.proofs.Giving.{was-kept}
use Rattle.hj_desk.proofs.Rounds.{given-stands, round-on, round-over, round-refused, round-waits}
use Rattle.hj_desk.proofs.caller.Caller.round.Goals as goal

pub collect_all-collected-requires-clause-stands : goal.collect_all-collected-requires-clause-stands
collect_all-collected-requires-clause-stands g c =
    let old = c.args.self.now in
    let one = c.receive_from-at_left.new.self in
    let two = c.receive_from-at_right.new.self in
    goes-stands g.F.Feed.gives g.F.Feed.state g.O.Outlet.gave old two [] Kept (goes-on g.F.Feed.gives g.F.Feed.state g.O.Outlet.gave old one two [] [] Kept c.receive_from-at_left.ensures c.receive_from-at_right.ensures) c.requires.stands

pub returns-then-eq : goal.returns-then-eq
returns-then-eq g c =
    let refused : c.release.result ≡ Refused = search rules in
    round-refused g.F.Feed.gives g.F.Feed.state g.O.Outlet.gave g.O.Outlet.rests c.args.self.now c.receive_from-at_left.new.self c.receive_from-at_right.new.self c.collect_all-collected.new.self c.receive_from-at_left.ensures c.receive_from-at_right.ensures
    c.collect_all-collected.ensures c.release.new.outlet c.release.result c.release.ensures refused

pub returns-in-Some : goal.returns-in-Some
returns-in-Some g c =
    let other : c.release.result ≢ Refused = search rules in
    round-over g.F.Feed.gives g.F.Feed.state g.O.Outlet.gave g.O.Outlet.rests c.args.self.now c.receive_from-at_left.new.self c.receive_from-at_right.new.self c.collect_all-collected.new.self c.receive_from-at_left.ensures c.receive_from-at_right.ensures
    c.collect_all-collected.ensures c.release.new.outlet c.release.result c.release.ensures (was-kept c.release.result other) c.in-Some.fin c.requires.stands (sym c.end.ensures ∙ c.in-Some.is)

pub admit_all-put-requires : goal.admit_all-put-requires
admit_all-put-requires g c =
    given-stands g.F.Feed.gives g.F.Feed.state g.O.Outlet.gave g.O.Outlet.rests c.args.self.now c.receive_from-at_left.new.self c.receive_from-at_right.new.self c.collect_all-collected.new.self c.receive_from-at_left.ensures c.receive_from-at_right.ensures
    c.collect_all-collected.ensures c.release.new.outlet c.release.result c.release.ensures c.requires.stands

pub returns-then-put : goal.returns-then-put
returns-then-put g c =
    let other : c.release.result ≢ Refused = search rules in
    round-on g.F.Feed.gives g.F.Feed.state g.O.Outlet.gave g.O.Outlet.rests c.args.self.now c.receive_from-at_left.new.self c.receive_from-at_right.new.self c.collect_all-collected.new.self c.receive_from-at_left.ensures c.receive_from-at_right.ensures
    c.collect_all-collected.ensures c.release.new.outlet c.release.result c.release.ensures (was-kept c.release.result other) c.admit_all-put.new.self c.admit_all-put.ensures

pub returns-else-put : goal.returns-else-put
returns-else-put g c =
    let other : c.release.result ≢ Refused = search rules in
    round-waits g.F.Feed.gives g.F.Feed.state g.O.Outlet.gave g.O.Outlet.rests c.args.self.now c.receive_from-at_left.new.self c.receive_from-at_right.new.self c.collect_all-collected.new.self c.receive_from-at_left.ensures c.receive_from-at_right.ensures
    c.collect_all-collected.ensures c.release.new.outlet c.release.result c.release.ensures (was-kept c.release.result other) c.admit_all-put.new.self c.admit_all-put.ensures
