use Rattle.std.proofs.Common.{◌≡◌, true, false, is_some, Ok, List, Option, subst, rules}
use Rattle.hj_value.specs.declared.field.Field.{Field}
use Rattle.std.proofs.lemmas.Result.{err_from_is_err_and}
use Rattle.hj_base.specs.Outside.{role_of}
use Rattle.hj_event.specs.declared.stop.SideStop.TheVariants as stop
use Rattle.hj_event.proofs.ArrivalLemmas.{sees_known}
use Rattle.hj_event.specs.Taking.{TakesStraight}
use Rattle.hj_event.proofs.SourceLemmas.{stops_unread, takes_unread}
use Rattle.hj_event.proofs.arrivals.PeekedRows.look.Goals as goal

pub returns-then-is_some-clause-looks : goal.returns-then-is_some-clause-looks
returns-then-is_some-clause-looks g c =
    let some : is_some c.self.inside.head ≡ true = search rules in
    sees_known c.args.self.now (g.O.Outside.state c.args.outside.now (role_of c.args.side)) (rw (← c.self.view_is) some) c.requires

pub returns-in_err-row-clause-looks : goal.returns-in_err-row-clause-looks
returns-in_err-row-clause-looks g c =
    let p = err_from_is_err_and c.from_residual.result c.from_residual.ensures.1 in
    let none : is_some c.self.inside.head ≡ false = search rules in
    let step = rw (← c.self.view_is) at c.requires in
    rw (p.1, p.2, ← c.self.view_is)
    (stops_unread stop.Memory c.self.inside.source c.take_straight.new.self c.self.inside.head (g.O.Outside.state c.args.outside.now (role_of c.args.side)) none step c.in_err-row.ensures)

pub returns-in-Some-clause-looks : goal.returns-in-Some-clause-looks
returns-in-Some-clause-looks g c =
    let none : is_some c.self.inside.head ≡ false = search rules in
    let step = rw (← c.self.view_is) at c.requires in
    let goes = subst (λ (row : Option (List Field)). TakesStraight (Ok row) c.self.inside.source c.take_straight.new.self) c.in-Some.is c.in_ok-row.ensures in
    rw (← c.self.view_is)
    (takes_unread c.in-Some.row c.self.inside.source c.take_straight.new.self c.self.inside.head (g.O.Outside.state c.args.outside.now (role_of c.args.side)) none step goes)
