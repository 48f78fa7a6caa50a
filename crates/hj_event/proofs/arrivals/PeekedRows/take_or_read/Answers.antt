use Rattle.std.proofs.Common.{◌≡◌, false, is_some, Ok, List, Option, subst, rules}
use Rattle.hj_value.specs.declared.field.Field.{Field}
use Rattle.hj_base.specs.Outside.{role_of}
use Rattle.hj_event.specs.Taking.{TakesStraight}
use Rattle.hj_event.proofs.SourceLemmas.{takes_unread}
use Rattle.hj_event.proofs.arrivals.PeekedRows.take_or_read.Goals as goal

pub returns-in-Some-clause-looks : goal.returns-in-Some-clause-looks
returns-in-Some-clause-looks g c =
    let none : is_some c.self.inside.head ≡ false = search rules in
    let step = rw (← c.self.view_is) at c.requires.in_step in
    let goes = subst (λ (row : Option (List Field)). TakesStraight (Ok row) c.self.inside.source c.take_last.new.self) c.in-Some.is c.take_last.ensures in
    rw (← c.self.view_is)
    (takes_unread c.in-Some.row c.self.inside.source c.take_last.new.self c.self.inside.head (g.O.Outside.state c.args.outside.now (role_of c.args.side)) none step goes)
