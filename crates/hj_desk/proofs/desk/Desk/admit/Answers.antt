use Rattle.std.proofs.Common.{sym, ◌∙◌, true≢false}
use Rattle.hj_desk.proofs.Driving.{admits-behind}
use Rattle.hj_desk.proofs.desk.Desk.admit.Goals as goal

pub close-requires-clause-number : goal.close-requires-clause-number
close-requires-clause-number g c = λ spent. true≢false (sym (c.is_spent.ensures.1 spent) ∙ c.if-is_spent.false)

pub put_event-requires-clause-number : goal.put_event-requires-clause-number
put_event-requires-clause-number g c = λ spent. true≢false (sym (c.is_spent.ensures.1 spent) ∙ c.if-is_spent.false)

pub returns-else-not-has_room : goal.returns-else-not-has_room
returns-else-not-has_room g c = admits-behind c.args.self.now c.has_room.new.self c.put_event.new.self c.has_room.ensures.links c.has_room.ensures.quiet c.put_event.ensures
