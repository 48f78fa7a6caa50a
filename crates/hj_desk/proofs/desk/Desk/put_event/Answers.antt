use Rattle.std.proofs.Common.{◌≡◌, ◌+◌, List, ◌∷◌, [], ◌++◌, Some, None, Option, refl, sym, ap, ◌∙◌, subst}
use Rattle.hj_msg.specs.declared.event.Event as happening
use Rattle.hj_msg.specs.declared.feed.Given.{Given}
use Rattle.hj_msg.specs.declared.feed.Given.TheVariants.{Event}
use Rattle.hj_msg.specs.Driver.{DriverTurn, admission}
use Rattle.hj_driver.specs.Driver.{cause_of}
use Rattle.hj_driver.specs.StandsFor as driver
use Rattle.hj_desk.specs.declared.step.DeskStep.TheVariants.{Did}
use Rattle.hj_desk.specs.Desk.{turns_of}
use Rattle.hj_desk.specs.Steps.{Admits}
use Rattle.hj_desk.proofs.Driving.{message-sent, never-waits, next-well, notes-put, port-sent, puts-event, same-event, sent-as, when-sent}
use Rattle.hj_desk.proofs.desk.Desk.put_event.Goals as goal

pub unreachable-requires-in_default-admit : goal.unreachable-requires-in_default-admit
unreachable-requires-in_default-admit g c =
    let event = c.in-Some-Event.event in
    let known : c.args.self.now.next ≡ Some (Event event) = sym c.take.ensures.value ∙ c.in-Some-Event.is ∙ ap (λ (x : Given g.row.P.Denot). Some x) c.in-Some-Event.field-0-is in
    let same = same-event c.args.self.now.next event c.requires.event.0 known c.requires.event.1 in
    let free : cause_of event c.args.self.now.driver ≡ None = subst (λ (e : happening.Event g.row.P.Denot). cause_of e c.args.self.now.driver ≡ None) (sym same) c.requires.event.2 in
    let feed = c.requires.stands.0 in
    let history = c.requires.stands.1.0 in
    let stood = c.requires.stands.1.1 in
    let well = next-well c.args.self.now.next event feed (turns_of history.log) history.events known stood.fed in
    never-waits c.args.self.now.driver (turns_of history.log) event stood.drives.stands well free c.admit.result (c.admit.ensures.answer (turns_of history.log) stood.drives.stands well)
    c.in_default-admit.field-0 c.in_default-admit.field-1 c.in_default-admit.is

pub returns : goal.returns
returns g c =
    let old = c.args.self.now in
    let event = c.in-Some-Event.event in
    let known : old.next ≡ Some (Event event) = sym c.take.ensures.value ∙ c.in-Some-Event.is ∙ ap (λ (x : Given g.row.P.Denot). Some x) c.in-Some-Event.field-0-is in
    let same = same-event old.next event c.requires.event.0 known c.requires.event.1 in
    let free : cause_of event old.driver ≡ None = subst (λ (e : happening.Event g.row.P.Denot). cause_of e old.driver ≡ None) (sym same) c.requires.event.2 in
    let feed = c.requires.stands.0 in
    let history = c.requires.stands.1.0 in
    let stood = c.requires.stands.1.1 in
    let well = next-well old.next event feed (turns_of history.log) history.events known stood.fed in
    let sent = sent-as old.driver (turns_of history.log) event stood.drives.stands well free c.admit.result (c.admit.ensures.answer (turns_of history.log) stood.drives.stands well) in
    let notes =
    notes-put old.ports c.put.new.self old.turns event c.in-Send.port c.in-Send.message (port-sent c.admit.result c.in-Send.port _ c.in-Send.message _ c.in-Send.is sent) (message-sent c.admit.result c.in-Send.port _ c.in-Send.message _ c.in-Send.is sent)
    c.put.ensures.left c.put.ensures.right in
    subst (λ (n : Option (Given g.row.P.Denot)). Admits Did old (record old { driver = c.admit.new.self; ports = c.put.new.self; turns = old.turns + 1; next = n })) (sym c.take.ensures.after)
    (puts-event old (old.turns + 1) refl c.admit.new.self c.admit.ensures.flight c.put.new.self event known c.put.ensures.links notes
    (λ (turns : List (DriverTurn g.row.P.Denot)) stands fits. when-sent c.admit.result c.in-Send.port c.in-Send.message (driver.StandsFor c.admit.new.self (turns ++ admission event ∷ [])) c.in-Send.is (c.admit.ensures.sent turns stands fits)))
