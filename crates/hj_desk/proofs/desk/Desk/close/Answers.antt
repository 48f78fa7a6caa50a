use Rattle.std.proofs.Common.{◌≡◌, ◌+◌, ap, refl, sym, ◌∙◌, rules}
use Rattle.hj_msg.specs.Driver.{closing}
use Rattle.hj_driver.specs.declared.answers.Closing.TheVariants.{Send}
use Rattle.hj_driver.specs.Driver.{DriverState, closed, closing_of}
use Rattle.hj_desk.proofs.Driving.{links-twice, notes-quiet, puts-closes}
use Rattle.hj_desk.proofs.desk.Desk.close.Goals as goal

pub returns : goal.returns
returns g c =
    let old = c.args.self.now in
    let one = c.has_room.new.self in
    let two = c.has_room-2.new.self in
    let last = c.put_closes.new.self in
    let answered : c.closing.result ≡ Send = search rules in
    let sends : closing_of old.driver ≡ Send = sym c.closing.ensures ∙ answered in
    let shut : c.close.new.self ≡ closed old.driver = c.close.ensures.sent (c.close.ensures.answer ∙ sends) in
    puts-closes old (old.turns + 1) refl c.close.new.self (ap (λ (s : DriverState). s.flight) shut) last c.requires.last
    (links-twice old.ports one last c.has_room.ensures.links (links-twice one two last c.has_room-2.ensures.links c.put_closes.ensures.links))
    (notes-quiet old.ports one last old.turns closing c.has_room.ensures.quiet (notes-quiet one two last old.turns closing c.has_room-2.ensures.quiet c.put_closes.ensures.closes)) sends
    shut
