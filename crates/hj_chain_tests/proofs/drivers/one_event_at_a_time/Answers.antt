use Rattle.std.proofs.Common.{◌≡◌, refl, ap, ◌∙◌}
use Rattle.hj_driver.specs.Driver.{DriverState}
use Rattle.hj_chain_tests.proofs.FirstRow.{asked-first, asked-next, first-closed, first-received, has-first, put-first, second, second_is, waits-behind}
use Rattle.hj_chain_tests.proofs.drivers.one_event_at_a_time.Goals as goal

pub admit-first-requires : goal.admit-first-requires
admit-first-requires g c = asked-first c.in_ok-driver.driver 1 c.arrival.result c.in_ok-driver.ensures c.arrival.ensures

pub admit-second-requires : goal.admit-second-requires
admit-second-requires g c =
    let put = put-first c.in_ok-driver.driver c.admit-first.new.self 1 c.arrival.result c.admit-first.result c.in_ok-driver.ensures c.arrival.ensures refl c.admit-first.ensures.answer c.admit-first.ensures.sent in
    asked-next c.admit-first.new.self second c.arrival-2.result (has-first c.admit-first.new.self put) c.arrival-2.ensures second_is

pub admit-late-requires : goal.admit-late-requires
admit-late-requires g c =
    let put = put-first c.in_ok-driver.driver c.admit-first.new.self 1 c.arrival.result c.admit-first.result c.in_ok-driver.ensures c.arrival.ensures refl c.admit-first.ensures.answer c.admit-first.ensures.sent in
    let room : c.admit-first.new.self.flight ≡ 1 = c.admit-first.ensures.flight ∙ ap (λ (d : DriverState). d.flight) c.in_ok-driver.ensures in
    let full = waits-behind c.admit-first.new.self c.admit-second.new.self 1 second c.arrival-2.result c.admit-second.result put second_is room c.arrival-2.ensures refl c.admit-second.ensures.answer c.admit-second.ensures.waits in
    let out = first-received c.admit-second.new.self c.took.new.self _ _ c.took.ensures.turn full in
    let left = first-received c.took.new.self c.took-2.new.self _ _ c.took-2.ensures.turn out in
    let closed = first-closed c.took-2.new.self c.close.new.self c.close.result c.close.ensures.answer c.close.ensures.sent c.close.ensures.waits left in
    let again = first-closed c.close.new.self c.close-2.new.self c.close-2.result c.close-2.ensures.answer c.close-2.ensures.sent c.close-2.ensures.waits closed in
    asked-next c.close-2.new.self second c.arrival-3.result again c.arrival-3.ensures second_is
