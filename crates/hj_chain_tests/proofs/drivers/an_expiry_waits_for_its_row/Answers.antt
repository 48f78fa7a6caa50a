use Rattle.std.proofs.Common.{◌≡◌, refl, ap, ◌∙◌}
use Rattle.hj_driver.specs.Driver.{DriverState}
use Rattle.hj_chain_tests.proofs.FirstRow.{asked-first, asked-next, expiry, expiry_is, first-received, has-first, put-first, waits-behind}
use Rattle.hj_chain_tests.proofs.drivers.an_expiry_waits_for_its_row.Goals as goal

pub admit-first-requires : goal.admit-first-requires
admit-first-requires g c = asked-first c.in_ok-driver.driver 2 c.arrival.result c.in_ok-driver.ensures c.arrival.ensures

pub admit-early-requires : goal.admit-early-requires
admit-early-requires g c =
    let put = put-first c.in_ok-driver.driver c.admit-first.new.self 2 c.arrival.result c.admit-first.result c.in_ok-driver.ensures c.arrival.ensures refl c.admit-first.ensures.answer c.admit-first.ensures.sent in
    asked-next c.admit-first.new.self expiry c.expiry_of_0-2.result (has-first c.admit-first.new.self put) c.expiry_of_0-2.ensures expiry_is

pub admit-then-requires : goal.admit-then-requires
admit-then-requires g c =
    let put = put-first c.in_ok-driver.driver c.admit-first.new.self 2 c.arrival.result c.admit-first.result c.in_ok-driver.ensures c.arrival.ensures refl c.admit-first.ensures.answer c.admit-first.ensures.sent in
    let room : c.admit-first.new.self.flight ≡ 2 = c.admit-first.ensures.flight ∙ ap (λ (d : DriverState). d.flight) c.in_ok-driver.ensures in
    let early = waits-behind c.admit-first.new.self c.admit-early.new.self 2 expiry c.expiry_of_0-2.result c.admit-early.result put expiry_is room c.expiry_of_0-2.ensures refl c.admit-early.ensures.answer c.admit-early.ensures.waits in
    let out = first-received c.admit-early.new.self c.took.new.self _ _ c.took.ensures.turn early in
    asked-next c.took.new.self expiry c.expiry_of_0-4.result out c.expiry_of_0-4.ensures expiry_is
