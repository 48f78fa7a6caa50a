use Rattle.hj_driver.specs.declared.lane.Departure.TheVariants.{Row, End}
use Rattle.hj_base.specs.declared.numbers.Side.TheVariants.{Left}
use Rattle.hj_driver.specs.Lane.{after_departure, is_other}
use Rattle.hj_driver.proofs.States.{at_left-other, fewer_arrivals, fewer_expiries, fewer_numbers, filter-true, filter_map-some, room_stays, same_lane, same_leaving, taken}
use Rattle.hj_driver.proofs.driver.Driver.take_at_left.Goals as goal

pub invariant_of-self : goal.invariant_of-self
invariant_of-self g c =
    room_stays c.self.invariant same_lane (fewer_arrivals (after_departure c.in-S.no.0 Row) _ _ c.take.ensures) same_leaving same_leaving

pub invariant_of-self-in-EndR : goal.invariant_of-self-in-EndR
invariant_of-self-in-EndR g c =
    room_stays c.self.invariant (fewer_arrivals (after_departure c.in-EndR.no.0 End) _ _ c.take-in-EndR.ensures) same_lane same_leaving same_leaving

pub invariant_of-self-in-ExpR : goal.invariant_of-self-in-ExpR
invariant_of-self-in-ExpR g c =
    room_stays c.self.invariant (fewer_expiries (is_other c.in-ExpR.of.0) _ _ c.take_expiry.ensures) same_lane same_leaving same_leaving

pub invariant_of-self-in-QuietR : goal.invariant_of-self-in-QuietR
invariant_of-self-in-QuietR g c =
    room_stays c.self.invariant same_lane same_lane same_leaving (fewer_numbers (is_other c.in-QuietR.no.0) _ _ c.take-in-QuietR.ensures)

pub returns-in-S : goal.returns-in-S
returns-in-S g c = taken Left c.in-S.is c.self.view_is (simp (c.take.ensures, filter-true, filter_map-some))

pub returns-in-EndR : goal.returns-in-EndR
returns-in-EndR g c = taken Left c.in-EndR.is c.self.view_is (simp (c.take-in-EndR.ensures, filter-true, filter_map-some))

pub returns-in-ExpR : goal.returns-in-ExpR
returns-in-ExpR g c = taken Left c.in-ExpR.is c.self.view_is (simp (c.take_expiry.ensures, filter-true, filter_map-some))

pub returns-in-QuietR : goal.returns-in-QuietR
returns-in-QuietR g c = taken Left c.in-QuietR.is c.self.view_is (simp (c.take-in-QuietR.ensures, filter-true, filter_map-some))

pub returns-in-CloseR : goal.returns-in-CloseR
returns-in-CloseR g c = taken Left c.in-CloseR.is c.self.view_is (simp (c.take-self-inside.ensures, filter-true, filter_map-some))

pub returns-in_default : goal.returns-in_default
returns-in_default g c = at_left-other c.args.msg.now c.args.self.now c.in_default.not-S c.in_default.not-EndR c.in_default.not-ExpR c.in_default.not-QuietR c.in_default.not-CloseR
