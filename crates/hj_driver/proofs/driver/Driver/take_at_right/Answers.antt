use Rattle.hj_driver.specs.declared.lane.Departure.TheVariants.{Row, End}
use Rattle.hj_base.specs.declared.numbers.Side.TheVariants.{Right}
use Rattle.hj_driver.specs.Lane.{after_departure, is_other}
use Rattle.hj_driver.proofs.States.{at_right-other, fewer_arrivals, fewer_expiries, fewer_numbers, filter-true, filter_map-some, room_stays, same_lane, same_leaving, taken}
use Rattle.hj_driver.proofs.driver.Driver.take_at_right.Goals as goal

pub invariant_of-self : goal.invariant_of-self
invariant_of-self g c =
    room_stays c.self.invariant (fewer_arrivals (after_departure c.in-R.no.0 Row) _ _ c.take.ensures) same_lane same_leaving same_leaving

pub invariant_of-self-in-EndS : goal.invariant_of-self-in-EndS
invariant_of-self-in-EndS g c =
    room_stays c.self.invariant same_lane (fewer_arrivals (after_departure c.in-EndS.no.0 End) _ _ c.take-in-EndS.ensures) same_leaving same_leaving

pub invariant_of-self-in-ExpS : goal.invariant_of-self-in-ExpS
invariant_of-self-in-ExpS g c =
    room_stays c.self.invariant same_lane (fewer_expiries (is_other c.in-ExpS.of.0) _ _ c.take_expiry.ensures) same_leaving same_leaving

pub invariant_of-self-in-QuietL : goal.invariant_of-self-in-QuietL
invariant_of-self-in-QuietL g c =
    room_stays c.self.invariant same_lane same_lane (fewer_numbers (is_other c.in-QuietL.no.0) _ _ c.take-in-QuietL.ensures) same_leaving

pub returns-in-R : goal.returns-in-R
returns-in-R g c = taken Right c.in-R.is c.self.view_is (simp (c.take.ensures, filter-true, filter_map-some))

pub returns-in-EndS : goal.returns-in-EndS
returns-in-EndS g c = taken Right c.in-EndS.is c.self.view_is (simp (c.take-in-EndS.ensures, filter-true, filter_map-some))

pub returns-in-ExpS : goal.returns-in-ExpS
returns-in-ExpS g c = taken Right c.in-ExpS.is c.self.view_is (simp (c.take_expiry.ensures, filter-true, filter_map-some))

pub returns-in-QuietL : goal.returns-in-QuietL
returns-in-QuietL g c = taken Right c.in-QuietL.is c.self.view_is (simp (c.take-in-QuietL.ensures, filter-true, filter_map-some))

pub returns-in-CloseL : goal.returns-in-CloseL
returns-in-CloseL g c = taken Right c.in-CloseL.is c.self.view_is (simp (c.take-self-inside.ensures, filter-true, filter_map-some))

pub returns-in_default : goal.returns-in_default
returns-in_default g c = at_right-other c.args.msg.now c.args.self.now c.in_default.not-R c.in_default.not-EndS c.in_default.not-ExpS c.in_default.not-QuietL c.in_default.not-CloseL
