use Rattle.std.proofs.Common.{◌≡◌, ◌==◌, refl, sym, subst, ap, arith, ◌∙◌, Some, position}
use Rattle.std.specs.List.{filter}
use Rattle.hj_base.specs.declared.numbers.EventNo.{EventNo}
use Rattle.hj_driver.specs.Lane.{LaneState, AreDistinct, is_other}
use Rattle.hj_driver.proofs.Arrivals.{filter-at, filter-none, distinct_after, lane_with_expiries}
use Rattle.hj_driver.proofs.lane.Lane.take_expiry.Goals as goal

pub invariant_of-self : goal.invariant_of-self
invariant_of-self c =
    let l = c.self.inside.expiries.items in
    let found : position (λ (of : EventNo). c.args.of.0 == of.0) l ≡ Some c.in-Some.at = ap (λ (s : LaneState). position (λ (of : EventNo). c.args.of.0 == of.0) s.expiries) c.self.view_is ∙ sym c.in-Some.ensures in
    let items = c.take_out.ensures.items in
    record {
      rising = c.self.invariant.rising;
      distinct = subst AreDistinct (sym (items ∙ filter-at l c.args.of.0 c.in-Some.at c.self.invariant.distinct found)) (distinct_after l c.args.of.0 c.self.invariant.distinct);
      for_arrivals = c.self.invariant.for_arrivals;
      for_expiries = omega (arith, c.take_out.ensures.capacity, c.self.invariant.for_expiries);
    }

pub returns-in-Some : goal.returns-in-Some
returns-in-Some c =
    let l = c.self.inside.expiries.items in
    let found : position (λ (of : EventNo). c.args.of.0 == of.0) l ≡ Some c.in-Some.at = ap (λ (s : LaneState). position (λ (of : EventNo). c.args.of.0 == of.0) s.expiries) c.self.view_is ∙ sym c.in-Some.ensures in
    let items = c.take_out.ensures.items in
    lane_with_expiries c.args.self.now c.self.inside.arrivals.items l _ c.self.inside.room (filter (is_other c.args.of.0)) c.self.view_is (items ∙ filter-at l c.args.of.0 c.in-Some.at c.self.invariant.distinct found)

pub returns-in_default : goal.returns-in_default
returns-in_default c =
    let s = c.args.self.now in
    lane_with_expiries s s.arrivals s.expiries s.expiries s.room (filter (is_other c.args.of.0)) refl (filter-none s.expiries c.args.of.0 (sym c.in_default.ensures))
