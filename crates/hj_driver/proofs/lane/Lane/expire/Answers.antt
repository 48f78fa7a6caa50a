use Rattle.std.proofs.Common.{sym, subst, arith, Contains, List}
use Rattle.hj_base.specs.declared.numbers.EventNo.{EventNo}
use Rattle.hj_driver.specs.Lane.{LaneState, AreDistinct}
use Rattle.hj_driver.proofs.Arrivals.{distinct_push}
use Rattle.hj_driver.proofs.lane.Lane.expire.Goals as goal

pub invariant_of-self : goal.invariant_of-self
invariant_of-self c =
    let absent = subst (λ (s : LaneState). ¬ (Contains s.expiries c.args.of)) (sym c.self.view_is) c.requires.once in
    record {
      rising = c.self.invariant.rising;
      distinct = subst AreDistinct (sym {A = List EventNo} c.push_back_reserved.ensures.items) (distinct_push c.self.inside.expiries.items c.args.of c.self.invariant.distinct absent);
      for_arrivals = c.self.invariant.for_arrivals;
      for_expiries = omega (arith, c.push_back_reserved.ensures.capacity, c.self.invariant.for_expiries);
    }
