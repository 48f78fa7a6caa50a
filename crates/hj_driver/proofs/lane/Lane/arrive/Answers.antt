use Rattle.std.proofs.Common.{◌<◌, sym, subst, arith, All, List}
use Rattle.hj_driver.specs.declared.lane.OutstandingArrival.{OutstandingArrival}
use Rattle.hj_driver.specs.Lane.{LaneState, IsRising}
use Rattle.hj_driver.proofs.Arrivals.{rising_push}
use Rattle.hj_driver.proofs.lane.Lane.arrive.Goals as goal

pub invariant_of-self : goal.invariant_of-self
invariant_of-self c =
    let below = subst (λ (s : LaneState). All (λ (a : OutstandingArrival). a.no.0 < c.args.no.0) s.arrivals) (sym c.self.view_is) c.requires.rising in
    record {
      rising = subst IsRising (sym {A = List OutstandingArrival} c.push_back_reserved.ensures.items) (rising_push c.self.inside.arrivals.items _ c.self.invariant.rising below);
      distinct = c.self.invariant.distinct;
      for_arrivals = omega (arith, c.push_back_reserved.ensures.capacity, c.self.invariant.for_arrivals);
      for_expiries = c.self.invariant.for_expiries;
    }
