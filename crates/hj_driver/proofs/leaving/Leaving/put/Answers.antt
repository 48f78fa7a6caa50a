use Rattle.std.proofs.Common.{sym, subst, arith, Contains, List}
use Rattle.hj_base.specs.declared.numbers.EventNo.{EventNo}
use Rattle.hj_driver.specs.Leaving.{LeavingState}
use Rattle.hj_driver.specs.Lane.{AreDistinct}
use Rattle.hj_driver.proofs.Arrivals.{distinct_push}
use Rattle.hj_driver.proofs.leaving.Leaving.put.Goals as goal

pub invariant_of-self : goal.invariant_of-self
invariant_of-self c =
    let absent = subst (λ (s : LeavingState). ¬ (Contains s.numbers c.args.no)) (sym c.self.view_is) c.requires.once in
    record {
      distinct = subst AreDistinct (sym {A = List EventNo} c.push_back_reserved.ensures.items) (distinct_push c.self.inside.numbers.items c.args.no c.self.invariant.distinct absent);
      for_numbers = omega (arith, c.push_back_reserved.ensures.capacity, c.self.invariant.for_numbers);
    }
