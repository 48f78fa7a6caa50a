use Rattle.std.proofs.Common.{◌≡◌, ◌==◌, refl, sym, subst, ap, arith, ◌∙◌, Some, position}
use Rattle.std.specs.List.{filter}
use Rattle.hj_base.specs.declared.numbers.EventNo.{EventNo}
use Rattle.hj_driver.specs.Leaving.{LeavingState}
use Rattle.hj_driver.specs.Lane.{AreDistinct, is_other}
use Rattle.hj_driver.proofs.Arrivals.{filter-at, filter-none, distinct_after, leaving_with}
use Rattle.hj_driver.proofs.leaving.Leaving.take.Goals as goal

pub invariant_of-self : goal.invariant_of-self
invariant_of-self c =
    let l = c.self.inside.numbers.items in
    let found : position (λ (of : EventNo). c.args.no.0 == of.0) l ≡ Some c.in-Some.at = ap (λ (s : LeavingState). position (λ (of : EventNo). c.args.no.0 == of.0) s.numbers) c.self.view_is ∙ sym c.in-Some.ensures in
    let items = c.take_out.ensures.items in
    record {
      distinct = subst AreDistinct (sym (items ∙ filter-at l c.args.no.0 c.in-Some.at c.self.invariant.distinct found)) (distinct_after l c.args.no.0 c.self.invariant.distinct);
      for_numbers = omega (arith, c.take_out.ensures.capacity, c.self.invariant.for_numbers);
    }

pub returns-in-Some : goal.returns-in-Some
returns-in-Some c =
    let l = c.self.inside.numbers.items in
    let found : position (λ (of : EventNo). c.args.no.0 == of.0) l ≡ Some c.in-Some.at = ap (λ (s : LeavingState). position (λ (of : EventNo). c.args.no.0 == of.0) s.numbers) c.self.view_is ∙ sym c.in-Some.ensures in
    let items = c.take_out.ensures.items in
    leaving_with c.args.self.now l _ c.self.inside.room (filter (is_other c.args.no.0)) c.self.view_is (items ∙ filter-at l c.args.no.0 c.in-Some.at c.self.invariant.distinct found)

pub returns-in_default : goal.returns-in_default
returns-in_default c =
    let s = c.args.self.now in
    leaving_with s s.numbers s.numbers s.room (filter (is_other c.args.no.0)) refl (filter-none s.numbers c.args.no.0 (sym c.in_default.ensures))
