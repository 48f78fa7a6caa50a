use Rattle.std.proofs.Common.{All, Some, false, refl, sym, subst, ◌∙◌, ◌++◌, ◌≡◌}
use Rattle.std.specs.BinaryHeap.{heap_items}
use Rattle.hj_msg.specs.Emission.{is_within}
use Rattle.hj_msg.specs.Valid.{later}
use Rattle.hj_collect.specs.Marks.{meaning}
use Rattle.hj_collect.proofs.Soonest.{none_sooner}
use Rattle.hj_collect.proofs.ordered.Ordered.release.Goals as goal

pub returns-then-not-is_within-clause-none : goal.returns-then-not-is_within-clause-none
returns-then-not-is_within-clause-none g c =
    let mark = meaning c.args.up_to in
    let beyond : is_within (Some mark) c.self.inside.soonest ≡ false = sym c.is_within.ensures ∙ c.if-not-is_within.true in (
      λ _. subst (All (λ pair. is_within (Some mark) (later pair) ≡ false)) c.self.view_is (none_sooner mark c.self.inside.soonest (heap_items c.self.inside.late ++ c.self.inside.in_order.items) c.self.invariant.soonest beyond),
      λ _. refl,
    )
