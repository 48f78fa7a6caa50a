use Rattle.std.proofs.Common.{◌≡◌, ◌<◌, ◌∷◌, ◌++◌, All, Some, true, false, get_or, length, refl, sym, ap, subst, ◌∙◌, IsPermutation, arith, rules, true≢false}
use Rattle.hj_collect.specs.declared.kept.KeptPair.{KeptPair}
use Rattle.std.specs.BinaryHeap.{heap_items}
use Rattle.hj_msg.specs.Valid.{later}
use Rattle.hj_msg.specs.Emission.{comes_before, is_within}
use Rattle.hj_collect.specs.Marks.{meaning}
use Rattle.hj_collect.specs.Due.{pairs_in, AreInOrder}
use Rattle.hj_collect.proofs.InOrder.{first_late, first_ordered, none-late, none-ordered, one-within, taken_late, taken_ordered}
use Rattle.hj_collect.proofs.Soonest.{fewer_late, fewer_ordered}
use Rattle.hj_collect.proofs.ordered.Ordered.release_first.Goals as goal

pub invariant_of-self-then-is_late_first : goal.invariant_of-self-then-is_late_first
invariant_of-self-then-is_late_first g c = record {
  late = c.release_late.ensures.late;
  in_order = c.self.invariant.in_order;
  soonest = fewer_late c.self.inside.soonest (record { pair = c.in_ok-pair.pair }) (heap_items c.self.inside.late) (heap_items c.release_late.new.late) c.self.inside.in_order.items c.in_ok-pair.ensures.kept c.self.invariant.soonest;
  made = c.self.invariant.made;
}

pub invariant_of-self-2 : goal.invariant_of-self-2
invariant_of-self-2 g c = record {
  late = c.self.invariant.late;
  in_order = (subst AreInOrder c.in_ok-kept.ensures.items c.self.invariant.in_order).1;
  soonest = fewer_ordered c.self.inside.soonest c.in_ok-kept.kept (heap_items c.self.inside.late) c.self.inside.in_order.items c.pop_front.new.self.items c.in_ok-kept.ensures.items c.self.invariant.soonest;
  made = c.self.invariant.made;
}

pub returns-then-is_late_first-clause-kept : goal.returns-then-is_late_first-clause-kept
returns-then-is_late_first-clause-kept g c =
    subst (λ pairs. IsPermutation pairs (c.in_ok-pair.pair ∷ pairs_in (heap_items c.release_late.new.late ++ c.self.inside.in_order.items))) c.self.view_is
    (taken_late (record { pair = c.in_ok-pair.pair }) (heap_items c.self.inside.late) (heap_items c.release_late.new.late) c.self.inside.in_order.items c.in_ok-pair.ensures.kept)

pub returns-then-is_late_first-clause-first : goal.returns-then-is_late_first-clause-first
returns-then-is_late_first-clause-first g c =
    subst (All (λ other. comes_before other c.in_ok-pair.pair ≡ false)) c.self.view_is
    (first_late (record { pair = c.in_ok-pair.pair }) (heap_items c.self.inside.late) c.self.inside.in_order.items c.in_ok-pair.ensures.first (c.is_late_first.ensures.late c.if-is_late_first.true) c.in_ok-pair.ensures.top)

pub returns-then-is_late_first-clause-none : goal.returns-then-is_late_first-clause-none
returns-then-is_late_first-clause-none g c =
    let mark = meaning c.args.up_to in
    let taken = taken_late (record { pair = c.in_ok-pair.pair }) (heap_items c.self.inside.late) (heap_items c.release_late.new.late) c.self.inside.in_order.items c.in_ok-pair.ensures.kept in
    (λ not. absurd (true≢false not), λ none. absurd (one-within mark c.in_ok-pair.pair _ _ taken c.in_ok-pair.ensures.within (subst (All (λ pair. is_within (Some mark) (later pair) ≡ false)) (sym c.self.view_is) none)))

pub returns-then-not-is_within-clause-none : goal.returns-then-not-is_within-clause-none
returns-then-not-is_within-clause-none g c =
    let first = c.in_ok-front.field-0.now in
    let mark = meaning c.args.up_to in
    let past : is_within (Some mark) (later first.pair) ≡ false = sym (c.is_within.ensures ∙ ap (is_within (Some mark)) c.later.ensures) ∙ c.if-not-is_within.true in (
      λ _. subst (All (λ pair. is_within (Some mark) (later pair) ≡ false)) c.self.view_is
          (none-ordered mark first (heap_items c.self.inside.late) c.self.inside.in_order.items (omega (arith, c.in_ok-front.ensures.variant.0 (refl {a = true}), c.self.inside.in_order.ok.0)) c.in_ok-front.ensures.lookup c.self.invariant.in_order (c.is_late_first.ensures.first c.if-is_late_first.false) past),
      λ _. refl,
    )

pub returns-clause-kept : goal.returns-clause-kept
returns-clause-kept g c =
    subst (λ pairs. IsPermutation pairs (c.in_ok-kept.kept.pair ∷ pairs_in (heap_items c.self.inside.late ++ c.pop_front.new.self.items))) c.self.view_is
    (taken_ordered c.in_ok-kept.kept (heap_items c.self.inside.late) c.self.inside.in_order.items c.pop_front.new.self.items c.in_ok-kept.ensures.items)

pub returns-clause-first : goal.returns-clause-first
returns-clause-first g c =
    subst (All (λ other. comes_before other c.in_ok-kept.kept.pair ≡ false)) c.self.view_is
    (first_ordered c.in_ok-kept.kept (heap_items c.self.inside.late) c.self.inside.in_order.items c.pop_front.new.self.items c.in_ok-kept.ensures.items c.self.invariant.in_order (c.is_late_first.ensures.first c.if-is_late_first.false))

pub returns-in_err-pair-clause-none : goal.returns-in_err-pair-clause-none
returns-in_err-pair-clause-none g c =
    let mark = meaning c.args.up_to in
    let some : 0 < length (heap_items c.self.inside.late) = omega (arith, c.is_late_first.ensures.some c.if-is_late_first.true, c.self.inside.late.data.ok) in
    let none : All (λ pair. is_within (Some mark) (later pair) ≡ false) c.args.self.now = subst (All (λ pair. is_within (Some mark) (later pair) ≡ false)) c.self.view_is
    (none-late mark (heap_items c.self.inside.late) c.self.inside.in_order.items some (c.is_late_first.ensures.late c.if-is_late_first.true) c.in_err-pair.ensures.none) in
    (λ _. none, λ _. search rules)

pub returns-clause-none : goal.returns-clause-none
returns-clause-none g c =
    let mark = meaning c.args.up_to in
    let first = c.in_ok-front.field-0.now in
    let kept = c.in_ok-kept.kept in
    let taken = taken_ordered kept (heap_items c.self.inside.late) c.self.inside.in_order.items c.pop_front.new.self.items c.in_ok-kept.ensures.items in
    let same : first ≡ kept = c.in_ok-front.ensures.lookup ∙ ap (λ ones. get_or ones 0 first) c.in_ok-kept.ensures.items in
    let due : is_within (Some mark) (later first.pair) ≡ true = sym (c.is_within.ensures ∙ ap (is_within (Some mark)) c.later.ensures) ∙ c.if-not-is_within.false in
    (λ not. absurd (true≢false not), λ none. absurd (one-within mark kept.pair _ _ taken (subst (λ (one : KeptPair g.row.P.Denot). is_within (Some mark) (later one.pair) ≡ true) same due) (subst (All (λ pair. is_within (Some mark) (later pair) ≡ false)) (sym c.self.view_is) none)))
