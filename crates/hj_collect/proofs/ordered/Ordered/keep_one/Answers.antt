use Rattle.std.proofs.Common.{[], ◌∷◌, ◌++◌, List, IsPermutation, append-nil, ap₂, sym, subst, arith}
use Rattle.std.specs.BinaryHeap.{heap_items, IsHeap}
use Rattle.std.proofs.lemmas.List.Sorted.{IsPermutation-refl}
use Rattle.hj_collect.specs.declared.kept.KeptPair.{KeptPair}
use Rattle.hj_collect.specs.Due.{due_cmp, pairs_in, AreInOrder}
use Rattle.hj_collect.proofs.InOrder.{one_kept}
use Rattle.hj_collect.proofs.Soonest.{one_more}
use Rattle.hj_collect.proofs.ordered.Ordered.keep_one.Goals as goal

pub invariant_of-self-2 : goal.invariant_of-self-2
invariant_of-self-2 g c =
    let one : KeptPair g.row.P.Denot = record { pair = c.args.pair } in
    let old = heap_items c.self.inside.late ++ c.self.inside.in_order.items in
    let new = heap_items c.put.new.late ++ c.put.new.in_order.items in
    let put : IsPermutation (one ∷ old) new = subst (λ (ones : List (KeptPair g.row.P.Denot)). IsPermutation (one ∷ ones) new) (ap₂ (λ (xs ys : List (KeptPair g.row.P.Denot)). xs ++ ys) c.reserve.ensures.items c.reserve-2.ensures.items) c.put.ensures.put in
    record {
      late = c.put.ensures.late (subst (IsHeap due_cmp) (sym {A = List (KeptPair g.row.P.Denot)} c.reserve.ensures.items) c.self.invariant.late);
      in_order = c.put.ensures.order (subst AreInOrder (sym {A = List (KeptPair g.row.P.Denot)} c.reserve-2.ensures.items) c.self.invariant.in_order);
      soonest = one_more c.self.inside.soonest c.min-soonest.result one old new put (omega (arith, c.min-soonest.ensures)) (omega (arith, c.min-soonest.ensures, c.later.ensures)) c.self.invariant.soonest;
      made = c.self.invariant.made;
    }

pub returns-clause-ok : goal.returns-clause-ok
returns-clause-ok g c =
    let one : KeptPair g.row.P.Denot = record { pair = c.args.pair } in
    let old = heap_items c.self.inside.late ++ c.self.inside.in_order.items in
    let new = heap_items c.put.new.late ++ c.put.new.in_order.items in
    let whole = pairs_in old ++ c.args.pair ∷ [] in
    let put : IsPermutation (one ∷ old) new = subst (λ (ones : List (KeptPair g.row.P.Denot)). IsPermutation (one ∷ ones) new) (ap₂ (λ (xs ys : List (KeptPair g.row.P.Denot)). xs ++ ys) c.reserve.ensures.items c.reserve-2.ensures.items) c.put.ensures.put in
    let kept = one_kept whole [] old new one (IsPermutation-refl whole) put in
    subst (λ before. IsPermutation (before ++ c.args.pair ∷ []) (pairs_in new)) c.self.view_is (subst (IsPermutation whole) (append-nil (pairs_in new)) kept)
