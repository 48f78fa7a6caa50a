use Rattle.std.proofs.Common.{◌≡◌, [], ◌∷◌, ◌++◌, IsPermutation, subst, arith}
use Rattle.std.specs.BinaryHeap.{heap_items}
use Rattle.std.proofs.lemmas.List.Sorted.{IsPermutation-refl, IsPermutation-append}
use Rattle.hj_collect.specs.Due.{pairs_in}
use Rattle.hj_collect.proofs.InOrder.{one_popped}
use Rattle.hj_collect.proofs.ordered.put_all.Goals as goal

pub loop-pair-init : goal.loop-pair-init
loop-pair-init g c =
    let kept = pairs_in (heap_items c.args.late.now ++ c.args.in_order.now.items) in
    record {
      late_room = omega (arith, c.requires.late_room, c.reverse.ensures.len);
      room = omega (arith, c.requires.room, c.reverse.ensures.len);
      pairs = IsPermutation-append kept kept c.args.pairs.now.items c.reverse.new.self.items (IsPermutation-refl kept) c.reverse.ensures.permutation;
      late = λ heap. heap;
      order = λ ordered. ordered;
    }

pub loop-pair-preserved : goal.loop-pair-preserved
loop-pair-preserved g c =
    let old = heap_items c.loop-pair.late ++ c.loop-pair.in_order.items in
    let new = heap_items c.put.new.late ++ c.put.new.in_order.items in
    let whole = pairs_in (heap_items c.args.late.now ++ c.args.in_order.now.items) ++ c.args.pairs.now.items in
    let popped : c.loop-pair.pairs.items ≡ c.pop.new.self.items ++ c.in-Some.pair ∷ [] = c.in-Some.ensures.items in
    let is = subst (λ items. IsPermutation whole (pairs_in old ++ items)) popped c.loop-pair.invariant.pairs in
    record {
      late_room = omega (arith, c.loop-pair.invariant.late_room, c.in-Some.ensures.cases, c.put.ensures.late_room.0, c.put.ensures.late_room.1);
      room = omega (arith, c.loop-pair.invariant.room, c.in-Some.ensures.cases, c.put.ensures.room.0, c.put.ensures.room.1);
      pairs = one_popped whole c.pop.new.self.items old new (record { pair = c.in-Some.pair }) is c.put.ensures.put;
      late = λ heap. c.put.ensures.late (c.loop-pair.invariant.late heap);
      order = λ ordered. c.put.ensures.order (c.loop-pair.invariant.order ordered);
    }
