use Rattle.std.proofs.Common.{◌+◌, ◌≤◌, ◌++◌, vec_len, IsPermutation}
use Rattle.std.specs.BinaryHeap.{heap_items, heap_len, heap_capacity, KeepsHeap}
use Rattle.std.specs.VecDeque.{deque_len, deque_capacity}
use Rattle.hj_collect.specs.Due.{due_cmp, pairs_in, AreInOrder}
use Rattle.hj_collect.proofs.ordered.put_all.Given as goal

-- the pairs so far are kept, and there is room for the others
abbrev pub invariant-loop-pair : goal.invariant-loop-pair
invariant-loop-pair g l = record {
  late_room : heap_len l.late + vec_len l.pairs ≤ heap_capacity l.late;
  room : deque_len l.in_order + vec_len l.pairs ≤ deque_capacity l.in_order;
  pairs : IsPermutation (pairs_in (heap_items l.fn.late ++ l.fn.in_order.items) ++ l.fn.pairs.items) (pairs_in (heap_items l.late ++ l.in_order.items) ++ l.pairs.items);
  late : KeepsHeap due_cmp (heap_items l.fn.late) (heap_items l.late);
  order : AreInOrder l.fn.in_order.items → AreInOrder l.in_order.items;
}

abbrev pub decreases-loop-pair : goal.decreases-loop-pair
decreases-loop-pair g l = vec_len l.pairs
