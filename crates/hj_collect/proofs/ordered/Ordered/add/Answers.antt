use Rattle.std.proofs.Common.{sym, subst}
use Rattle.std.specs.BinaryHeap.{IsHeap}
use Rattle.hj_collect.specs.Due.{due_cmp, AreInOrder}
use Rattle.hj_collect.proofs.ordered.Ordered.add.Goals as goal

pub invariant_of-self-2 : goal.invariant_of-self-2
invariant_of-self-2 g c = record {
  late = c.put_all.ensures.late (subst (IsHeap due_cmp) (sym c.reserve.ensures.items) c.self.invariant.late);
  in_order = c.put_all.ensures.order (subst AreInOrder (sym c.reserve-2.ensures.items) c.self.invariant.in_order);
  soonest = c.soonest_of-self-inside.ensures;
  made = c.self.invariant.made;
}

pub soonest_of-self-inside-requires : goal.soonest_of-self-inside-requires
soonest_of-self-inside-requires g c = record {
  late = c.put_all.ensures.late (subst (IsHeap due_cmp) (sym c.reserve.ensures.items) c.self.invariant.late);
  order = c.put_all.ensures.order (subst AreInOrder (sym c.reserve-2.ensures.items) c.self.invariant.in_order);
}
