use Rattle.std.proofs.Common.{sym, subst}
use Rattle.std.specs.BinaryHeap.{IsHeap}
use Rattle.hj_collect.specs.Due.{due_cmp, AreInOrder}
use Rattle.hj_collect.proofs.ordered.Ordered.keep_several.Goals as goal

pub soonest_of-self-inside-requires-clause-late : goal.soonest_of-self-inside-requires-clause-late
soonest_of-self-inside-requires-clause-late g c = c.put_all.ensures.late (subst (IsHeap due_cmp) (sym c.make_pairs.ensures.late) c.self.invariant.late)

pub invariant_of-self-2 : goal.invariant_of-self-2
invariant_of-self-2 g c = record {
  late = c.put_all.ensures.late (subst (IsHeap due_cmp) (sym c.make_pairs.ensures.late) c.self.invariant.late);
  in_order = c.put_all.ensures.order (subst AreInOrder (sym c.make_pairs.ensures.in_order) c.self.invariant.in_order);
  soonest = c.soonest_of-self-inside.ensures;
  made = c.put_all.ensures.none;
}
