use Rattle.std.proofs.Common.{◌∷◌, ◌++◌, List, IsPermutation, sym, subst, arith}
use Rattle.std.specs.BinaryHeap.{heap_items}
use Rattle.hj_collect.specs.declared.kept.KeptPair.{KeptPair}
use Rattle.hj_collect.proofs.InOrder.{put_late, put_ordered}
use Rattle.hj_collect.proofs.ordered.put.Goals as goal

pub returns-then-is_in_order-clause-put : goal.returns-then-is_in_order-clause-put
returns-then-is_in_order-clause-put g c =
    subst (λ (ones : List (KeptPair g.row.P.Denot)). IsPermutation (c.args.kept ∷ (heap_items c.args.late.now ++ c.args.in_order.now.items)) (heap_items c.args.late.now ++ ones)) (sym c.push_back_reserved.ensures.items)
    (put_ordered c.args.kept (heap_items c.args.late.now) c.args.in_order.now.items)

pub returns-in_default-clause-put : goal.returns-in_default-clause-put
returns-in_default-clause-put g c = put_late c.args.kept (heap_items c.args.late.now) (heap_items c.push.new.self) c.args.in_order.now.items c.in_default.ensures.permutation

pub returns-in_default-clause-late_room : goal.returns-in_default-clause-late_room
returns-in_default-clause-late_room g c = (omega (arith, c.in_default.ensures.len), c.in_default.ensures.capacity)
