use Rattle.std.proofs.Common.{List, ◌++◌, length}
use Rattle.std.specs.List.{AllZip, zip}
use Rattle.std.specs.Iterator.Adapters.{zip_first, zip_second}
use Rattle.std.specs.Vec.Iter.{into_iter_items}
use Rattle.hj_crew.specs.Room.{HasRoom}
use Rattle.hj_crew.proofs.links.close_all.Given as goal

-- What is closed comes before that of the ends that are left.
abbrev pub invariant-loop-first : goal.invariant-loop-first
invariant-loop-first g l = record {
  can_next : (goal.iterator-loop-first g).can_next l.first-iterator;
  is_finite : (goal.iterator-loop-first g).is_finite l.first-iterator;
  ends : AllZip (goal.F-pre g l.close) (into_iter_items (zip_first l.first-iterator)) (into_iter_items (zip_second l.first-iterator));
  all :
      (others : List g.row.C.Denot) → AllZip (λ ends one. goal.F-post g l.close ends.0 ends.1 one) (zip (into_iter_items (zip_first l.first-iterator)) (into_iter_items (zip_second l.first-iterator))) others
      → AllZip (λ ends one. goal.F-post g l.close ends.0 ends.1 one) (zip l.fn.firsts.items l.fn.seconds.items) (l.closed.items ++ others);
  room : HasRoom (length (into_iter_items (zip_first l.first-iterator))) l.closed;
}
