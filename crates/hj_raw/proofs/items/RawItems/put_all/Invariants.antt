use Rattle.std.proofs.Common.{◌≡◌, ◌++◌, map}
use Rattle.std.specs.Vec.Iter.{into_iter_items}
use Rattle.hj_collect.specs.Marks.{meaning_of}
use Rattle.hj_raw.specs.Items.{joined}
use Rattle.hj_raw.specs.WaitingItems.{items_of}
use Rattle.hj_raw.proofs.items.RawItems.put_all.Given as goal

-- the pairs so far wait
abbrev pub invariant-loop-pair : goal.invariant-loop-pair
invariant-loop-pair g l = record {
  items : items_of l.self-inside.items.items ++ map joined (into_iter_items l.pair-iterator) ≡ l.fn.self.items ++ map joined l.fn.pairs.items;
  mark : meaning_of l.self-inside.mark ≡ l.fn.self.mark;
}
