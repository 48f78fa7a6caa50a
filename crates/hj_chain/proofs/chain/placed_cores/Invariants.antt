use Rattle.std.proofs.Common.{◌≡◌, [], length}
use Rattle.std.specs.List.{All}
use Rattle.hj_base.specs.declared.numbers.Side.TheVariants.{Left, Right}
use Rattle.hj_core.specs.Contents.{state_of}
use Rattle.hj_chain.proofs.Making.{Made}
use Rattle.hj_chain.proofs.chain.placed_cores.Given as goal

abbrev pub invariant-loop-left_store : goal.invariant-loop-left_store
invariant-loop-left_store g l = record {
  same : length l.right.items ≡ length l.left.items;
  left_empty : All (λ store. g.S.Store.entries store ≡ []) l.left.items;
  right_empty : All (λ store. g.S.Store.entries store ≡ []) l.right.items;
  left_suits : All (λ store. g.S.Store.suits store Left l.join) l.left.items;
  right_suits : All (λ store. g.S.Store.suits store Right l.join) l.right.items;
  made : Made (state_of g.S.Store.entries) l.join (length l.fn.left.items) (length l.left.items) l.cores.items;
}

abbrev pub decreases-loop-left_store : goal.decreases-loop-left_store
decreases-loop-left_store g l = length l.left.items
