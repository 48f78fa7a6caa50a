use Rattle.std.proofs.Common.{◌≡◌, ◌+◌, [], length, arith}
use Rattle.std.proofs.lemmas.List.Elements.{All-pop}
use Rattle.hj_base.specs.declared.numbers.Side.TheVariants.{Left, Right}
use Rattle.hj_core.specs.Contents.{state_of}
use Rattle.hj_chain.proofs.Making.{made-more, popped}
use Rattle.hj_chain.proofs.chain.placed_cores.Goals as goal

pub loop-left_store-preserved : goal.loop-left_store-preserved
loop-left_store-preserved g c =
    let before = c.loop-left_store.invariant in
    let fewer : length c.pop.new.self.items + 1 ≡ length c.loop-left_store.left.items = popped _ _ c.pop.result c.in-Some.left_store c.pop.ensures.items c.in-Some.is in
    record {
      same = omega (arith, before.same, fewer, popped _ _ c.pop-in-Some.result c.in-Some-pop.right_store c.pop-in-Some.ensures.items c.in-Some-pop.is);
      left_empty = (All-pop (λ store. g.S.Store.entries store ≡ []) _ _ c.pop.result c.pop.ensures.items before.left_empty).0;
      right_empty = (All-pop (λ store. g.S.Store.entries store ≡ []) _ _ c.pop-in-Some.result c.pop-in-Some.ensures.items before.right_empty).0;
      left_suits = (All-pop (λ store. g.S.Store.suits store Left c.args.join.now) _ _ c.pop.result c.pop.ensures.items before.left_suits).0;
      right_suits = (All-pop (λ store. g.S.Store.suits store Right c.args.join.now) _ _ c.pop-in-Some.result c.pop-in-Some.ensures.items before.right_suits).0;
      made =
          let more = c.in_ok-push_core.ensures in
          made-more (state_of g.S.Store.entries) c.args.join.now (length c.args.left.items) (length c.loop-left_store.left.items) (length c.pop.new.self.items) c.loop-left_store.cores.items c.push_core.new.made.items more.one
          before.made more.added fewer (omega (arith, more.at_place, c.len-in-Some.ensures, c.pop.new.self.ok.0)) (omega (arith, more.among, c.len-count.ensures, c.args.left.ok.0)) more.joins more.empty;
    }
