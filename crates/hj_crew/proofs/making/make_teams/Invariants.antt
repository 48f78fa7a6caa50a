use Rattle.std.proofs.Common.{◌≡◌, [], All, length}
use Rattle.hj_base.specs.declared.numbers.Side.TheVariants.{Left, Right}
use Rattle.hj_crew.specs.Cores.{AreEndsFor, AreUnused, MakesTeams}
use Rattle.hj_crew.proofs.making.make_teams.Given as goal

abbrev pub invariant-loop-left_store : goal.invariant-loop-left_store
invariant-loop-left_store g l = record {
  same : length l.right.items ≡ length l.left.items;
  left_empty : All (λ store. g.S.Store.entries store ≡ []) l.left.items;
  right_empty : All (λ store. g.S.Store.entries store ≡ []) l.right.items;
  left_suits : All (λ store. g.S.Store.suits store Left l.join) l.left.items;
  right_suits : All (λ store. g.S.Store.suits store Right l.join) l.right.items;
  unused : AreUnused l.ends;
  ends : AreEndsFor (length l.left.items) l.ends;
  count : length l.teams.items ≡ l.count;
  made : MakesTeams l.join (length l.fn.left.items) (length l.left.items) l.fn.ends l.ends l.teams.items;
}

abbrev pub decreases-loop-left_store : goal.decreases-loop-left_store
decreases-loop-left_store g l = length l.left.items
