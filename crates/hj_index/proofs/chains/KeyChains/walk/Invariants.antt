use Rattle.std.proofs.Common.{◌≡◌, ◌-◌, drop, reverse, take}
use Rattle.hj_msg.specs.Store.{joins}
use Rattle.hj_index.specs.KeyChains.{last_place}
use Rattle.hj_index.proofs.ChainWalks.{matches}
use Rattle.hj_index.proofs.chains.KeyChains.walk.Given as goal

-- what was found is what joins from the next place on, and that has the key
abbrev pub invariant-loop-place : goal.invariant-loop-place
invariant-loop-place g l =
    (reverse l.found ≡ matches (λ row. joins (g.J.Join.predicate l.join) l.side row l.against) (drop (l.next - l.self.base) l.self.places.items))
    × (last_place l.key (take (l.next - l.self.base) l.self.places.items) ≡ l.next - l.self.base)

abbrev pub decreases-loop-place : goal.decreases-loop-place
decreases-loop-place g l = l.next
