use Rattle.std.proofs.Common.{◌≡◌, length}
use Rattle.hj_index.specs.KeyChains.{rows_in, NearlyChained}
use Rattle.hj_index.proofs.chains.KeyChains.drop_first.Given as goal

abbrev pub invariant-loop-first : goal.invariant-loop-first
invariant-loop-first l = NearlyChained l.self × (rows_in l.self ≡ rows_in l.initial.self) × (l.self.own ≡ l.initial.self.own)

abbrev pub decreases-loop-first : goal.decreases-loop-first
decreases-loop-first l = length l.self.places.items
