use Rattle.std.proofs.Common.{◌≡◌, nat_eq}
use Rattle.std.specs.HashMap.{get}
use Rattle.hj_index.proofs.ChainSweeps.{Linking}
use Rattle.hj_index.proofs.chains.KeyChains.link_all.Given as goal

abbrev pub invariant-loop-place : goal.invariant-loop-place
invariant-loop-place l =
    Linking l.self.own l.initial.self.places.items l.self.is_ascending l.self.places.items (get nat_eq l.self.last) l.count l._place
    × (l.self.own ≡ l.initial.self.own) × (l.self.base ≡ 0) × (l.self.empty ≡ 0) × (l.self.is_ascending ≡ l.initial.self.is_ascending)
