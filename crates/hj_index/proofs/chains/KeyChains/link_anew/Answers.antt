use Rattle.std.proofs.Common.{ℕ, nat_eq, is_some, rules, ap, ◌∙◌}
use Rattle.std.specs.HashMap.{get}
use Rattle.std.specs.Map.{lookup}
use Rattle.std.proofs.lemmas.Map.Made.{lookup-map_values, map_same_pairs}
use Rattle.hj_index.specs.KeyChains.{known_place}
use Rattle.hj_index.proofs.ChainSweeps.{still-some, zero-known}
use Rattle.hj_index.proofs.chains.KeyChains.link_anew.Goals as goal

pub link_all-requires-clause-first : goal.link_all-requires-clause-first
link_all-requires-clause-first c = λ key.
    let kept = map_same_pairs _ (λ (n : ℕ). 0) _ (λ k v b w f' t. search rules) c.args.self.now.last.entries c.retain.new.self.entries c.retain.ensures.filtered in
    ap known_place (ap (lookup (nat_eq key)) kept ∙ lookup-map_values (λ (n : ℕ). 0) (nat_eq key) c.args.self.now.last.entries) ∙ zero-known (get nat_eq c.args.self.now.last key)

pub link_all-requires-clause-known : goal.link_all-requires-clause-known
link_all-requires-clause-known c = λ at key place found is.
    let kept = map_same_pairs _ (λ (n : ℕ). 0) _ (λ k v b w f' t. search rules) c.args.self.now.last.entries c.retain.new.self.entries c.retain.ensures.filtered in
    ap is_some (ap (lookup (nat_eq key)) kept ∙ lookup-map_values (λ (n : ℕ). 0) (nat_eq key) c.args.self.now.last.entries) ∙ (still-some (get nat_eq c.args.self.now.last key) ∙ c.requires.known at key place found is)
