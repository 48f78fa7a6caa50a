use Rattle.std.proofs.Common.{◌≡◌, ℕ, nat_eq, ltb, arith, rules, ap, ◌∙◌}
use Rattle.std.specs.HashMap.{get}
use Rattle.std.proofs.lemmas.List.{length-map}
use Rattle.std.specs.Map.{lookup}
use Rattle.std.specs.Cmp.{nat_eq_equiv}
use Rattle.std.proofs.lemmas.Map.Entries.{lookup-filter-values, option_filter}
use Rattle.std.proofs.lemmas.Map.Made.{filter_same_pairs}
use Rattle.hj_index.proofs.ChainSweeps.{keys-few, keys-swept}
use Rattle.hj_index.proofs.chains.KeyChains.sweep_keys.Goals as goal

pub returns-clause-chained : goal.returns-clause-chained
returns-clause-chained c =
    let kept = filter_same_pairs _ (λ e. ltb c.args.self.now.base e.1) _ (λ k v b w f' t. search rules) c.args.self.now.last.entries c.retain.new.self.entries c.retain.ensures.filtered in
    let sweeps : (key : ℕ) → get nat_eq c.retain.new.self key ≡ option_filter (λ place. ltb c.args.self.now.base place) (get nat_eq c.args.self.now.last key)
    = λ key. ap (lookup (nat_eq key)) kept ∙ lookup-filter-values nat_eq_equiv (λ place. ltb c.args.self.now.base place) key c.args.self.now.last.entries c.retain.ensures.was_unique in record {
      linked = keys-swept c.args.self.now.own c.args.self.now.base c.args.self.now.places.items (get nat_eq c.args.self.now.last) (get nat_eq c.retain.new.self) sweeps c.requires.linked;
      ascending = c.requires.ascending;
      apart = c.requires.apart;
      counted = c.requires.counted;
      near = c.requires.near;
    }

pub returns-clause-few : goal.returns-clause-few
returns-clause-few c =
    let kept = filter_same_pairs _ (λ e. ltb c.args.self.now.base e.1) _ (λ k v b w f' t. search rules) c.args.self.now.last.entries c.retain.new.self.entries c.retain.ensures.filtered in
    let sweeps : (key : ℕ) → get nat_eq c.retain.new.self key ≡ option_filter (λ place. ltb c.args.self.now.base place) (get nat_eq c.args.self.now.last key)
    = λ key. ap (lookup (nat_eq key)) kept ∙ lookup-filter-values nat_eq_equiv (λ place. ltb c.args.self.now.base place) key c.args.self.now.last.entries c.retain.ensures.was_unique in
    let few = keys-few c.args.self.now.own c.args.self.now.base c.args.self.now.places.items (get nat_eq c.args.self.now.last) c.retain.new.self.entries c.requires.linked sweeps c.retain.ensures.unique in
    omega (arith, few, length-map c.retain.new.self.entries (λ (e : ℕ × ℕ). e.0))
