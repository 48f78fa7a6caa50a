use Rattle.std.proofs.Common.{◌≡◌, None, ap, sym, subst, ◌∙◌}
use Rattle.hj_index.specs.HashStore.{HashRows, JoinsEqual}
use Rattle.hj_index.specs.Keys.{key_at}
use Rattle.hj_index.proofs.Sufficing.{joins_key, nothing_joins}
use Rattle.hj_index.proofs.hash_store.HashStoreStoreSharedRow.probe.Goals as goal

pub probe-requires-clause-key : goal.probe-requires-clause-key
probe-requires-clause-key g c = λ row e.
    joins_key c.self.inside.rows.own c.self.inside.other (g.J.Join.predicate c.args.join.now) c.args.side
    (subst (λ (store : HashRows). JoinsEqual store.own store.other (g.J.Join.predicate c.args.join.now) c.args.side) (sym c.self.view_is) c.requires.suits) c.args.against.now c.in-Some.key
    (sym (c.key_at.ensures ∙ ap (key_at c.self.inside.other) c.row.ensures) ∙ c.in-Some.is) row e

pub returns-in-None : goal.returns-in-None
returns-in-None g c =
    let none = sym (c.key_at.ensures ∙ ap (key_at c.self.inside.other) c.row.ensures) ∙ c.in-None.is in
    c.requires.empty
    ∙ nothing_joins c.args.self.now.own c.args.self.now.other (g.J.Join.predicate c.args.join.now) c.args.side c.requires.suits c.args.against.now c.args.self.now.rows
    (subst (λ (store : HashRows). key_at store.other c.args.against.now ≡ None) c.self.view_is none)
