use Rattle.std.proofs.Common.{◌≡◌, ℤ, true, None, Some, rules, sym, ap, subst, ◌∙◌}
use Rattle.std.specs.BTreeMap.Range.{range_contains}
use Rattle.std.specs.Int.{w64}
use Rattle.std.specs.Prelude.{FitsSigned}
use Rattle.std.proofs.lemmas.Int.{to_z-of_z}
use Rattle.hj_msg.specs.Store.{joins, settled_matches}
use Rattle.hj_rows.specs.NumberedRows.{rows_in}
use Rattle.hj_index.specs.OrderedIndex.{key_cmp, number_at, AreWithin, OrderedKey}
use Rattle.hj_index.specs.OrderedStore.{JoinsNear, OrderedRows}
use Rattle.hj_index.proofs.Banding.{finds_first, near_pushed, no_number_joins}
use Rattle.hj_rows.proofs.Probes.{none-above}
use Rattle.hj_index.proofs.ordered_store.OrderedStoreStoreSharedRow.probe.Goals as goal

pub returns-in_default : goal.returns-in_default
returns-in_default g c =
    let none = sym (c.number_at.ensures ∙ ap (number_at c.self.inside.other) c.row.ensures) ∙ c.in_default.is in
    c.requires.empty
    ∙ no_number_joins c.args.self.now.own c.args.self.now.other c.args.self.now.within (g.J.Join.predicate c.args.join.now) c.args.side c.requires.suits c.args.against.now c.args.self.now.rows
    (subst (λ (store : OrderedRows). number_at store.other c.args.against.now ≡ None) c.self.view_is none)

pub loop-key-init : goal.loop-key-init
loop-key-init g c =
    let s = c.self.inside in
    let number = c.in-Some.number in
    let fits : FitsSigned w64 number = search rules in
    let its : number_at s.other c.args.against.now ≡ Some number = sym (c.number_at.ensures ∙ ap (number_at s.other) c.row.ensures) ∙ c.in-Some.is in (
      finds_first s.own (rows_in s.rows) s.index c.self.invariant c.band.result.0 c.band.result.1 s.other s.within (g.J.Join.predicate c.args.join.now) c.args.side
          (subst (λ (store : OrderedRows). JoinsNear store.own store.other store.within (g.J.Join.predicate c.args.join.now) c.args.side) (sym c.self.view_is) c.requires.suits) c.args.against.now number its
          (subst (λ (near : ℤ). (key : OrderedKey) → AreWithin s.within key.0 near → range_contains key_cmp c.band.result.0 c.band.result.1 key ≡ true) (to_z-of_z w64 number fits) c.band.ensures.all) c.args.found.now c.into_iter-key-iterator.result _
          c.range-key-items.ensures.ordered c.requires.empty c.into_iter-key-iterator.ensures.into_iter_gives (c.range-key-items.ensures.between tt),
      none-above c.args.found.now 0 c.requires.empty,
    )

pub loop-key-preserved-in-Some-joining : goal.loop-key-preserved-in-Some-joining
loop-key-preserved-in-Some-joining g c =
    let s = c.self.inside in
    near_pushed (rows_in s.rows) s.index.reserved c.in-Some-key.key.now c.loop-key.key-iterator c.next.new.self c.in-Some-key.ensures.steps
    (λ row. joins (g.J.Join.predicate c.args.join.now) c.args.side row c.args.against.now) (settled_matches (g.J.Join.predicate c.args.join.now) c.args.side c.args.against.now (rows_in s.rows))
    c.in_ok-share.field-0 c.in-Some-joining.row.now c.in-Some-joining.ensures c.in_ok-share.ensures c.loop-key.found c.push.new.self c.loop-key.last c.loop-key.invariant.0 c.loop-key.invariant.1 c.if-key-last.false
    c.in_ok-push.ensures.ok
