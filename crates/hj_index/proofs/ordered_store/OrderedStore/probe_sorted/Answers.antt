use Rattle.std.proofs.Common.{◌≡◌, ℤ, true, Some, sym, subst}
use Rattle.std.specs.BTreeMap.Range.{range_contains}
use Rattle.std.specs.Int.{w64}
use Rattle.std.proofs.lemmas.Int.{to_z-of_z}
use Rattle.hj_msg.specs.Store.{joins, settled_matches}
use Rattle.hj_rows.specs.NumberedRows.{rows_in}
use Rattle.hj_index.specs.OrderedIndex.{key_cmp, number_at, AreWithin, OrderedKey}
use Rattle.hj_index.specs.OrderedStore.{JoinsNear, OrderedRows}
use Rattle.hj_index.proofs.Banding.{near_sort_passed, near_sorted, sorts_first}
use Rattle.hj_index.proofs.ordered_store.OrderedStore.probe_sorted.Goals as goal

pub loop-key-init : goal.loop-key-init
loop-key-init g c =
    let s = c.self.inside in
    sorts_first s.own (rows_in s.rows) s.index c.self.invariant c.band.result.0 c.band.result.1 s.other s.within (g.J.Join.predicate c.args.join.now) c.args.side
    (subst (λ (store : OrderedRows). JoinsNear store.own store.other store.within (g.J.Join.predicate c.args.join.now) c.args.side) (sym c.self.view_is) c.requires.suits) c.args.against.now c.args.number
    (subst (λ (store : OrderedRows). number_at store.other c.args.against.now ≡ Some c.args.number) (sym c.self.view_is) c.requires.number)
    (subst (λ (number : ℤ). (key : OrderedKey) → AreWithin s.within key.0 number → range_contains key_cmp c.band.result.0 c.band.result.1 key ≡ true) (to_z-of_z w64 c.args.number c.ranges.number) c.band.ensures.all) c.new-rows.result.entries c.into_iter-key-iterator.result _
    c.range-key-items.ensures.ordered c.new-rows.ensures.empty c.into_iter-key-iterator.ensures.into_iter_gives (c.range-key-items.ensures.between tt)

pub loop-key-preserved-in_ok-insert-2 : goal.loop-key-preserved-in_ok-insert-2
loop-key-preserved-in_ok-insert-2 g c =
    let s = c.self.inside in
    near_sorted (rows_in s.rows) s.index.reserved c.in-Some.key.now c.loop-key.key-iterator c.next.new.self c.in-Some.ensures.steps
    (λ row. joins (g.J.Join.predicate c.args.join.now) c.args.side row c.args.against.now) (settled_matches (g.J.Join.predicate c.args.join.now) c.args.side c.args.against.now (rows_in s.rows))
    c.in_ok-share.field-0 _ c.in-Some-joining.ensures c.in_ok-share.ensures c.loop-key.rows.entries c.insert.new.self.entries c.loop-key.invariant c.in_ok-insert.ensures.entries c.in_ok-insert.ensures.updates.0

pub loop-key-preserved : goal.loop-key-preserved
loop-key-preserved g c =
    let s = c.self.inside in
    near_sort_passed (rows_in s.rows) s.index.reserved c.in-Some.key.now c.loop-key.key-iterator c.next.new.self c.in-Some.ensures.steps
    (λ row. joins (g.J.Join.predicate c.args.join.now) c.args.side row c.args.against.now) (settled_matches (g.J.Join.predicate c.args.join.now) c.args.side c.args.against.now (rows_in s.rows))
    c.loop-key.rows.entries c.in_default.ensures c.loop-key.invariant
