use Rattle.std.proofs.Common.{◌≡◌, ◌+◌, Some, map, ap, subst, sym, ◌∙◌}
use Rattle.hj_rows.specs.NumberedRows.{places_in}
use Rattle.hj_columns.specs.Store.{ColumnRows}
use Rattle.hj_columns.proofs.Keeping.{all-append, waits-behind}
use Rattle.hj_columns.proofs.column_store.ColumnStoreStore.insert.Goals as goal

pub invariant_of-self-else-places-before : goal.invariant_of-self-else-places-before
invariant_of-self-else-places-before g c =
    let s = c.self.inside in
    let key = λ (filter : g.row.F.Denot). g.F.KeyFilter.key filter s.side in
    let waiting = subst (λ (v : ColumnRows g.row.P.Denot g.row.F.Denot). v.waiting ≡ map (λ filter. Some (g.F.KeyFilter.key filter v.side c.args.row)) v.filters) (sym c.self.view_is) c.requires.1 in
    all-append key (places_in s.rows) (places_in c.insert-replaced.new.self) c.args.row s.columns.items
    (c.insert-replaced.ensures.appended (sym c.places.ensures.counted ∙ c.if-places-before.false ∙ ap (λ n. n + 1) c.places-before.ensures.counted)) c.self.invariant
    (waits-behind key (places_in s.rows) s.columns.items c.args.row waiting)
