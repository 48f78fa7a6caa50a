use Rattle.std.proofs.Common.{◌≡◌, List, All, OnOk, subst, sym}
use Rattle.hj_base.specs.declared.numbers.Side.{Side}
use Rattle.hj_msg.specs.Store.{settled_matches}
use Rattle.hj_rows.specs.Keys.{KeepsKeys}
use Rattle.hj_rows.specs.NumberedRows.{places_in}
use Rattle.hj_columns.specs.declared.key_column.KeyColumn.{KeyColumn}
use Rattle.hj_columns.specs.Columns.{filters_of, IsKeyColumn}
use Rattle.hj_columns.specs.Store.{ColumnRows}
use Rattle.hj_columns.proofs.column_store.ColumnStoreStore.probe.Goals as goal

pub probe_columns-requires : goal.probe_columns-requires
probe_columns-requires g c =
    let s = c.self.inside in
    let suits = subst (λ (v : ColumnRows g.row.P.Denot g.row.F.Denot). (v.side ≡ c.args.side) × All (λ (filter : g.row.F.Denot). KeepsKeys (g.J.Join.predicate c.args.join.now) (g.F.KeyFilter.key filter) (g.F.KeyFilter.range filter)) v.filters) (sym c.self.view_is) c.requires.suits in
    record {
      columns =
          subst (λ (columns : List (KeyColumn g.row.F.Denot)). All (IsKeyColumn (λ (filter : g.row.F.Denot). g.F.KeyFilter.key filter c.args.side) (places_in s.rows)) columns) (sym c.as_slice-columns.ensures.value)
          (subst (λ (side : Side). All (IsKeyColumn (λ (filter : g.row.F.Denot). g.F.KeyFilter.key filter side) (places_in s.rows)) s.columns.items) suits.0 c.self.invariant);
      keeps =
          subst (λ (columns : List (KeyColumn g.row.F.Denot)). All (λ (filter : g.row.F.Denot). KeepsKeys (g.J.Join.predicate c.args.join.now) (g.F.KeyFilter.key filter) (g.F.KeyFilter.range filter)) (filters_of columns)) (sym c.as_slice-columns.ensures.value) suits.1;
      empty = c.requires.empty;
    }

pub returns : goal.returns
returns g c =
    subst (λ (v : ColumnRows g.row.P.Denot g.row.F.Denot). OnOk c.probe_columns.result (c.probe_columns.new.found ≡ settled_matches (g.J.Join.predicate c.args.join.now) c.args.side c.args.against.now v.rows)) c.self.view_is c.probe_columns.ensures
