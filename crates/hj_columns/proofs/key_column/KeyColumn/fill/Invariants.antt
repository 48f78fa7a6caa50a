use Rattle.std.proofs.Common.{◌≡◌, ◌<◌, ℕ, Some, length, slice_get}
use Rattle.hj_rows.specs.NumberedRows.{places_in}
use Rattle.hj_columns.proofs.key_column.KeyColumn.fill.Given as goal

abbrev pub invariant-loop-at : goal.invariant-loop-at
invariant-loop-at g l = record {
  filter : l.self.filter ≡ l.initial.self.filter;
  long : length l.self.keys.items ≡ length l.initial.self.keys.items;
  keyed : (at : ℕ) (row : g.row.P.Denot) → at < l.at → slice_get (places_in l.rows) at ≡ Some (Some row) → slice_get l.self.keys.items at ≡ Some (g.F.KeyFilter.key l.self.filter l.side row);
}
