use Rattle.std.proofs.Common.{◌≡◌, All, take}
use Rattle.hj_rows.specs.NumberedRows.{places_in}
use Rattle.hj_columns.specs.Columns.{filters_of, HasWholeBlocks, IsKeyColumn}
use Rattle.hj_columns.proofs.key_column.fill.Given as goal

abbrev pub invariant-loop-at : goal.invariant-loop-at
invariant-loop-at g l = record {
  room : All (HasWholeBlocks (places_in l.rows)) l.columns.items;
  filters : filters_of l.columns.items ≡ filters_of l.initial.columns.items;
  columns : All (IsKeyColumn (λ filter. g.F.KeyFilter.key filter l.side) (places_in l.rows)) (take l.at l.columns.items);
}
