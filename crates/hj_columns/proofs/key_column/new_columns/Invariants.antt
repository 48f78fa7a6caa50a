use Rattle.std.proofs.Common.{◌≡◌, [], All, take}
use Rattle.hj_columns.specs.Columns.{filters_of}
use Rattle.hj_columns.proofs.key_column.new_columns.Given as goal

abbrev pub invariant-loop-filter : goal.invariant-loop-filter
invariant-loop-filter g l = record {
  filters : filters_of l.columns.items ≡ take l.filter-index l.filters;
  empty : All (λ column. column.keys.items ≡ []) l.columns.items;
}
