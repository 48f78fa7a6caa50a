use Rattle.std.proofs.Common.{◌≡◌, Some, map, take}
use Rattle.hj_columns.proofs.key_column.ranges_for.Given as goal

abbrev pub invariant-loop-column : goal.invariant-loop-column
invariant-loop-column g l =
    map (λ range. Some range) l.ranges.items ≡ map (λ column. g.F.KeyFilter.range column.filter l.side l.against) (take l.column-index l.columns)
