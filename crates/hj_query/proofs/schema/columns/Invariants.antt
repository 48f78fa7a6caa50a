use Rattle.std.proofs.Common.{◌≤◌, length, IsTrue}
use Rattle.hj_value.specs.Schema.{has_distinct_names, starts_with_time}
use Rattle.hj_query.specs.Grammar.{most_columns, IsColumns}
use Rattle.hj_query.proofs.schema.columns.Given as goal

abbrev pub invariant-columns : goal.invariant-columns
invariant-columns l =
    IsColumns l.fn.cursor l.columns l.cursor × (length l.columns ≤ most_columns) × IsTrue (has_distinct_names l.columns) × IsTrue (starts_with_time l.columns)

abbrev pub decreases-columns : goal.decreases-columns
decreases-columns l = length l.cursor
