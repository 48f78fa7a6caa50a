use Rattle.std.proofs.Common.{◌≡◌, ◌++◌, codes, drop}
use Rattle.std.specs.List.{flat_map, join_by}
use Rattle.hj_query.specs.Canonical.{column_text}
use Rattle.hj_query.proofs.canonical.push_columns.Given as goal

abbrev pub invariant-loop-at : goal.invariant-loop-at
invariant-loop-at l =
    l.text.items ++ flat_map (λ column. codes ", " ++ column_text column) (drop l.at l.columns)
    ≡ l.fn.text.items ++ join_by column_text (codes ", ") l.columns
