use Rattle.std.proofs.Common.{codes}
use Rattle.hj_query.specs.Canonical.{column_text}
use Rattle.hj_query.proofs.Appending.{joined_next}
use Rattle.hj_query.proofs.canonical.push_columns.Goals as goal

pub loop-at-preserved : goal.loop-at-preserved
loop-at-preserved c =
    joined_next column_text (codes ", ") c.args.columns.now c.loop-at.at c.in-Some-get.column.now c.loop-at.text.items _ _ _ c.in-Some-get.ensures c.in_ok-push_bytes.ensures c.in_ok-push_column-2.ensures c.loop-at.invariant
