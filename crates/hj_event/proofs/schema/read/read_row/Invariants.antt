use Rattle.std.proofs.Common.{◌≡◌, ◌+◌, drop}
use Rattle.hj_event.specs.SchemaRows.{values_from}
use Rattle.hj_event.proofs.ReadRows.{behind}
use Rattle.hj_event.proofs.schema.read.read_row.Given as goal

abbrev pub invariant-loop-at : goal.invariant-loop-at
invariant-loop-at l =
    behind l.row (values_from (l.at + 1) (drop l.at l.schema.columns) (drop l.at l.fields)) ≡ values_from 1 l.schema.columns l.fields
