use Rattle.hj_event.proofs.PlainLines.{ReadsUpTo}
use Rattle.hj_event.proofs.schema.line.read_line.Given as goal

abbrev pub invariant-loop-column : goal.invariant-loop-column
invariant-loop-column l = ReadsUpTo l.schema.columns l.column l.row l.at l.bytes
