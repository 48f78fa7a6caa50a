use Rattle.std.proofs.Common.{◌≡◌, ◌++◌, [], take, map}
use Rattle.csv.specs.Records.{fields_of, partial_of}
use Rattle.hj_emit.specs.Line.{field_bytes}
use Rattle.hj_emit.proofs.writer.push_row.Given as goal

abbrev pub invariant-loop-at : goal.invariant-loop-at
invariant-loop-at l =
    (fields_of l.fields ≡ fields_of l.initial.fields ++ map field_bytes (take l.at l.row)) × (partial_of l.fields ≡ [])
