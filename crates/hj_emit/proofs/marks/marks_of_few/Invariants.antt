use Rattle.std.proofs.Common.{◌≡◌, ◌==◌, take}
use Rattle.std.specs.List.{list_any}
use Rattle.csv.specs.Writing.{default_writer, needs_byte}
use Rattle.hj_emit.proofs.marks.marks_of_few.Given as goal

abbrev pub invariant-loop-byte : goal.invariant-loop-byte
invariant-loop-byte l = record {
  special : l.marks.special ≡ list_any (needs_byte default_writer) (take l.byte-index l.bytes);
  quote : l.marks.quote ≡ list_any (λ byte. byte == 34) (take l.byte-index l.bytes);
}
