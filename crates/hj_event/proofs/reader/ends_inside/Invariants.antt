use Rattle.std.proofs.Common.{◌≡◌, take}
use Rattle.hj_record.specs.LineEnd.{inside_after}
use Rattle.hj_event.proofs.reader.ends_inside.Given as goal

abbrev pub invariant-loop-byte : goal.invariant-loop-byte
invariant-loop-byte l = l.inside ≡ inside_after l.fn.inside (take l.byte-index l.bytes)
