use Rattle.std.proofs.Common.{◌≡◌, take}
use Rattle.hj_record.specs.LineEnd.{inside_after}
use Rattle.hj_event.proofs.reader.lines_end.Given as goal

abbrev pub invariant-loop-at : goal.invariant-loop-at
invariant-loop-at l = l.inside ≡ inside_after l.fn.inside (take l.at l.bytes)
