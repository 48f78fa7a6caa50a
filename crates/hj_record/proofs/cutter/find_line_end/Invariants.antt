use Rattle.std.proofs.Common.{◌≡◌, ℕ, ◌<◌, take}
use Rattle.hj_record.specs.LineEnd.{inside_after, EndsWithin}
use Rattle.hj_record.proofs.cutter.find_line_end.Given as goal

abbrev pub invariant-loop-at : goal.invariant-loop-at
invariant-loop-at l =
    (l.inside ≡ inside_after l.fn.inside (take l.at l.bytes)) × ((k : ℕ) → k < l.at → ¬ (EndsWithin l.fn.inside l.bytes k))
