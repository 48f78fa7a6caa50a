use Rattle.std.proofs.Common.{◌≡◌, ◌-◌, ◌==◌, ◌||◌, take, drop}
use Rattle.std.specs.List.{list_any}
use Rattle.csv.specs.Writing.{default_writer, needs_byte}
use Rattle.hj_emit.proofs.marks.marks_of_many.Given as goal

abbrev pub invariant-loop-at : goal.invariant-loop-at
invariant-loop-at l = record {
  special : l.marks.special ≡ (list_any (needs_byte default_writer) (take l.at l.bytes) || list_any (needs_byte default_writer) (take 16 (drop l.last l.bytes)));
  quote : l.marks.quote ≡ (list_any (λ byte. byte == 34) (take l.at l.bytes) || list_any (λ byte. byte == 34) (take 16 (drop l.last l.bytes)));
}

abbrev pub decreases-loop-at : goal.decreases-loop-at
decreases-loop-at l = l.last - l.at
