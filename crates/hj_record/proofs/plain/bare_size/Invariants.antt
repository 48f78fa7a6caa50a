use Rattle.std.proofs.Common.{◌-◌, ◌≤◌, length, take, All}
use Rattle.hj_record.specs.Plain.{IsBare}
use Rattle.hj_record.proofs.plain.bare_size.Given as goal

abbrev pub invariant-loop-at : goal.invariant-loop-at
invariant-loop-at l = record {
  within : l.at ≤ length l.text;
  bare : All IsBare (take l.at l.text);
}

abbrev pub decreases-loop-at : goal.decreases-loop-at
decreases-loop-at l = length l.text - l.at
