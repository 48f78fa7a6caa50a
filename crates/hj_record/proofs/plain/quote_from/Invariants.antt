use Rattle.std.proofs.Common.{◌-◌, ◌≤◌, length, take, drop, All}
use Rattle.hj_record.specs.Plain.{IsNoQuote}
use Rattle.hj_record.proofs.plain.quote_from.Given as goal

abbrev pub invariant-loop-at : goal.invariant-loop-at
invariant-loop-at l = record {
  behind : l.from ≤ l.at;
  within : l.at ≤ length l.text;
  none : All IsNoQuote (take (l.at - l.from) (drop l.from l.text));
}

abbrev pub decreases-loop-at : goal.decreases-loop-at
decreases-loop-at l = length l.text - l.at
