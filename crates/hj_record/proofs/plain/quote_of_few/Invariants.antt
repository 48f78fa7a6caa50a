use Rattle.std.proofs.Common.{◌-◌, length, take, drop, All}
use Rattle.hj_record.specs.Plain.{IsNoQuote}
use Rattle.hj_record.proofs.plain.quote_of_few.Given as goal

abbrev pub invariant-loop-at : goal.invariant-loop-at
invariant-loop-at l = All IsNoQuote (take l.at (take (length l.text - l.from) (drop l.from l.text)))
