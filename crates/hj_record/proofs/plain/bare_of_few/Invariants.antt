use Rattle.std.proofs.Common.{take, All}
use Rattle.hj_record.specs.Plain.{IsBare}
use Rattle.hj_record.proofs.plain.bare_of_few.Given as goal

abbrev pub invariant-loop-at : goal.invariant-loop-at
invariant-loop-at l = All IsBare (take l.at l.text)
