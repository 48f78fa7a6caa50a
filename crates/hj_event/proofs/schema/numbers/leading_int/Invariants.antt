use Rattle.std.proofs.Common.{◌≡◌, ◌<◌, ◌^◌, take, All}
use Rattle.std.specs.Str.Parse.{digits_value}
use Rattle.hj_event.specs.Lines.{IsDigit}
use Rattle.hj_event.proofs.schema.numbers.leading_int.Given as goal

abbrev pub invariant-loop-at : goal.invariant-loop-at
invariant-loop-at l = All IsDigit (take l.at l.bytes) × (l.value ≡ digits_value 10 (take l.at l.bytes)) × (l.value < 10 ^ l.at)
