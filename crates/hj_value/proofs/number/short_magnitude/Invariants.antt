use Rattle.std.proofs.Common.{◌≡◌, ◌<◌, ◌^◌, drop}
use Rattle.hj_value.proofs.Numbers.{read_on}
use Rattle.hj_value.proofs.number.short_magnitude.Given as goal

abbrev pub invariant-loop-digit : goal.invariant-loop-digit
invariant-loop-digit l =
    (read_on l.value (drop l.digit-index l.digits) ≡ read_on 0 l.digits) × (l.value < 10 ^ l.digit-index)
