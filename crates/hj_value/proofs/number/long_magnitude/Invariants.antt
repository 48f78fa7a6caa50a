use Rattle.std.proofs.Common.{◌≡◌, ℕ, drop}
use Rattle.hj_value.proofs.Numbers.{read_on}
use Rattle.hj_value.specs.Magnitude.{IsUpTo}
use Rattle.hj_value.proofs.number.long_magnitude.Given as goal

abbrev pub invariant-loop-digit : goal.invariant-loop-digit
invariant-loop-digit l =
    (n : ℕ) × (IsUpTo l.value n × (read_on n (drop l.digit-index l.digits) ≡ read_on 0 l.digits))
