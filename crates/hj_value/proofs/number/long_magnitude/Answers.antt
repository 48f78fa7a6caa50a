use Rattle.std.proofs.Common.{sym, ◌∙◌}
use Rattle.hj_value.proofs.Numbers.{read_on-stop, read_on-long}
use Rattle.hj_value.proofs.number.long_magnitude.Goals as goal

pub returns-then-not-is_ascii_digit : goal.returns-then-not-is_ascii_digit
returns-then-not-is_ascii_digit c =
    read_on-stop c.args.digits.now c.loop-digit.digit-index c.loop-digit.invariant.0 c.loop-digit-test.true (sym c.if-not-is_ascii_digit.ensures.value) c.loop-digit.invariant.1.1

pub returns : goal.returns
returns c =
    c.ok_or.ensures.value ∙ read_on-long c.args.digits.now c.loop-digit.digit-index c.loop-digit.invariant.0 c.loop-digit.value c.loop-digit-test.false c.loop-digit.invariant.1.0 c.loop-digit.invariant.1.1
