use Rattle.std.proofs.Common.{arith, sym, get_or}
use Rattle.hj_value.proofs.Numbers.{read_on-stop, read_on-few, few_digits}
use Rattle.hj_value.proofs.number.short_magnitude.Goals as goal

pub returns-then-not-is_ascii_digit : goal.returns-then-not-is_ascii_digit
returns-then-not-is_ascii_digit c =
    read_on-stop c.args.digits.now c.loop-digit.digit-index c.loop-digit.value c.loop-digit-test.true (sym c.if-not-is_ascii_digit.ensures.value) c.loop-digit.invariant.0

pub overflow_mul-value : goal.overflow_mul-value
overflow_mul-value c =
    let few = few_digits c.loop-digit.value (get_or c.args.digits.now c.loop-digit.digit-index 0) c.loop-digit.digit-index (sym c.if-not-is_ascii_digit.ensures.value) c.loop-digit.invariant.1 (omega arith) in
    omega arith

pub overflow_add-value : goal.overflow_add-value
overflow_add-value c =
    let few = few_digits c.loop-digit.value (get_or c.args.digits.now c.loop-digit.digit-index 0) c.loop-digit.digit-index (sym c.if-not-is_ascii_digit.ensures.value) c.loop-digit.invariant.1 (omega arith) in
    omega arith

pub returns : goal.returns
returns c =
    read_on-few c.args.digits.now c.loop-digit.digit-index c.loop-digit.value (omega arith) (omega arith) c.loop-digit.invariant.1 c.loop-digit.invariant.0
