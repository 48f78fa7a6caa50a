use Rattle.std.proofs.Common.{sym, ◌∙◌}
use Rattle.hj_trace.proofs.Numbers.{apart, no_decimal, not_parsed, not_printed, one_digit}
use Rattle.hj_trace.proofs.actors.read_core.Goals as goal

pub returns-in-Err-clause-none : goal.returns-in-Err-clause-none
returns-in-Err-clause-none c = λ _. no_decimal c.args.digits.now c.in-Err.ensures.cases.0

pub returns-in-Err-parse-clause-none : goal.returns-in-Err-parse-clause-none
returns-in-Err-parse-clause-none c = λ _. not_parsed c.args.digits.now c.in-Ok.text.now c.in-Err-parse.field-0 c.in-Ok.ensures.cases.0 c.in-Err-parse.ensures.value.0

pub returns-then-ne-clause-none : goal.returns-then-ne-clause-none
returns-then-ne-clause-none c =
    λ _. not_printed c.args.digits.now c.in-Ok.text.now c.in-Ok-parse.number c.parse.result c.in-Ok-parse.is c.in-Ok.ensures.cases.0 c.parse.ensures.value.0
    (λ e. apart c.as_bytes.result.now c.args.digits.now c.ne.result c.ne.ensures c.if-ne.true (e ∙ sym c.format.ensures.text ∙ sym c.as_bytes.ensures.value))

pub returns-then-is_ascii_digit-clause-spells : goal.returns-then-is_ascii_digit-clause-spells
returns-then-is_ascii_digit-clause-spells c =
    one_digit c.args.digits.now c.from.result c.if-digits-eq1.true c.if-is_ascii_digit.ensures.cases.0 c.if-is_ascii_digit.ensures.cases.1 c.from.ensures
