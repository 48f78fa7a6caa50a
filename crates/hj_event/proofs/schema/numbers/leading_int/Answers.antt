use Rattle.std.proofs.Common.{◌≡◌, ◌-◌, arith, get_or, sym, ap, subst, take, Ok, w64, ◌∙◌, rules}
use Rattle.std.proofs.lemmas.Int.{to_z_pos}
use Rattle.std.proofs.lemmas.List.{get_or-take, length-take-le}
use Rattle.std.proofs.lemmas.List.Elements.{All-more}
use Rattle.hj_event.specs.Lines.{IsDigit}
use Rattle.hj_event.proofs.Leading.{below_all, fits_more, int_of-digits, value_more}
use Rattle.hj_value.proofs.Numbers.{more_digits}
use Rattle.hj_event.proofs.schema.numbers.leading_int.Goals as goal

pub overflow_cast-result : goal.overflow_cast-result
overflow_cast-result c =
    let long = length-take-le c.min.result c.args.bytes.now (omega arith) in
    let below = below_all c.loop-at.value c.loop-at.at c.loop-at.invariant.2 (omega arith) in
    search rules

pub returns-else-at-eq0 : goal.returns-else-at-eq0
returns-else-at-eq0 c =
    let long = length-take-le c.min.result c.args.bytes.now (omega arith) in
    let below = below_all c.loop-at.value c.loop-at.at c.loop-at.invariant.2 (omega arith) in
    let size = length-take-le c.loop-at.at c.args.bytes.now (omega arith) in (
      omega arith,
      omega arith,
      c.loop-at.invariant.0,
      int_of-digits (take c.loop-at.at c.args.bytes.now) c.loop-at.value (omega arith) c.loop-at.invariant.0 c.loop-at.invariant.1 below ∙ ap (λ z. Ok z) (sym (to_z_pos w64 c.loop-at.value below)),
    )

pub overflow_mul-value : goal.overflow_mul-value
overflow_mul-value c =
    let long = length-take-le c.min.result c.args.bytes.now (omega arith) in
    let fits = fits_more c.loop-at.value (get_or (take c.min.result c.args.bytes.now) c.loop-at.at 0) c.loop-at.at (sym c.if-not-is_ascii_digit.ensures.value) c.loop-at.invariant.2 (omega arith) in
    omega arith

pub overflow_add-value : goal.overflow_add-value
overflow_add-value c =
    let long = length-take-le c.min.result c.args.bytes.now (omega arith) in
    let fits = fits_more c.loop-at.value (get_or (take c.min.result c.args.bytes.now) c.loop-at.at 0) c.loop-at.at (sym c.if-not-is_ascii_digit.ensures.value) c.loop-at.invariant.2 (omega arith) in
    omega arith

pub loop-at-preserved : goal.loop-at-preserved
loop-at-preserved c =
    let long = length-take-le c.min.result c.args.bytes.now (omega arith) in
    let byte = get_or c.args.bytes.now c.loop-at.at 0 in
    let here : get_or (take c.min.result c.args.bytes.now) c.loop-at.at 0 ≡ byte = get_or-take c.min.result c.args.bytes.now c.loop-at.at 0 (omega arith) in
    let digit : IsDigit byte = subst IsDigit here (sym c.if-not-is_ascii_digit.ensures.value) in
    let now : c.from.result ≡ get_or (take c.min.result c.args.bytes.now) c.loop-at.at 0 - 48 = search rules in
    let is : c.from.result ≡ byte - 48 = now ∙ ap (λ b. b - 48) here in (
      All-more IsDigit c.args.bytes.now c.loop-at.at 0 (omega arith) c.loop-at.invariant.0 digit,
      rw is (value_more c.args.bytes.now c.loop-at.at c.loop-at.value (omega arith) digit c.loop-at.invariant.1),
      rw is (more_digits c.loop-at.value byte c.loop-at.at digit c.loop-at.invariant.2),
    )
