use Rattle.std.proofs.Common.{◌≡◌, ◌<◌, length, None, Some, arith, rules, ap, sym, ◌∙◌}
use Rattle.std.proofs.lemmas.Bool.Decides.{nat_tests}
use Rattle.hj_eval.specs.Values.{field_of, value_in}
use Rattle.hj_eval.specs.declared.value.SumValue.{SumValue}
use Rattle.hj_eval.proofs.Totals.{missing_first, text_first}
use Rattle.hj_eval.proofs.row_pair.sum_value.Goals as goal

pub returns-in_err-first : goal.returns-in_err-first
returns-in_err-first c =
    let none : c.from_residual.result ≡ None = search rules in
    rw none (missing_first (value_in c.args.rows.now) c.args.sum.now c.in_err-first.ensures.value)

pub returns-in-Text : goal.returns-in-Text
returns-in-Text c =
    let more : 0 < length c.args.sum.now.rest = grind (arith, nat_tests) in
    text_first (value_in c.args.rows.now) c.args.sum.now c.in-Text.field-0.now
    (ap (λ (v : SumValue). Some (field_of v)) (sym c.in-Text.is) ∙ c.in_ok-first.ensures.value)
    more
