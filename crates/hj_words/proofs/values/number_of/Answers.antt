use Rattle.std.proofs.Common.{◌≡◌, ◌<◌, ◌^◌, None, arith, sym, rules, ◌∙◌}
use Rattle.std.proofs.lemmas.Grind.{common_steps}
use Rattle.hj_words.specs.Orders.{number_of}
use Rattle.hj_words.proofs.NumberWord.{refused}
use Rattle.hj_words.proofs.values.number_of.Goals as goal

pub returns-in_err-number-clause-value : goal.returns-in_err-number-clause-value
returns-in_err-number-clause-value c =
    let fits : c.args.high < 2 ^ 64 = omega (arith, c.ranges.high.fits) in
    let none : number_of c.args.low c.args.high c.args.word.now ≡ None =
    refused c.args.low c.args.high c.args.word.now c.parse.result fits (sym c.ok.ensures.value ∙ c.in_err-number.was) c.parse.ensures.value.0 (sym c.if-not-are_digits.ensures) (search rules) in
    grind (arith, common_steps, none)
