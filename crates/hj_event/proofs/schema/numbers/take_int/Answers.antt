use Rattle.std.proofs.Common.{◌+◌, ℤ, FitsSigned, subst, sym, w64, rules}
use Rattle.std.proofs.lemmas.Int.{to_z-of_z}
use Rattle.hj_event.specs.Lines.{TakesInt}
use Rattle.hj_event.proofs.PlainLines.{takes_int}
use Rattle.hj_event.proofs.schema.numbers.take_int.Goals as goal

pub returns-then-bytes-digits : goal.returns-then-bytes-digits
returns-then-bytes-digits c =
    let fits : FitsSigned w64 c.in_ok-value.value = search rules in
    let leads = c.in_ok-value.ensures in
    subst (λ (z : ℤ). TakesInt z (c.in_ok-value.digits + 1) c.args.behind c.args.bytes.now) (sym (to_z-of_z w64 c.in_ok-value.value fits))
    (takes_int c.in_ok-value.value c.in_ok-value.digits c.args.behind c.args.bytes.now leads.1 leads.2 leads.3 c.if-bytes-digits.true)
