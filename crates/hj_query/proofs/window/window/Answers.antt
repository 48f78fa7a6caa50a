use Rattle.std.proofs.lemmas.Result.{err_from_is_err_and, MatchResult-weaker}
use Rattle.hj_query.specs.Faults.{in_span, no_window_side}
use Rattle.hj_query.specs.Grammar.{spanned}
use Rattle.hj_query.proofs.window.window.Goals as goal

pub returns-in_err-word-2 : goal.returns-in_err-word-2
returns-in_err-word-2 c =
    let p = err_from_is_err_and c.from_residual-in_err-word-2.result c.from_residual-in_err-word-2.ensures.1 in
    rw (p.1, p.2) (no_window_side _ c.in_ok-word.ensures.read c.in_err-word-2.ensures.read.0 c.in_err-word-2.ensures.read.1)

pub returns : goal.returns
returns c =
    MatchResult-weaker c.span.result c.span.ensures
    (λ window h. spanned _ _ c.in_ok-word.ensures.read c.in_ok-word-2.ensures.read h)
    (λ fault h. in_span _ _ c.in_ok-word.ensures.read c.in_ok-word-2.ensures.read h)
