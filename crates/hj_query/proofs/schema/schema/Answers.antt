use Rattle.std.proofs.lemmas.Result.{err_from_is_err_and}
use Rattle.hj_query.specs.Faults.{in_columns, no_paren, unclosed_columns}
use Rattle.hj_query.specs.Grammar.{enclosed}
use Rattle.hj_query.proofs.schema.schema.Goals as goal

pub returns-in_err-sign : goal.returns-in_err-sign
returns-in_err-sign c =
    let p = err_from_is_err_and c.from_residual-in_err-sign.result c.from_residual-in_err-sign.ensures.1 in
    rw (p.1, p.2) (λ _. no_paren _ c.in_ok-word.ensures.read c.in_err-sign.ensures.read.0 c.in_err-sign.ensures.read.1)

pub returns-in_err-columns : goal.returns-in_err-columns
returns-in_err-columns c =
    let p = err_from_is_err_and c.from_residual-in_err-columns.result c.from_residual-in_err-columns.ensures.1 in
    rw (p.1, p.2) (λ other. in_columns _ _ c.in_ok-word.ensures.read c.in_ok-sign.ensures.read (c.in_err-columns.ensures other))

pub returns-in_err-sign-2 : goal.returns-in_err-sign-2
returns-in_err-sign-2 c =
    let p = err_from_is_err_and c.from_residual-in_err-sign-2.result c.from_residual-in_err-sign-2.ensures.1 in
    rw (p.1, p.2) (λ _. in_columns _ _ c.in_ok-word.ensures.read c.in_ok-sign.ensures.read (unclosed_columns _ _ c.in_ok-columns.ensures.0 c.in_ok-columns.ensures.1 c.in_err-sign-2.ensures.read.0 c.in_err-sign-2.ensures.read.1))

pub returns : goal.returns
returns c = enclosed _ _ _ c.in_ok-word.ensures.read c.in_ok-sign.ensures.read c.in_ok-columns.ensures.0 c.in_ok-sign-2.ensures.read
