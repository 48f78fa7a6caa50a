use Rattle.std.proofs.Common.{sym}
use Rattle.std.proofs.lemmas.Result.{err_from_is_err_and}
use Rattle.hj_query.specs.Faults.{in_pred, no_end}
use Rattle.hj_query.specs.Grammar.{of_pred}
use Rattle.hj_query.proofs.condition.condition.Goals as goal

pub returns-in_err-pred : goal.returns-in_err-pred
returns-in_err-pred c =
    let p = err_from_is_err_and c.from_residual-in_err-pred.result c.from_residual-in_err-pred.ensures.1 in
    rw (p.1, p.2) (λ other. in_pred _ c.in_ok-word.ensures.read (c.in_err-pred.ensures.read other))

pub returns-then-not-is_sign : goal.returns-then-not-is_sign
returns-then-not-is_sign c =
    λ _. no_end _ _ c.in_ok-pred.pred c.in_ok-word.ensures.read c.in_ok-pred.ensures.read.0 c.in_ok-pred.ensures.read.1 (sym c.if-not-is_sign.ensures.is) c.expected.ensures

pub returns : goal.returns
returns c = of_pred _ _ c.in_ok-word.ensures.read c.in_ok-pred.ensures.read.0 (sym c.if-not-is_sign.ensures.is)
