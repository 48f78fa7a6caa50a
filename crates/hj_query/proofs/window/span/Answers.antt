use Rattle.std.proofs.Common.{refl, sym}
use Rattle.std.proofs.lemmas.Result.{err_from_is_err_and}
use Rattle.hj_query.specs.Faults.{in_rows, in_time}
use Rattle.hj_query.specs.Grammar.{by_rows, by_time}
use Rattle.hj_query.proofs.window.span.Goals as goal

pub returns-in_err-rows : goal.returns-in_err-rows
returns-in_err-rows c =
    let p = err_from_is_err_and c.from_residual.result c.from_residual.ensures.1 in
    rw (p.1, p.2) (in_rows _ (record { found = sym c.if-is_word.ensures.is; left = c.skip.ensures.behind }) c.in_err-rows.ensures)

pub returns-then-is_word : goal.returns-then-is_word
returns-then-is_word c =
    by_rows c.in_ok-rows.rows _ (record { found = sym c.if-is_word.ensures.is; left = c.skip.ensures.behind }) c.in_ok-rows.ensures.0 c.in_ok-rows.ensures.1 c.in_ok-rows.ensures.2 refl

pub returns-in_err-time : goal.returns-in_err-time
returns-in_err-time c =
    let p = err_from_is_err_and c.from_residual-in_err-time.result c.from_residual-in_err-time.ensures.1 in
    rw (p.1, p.2) (in_time _ (record { found = sym c.if-is_word-2.ensures.is; left = c.skip-then-is_word-2.ensures.behind }) c.in_err-time.ensures)

pub returns-then-is_word-2 : goal.returns-then-is_word-2
returns-then-is_word-2 c =
    by_time c.in_ok-time.time _ (record { found = sym c.if-is_word-2.ensures.is; left = c.skip-then-is_word-2.ensures.behind }) c.in_ok-time.ensures.0 c.in_ok-time.ensures.1 c.in_ok-time.ensures.2 refl
