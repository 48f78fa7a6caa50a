use Rattle.std.proofs.Common.{ap, sym}
use Rattle.std.proofs.lemmas.Result.{err_from_is_err_and}
use Rattle.hj_query.specs.declared.fault.QueryFault.TheVariants as faults
use Rattle.hj_query.specs.Faults.{first_column, untimed}
use Rattle.hj_query.proofs.schema.first_column.Goals as goal

pub returns-in_err-first-clause-read : goal.returns-in_err-first-clause-read
returns-in_err-first-clause-read c =
    let p = err_from_is_err_and c.from_residual.result c.from_residual.ensures.1 in
    rw (p.1, p.2) (λ other. first_column (c.in_err-first.ensures.read other))

pub returns-then-not-is_time-clause-read : goal.returns-then-not-is_time-clause-read
returns-then-not-is_time-clause-read c = λ _. untimed c.in_ok-first.first _ c.in_ok-first.ensures.read (sym c.if-not-is_time.ensures) (ap faults.FirstColumn c.place-place.ensures)

pub returns-clause-read : goal.returns-clause-read
returns-clause-read c = (c.in_ok-first.ensures.read, sym c.if-not-is_time.ensures)
