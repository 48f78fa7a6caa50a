use Rattle.std.proofs.Common.{ap, arith, sym, ◌∙◌}
use Rattle.std.proofs.lemmas.Result.{err_from_is_err_and}
use Rattle.hj_query.specs.declared.fault.QueryFault.TheVariants as faults
use Rattle.hj_query.specs.Faults.{double, next_column_type, too_many}
use Rattle.hj_query.specs.Grammar.{has_column}
use Rattle.hj_query.proofs.schema.next_column.Goals as goal

pub returns-then-len-ge-MOST_COLUMNS-clause-read : goal.returns-then-len-ge-MOST_COLUMNS-clause-read
returns-then-len-ge-MOST_COLUMNS-clause-read c = λ _. too_many _ _ (omega arith) c.in_ok-name.ensures.read.0 (ap faults.TooManyColumns c.place-place.ensures)

pub returns-in_err-column-clause-read : goal.returns-in_err-column-clause-read
returns-in_err-column-clause-read c =
    let p = err_from_is_err_and c.from_residual-in_err-column.result c.from_residual-in_err-column.ensures.1 in
    rw (p.1, p.2) (λ other. next_column_type (omega arith) (c.in_err-column.ensures.read other))

pub returns-then-has_column-clause-read : goal.returns-then-has_column-clause-read
returns-then-has_column-clause-read c =
    λ _. double c.in_ok-column.column _ (omega arith) c.in_ok-column.ensures.read (ap (λ name. has_column name c.args.front.now) (sym c.bytes.ensures.value) ∙ sym c.if-has_column.ensures) (ap faults.DoubleColumn c.place-place.ensures)

pub returns-clause-read : goal.returns-clause-read
returns-clause-read c =
    (c.in_ok-column.ensures.read, omega arith, ap (λ name. has_column name c.args.front.now) (sym c.bytes.ensures.value) ∙ sym c.if-has_column.ensures)
