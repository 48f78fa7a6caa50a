use Rattle.std.proofs.Common.{ap, refl, sym, ◌∙◌}
use Rattle.std.proofs.lemmas.Result.{err_from_is_err_and}
use Rattle.hj_value.specs.declared.schema.Schema.{Schema}
use Rattle.hj_query.specs.Faults.{no_dot, no_column_name, unknown}
use Rattle.hj_query.specs.Grammar.{of_column, place_of_name, side_word}
use Rattle.hj_query.specs.declared.fault.QueryFault.TheVariants as faults
use Rattle.hj_query.proofs.Columns.{sides_columns}
use Rattle.hj_query.proofs.Lists.{word_no_end}
use Rattle.hj_query.proofs.term.column.Goals as goal

pub skip-requires : goal.skip-requires
skip-requires c = word_no_end (side_word c.args.side) c.args.cursor.now c.requires

pub returns-in_err-sign-clause-read : goal.returns-in_err-sign-clause-read
returns-in_err-sign-clause-read c =
    let p = err_from_is_err_and c.from_residual.result c.from_residual.ensures.1 in
    rw (p.1, p.2) (λ _. no_dot c.args.side c.skip.new.self (record { found = c.requires; left = c.skip.ensures.behind }) c.in_err-sign.ensures.read.0 c.in_err-sign.ensures.read.1)

pub returns-in_err-name-clause-read : goal.returns-in_err-name-clause-read
returns-in_err-name-clause-read c =
    let p = err_from_is_err_and c.from_residual-in_err-name.result c.from_residual-in_err-name.ensures.1 in
    rw (p.1, p.2) (λ _. no_column_name c.args.side c.skip.new.self c.sign.new.self (record { found = c.requires; left = c.skip.ensures.behind }) c.in_ok-sign.ensures.read c.in_err-name.ensures.read.0 c.in_err-name.ensures.read.1)

pub returns-in-Some-clause-read : goal.returns-in-Some-clause-read
returns-in-Some-clause-read c =
    of_column c.args.side c.in-Some.at c.in_ok-name.name.now c.skip.new.self c.sign.new.self (record { found = c.requires; left = c.skip.ensures.behind }) c.in_ok-sign.ensures.read c.in_ok-name.ensures.read.0
    (ap (place_of_name c.in_ok-name.name.now) (sym (ap (λ (schema : Schema). schema.columns) c.of.ensures ∙ sides_columns c.args.schemas.now c.args.side)) ∙ sym c.in-Some.ensures) refl

pub returns-in-None-clause-read : goal.returns-in-None-clause-read
returns-in-None-clause-read c =
    λ _. unknown c.args.side c.in_ok-name.name.now c.skip.new.self c.sign.new.self c.name.new.self (record { found = c.requires; left = c.skip.ensures.behind }) c.in_ok-sign.ensures.read c.in_ok-name.ensures.read.0
    (ap (place_of_name c.in_ok-name.name.now) (sym (ap (λ (schema : Schema). schema.columns) c.of.ensures ∙ sides_columns c.args.schemas.now c.args.side)) ∙ sym c.in-None.ensures)
    (ap faults.UnknownColumn c.place-place.ensures)
