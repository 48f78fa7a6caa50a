use Rattle.std.proofs.Common.{◌≡◌, ◌≤◌, ◌<◌, ◌++◌, ◌∷◌, [], List, IsTrue, false, length, arith, length-append, refl, subst, sym, ◌∙◌}
use Rattle.std.proofs.lemmas.Result.{err_from_is_err_and}
use Rattle.hj_value.specs.declared.column.Column.{Column}
use Rattle.hj_value.specs.Schema.{has_distinct_names, starts_with_time}
use Rattle.hj_query.specs.Faults.{next_column}
use Rattle.hj_query.specs.Grammar.{IsColumn, IsColumns, further, has_column, lone, most_columns}
use Rattle.hj_query.specs.Lexemes.{IsSign, Lexeme}
use Rattle.std.specs.Prelude.{codes}
use Rattle.hj_query.proofs.Columns.{distinct_more, timed_more}
use Rattle.hj_query.proofs.schema.columns.Goals as goal

one_column : (here rest : List Lexeme) (column : Column) (columns : List Column) → columns ≡ column ∷ [] → IsColumn here column rest → IsTrue (starts_with_time (column ∷ []))
    → IsColumns here columns rest × (length columns ≤ most_columns) × IsTrue (has_distinct_names columns) × IsTrue (starts_with_time columns)
one_column here rest column columns e is timed =
    subst (λ cs. IsColumns here cs rest × (length cs ≤ most_columns) × IsTrue (has_distinct_names cs) × IsTrue (starts_with_time cs)) (sym e)
    (lone column (column ∷ []) rest is timed refl, omega arith, refl, timed)

more_columns : (here comma next rest : List Lexeme) (front : List Column) (column : Column) (columns : List Column) → columns ≡ front ++ column ∷ []
    → IsColumns here front comma × (length front ≤ most_columns) × IsTrue (has_distinct_names front) × IsTrue (starts_with_time front)
    → IsSign (codes ",") comma next → IsColumn next column rest × (length front < most_columns) × (has_column column.name front ≡ false)
    → IsColumns here columns rest × (length columns ≤ most_columns) × IsTrue (has_distinct_names columns) × IsTrue (starts_with_time columns)
more_columns here comma next rest front column columns e is sign new =
    subst (λ cs. IsColumns here cs rest × (length cs ≤ most_columns) × IsTrue (has_distinct_names cs) × IsTrue (starts_with_time cs)) (sym e) (
      further front column comma next (front ++ column ∷ []) rest is.0 sign new.0 new.1 new.2 refl,
      omega (arith, length-append front (column ∷ []), new.1),
      distinct_more front column is.2 new.2,
      timed_more front column is.3,
    )

pub columns-init : goal.columns-init
columns-init c = one_column c.args.cursor.now c.first_column.new.cursor _ c.push.new.self (rw c.new-columns.ensures at c.in_ok-push.ensures.ok) c.in_ok-first_column.ensures.read.0 c.in_ok-first_column.ensures.read.1

pub returns-in_err-column : goal.returns-in_err-column
returns-in_err-column c =
    let p = err_from_is_err_and c.from_residual-in_err-column.result c.from_residual-in_err-column.ensures.1 in
    rw (p.1, p.2) (λ other. next_column _ _ _ c.columns.invariant.0 (record { found = sym c.is_sign.ensures.is ∙ c.columns-test.true; left = c.skip.ensures.behind }) (c.in_err-column.ensures.read other))

pub columns-preserved : goal.columns-preserved
columns-preserved c = more_columns c.args.cursor.now c.columns.cursor c.skip.new.self c.next_column.new.cursor c.columns.columns c.in_ok-column.column c.push-in-columns.new.self c.in_ok-push-2.ensures.ok c.columns.invariant (record { found = sym c.is_sign.ensures.is ∙ c.columns-test.true; left = c.skip.ensures.behind }) c.in_ok-column.ensures.read
