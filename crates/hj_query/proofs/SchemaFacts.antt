-- What holds of a schema's columns, and of the tokens behind a schema, a window or a setting.
use Rattle.std.proofs.Common.{◌≡◌, ℕ, ◌<◌, ◌≤◌, false, List, [], ◌∷◌, ◌++◌, length, length-append, IsTrue, refl, sym, subst, arith}
use Rattle.std.specs.Prelude.{codes}
use Rattle.hj_base.specs.declared.numbers.Window.{Window}
use Rattle.hj_value.specs.declared.column.Column.{Column}
use Rattle.hj_value.specs.declared.schema.Schema.{Schema}
use Rattle.hj_value.specs.Schema.{has_distinct_names, starts_with_time}
use Rattle.hj_lex.specs.declared.token.TokenKind.TheVariants as kinds
use Rattle.hj_query.specs.declared.setting.Setting.{Setting}
use Rattle.hj_query.specs.Grammar.{IsColumn, IsColumns, IsSchema, IsSetting, IsSpan, IsWindow, absent, by_rows, by_time, enclosed, further, given, has_column, kind_word, lone, most_columns, named, setting_word, spanned}
use Rattle.hj_query.specs.Lexemes.{Lexeme, IsNumber}
use Rattle.hj_query.proofs.Columns.{distinct_more, timed_more}
use Rattle.hj_query.proofs.TokenOutcomes.{AreSuited, suited_rest}

abbrev AreFit : List Column → Type 0
AreFit columns = (length columns ≤ most_columns) × IsTrue (has_distinct_names columns) × IsTrue (starts_with_time columns)

fit_first : (column : Column) → IsTrue (starts_with_time (column ∷ [])) → AreFit (column ∷ [])
fit_first column timed = (omega arith, refl, timed)

fit_more : (front : List Column) (column : Column) → AreFit front → length front < most_columns → has_column column.name front ≡ false → AreFit (front ++ column ∷ [])
fit_more front column fit lt new = (omega (arith, length-append front (column ∷ []), lt), distinct_more front column fit.1 new, timed_more front column fit.2)

columns_fit : (here : List Lexeme) (columns : List Column) (rest : List Lexeme) → IsColumns here columns rest → AreFit columns
columns_fit here columns rest (lone column cs r c t e) = subst AreFit (sym e) (fit_first column t)
columns_fit here columns rest (further front column comma next cs r chain s c lt new e) = subst AreFit (sym e) (fit_more front column (columns_fit here front comma chain) lt new)

pub schema_fit : (word : List ℕ) (here : List Lexeme) (columns : List Column) (rest : List Lexeme) → IsSchema word here columns rest → AreFit columns
schema_fit word here columns rest (enclosed paren first close w s cs z) = columns_fit first columns close cs

-- the schema of these columns
abbrev pub schema_of : (columns : List Column) → AreFit columns → Schema
schema_of columns fit = record { columns = columns; few = fit.0; distinct = fit.1; timed = fit.2 }

-- The tokens behind.

column_suited : (here : List Lexeme) (column : Column) (rest : List Lexeme) → IsColumn here column rest → AreSuited here → AreSuited rest
column_suited here column rest (named typed n k) h =
    suited_rest kinds.Name (kind_word column.kind) typed rest k (suited_rest kinds.Name column.name here typed n h)

columns_suited : (here : List Lexeme) (columns : List Column) (rest : List Lexeme) → IsColumns here columns rest → AreSuited here → AreSuited rest
columns_suited here columns rest (lone column cs r c t e) h = column_suited here column rest c h
columns_suited here columns rest (further front column comma next cs r chain s c lt new e) h =
    column_suited next column rest c (suited_rest kinds.Sign (codes ",") comma next s (columns_suited here front comma chain h))

pub schema_suited : (word : List ℕ) (here : List Lexeme) (columns : List Column) (rest : List Lexeme) → IsSchema word here columns rest → AreSuited here → AreSuited rest
schema_suited word here columns rest (enclosed paren first close w s cs z) h =
    suited_rest kinds.Sign (codes ")") close rest z
    (columns_suited first columns close cs (suited_rest kinds.Sign (codes "(") paren first s (suited_rest kinds.Name word here paren w h)))

number_suited : (count : ℕ) (here rest : List Lexeme) → IsNumber count here rest → AreSuited here → AreSuited rest
number_suited count here rest n h = suited_rest kinds.Number n.bytes here rest n.found h

span_suited : (here : List Lexeme) (window : Window) (rest : List Lexeme) → IsSpan here window rest → AreSuited here → AreSuited rest
span_suited here window rest (by_rows count number w n ge le e) h = number_suited count number rest n (suited_rest kinds.Name (codes "rows") here number w h)
span_suited here window rest (by_time count number w n ge le e) h = number_suited count number rest n (suited_rest kinds.Name (codes "time") here number w h)

pub window_suited : (word : List ℕ) (here : List Lexeme) (window : Window) (rest : List Lexeme) → IsWindow word here window rest → AreSuited here → AreSuited rest
window_suited word here window rest (spanned side span w s h) known =
    span_suited span window rest h (suited_rest kinds.Name word side span s (suited_rest kinds.Name (codes "window") here side w known))

pub setting_suited : (setting : Setting) (here : List Lexeme) (value : ℕ) (rest : List Lexeme) → IsSetting setting here value rest → AreSuited here → AreSuited rest
setting_suited setting here value rest (absent lacks none same) h = subst AreSuited (sym same) h
setting_suited setting here value rest (given number w n le) h = number_suited value number rest n (suited_rest kinds.Name (setting_word setting) here number w h)
