-- The canonical text of a query: one line for each schema, each window and each setting that isn't 0, and one for the condition.
use Rattle.std.specs.Prelude.{ℕ, Bool, true, false, ◌||◌, List, [], ◌++◌, codes, slice_get, if◌then◌else◌, ◌==◌}
use Rattle.std.specs.Fmt.{decimal, signed_decimal}
use Rattle.std.specs.List.{flat_map, join_by}
use Rattle.std.specs.declared.option.Option.{Option}
use Rattle.std.specs.declared.option.Option.TheVariants as option
use Rattle.hj_base.specs.declared.numbers.Side.{Side}
use Rattle.hj_base.specs.declared.numbers.Window.{Window}
use Rattle.hj_base.specs.declared.numbers.Window.TheVariants as windows
use Rattle.hj_value.specs.declared.column.Column.{Column}
use Rattle.hj_lex.specs.Tokens.{quoted}
use Rattle.hj_query.specs.declared.pred.Pred.{Pred, Or', And', Not', Compare, Within}
use Rattle.hj_query.specs.declared.setting.Setting.{Setting}
use Rattle.hj_query.specs.declared.setting.Setting.TheVariants as settings
use Rattle.hj_query.specs.declared.sum.SignedTerm.{SignedTerm}
use Rattle.hj_query.specs.declared.sum.Sum.{Sum}
use Rattle.hj_query.specs.declared.sum.Term.{Term}
use Rattle.hj_query.specs.declared.sum.Term.TheVariants as terms
use Rattle.hj_query.specs.Grammar.{columns_of, kind_word, op_sign, part_sign, setting_word, side_word}
use Rattle.hj_query.specs.QueryParts.{QueryParts}

-- a name and its type
abbrev pub column_text : Column → List ℕ
column_text column = column.name ++ codes " " ++ kind_word column.kind

-- columns in parentheses, with a comma and a blank between them
abbrev pub schema_text : List Column → List ℕ
schema_text columns = codes "(" ++ join_by column_text (codes ", ") columns ++ codes ")"

abbrev pub window_text : Window → List ℕ
window_text (windows.Rows count) = codes "rows " ++ decimal count
window_text (windows.Time span) = codes "time " ++ decimal span

abbrev pub line_end : List ℕ
line_end = codes "\n"

-- the line of a setting; none for 0
abbrev pub setting_line : Setting → ℕ → List ℕ
setting_line setting value = if value == 0 then [] else setting_word setting ++ codes " " ++ decimal value ++ line_end

-- Conditions. The columns of each side are known.

-- the name of a column; none has no name
abbrev pub name_at : Option Column → List ℕ
name_at option.None = []
name_at (option.Some column) = column.name

abbrev pub term_text : (Side → List Column) → Term → List ℕ
term_text columns (terms.Column side at) = side_word side ++ codes "." ++ name_at (slice_get (columns side) at)
term_text columns (terms.Number value) = signed_decimal value
term_text columns (terms.Text value) = quoted value

-- a sign and a term, behind other terms
abbrev pub part_text : (Side → List Column) → SignedTerm → List ℕ
part_text columns part = codes " " ++ part_sign part.plus ++ codes " " ++ term_text columns part.term

abbrev pub sum_text : (Side → List Column) → Sum → List ℕ
sum_text columns sum = term_text columns sum.first ++ flat_map (part_text columns) sum.rest

-- What holds of an `or` and of an `and` decides where parentheses stand.

abbrev pub is_or : Pred → Bool
is_or (Or' p left q right) = true
is_or _ = false

abbrev pub is_and : Pred → Bool
is_and (And' p left q right) = true
is_and _ = false

-- in parentheses where they are needed
abbrev pub enclosed_if : Bool → List ℕ → List ℕ
enclosed_if needed text = if needed then codes "(" ++ text ++ codes ")" else text

-- Parentheses stand only round an `or` under `and`, round the right operand of `and` that is an `and`, round the right operand of
-- `or` that is an `or`, and round an `and` or `or` under `not`.
abbrev pub pred_text : (Side → List Column) → Pred → List ℕ
pred_text columns (Or' p left q right) = pred_text columns left ++ codes " or " ++ enclosed_if (is_or right) (pred_text columns right)
pred_text columns (And' p left q right) =
    enclosed_if (is_or left) (pred_text columns left) ++ codes " and " ++ enclosed_if (is_or right || is_and right) (pred_text columns right)
pred_text columns (Not' p inner) = codes "not " ++ enclosed_if (is_or inner || is_and inner) (pred_text columns inner)
pred_text columns (Compare op left right) = sum_text columns left ++ codes " " ++ op_sign op ++ codes " " ++ sum_text columns right
pred_text columns (Within distance left right) =
    sum_text columns left ++ codes " within " ++ decimal distance ++ codes " of " ++ sum_text columns right

-- the lines of the two streams
abbrev pub streams_text : QueryParts → List ℕ
streams_text query =
    codes "left " ++ schema_text query.left.columns ++ line_end
    ++ codes "right " ++ schema_text query.right.columns ++ line_end
    ++ codes "window left " ++ window_text query.left_window ++ line_end
    ++ codes "window right " ++ window_text query.right_window ++ line_end

abbrev pub canonical : QueryParts → List ℕ
canonical query =
    streams_text query
    ++ setting_line settings.Slack query.slack
    ++ setting_line settings.Quiet query.quiet
    ++ codes "on " ++ pred_text (columns_of query) query.pred ++ line_end
