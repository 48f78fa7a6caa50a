-- The grammar of queries. Each relation says what stands at the front of a list of tokens, and what is left behind it.
use Rattle.std.specs.Prelude.{◌≡◌, ℕ, ◌+◌, ◌^◌, ◌<◌, ◌≤◌, pos, neg_ℤ, Bool, true, false, not, ◌&&◌, ◌||◌, ◌==◌, IsTrue, List, [], ◌∷◌, ◌++◌, length, codes, slice_get}
use Rattle.std.specs.List.{list_all, list_any, position_from}
use Rattle.std.specs.Str.{bytes_eq}
use Rattle.std.specs.declared.option.Option.{Option}
use Rattle.std.specs.declared.option.Option.TheVariants as option
use Rattle.hj_base.specs.declared.numbers.Side.{Side}
use Rattle.hj_base.specs.declared.numbers.Side.TheVariants as sides
use Rattle.hj_base.specs.declared.numbers.Window.{Window}
use Rattle.hj_base.specs.declared.numbers.Window.TheVariants as windows
use Rattle.hj_value.specs.declared.column.Column.{Column}
use Rattle.hj_value.specs.declared.column.ColumnType.{ColumnType}
use Rattle.hj_value.specs.declared.column.ColumnType.TheVariants as types
use Rattle.hj_value.specs.Schema.{is_int, starts_with_time}
use Rattle.hj_lex.specs.declared.token.TokenKind.TheVariants as kinds
use Rattle.hj_query.specs.declared.pred.Op.{Op}
use Rattle.hj_query.specs.declared.pred.Op.TheVariants as ops
use Rattle.hj_query.specs.declared.pred.Pred.{Pred, Or', And', Not', Compare, Within}
use Rattle.hj_query.specs.declared.setting.Setting.{Setting}
use Rattle.hj_query.specs.declared.setting.Setting.TheVariants as settings
use Rattle.hj_query.specs.declared.sum.Term.{Term}
use Rattle.hj_query.specs.declared.sum.Term.TheVariants as terms
use Rattle.hj_query.specs.declared.sum.Sum.{Sum}
use Rattle.hj_query.specs.Lexemes.{Lexeme, next_is, IsNumber, IsWord, IsSign, IsText, LacksSign, LacksWord, SuitsKind}
use Rattle.hj_query.specs.QueryParts.{QueryParts}
use Rattle.hj_query.specs.Sides.{by_side}

-- Schemas.

abbrev pub kind_word : ColumnType → List ℕ
kind_word types.Int = codes "int"
kind_word types.Text = codes "text"

-- a name and a type
pub data IsColumn (here : List Lexeme) (column : Column) (rest : List Lexeme) : Type 0 where
  named : (typed : List Lexeme) → IsWord column.name here typed → IsWord (kind_word column.kind) typed rest → IsColumn here column rest

-- the place of the column with a name
abbrev pub place_of_name : List ℕ → List Column → Option ℕ
place_of_name name columns = position_from (λ column. bytes_eq column.name name) 0 columns

-- a column has this name
abbrev pub has_column : List ℕ → List Column → Bool
has_column name columns = list_any (λ column. bytes_eq column.name name) columns

abbrev pub most_columns : ℕ
most_columns = 256

-- Columns with `,` between them: the first is `ts int`, the names are distinct, and there are at most 256.
pub data IsColumns (here : List Lexeme) : List Column → List Lexeme → Type 0 where
  lone : (column : Column) (columns : List Column) (rest : List Lexeme)
      → IsColumn here column rest → IsTrue (starts_with_time (column ∷ [])) → columns ≡ column ∷ [] → IsColumns here columns rest
  further : (front : List Column) (column : Column) (comma next : List Lexeme) (columns : List Column) (rest : List Lexeme)
      → IsColumns here front comma → IsSign (codes ",") comma next → IsColumn next column rest
      → length front < most_columns → has_column column.name front ≡ false → columns ≡ front ++ column ∷ [] → IsColumns here columns rest

-- columns in parentheses, behind the word of their side
pub data IsSchema (word : List ℕ) (here : List Lexeme) (columns : List Column) (rest : List Lexeme) : Type 0 where
  enclosed : (paren first close : List Lexeme)
      → IsWord word here paren → IsSign (codes "(") paren first → IsColumns first columns close → IsSign (codes ")") close rest → IsSchema word here columns rest

-- Windows.

abbrev pub most_rows : ℕ
most_rows = 1000000

abbrev pub most_time : ℕ
most_time = 2 ^ 62

-- `rows` or `time`, and a number in range
pub data IsSpan (here : List Lexeme) (window : Window) (rest : List Lexeme) : Type 0 where
  by_rows : (count : ℕ) (number : List Lexeme) → IsWord (codes "rows") here number → IsNumber count number rest
      → 1 ≤ count → count ≤ most_rows → window ≡ windows.Rows count → IsSpan here window rest
  by_time : (count : ℕ) (number : List Lexeme) → IsWord (codes "time") here number → IsNumber count number rest
      → 1 ≤ count → count ≤ most_time → window ≡ windows.Time count → IsSpan here window rest

-- `window`, the word of its side, and its span
pub data IsWindow (word : List ℕ) (here : List Lexeme) (window : Window) (rest : List Lexeme) : Type 0 where
  spanned : (side span : List Lexeme) → IsWord (codes "window") here side → IsWord word side span → IsSpan span window rest → IsWindow word here window rest

-- Settings.

abbrev pub setting_word : Setting → List ℕ
setting_word settings.Slack = codes "slack"
setting_word settings.Quiet = codes "quiet"

abbrev pub most_slack : ℕ
most_slack = 2 ^ 62

abbrev pub most_quiet : ℕ
most_quiet = 1000000

abbrev pub most_of : Setting → ℕ
most_of settings.Slack = most_slack
most_of settings.Quiet = most_quiet

-- a setting's word and a number in range, or neither, which stands for 0
pub data IsSetting (setting : Setting) (here : List Lexeme) (value : ℕ) (rest : List Lexeme) : Type 0 where
  absent : LacksWord (setting_word setting) here → value ≡ 0 → rest ≡ here → IsSetting setting here value rest
  given : (number : List Lexeme)
      → IsWord (setting_word setting) here number → IsNumber value number rest → value ≤ most_of setting → IsSetting setting here value rest

-- Conditions. The columns of each side are known.

abbrev pub side_word : Side → List ℕ
side_word sides.Left = codes "l"
side_word sides.Right = codes "r"

-- the sign between the terms of a sum
abbrev pub part_sign : Bool → List ℕ
part_sign true = codes "+"
part_sign false = codes "-"

abbrev pub op_sign : Op → List ℕ
op_sign ops.Eq = codes "="
op_sign ops.Ne = codes "!="
op_sign ops.Lt = codes "<"
op_sign ops.Le = codes "<="
op_sign ops.Gt = codes ">"
op_sign ops.Ge = codes ">="

-- how many `not` and `(` may stand inside one another
abbrev pub most_depth : ℕ
most_depth = 64

abbrev pub is_text_at : Option Column → Bool
is_text_at option.None = false
is_text_at (option.Some column) = not (is_int column.kind)

abbrev pub is_text : (Side → List Column) → Term → Bool
is_text columns (terms.Column side at) = is_text_at (slice_get (columns side) at)
is_text columns (terms.Number value) = false
is_text columns (terms.Text value) = true

-- a sum of numbers
abbrev pub is_int_sum : (Side → List Column) → Sum → Bool
is_int_sum columns sum = not (is_text columns sum.first) && list_all (λ part. not (is_text columns part.term)) sum.rest

-- one text
abbrev pub is_text_sum : (Side → List Column) → Sum → Bool
is_text_sum columns sum = is_text columns sum.first && length sum.rest == 0

-- both sides are numbers, or both are texts
abbrev pub can_compare : (Side → List Column) → Sum → Sum → Bool
can_compare columns left right =
    is_int_sum columns left && is_int_sum columns right || is_text_sum columns left && is_text_sum columns right

-- both sides are numbers
abbrev pub can_subtract : (Side → List Column) → Sum → Sum → Bool
can_subtract columns left right = is_int_sum columns left && is_int_sum columns right

-- no further term of a sum comes
pub record EndsSum (here : List Lexeme) : Type 0 where
  pub no_plus : LacksSign (codes "+") here
  pub no_minus : LacksSign (codes "-") here

pub data IsTerm (columns : Side → List Column) (here : List Lexeme) (term : Term) (rest : List Lexeme) : Type 0 where
  of_column : (side : Side) (at : ℕ) (name_bytes : List ℕ) (dot name : List Lexeme)
      → IsWord (side_word side) here dot → IsSign (codes ".") dot name → IsWord name_bytes name rest
      → place_of_name name_bytes (columns side) ≡ option.Some at → term ≡ terms.Column side at → IsTerm columns here term rest
  of_number : (value : ℕ) → IsNumber value here rest → term ≡ terms.Number (pos value) → IsTerm columns here term rest
  of_negative : (value : ℕ) (digits : List Lexeme)
      → IsSign (codes "-") here digits → IsNumber value digits rest → term ≡ terms.Number (neg_ℤ (pos value)) → IsTerm columns here term rest
  of_text : (value : List ℕ) → IsText value here rest → term ≡ terms.Text value → IsTerm columns here term rest

pub data IsSum (columns : Side → List Column) (here : List Lexeme) : Sum → List Lexeme → Type 0 where
  of_term : (first : Term) (sum : Sum) (rest : List Lexeme) → IsTerm columns here first rest → sum ≡ record { first = first; rest = [] } → IsSum columns here sum rest
  of_part : (front : Sum) (plus : Bool) (term : Term) (sign next : List Lexeme) (sum : Sum) (rest : List Lexeme)
      → IsSum columns here front sign → IsSign (part_sign plus) sign next → IsTerm columns next term rest
      → sum ≡ record { first = front.first; rest = front.rest ++ record { plus = plus; term = term } ∷ [] } → IsSum columns here sum rest

-- A comparison, or a distance. Its second sum is the longest.
pub data IsAtom (columns : Side → List Column) (here : List Lexeme) (pred : Pred) (rest : List Lexeme) : Type 0 where
  compared : (op : Op) (left right : Sum) (sign next : List Lexeme)
      → IsSum columns here left sign → IsSign (op_sign op) sign next → IsSum columns next right rest → EndsSum rest
      → IsTrue (can_compare columns left right) → pred ≡ Compare op left right → IsAtom columns here pred rest
  distant : (distance : ℕ) (left right : Sum) (word number of next : List Lexeme)
      → IsSum columns here left word → IsWord (codes "within") word number → IsNumber distance number of → IsWord (codes "of") of next
      → IsSum columns next right rest → EndsSum rest
      → IsTrue (can_subtract columns left right) → pred ≡ Within distance left right → IsAtom columns here pred rest

-- The nodes of the tree, wherever their operands lie.

abbrev pub IsOr : Pred → Pred → Pred → Type 0
IsOr left right (Or' p first q second) = (first ≡ left) × (second ≡ right)
IsOr left right _ = ⊥

abbrev pub IsAnd : Pred → Pred → Pred → Type 0
IsAnd left right (And' p first q second) = (first ≡ left) × (second ≡ right)
IsAnd left right _ = ⊥

abbrev pub IsNot : Pred → Pred → Type 0
IsNot inner (Not' p operand) = operand ≡ inner
IsNot inner _ = ⊥

-- Conditions inside so many `not` and `(`; `or` and `and` group to the left.
mutual
  pub data IsPred (columns : Side → List Column) : ℕ → List Lexeme → Pred → List Lexeme → Type 0 where
    of_conj : (depth : ℕ) (here : List Lexeme) (pred : Pred) (rest : List Lexeme) → IsConj columns depth here pred rest → IsPred columns depth here pred rest
    of_or : (depth : ℕ) (here word next rest : List Lexeme) (left right pred : Pred)
        → IsPred columns depth here left word → IsWord (codes "or") word next → IsConj columns depth next right rest
        → IsOr left right pred → IsPred columns depth here pred rest

  pub data IsConj (columns : Side → List Column) : ℕ → List Lexeme → Pred → List Lexeme → Type 0 where
    of_unary : (depth : ℕ) (here : List Lexeme) (pred : Pred) (rest : List Lexeme) → IsUnary columns depth here pred rest → IsConj columns depth here pred rest
    of_and : (depth : ℕ) (here word next rest : List Lexeme) (left right pred : Pred)
        → IsConj columns depth here left word → IsWord (codes "and") word next → IsUnary columns depth next right rest
        → IsAnd left right pred → IsConj columns depth here pred rest

  pub data IsUnary (columns : Side → List Column) : ℕ → List Lexeme → Pred → List Lexeme → Type 0 where
    of_not : (depth : ℕ) (here next rest : List Lexeme) (inner pred : Pred)
        → depth < most_depth → IsWord (codes "not") here next → IsUnary columns (depth + 1) next inner rest → IsNot inner pred → IsUnary columns depth here pred rest
    of_parens : (depth : ℕ) (here next close rest : List Lexeme) (pred : Pred)
        → depth < most_depth → IsSign (codes "(") here next → IsPred columns (depth + 1) next pred close → IsSign (codes ")") close rest → IsUnary columns depth here pred rest
    of_atom : (depth : ℕ) (here : List Lexeme) (pred : Pred) (rest : List Lexeme)
        → IsAtom columns here pred rest → IsUnary columns depth here pred rest

-- `on`, a condition, and the end of the text
pub data IsCondition (columns : Side → List Column) (here : List Lexeme) (pred : Pred) : Type 0 where
  of_pred : (first last : List Lexeme)
      → IsWord (codes "on") here first → IsPred columns 0 first pred last → IsTrue (next_is kinds.Sign [] last) → IsCondition columns here pred

-- the columns of each side of a query
abbrev pub columns_of : QueryParts → Side → List Column
columns_of query = by_side query.left.columns query.right.columns

-- a whole query
pub data IsQuery (here : List Lexeme) (query : QueryParts) : Type 0 where
  of_lines : (right_word left_span right_span slack quiet condition : List Lexeme)
      → IsSchema (codes "left") here query.left.columns right_word
      → IsSchema (codes "right") right_word query.right.columns left_span
      → IsWindow (codes "left") left_span query.left_window right_span
      → IsWindow (codes "right") right_span query.right_window slack
      → IsSetting settings.Slack slack query.slack quiet
      → IsSetting settings.Quiet quiet query.quiet condition
      → IsCondition (columns_of query) condition query.pred
      → IsQuery here query

-- each token has bytes of its kind
abbrev pub AreSuited : List Lexeme → Type 0
AreSuited [] = Unit {0}
AreSuited (lexeme ∷ rest) = SuitsKind lexeme.kind lexeme.bytes × AreSuited rest

-- some tokens read as this query
abbrev pub IsSpelled : QueryParts → Type 0
IsSpelled query = (here : List Lexeme) × AreSuited here × IsQuery here query
