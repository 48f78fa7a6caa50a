-- The first fault of a text that is no query. Each relation says which fault comes in what stands at the front of a list of tokens,
-- where all before the fault goes on as the grammar wants.
use Rattle.std.specs.Prelude.{◌≡◌, ℕ, ◌+◌, ◌<◌, ◌≤◌, Bool, false, IsTrue, List, [], ◌∷◌, length, codes}
use Rattle.std.specs.declared.option.Option.TheVariants as option
use Rattle.hj_base.specs.declared.numbers.Side.{Side}
use Rattle.hj_base.specs.declared.numbers.Window.{Window}
use Rattle.hj_value.specs.declared.column.Column.{Column}
use Rattle.hj_value.specs.Schema.{starts_with_time}
use Rattle.hj_lex.specs.declared.token.TokenKind.TheVariants as kinds
use Rattle.hj_query.specs.declared.fault.QueryFault.{QueryFault}
use Rattle.hj_query.specs.declared.fault.QueryFault.TheVariants as faults
use Rattle.hj_query.specs.declared.fault.Wanted.{Wanted}
use Rattle.hj_query.specs.declared.fault.Wanted.TheVariants as wants
use Rattle.hj_query.specs.declared.pred.Op.{Op}
use Rattle.hj_query.specs.declared.pred.Pred.{Pred}
use Rattle.hj_query.specs.declared.setting.Setting.{Setting}
use Rattle.hj_query.specs.declared.setting.Setting.TheVariants as settings
use Rattle.hj_query.specs.declared.sum.Sum.{Sum}
use Rattle.hj_query.specs.Lexemes.{Lexeme, place, IsNumber, IsWord, IsSign, LacksWord, LacksSign, LacksKind}
use Rattle.hj_query.specs.Grammar.{IsColumn, has_column, most_columns, IsColumns, IsSchema, most_rows, most_time, IsWindow, setting_word, most_of, IsSetting, side_word, part_sign, op_sign, most_depth, can_compare, can_subtract, EndsSum, place_of_name, IsSum, IsPred, IsConj}
use Rattle.hj_query.specs.Sides.{by_side}

-- the next token isn't what is wanted
abbrev pub IsExpected : Wanted → List Lexeme → QueryFault → Type 0
IsExpected wanted here fault = fault ≡ faults.Expected wanted (place here)

-- Schemas.

pub data FaultsColumn (here : List Lexeme) (fault : QueryFault) : Type 0 where
  no_name : LacksKind kinds.Name here → IsExpected wants.ColumnName here fault → FaultsColumn here fault
  no_type : (name : List ℕ) (typed : List Lexeme) → IsWord name here typed
      → LacksWord (codes "int") typed → LacksWord (codes "text") typed → IsExpected wants.ColumnKind typed fault → FaultsColumn here fault

-- a column that comes behind others
pub data FaultsNext (front : List Column) (here : List Lexeme) (fault : QueryFault) : Type 0 where
  next_column_name : LacksKind kinds.Name here → IsExpected wants.ColumnName here fault → FaultsNext front here fault
  too_many : (name : List ℕ) (rest : List Lexeme) → most_columns ≤ length front → IsWord name here rest
      → fault ≡ faults.TooManyColumns (place here) → FaultsNext front here fault
  next_column_type : length front < most_columns → FaultsColumn here fault → FaultsNext front here fault
  double : (column : Column) (rest : List Lexeme) → length front < most_columns → IsColumn here column rest
      → IsTrue (has_column column.name front) → fault ≡ faults.DoubleColumn (place here) → FaultsNext front here fault

pub data FaultsColumns (here : List Lexeme) (fault : QueryFault) : Type 0 where
  first_column : FaultsColumn here fault → FaultsColumns here fault
  untimed : (column : Column) (rest : List Lexeme)
      → IsColumn here column rest → starts_with_time (column ∷ []) ≡ false → fault ≡ faults.FirstColumn (place here) → FaultsColumns here fault
  next_column : (front : List Column) (comma next : List Lexeme)
      → IsColumns here front comma → IsSign (codes ",") comma next → FaultsNext front next fault → FaultsColumns here fault
  unclosed_columns : (columns : List Column) (last : List Lexeme)
      → IsColumns here columns last → LacksSign (codes ",") last → LacksSign (codes ")") last → IsExpected wants.CommaOrClose last fault → FaultsColumns here fault

pub data FaultsSchema (word : List ℕ) (wanted : Wanted) (here : List Lexeme) (fault : QueryFault) : Type 0 where
  no_side_word : LacksWord word here → IsExpected wanted here fault → FaultsSchema word wanted here fault
  no_paren : (paren : List Lexeme) → IsWord word here paren → LacksSign (codes "(") paren → IsExpected wants.OpenParen paren fault → FaultsSchema word wanted here fault
  in_columns : (paren first : List Lexeme)
      → IsWord word here paren → IsSign (codes "(") paren first → FaultsColumns first fault → FaultsSchema word wanted here fault

-- Windows.

-- a window's number is 0, or above the most
abbrev pub IsOutside : ℕ → ℕ → Type 0
IsOutside most count = 1 ≤ count → most < count

-- the number of a window
pub data FaultsCount (most : ℕ) (here : List Lexeme) (fault : QueryFault) : Type 0 where
  no_count : LacksKind kinds.Number here → IsExpected wants.Number here fault → FaultsCount most here fault
  out_of_range : (count : ℕ) (rest : List Lexeme) → IsNumber count here rest → IsOutside most count
      → fault ≡ faults.WindowRange (place here) → FaultsCount most here fault

pub data FaultsSpan (here : List Lexeme) (fault : QueryFault) : Type 0 where
  no_span_word : LacksWord (codes "rows") here → LacksWord (codes "time") here → IsExpected wants.WindowKind here fault → FaultsSpan here fault
  in_rows : (number : List Lexeme) → IsWord (codes "rows") here number → FaultsCount most_rows number fault → FaultsSpan here fault
  in_time : (number : List Lexeme) → IsWord (codes "time") here number → FaultsCount most_time number fault → FaultsSpan here fault

pub data FaultsWindow (word : List ℕ) (here : List Lexeme) (fault : QueryFault) : Type 0 where
  no_window_word : LacksWord (codes "window") here → IsExpected wants.WindowWord here fault → FaultsWindow word here fault
  no_window_side : (side : List Lexeme) → IsWord (codes "window") here side → LacksWord word side → IsExpected wants.WindowSide side fault → FaultsWindow word here fault
  in_span : (side span : List Lexeme) → IsWord (codes "window") here side → IsWord word side span → FaultsSpan span fault → FaultsWindow word here fault

-- Settings.

-- the fault of a number that is outside the range of its setting
abbrev pub range_fault : Setting → ℕ → QueryFault
range_fault settings.Slack at = faults.SlackRange at
range_fault settings.Quiet at = faults.QuietRange at

pub data FaultsSetting (setting : Setting) (here : List Lexeme) (fault : QueryFault) : Type 0 where
  no_value : (number : List Lexeme)
      → IsWord (setting_word setting) here number → LacksKind kinds.Number number → IsExpected wants.Number number fault → FaultsSetting setting here fault
  too_large : (value : ℕ) (number rest : List Lexeme) → IsWord (setting_word setting) here number → IsNumber value number rest
      → most_of setting < value → fault ≡ range_fault setting (place number) → FaultsSetting setting here fault

-- Conditions. The columns of each side are known.

-- no comparison comes, and no `within`
pub record LacksComparison (here : List Lexeme) : Type 0 where
  pub no_op : (op : Op) → LacksSign (op_sign op) here
  pub no_within : LacksWord (codes "within") here

-- no term begins
pub record LacksTerm (here : List Lexeme) : Type 0 where
  pub no_side : (side : Side) → LacksWord (side_word side) here
  pub no_number : LacksKind kinds.Number here
  pub no_minus : LacksSign (codes "-") here
  pub no_text : LacksKind kinds.Text here

pub data FaultsTerm (columns : Side → List Column) (here : List Lexeme) (fault : QueryFault) : Type 0 where
  no_term : LacksTerm here → IsExpected wants.Term here fault → FaultsTerm columns here fault
  no_dot : (side : Side) (dot : List Lexeme) → IsWord (side_word side) here dot → LacksSign (codes ".") dot → IsExpected wants.Dot dot fault → FaultsTerm columns here fault
  no_column_name : (side : Side) (dot name : List Lexeme) → IsWord (side_word side) here dot → IsSign (codes ".") dot name
      → LacksKind kinds.Name name → IsExpected wants.ColumnName name fault → FaultsTerm columns here fault
  unknown : (side : Side) (bytes : List ℕ) (dot name rest : List Lexeme) → IsWord (side_word side) here dot → IsSign (codes ".") dot name
      → IsWord bytes name rest → place_of_name bytes (columns side) ≡ option.None → fault ≡ faults.UnknownColumn (place name) → FaultsTerm columns here fault
  no_digits : (digits : List Lexeme) → IsSign (codes "-") here digits → LacksKind kinds.Number digits → IsExpected wants.Number digits fault → FaultsTerm columns here fault

pub data FaultsSum (columns : Side → List Column) (here : List Lexeme) (fault : QueryFault) : Type 0 where
  first_term : FaultsTerm columns here fault → FaultsSum columns here fault
  next_term : (front : Sum) (plus : Bool) (sign next : List Lexeme)
      → IsSum columns here front sign → IsSign (part_sign plus) sign next → FaultsTerm columns next fault → FaultsSum columns here fault

pub data FaultsAtom (columns : Side → List Column) (here : List Lexeme) (fault : QueryFault) : Type 0 where
  left_sum : FaultsSum columns here fault → FaultsAtom columns here fault
  no_comparison : (left : Sum) (sign : List Lexeme)
      → IsSum columns here left sign → EndsSum sign → LacksComparison sign → IsExpected wants.Comparison sign fault → FaultsAtom columns here fault
  right_sum : (op : Op) (left : Sum) (sign next : List Lexeme)
      → IsSum columns here left sign → IsSign (op_sign op) sign next → FaultsSum columns next fault → FaultsAtom columns here fault
  compared_types : (op : Op) (left right : Sum) (sign next rest : List Lexeme)
      → IsSum columns here left sign → IsSign (op_sign op) sign next → IsSum columns next right rest → EndsSum rest
      → can_compare columns left right ≡ false → fault ≡ faults.Types (place here) → FaultsAtom columns here fault
  no_distance : (left : Sum) (word number : List Lexeme)
      → IsSum columns here left word → IsWord (codes "within") word number → LacksKind kinds.Number number → IsExpected wants.Number number fault → FaultsAtom columns here fault
  no_of : (distance : ℕ) (left : Sum) (word number of : List Lexeme)
      → IsSum columns here left word → IsWord (codes "within") word number → IsNumber distance number of
      → LacksWord (codes "of") of → IsExpected wants.OfWord of fault → FaultsAtom columns here fault
  distant_sum : (distance : ℕ) (left : Sum) (word number of next : List Lexeme)
      → IsSum columns here left word → IsWord (codes "within") word number → IsNumber distance number of → IsWord (codes "of") of next
      → FaultsSum columns next fault → FaultsAtom columns here fault
  distant_types : (distance : ℕ) (left right : Sum) (word number of next rest : List Lexeme)
      → IsSum columns here left word → IsWord (codes "within") word number → IsNumber distance number of → IsWord (codes "of") of next
      → IsSum columns next right rest → EndsSum rest → can_subtract columns left right ≡ false → fault ≡ faults.Types (place here) → FaultsAtom columns here fault

-- no further operand of `and` or `or` comes
pub record EndsPred (here : List Lexeme) : Type 0 where
  pub no_and : LacksWord (codes "and") here
  pub no_or : LacksWord (codes "or") here

mutual
  pub data FaultsPred (columns : Side → List Column) : ℕ → List Lexeme → QueryFault → Type 0 where
    first_conj : (depth : ℕ) (here : List Lexeme) (fault : QueryFault) → FaultsConj columns depth here fault → FaultsPred columns depth here fault
    next_conj : (depth : ℕ) (here word next : List Lexeme) (left : Pred) (fault : QueryFault)
        → IsPred columns depth here left word → IsWord (codes "or") word next → FaultsConj columns depth next fault → FaultsPred columns depth here fault

  pub data FaultsConj (columns : Side → List Column) : ℕ → List Lexeme → QueryFault → Type 0 where
    first_unary : (depth : ℕ) (here : List Lexeme) (fault : QueryFault) → FaultsUnary columns depth here fault → FaultsConj columns depth here fault
    next_unary : (depth : ℕ) (here word next : List Lexeme) (left : Pred) (fault : QueryFault)
        → IsConj columns depth here left word → IsWord (codes "and") word next → FaultsUnary columns depth next fault → FaultsConj columns depth here fault

  pub data FaultsUnary (columns : Side → List Column) : ℕ → List Lexeme → QueryFault → Type 0 where
    deep_not : (depth : ℕ) (here next : List Lexeme) (fault : QueryFault)
        → most_depth ≤ depth → IsWord (codes "not") here next → fault ≡ faults.TooDeep (place here) → FaultsUnary columns depth here fault
    deep_parens : (depth : ℕ) (here next : List Lexeme) (fault : QueryFault)
        → most_depth ≤ depth → IsSign (codes "(") here next → fault ≡ faults.TooDeep (place here) → FaultsUnary columns depth here fault
    in_not : (depth : ℕ) (here next : List Lexeme) (fault : QueryFault)
        → depth < most_depth → IsWord (codes "not") here next → FaultsUnary columns (depth + 1) next fault → FaultsUnary columns depth here fault
    in_parens : (depth : ℕ) (here next : List Lexeme) (fault : QueryFault)
        → depth < most_depth → IsSign (codes "(") here next → FaultsPred columns (depth + 1) next fault → FaultsUnary columns depth here fault
    unclosed_parens : (depth : ℕ) (here next last : List Lexeme) (pred : Pred) (fault : QueryFault)
        → depth < most_depth → IsSign (codes "(") here next → IsPred columns (depth + 1) next pred last → EndsPred last → LacksSign (codes ")") last
        → IsExpected wants.CloseParen last fault → FaultsUnary columns depth here fault
    in_atom : (depth : ℕ) (here : List Lexeme) (fault : QueryFault)
        → LacksWord (codes "not") here → LacksSign (codes "(") here → FaultsAtom columns here fault → FaultsUnary columns depth here fault

pub data FaultsCondition (columns : Side → List Column) (here : List Lexeme) (fault : QueryFault) : Type 0 where
  no_on : LacksWord (codes "on") here → IsExpected wants.OnWord here fault → FaultsCondition columns here fault
  in_pred : (first : List Lexeme) → IsWord (codes "on") here first → FaultsPred columns 0 first fault → FaultsCondition columns here fault
  no_end : (first last : List Lexeme) (pred : Pred) → IsWord (codes "on") here first → IsPred columns 0 first pred last
      → EndsPred last → LacksSign [] last → IsExpected wants.End last fault → FaultsCondition columns here fault

pub data FaultsQuery (here : List Lexeme) (fault : QueryFault) : Type 0 where
  left_schema : FaultsSchema (codes "left") wants.LeftWord here fault → FaultsQuery here fault
  right_schema : (left : List Column) (right_word : List Lexeme)
      → IsSchema (codes "left") here left right_word → FaultsSchema (codes "right") wants.RightWord right_word fault → FaultsQuery here fault
  in_left_window : (left right : List Column) (right_word left_span : List Lexeme)
      → IsSchema (codes "left") here left right_word → IsSchema (codes "right") right_word right left_span
      → FaultsWindow (codes "left") left_span fault → FaultsQuery here fault
  in_right_window : (left right : List Column) (left_window : Window) (right_word left_span right_span : List Lexeme)
      → IsSchema (codes "left") here left right_word → IsSchema (codes "right") right_word right left_span
      → IsWindow (codes "left") left_span left_window right_span → FaultsWindow (codes "right") right_span fault → FaultsQuery here fault
  in_slack : (left right : List Column) (left_window right_window : Window) (right_word left_span right_span slack : List Lexeme)
      → IsSchema (codes "left") here left right_word → IsSchema (codes "right") right_word right left_span
      → IsWindow (codes "left") left_span left_window right_span → IsWindow (codes "right") right_span right_window slack
      → FaultsSetting settings.Slack slack fault → FaultsQuery here fault
  in_quiet : (left right : List Column) (left_window right_window : Window) (late : ℕ) (right_word left_span right_span slack quiet : List Lexeme)
      → IsSchema (codes "left") here left right_word → IsSchema (codes "right") right_word right left_span
      → IsWindow (codes "left") left_span left_window right_span → IsWindow (codes "right") right_span right_window slack
      → IsSetting settings.Slack slack late quiet → FaultsSetting settings.Quiet quiet fault → FaultsQuery here fault
  in_condition : (left right : List Column) (left_window right_window : Window) (late silent : ℕ)
      (right_word left_span right_span slack quiet condition : List Lexeme)
      → IsSchema (codes "left") here left right_word → IsSchema (codes "right") right_word right left_span
      → IsWindow (codes "left") left_span left_window right_span → IsWindow (codes "right") right_span right_window slack
      → IsSetting settings.Slack slack late quiet → IsSetting settings.Quiet quiet silent condition
      → FaultsCondition (by_side left right) condition fault → FaultsQuery here fault
