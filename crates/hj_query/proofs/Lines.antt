-- The lines of schemas, windows and settings in the canonical text are read as them.
use Rattle.std.proofs.Common.{◌≡◌, ℕ, zero, suc, ◌<◌, ◌≤◌, true, false, List, [], ◌∷◌, ◌++◌, length, IsTrue, codes, refl, sym, ap, subst, ◌∙◌, arith, append_assoc, length-append}
use Rattle.std.proofs.lemmas.Bool.Decides.{nat_tests}
use Rattle.std.proofs.lemmas.Grind.{flat_map-append}
use Rattle.std.proofs.lemmas.List.{append-nil}
use Rattle.std.specs.Fmt.{decimal}
use Rattle.std.specs.List.{flat_map, join_by}
use Rattle.std.specs.Prelude.{if◌then◌else◌, ◌==◌}
use Rattle.hj_base.specs.declared.numbers.Window.{Window}
use Rattle.hj_base.specs.declared.numbers.Window.TheVariants as windows
use Rattle.hj_base.specs.declared.numbers.Side.{Side}
use Rattle.hj_value.specs.declared.column.Column.{Column}
use Rattle.hj_value.specs.declared.column.ColumnType.{ColumnType}
use Rattle.hj_value.specs.declared.column.ColumnType.TheVariants as types
use Rattle.hj_value.specs.Schema.{starts_with_time}
use Rattle.hj_lex.specs.declared.token.TokenKind.TheVariants as kinds
use Rattle.hj_lex.specs.Tokens.{is_name, number_end}
use Rattle.hj_query.specs.declared.pred.Pred.{Pred}
use Rattle.hj_query.specs.declared.setting.Setting.{Setting}
use Rattle.hj_query.specs.declared.setting.Setting.TheVariants as settings
use Rattle.hj_query.specs.Canonical.{column_text, line_end, schema_text, setting_line, window_text}
use Rattle.hj_query.specs.Grammar.{AreSuited, IsColumn, IsColumns, IsCondition, IsSchema, IsSetting, IsSpan, IsWindow, absent, by_rows, by_time, enclosed, further, given, has_column, kind_word, lone, most_columns, most_of, most_rows, most_time, named, of_pred, setting_word, spanned}
use Rattle.hj_query.specs.Lexemes.{Lexeme, IsSign, LacksWord}
use Rattle.hj_query.proofs.Pieces.{Anything, EndsToken, Spelled, Told, blank_behind, name_spelled, sign_spelled, spelled_as, spelled_then, word_spelled}
use Rattle.hj_query.proofs.Spelling.{Reads}
use Rattle.hj_query.proofs.Suited.{SuitedNext, next_suited}
use Rattle.hj_query.proofs.Terms.{SuitedNumber, number_spelled, number_suited}
use Rattle.hj_query.proofs.TokenOutcomes.{next_other}

-- Columns.

kind_name : (kind : ColumnType) → is_name (kind_word kind) ≡ true
kind_name types.Int = refl
kind_name types.Text = refl

column_spelled : (column : Column) → is_name column.name ≡ true → Spelled EndsToken (λ here rest. IsColumn here column rest) (column_text column)
column_spelled column h =
    spelled_as (column_text column) (λ more rest b. b) (λ more here rest b s. named s.0 s.1 s.2)
    (spelled_then (column.name ++ codes " ") (kind_word column.kind) (word_spelled column.name h) (name_spelled (kind_word column.kind) (kind_name column.kind)) (λ more rest mid b n. tt))

column_told : (column : Column) (here rest : List Lexeme) → AreSuited here → IsColumn here column rest → Told EndsToken (λ here rest. IsColumn here column rest) (column_text column) rest
column_told column here rest s (named typed is_name is_kind) =
    let behind_name : SuitedNext kinds.Name column.name typed = next_suited kinds.Name column.name here typed s is_name in
    let behind_kind : SuitedNext kinds.Name (kind_word column.kind) rest = next_suited kinds.Name (kind_word column.kind) typed rest behind_name.others is_kind in
    record { spelled = column_spelled column behind_name.next; others = behind_kind.others }

abbrev joined : List Column → List ℕ
joined columns = join_by column_text (codes ", ") columns

joined_more : (front : List Column) (column : Column) → 0 < length front → joined (front ++ column ∷ []) ≡ joined front ++ codes ", " ++ column_text column
joined_more [] column some = absurd (omega arith)
joined_more (first ∷ others) column some =
    ap (λ text. column_text first ++ text)
    (flat_map-append (λ other. codes ", " ++ column_text other) others (column ∷ [])
    ∙ ap (λ text. flat_map (λ other. codes ", " ++ column_text other) others ++ text) (append-nil (codes ", " ++ column_text column)))
    ∙ sym (append_assoc (column_text first) (flat_map (λ other. codes ", " ++ column_text other) others) (codes ", " ++ column_text column))
    ∙ sym (append_assoc (joined (first ∷ others)) (codes ", ") (column_text column))

some_columns : (here : List Lexeme) (columns : List Column) (rest : List Lexeme) → IsColumns here columns rest → 0 < length columns
some_columns here _ _ (lone column columns rest c timed e) = omega (arith, ap length e)
some_columns here _ _ (further front column comma next columns rest f is_comma c few fresh e) = omega (arith, ap length e, length-append front (column ∷ []))

comma_spelled : Spelled Anything (IsSign (codes ",")) (codes ", ")
comma_spelled = blank_behind {Behind = Anything} 32 (codes ",") refl (λ more rest b. tt) (sign_spelled 44 refl (λ next. refl))

abbrev SpelledColumns : List Column → Type 0
SpelledColumns columns = Spelled EndsToken (λ here rest. IsColumns here columns rest) (joined columns)

lone_spelled : (column : Column) → IsTrue (starts_with_time (column ∷ [])) → Spelled EndsToken (λ here rest. IsColumn here column rest) (column_text column) → SpelledColumns (column ∷ [])
lone_spelled column timed spelled =
    subst (λ text. Spelled EndsToken (λ here rest. IsColumns here (column ∷ []) rest) text) (sym (append-nil (column_text column)))
    (spelled_as (column_text column) (λ more rest b. b) (λ more here rest b c. lone column (column ∷ []) rest c timed refl) spelled)

further_spelled : (front : List Column) (column : Column) → 0 < length front → length front < most_columns → has_column column.name front ≡ false
    → SpelledColumns front → Spelled EndsToken (λ here rest. IsColumn here column rest) (column_text column) → SpelledColumns (front ++ column ∷ [])
further_spelled front column some few fresh first second =
    let comma = spelled_then {Behind = EndsToken} (joined front) (codes ", ") first comma_spelled (λ more rest mid b s. refl) in
    let whole = spelled_then {Behind = Anything} _ (column_text column) comma second (λ more rest mid b s. tt) in
    subst (λ text. Spelled EndsToken (λ here rest. IsColumns here (front ++ column ∷ []) rest) text) (sym (joined_more front column some))
    (spelled_as (joined front ++ codes ", " ++ column_text column) (λ more rest b. b) (λ more here rest b s. further front column s.1.0 s.0 _ rest s.1.1 s.1.2 s.2 few fresh refl) whole)

columns_told : (here : List Lexeme) → AreSuited here → (columns : List Column) (rest : List Lexeme) → IsColumns here columns rest → Told EndsToken (λ here rest. IsColumns here columns rest) (joined columns) rest
columns_told here s _ _ (lone column columns rest c timed e) =
    let told : Told EndsToken (λ here rest. IsColumn here column rest) (column_text column) rest = column_told column here rest s c in
    record { spelled = subst SpelledColumns (sym e) (lone_spelled column timed told.spelled); others = told.others }
columns_told here s _ _ (further front column comma next columns rest f is_comma c few fresh e) =
    let front_told : Told EndsToken (λ here rest. IsColumns here front rest) (joined front) comma = columns_told here s front comma f in
    let behind_comma : SuitedNext kinds.Sign (codes ",") next = next_suited kinds.Sign (codes ",") comma next front_told.others is_comma in
    let told : Told EndsToken (λ here rest. IsColumn here column rest) (column_text column) rest = column_told column next rest behind_comma.others c in
    record {
      spelled = subst SpelledColumns (sym e) (further_spelled front column (some_columns here front comma f) few fresh front_told.spelled told.spelled);
      others = told.others;
    }

-- Schemas.

abbrev pub schema_line : List ℕ → List Column → List ℕ
schema_line word columns = word ++ codes " " ++ schema_text columns ++ line_end

schema_spelled : (word : List ℕ) (columns : List Column) → is_name word ≡ true → SpelledColumns columns → Spelled Anything (λ here rest. IsSchema word here columns rest) (schema_line word columns)
schema_spelled word columns h spelled =
    let opened = spelled_then {Behind = Anything} (codes "(") (joined columns) (sign_spelled 40 refl (λ next. refl)) spelled (λ more rest mid b s. tt) in
    let closed = spelled_then {Behind = EndsToken} _ (codes ")") opened (sign_spelled 41 refl (λ next. refl)) (λ more rest mid b s. refl) in
    let worded = spelled_then {Behind = Anything} (word ++ codes " ") (schema_text columns) (word_spelled word h) closed (λ more rest mid b s. tt) in
    let schema : Spelled Anything (λ here rest. IsSchema word here columns rest) (word ++ codes " " ++ schema_text columns) =
    spelled_as _ (λ more rest b. b) (λ more here rest b s. enclosed s.0 s.2.1.0 s.2.0 s.1 s.2.1.1 s.2.1.2 s.2.2) worded in
    blank_behind {Behind = Anything} 10 _ refl (λ more rest b. tt) schema

pub schema_told : (word : List ℕ) (here : List Lexeme) (columns : List Column) (rest : List Lexeme) → is_name word ≡ true → AreSuited here → IsSchema word here columns rest
    → Told Anything (λ here rest. IsSchema word here columns rest) (schema_line word columns) rest
schema_told word here columns rest h s (enclosed paren first close is_word is_open inside closed) =
    let behind_word : SuitedNext kinds.Name word paren = next_suited kinds.Name word here paren s is_word in
    let behind_open : SuitedNext kinds.Sign (codes "(") first = next_suited kinds.Sign (codes "(") paren first behind_word.others is_open in
    let told : Told EndsToken (λ here rest. IsColumns here columns rest) (joined columns) close = columns_told first behind_open.others columns close inside in
    let behind_close : SuitedNext kinds.Sign (codes ")") rest = next_suited kinds.Sign (codes ")") close rest told.others closed in
    record { spelled = schema_spelled word columns h told.spelled; others = behind_close.others }

-- Windows.

abbrev SpelledSpan : Window → Type 0
SpelledSpan window = Spelled EndsToken (λ here rest. IsSpan here window rest) (window_text window)

rows_spelled : (count : ℕ) → count < number_end → 1 ≤ count → count ≤ most_rows → SpelledSpan (windows.Rows count)
rows_spelled count small low high =
    spelled_as (codes "rows " ++ decimal count) (λ more rest b. b) (λ more here rest b s. by_rows count s.0 s.1 s.2 low high refl)
    (spelled_then (codes "rows ") (decimal count) (word_spelled (codes "rows") refl) (number_spelled count small) (λ more rest mid b n. tt))

time_spelled : (count : ℕ) → count < number_end → 1 ≤ count → count ≤ most_time → SpelledSpan (windows.Time count)
time_spelled count small low high =
    spelled_as (codes "time " ++ decimal count) (λ more rest b. b) (λ more here rest b s. by_time count s.0 s.1 s.2 low high refl)
    (spelled_then (codes "time ") (decimal count) (word_spelled (codes "time") refl) (number_spelled count small) (λ more rest mid b n. tt))

span_told : (here : List Lexeme) (window : Window) (rest : List Lexeme) → AreSuited here → IsSpan here window rest → Told EndsToken (λ here rest. IsSpan here window rest) (window_text window) rest
span_told here window rest s (by_rows count number is_rows n low high e) =
    let behind_rows : SuitedNext kinds.Name (codes "rows") number = next_suited kinds.Name (codes "rows") here number s is_rows in
    let behind_number : SuitedNumber count rest = number_suited count number rest behind_rows.others n in
    record { spelled = subst SpelledSpan (sym e) (rows_spelled count behind_number.small low high); others = behind_number.others }
span_told here window rest s (by_time count number is_time n low high e) =
    let behind_time : SuitedNext kinds.Name (codes "time") number = next_suited kinds.Name (codes "time") here number s is_time in
    let behind_number : SuitedNumber count rest = number_suited count number rest behind_time.others n in
    record { spelled = subst SpelledSpan (sym e) (time_spelled count behind_number.small low high); others = behind_number.others }

abbrev pub window_line : List ℕ → Window → List ℕ
window_line word window = codes "window " ++ (word ++ codes " ") ++ window_text window ++ line_end

window_spelled : (word : List ℕ) (window : Window) → is_name word ≡ true → SpelledSpan window → Spelled Anything (λ here rest. IsWindow word here window rest) (window_line word window)
window_spelled word window h spelled =
    let words = spelled_then {Behind = Anything} (codes "window ") (word ++ codes " ") (word_spelled (codes "window") refl) (word_spelled word h) (λ more rest mid b s. tt) in
    let whole = spelled_then {Behind = Anything} _ (window_text window) words spelled (λ more rest mid b s. tt) in
    let window : Spelled EndsToken (λ here rest. IsWindow word here window rest) (codes "window " ++ (word ++ codes " ") ++ window_text window) =
    spelled_as _ (λ more rest b. b) (λ more here rest b s. spanned s.1.0 s.0 s.1.1 s.1.2 s.2) whole in
    blank_behind {Behind = EndsToken} 10 _ refl (λ more rest b. refl) window

pub window_told : (word : List ℕ) (here : List Lexeme) (window : Window) (rest : List Lexeme) → is_name word ≡ true → AreSuited here → IsWindow word here window rest
    → Told Anything (λ here rest. IsWindow word here window rest) (window_line word window) rest
window_told word here window rest h s (spanned side span is_window is_side inside) =
    let behind_window : SuitedNext kinds.Name (codes "window") side = next_suited kinds.Name (codes "window") here side s is_window in
    let behind_side : SuitedNext kinds.Name word span = next_suited kinds.Name word side span behind_window.others is_side in
    let told : Told EndsToken (λ here rest. IsSpan here window rest) (window_text window) rest = span_told span window rest behind_side.others inside in
    record { spelled = window_spelled word window h told.spelled; others = told.others }

-- Settings. Where one is left out, its word must not stand behind.

abbrev pub LacksSetting : Setting → List ℕ → List Lexeme → Type 0
LacksSetting setting more rest = LacksWord (setting_word setting) rest

setting_name : (setting : Setting) → is_name (setting_word setting) ≡ true
setting_name settings.Slack = refl
setting_name settings.Quiet = refl

absent_spelled : (setting : Setting) → Spelled (LacksSetting setting) (λ here rest. IsSetting setting here 0 rest) []
absent_spelled setting = record {
  read = λ at more rest lacks reads. record {
    here = rest;
    reads = subst (λ k. Reads k more rest) (omega arith) reads;
    stands = absent lacks refl refl;
  };
}

given_spelled : (setting : Setting) (value : ℕ) → value < number_end → value ≤ most_of setting
    → Spelled Anything (λ here rest. IsSetting setting here value rest) (setting_word setting ++ codes " " ++ decimal value ++ line_end)
given_spelled setting value small high =
    let whole = spelled_then {Behind = Anything} (setting_word setting ++ codes " ") (decimal value) (word_spelled (setting_word setting) (setting_name setting)) (number_spelled value small)
    (λ more rest mid b n. tt) in
    let numbered : Spelled EndsToken (λ here rest. IsSetting setting here value rest) (setting_word setting ++ codes " " ++ decimal value) =
    spelled_as _ (λ more rest b. b) (λ more here rest b s. given s.0 s.1 s.2 high) whole in
    blank_behind {Behind = EndsToken} 10 _ refl (λ more rest b. refl) numbered

not_none : (less : ℕ) → (suc less == 0) ≡ false
not_none less = grind (arith, nat_tests)

setting_spelled : (setting : Setting) (value : ℕ) → value < number_end → value ≤ most_of setting
    → Spelled (LacksSetting setting) (λ here rest. IsSetting setting here value rest) (setting_line setting value)
setting_spelled setting zero small high = absent_spelled setting
setting_spelled setting (suc less) small high =
    let line = setting_word setting ++ codes " " ++ decimal (suc less) ++ line_end in
    subst (λ none. Spelled (LacksSetting setting) (λ here rest. IsSetting setting here (suc less) rest) (if none then [] else line)) (sym (not_none less))
    (spelled_as {Behind = Anything} line (λ more rest lacks. tt) (λ more here rest lacks s. s) (given_spelled setting (suc less) small high))

pub setting_told : (setting : Setting) (here : List Lexeme) (value : ℕ) (rest : List Lexeme) → AreSuited here → IsSetting setting here value rest
    → Told (LacksSetting setting) (λ here rest. IsSetting setting here value rest) (setting_line setting value) rest
setting_told setting here value rest s (absent lacks none same) = record {
  spelled = subst (λ value. Spelled (LacksSetting setting) (λ here rest. IsSetting setting here value rest) (setting_line setting value)) (sym none) (absent_spelled setting);
  others = subst AreSuited (sym same) s;
}
setting_told setting here value rest s (given number is_word n high) =
    let behind_word : SuitedNext kinds.Name (setting_word setting) number = next_suited kinds.Name (setting_word setting) here number s is_word in
    let behind_number : SuitedNumber value rest = number_suited value number rest behind_word.others n in
    record { spelled = setting_spelled setting value behind_number.small high; others = behind_number.others }

-- no `slack` stands before `quiet`, or before what comes without it
pub quiet_lacks : (here : List Lexeme) (value : ℕ) (rest : List Lexeme) → IsSetting settings.Quiet here value rest → LacksWord (codes "slack") rest → LacksWord (codes "slack") here
quiet_lacks here value rest (absent lacks none same) h = subst (LacksWord (codes "slack")) same h
quiet_lacks here value rest (given number is_quiet n high) h = next_other kinds.Name (codes "quiet") (codes "slack") here number is_quiet refl

-- neither stands before a condition
pub condition_lacks : (columns : Side → List Column) (setting : Setting) (here : List Lexeme) (pred : Pred) → IsCondition columns here pred → LacksWord (setting_word setting) here
condition_lacks columns settings.Slack here pred (of_pred first last is_on p is_last) = next_other kinds.Name (codes "on") (codes "slack") here first is_on refl
condition_lacks columns settings.Quiet here pred (of_pred first last is_on p is_last) = next_other kinds.Name (codes "on") (codes "quiet") here first is_on refl
