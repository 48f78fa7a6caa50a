-- The text of the query of equal keys reads as this query.
use Rattle.std.proofs.Common.{◌≡◌, ℕ, ◌<◌, ◌≤◌, Bool, true, not, ◌&&◌, ◌||◌, List, [], ◌∷◌, length, IsTrue, refl, sym, ap, ◌∙◌, arith}
use Rattle.std.proofs.lemmas.Bool.{and_parts}
use Rattle.std.proofs.lemmas.Fmt.{decimal_is_IsNumeral, digits_decimal}
use Rattle.std.proofs.lemmas.Str.Parse.{numerals_by_value, tells_all_ascii_digits}
use Rattle.std.specs.Char.{is_ascii_digit}
use Rattle.std.specs.Fmt.{decimal}
use Rattle.std.specs.List.{list_all, slice_get}
use Rattle.std.specs.Prelude.{codes}
use Rattle.std.specs.Str.{all_ascii_digits}
use Rattle.hj_base.specs.declared.numbers.Side.{Side}
use Rattle.hj_base.specs.declared.numbers.Side.TheVariants as sides
use Rattle.hj_base.specs.declared.numbers.Window.TheVariants as windows
use Rattle.hj_value.specs.declared.column.Column.{Column}
use Rattle.hj_value.specs.declared.column.ColumnType.TheVariants as types
use Rattle.hj_value.specs.declared.schema.Schema.{Schema}
use Rattle.hj_lex.specs.Tokens.{is_digits, is_name, number_end, number_value}
use Rattle.hj_lex.specs.declared.token.TokenKind.TheVariants as kinds
use Rattle.hj_query.specs.declared.setting.Setting.{Setting}
use Rattle.hj_query.specs.declared.setting.Setting.TheVariants as settings
use Rattle.hj_query.specs.Grammar.{AreSuited, EndsSum, IsCondition, IsSpelled, IsSchema, IsSetting, IsSum, IsWindow, absent, by_rows, compared, enclosed, further, is_int_sum, is_text_at, lone, most_rows, named, of_atom, of_column, of_conj, of_lines, of_pred, of_term, of_unary, place_of_name, side_word, spanned}
use Rattle.hj_query.specs.Keyed.{keyed_columns}
use Rattle.hj_query.specs.Lexemes.{IsNumber, IsSign, IsWord, Lexeme, behind, lexeme, next_is}
use Rattle.hj_query.specs.Sides.{by_side}
use Rattle.hj_query.specs.declared.pred.Op.TheVariants as ops
use Rattle.hj_query.specs.declared.pred.Pred.{Compare}
use Rattle.hj_query.specs.declared.sum.SignedTerm.{SignedTerm}
use Rattle.hj_query.specs.declared.sum.Sum.{Sum}
use Rattle.hj_query.specs.declared.sum.Term.TheVariants as terms
use Rattle.hj_query.proofs.Lists.{bytes_same}

-- Tokens.

abbrev word : List ℕ → Lexeme
word bytes = lexeme 0 kinds.Name bytes

abbrev sign : List ℕ → Lexeme
sign bytes = lexeme 0 kinds.Sign bytes

abbrev number : ℕ → Lexeme
number value = lexeme 0 kinds.Number (decimal value)

word_next : (bytes : List ℕ) (rest : List Lexeme) → IsWord bytes (word bytes ∷ rest) rest
unfolding next_is behind
word_next bytes rest = record { found = bytes_same bytes; left = refl }

sign_next : (bytes : List ℕ) (rest : List Lexeme) → IsSign bytes (sign bytes ∷ rest) rest
unfolding next_is behind
sign_next bytes rest = record { found = bytes_same bytes; left = refl }

value_is : (value : ℕ) → value ≤ most_rows → value ≡ number_value (decimal value)
value_is value le = let p = decimal_is_IsNumeral value (omega arith) in sym p.1

number_next : (value : ℕ) (rest : List Lexeme) → value ≤ most_rows → IsNumber value (number value ∷ rest) rest
unfolding next_is behind
number_next value rest le = record {
  bytes = decimal value;
  stands_for = value_is value le;
  found = record { found = bytes_same (decimal value); left = refl };
}

-- digits of a number

all_digits : (digits : List ℕ) → list_all is_ascii_digit digits ≡ all_ascii_digits digits
all_digits [] = refl
all_digits (digit ∷ digits) = ap (λ b. is_ascii_digit digit && b) (all_digits digits)

some_digits : (digits : List ℕ) → 0 < length digits → list_all is_ascii_digit digits ≡ true → is_digits digits ≡ true
some_digits [] some all = absurd (omega arith)
some_digits (digit ∷ digits) some all =
    let p : (is_ascii_digit digit ≡ true) × (list_all is_ascii_digit digits ≡ true) = and_parts _ _ all in
    ap (λ b. b && list_all is_ascii_digit (digit ∷ digits)) p.0 ∙ all

digits_of : (value : ℕ) → value ≤ most_rows → is_digits (decimal value) ≡ true
digits_of value le =
    let p = decimal_is_IsNumeral value (omega arith) in
    some_digits (decimal value) p.0.0
    (all_digits (decimal value) ∙ digits_decimal (numerals_by_value (λ digits. all_ascii_digits digits ≡ true) tells_all_ascii_digits) value (omega arith))

-- The lines of the text.

-- `word (ts int, key int)`
abbrev schema_line : List ℕ → List Lexeme → List Lexeme
schema_line side rest =
    word side ∷ sign (codes "(") ∷ word (codes "ts") ∷ word (codes "int") ∷ sign (codes ",") ∷ word (codes "key") ∷ word (codes "int") ∷ sign (codes ")") ∷ rest

schema_next : (side : List ℕ) (columns : List Column) (rest : List Lexeme) → columns ≡ keyed_columns → IsSchema side (schema_line side rest) columns rest
schema_next side columns rest e =
    enclosed _ _ _ (word_next side _) (sign_next (codes "(") _)
    (further _ (record { name = codes "key"; kind = types.Int }) _ _ columns _
    (lone (record { name = codes "ts"; kind = types.Int }) _ _ (named _ (word_next (codes "ts") _) (word_next (codes "int") _)) refl refl)
    (sign_next (codes ",") _)
    (named _ (word_next (codes "key") _) (word_next (codes "int") _))
    (omega arith) refl e)
    (sign_next (codes ")") rest)

-- `window word rows N`
abbrev window_line : List ℕ → ℕ → List Lexeme → List Lexeme
window_line side rows rest = word (codes "window") ∷ word side ∷ word (codes "rows") ∷ number rows ∷ rest

window_next : (side : List ℕ) (rows : ℕ) (rest : List Lexeme) → 1 ≤ rows → rows ≤ most_rows → IsWindow side (window_line side rows rest) (windows.Rows rows) rest
window_next side rows rest some few =
    spanned _ _ (word_next (codes "window") _) (word_next side _) (by_rows rows _ (word_next (codes "rows") _) (number_next rows rest few) some few refl)

-- `on l.key = r.key`
abbrev condition_line : List Lexeme
condition_line =
    word (codes "on") ∷ word (codes "l") ∷ sign (codes ".") ∷ word (codes "key") ∷ sign (codes "=") ∷ word (codes "r") ∷ sign (codes ".") ∷ word (codes "key") ∷ sign [] ∷ []

abbrev key_of : Side → List SignedTerm → Sum
key_of side parts = record { first = terms.Column side 1; rest = parts }

key_next : (columns : Side → List Column) (side : Side) (parts : List SignedTerm) (rest : List Lexeme) → columns side ≡ keyed_columns → parts ≡ []
    → IsSum columns (word (side_word side) ∷ sign (codes ".") ∷ word (codes "key") ∷ rest) (key_of side parts) rest
key_next columns side parts rest e none =
    of_term (terms.Column side 1) _ rest
    (of_column side 1 (codes "key") _ _ (word_next (side_word side) _) (sign_next (codes ".") _) (word_next (codes "key") rest) (ap (place_of_name (codes "key")) e) refl)
    (ap (key_of side) none)

key_int : (columns : Side → List Column) (side : Side) (parts : List SignedTerm) → columns side ≡ keyed_columns → parts ≡ [] → is_int_sum columns (key_of side parts) ≡ true
key_int columns side parts e none =
    ap (λ (parts : List SignedTerm). is_int_sum columns (key_of side parts)) none ∙ ap (λ (columns : List Column). not (is_text_at (slice_get columns 1)) && true) e

both : (a b c : Bool) → a ≡ true → b ≡ true → (a && b || c) ≡ true
both a b c p q = ap (λ a. a && b || c) p ∙ ap (λ b. b || c) q

end_ends : EndsSum (sign [] ∷ [])
unfolding next_is
end_ends = record { no_plus = refl; no_minus = refl }

end_is : IsTrue (next_is kinds.Sign [] (sign [] ∷ []))
unfolding next_is
end_is = refl

condition_next : (left right : List Column) (parts more : List SignedTerm) → left ≡ keyed_columns → right ≡ keyed_columns → parts ≡ [] → more ≡ []
    → IsCondition (by_side left right) condition_line (Compare ops.Eq (key_of sides.Left parts) (key_of sides.Right more))
condition_next left right parts more l r none nothing =
    of_pred _ _ (word_next (codes "on") _)
    (of_conj _ _ _ _ (of_unary _ _ _ _ (of_atom _ _ _ _
    (compared ops.Eq _ _ _ _
    (key_next (by_side left right) sides.Left parts _ l none)
    (sign_next (codes "=") _)
    (key_next (by_side left right) sides.Right more _ r nothing)
    end_ends
    (both _ _ _ (key_int (by_side left right) sides.Left parts l none) (key_int (by_side left right) sides.Right more r nothing))
    refl))))
    end_is

-- no setting stands before it
setting_next : (setting : Setting) → IsSetting setting condition_line 0 condition_line
unfolding next_is
setting_next settings.Slack = absent refl refl refl
setting_next settings.Quiet = absent refl refl refl

-- `left (ts int, key int) right (ts int, key int) window left rows N window right rows N on l.key = r.key`
abbrev from_right_window : ℕ → List Lexeme
from_right_window rows = window_line (codes "right") rows condition_line

abbrev from_left_window : ℕ → List Lexeme
from_left_window rows = window_line (codes "left") rows (from_right_window rows)

abbrev from_right_schema : ℕ → List Lexeme
from_right_schema rows = schema_line (codes "right") (from_left_window rows)

abbrev keyed_text : ℕ → List Lexeme
keyed_text rows = schema_line (codes "left") (from_right_schema rows)

schema_suited : (side : List ℕ) (rest : List Lexeme) → is_name side ≡ true → AreSuited rest → AreSuited (schema_line side rest)
schema_suited side rest name s = (name, (tt, (refl, (refl, (tt, (refl, (refl, (tt, s))))))))

window_suited : (side : List ℕ) (rows : ℕ) (rest : List Lexeme) → rows ≤ most_rows → is_name side ≡ true → AreSuited rest → AreSuited (window_line side rows rest)
window_suited side rows rest few name s = (refl, (name, (refl, ((digits_of rows few, below rows few), s))))
  where
    below : (rows : ℕ) → rows ≤ most_rows → number_value (decimal rows) < number_end
    below rows few = omega (arith, value_is rows few)

condition_suited : AreSuited condition_line
condition_suited = (refl, (refl, (tt, (refl, (tt, (refl, (tt, (refl, (tt, tt)))))))))

pub keyed_readable : (left right : Schema) (rows : ℕ) (parts more : List SignedTerm) → 1 ≤ rows → rows ≤ most_rows → left.columns ≡ keyed_columns → right.columns ≡ keyed_columns → parts ≡ [] → more ≡ []
    → IsSpelled (record {
      left = left;
      right = right;
      left_window = windows.Rows rows;
      right_window = windows.Rows rows;
      slack = 0;
      quiet = 0;
      pred = Compare ops.Eq (key_of sides.Left parts) (key_of sides.Right more);
    })
keyed_readable left right rows parts more some few l r none nothing = (
  keyed_text rows,
  schema_suited (codes "left") (from_right_schema rows) refl
      (schema_suited (codes "right") (from_left_window rows) refl
      (window_suited (codes "left") rows (from_right_window rows) few refl (window_suited (codes "right") rows condition_line few refl condition_suited))),
  of_lines _ _ _ _ _ _
      (schema_next (codes "left") left.columns _ l)
      (schema_next (codes "right") right.columns _ r)
      (window_next (codes "left") rows _ some few)
      (window_next (codes "right") rows _ some few)
      (setting_next settings.Slack)
      (setting_next settings.Quiet)
      (condition_next left.columns right.columns parts more l r none nothing),
)
