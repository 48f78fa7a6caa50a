-- The canonical text of terms and sums is read as them.
use Rattle.std.proofs.Common.{◌≡◌, ℕ, zero, suc, ◌+◌, ◌<◌, Bool, true, false, cond, ◌&&◌, bytes_eq, List, [], ◌∷◌, ◌++◌, length, Some, None, pos, neg_ℤ, codes, slice_get, refl, sym, ap, subst, ◌∙◌, arith, append_assoc}
use Rattle.std.proofs.lemmas.Bool.{and_parts}
use Rattle.std.proofs.lemmas.Fmt.{decimal_is_IsNumeral, decimal_nonempty}
use Rattle.std.proofs.lemmas.Grind.{flat_map-append}
use Rattle.std.proofs.lemmas.List.{append-nil}
use Rattle.std.proofs.lemmas.Slice.Eq.{bytes_eq-Decides}
use Rattle.std.proofs.lemmas.Str.Parse.{IsNumeralModel, numerals_by_value, tells_all_ascii_digits}
use Rattle.std.specs.Char.{is_ascii_digit}
use Rattle.std.specs.Fmt.{decimal, signed_decimal}
use Rattle.std.specs.List.{flat_map, list_all, position_from}
use Rattle.std.specs.Str.{all_ascii_digits}
use Rattle.std.specs.Str.Parse.{digits_value}
use Rattle.hj_base.specs.declared.numbers.Side.{Side}
use Rattle.hj_base.specs.declared.numbers.Side.TheVariants as sides
use Rattle.hj_value.specs.declared.column.Column.{Column}
use Rattle.hj_value.proofs.Numbers.{list_all-digits}
use Rattle.hj_lex.specs.declared.token.TokenKind.TheVariants as kinds
use Rattle.hj_lex.specs.Tokens.{begins, is_digits, is_name, is_word, number_end, number_value, quoted}
use Rattle.hj_query.specs.Canonical.{name_at, part_text, sum_text, term_text}
use Rattle.hj_query.specs.declared.sum.SignedTerm.{SignedTerm}
use Rattle.hj_query.specs.declared.sum.Sum.{Sum}
use Rattle.hj_query.specs.declared.sum.Term.{Term}
use Rattle.hj_query.specs.declared.sum.Term.TheVariants as terms
use Rattle.hj_query.specs.Grammar.{AreSuited, IsSum, IsTerm, of_column, of_negative, of_number, of_part, of_term, of_text, part_sign, place_of_name, side_word}
use Rattle.hj_query.specs.Lexemes.{Lexeme, IsNumber, IsSign, IsWord}
use Rattle.hj_query.proofs.Pieces.{Anything, EndsToken, Spaced, Spelled, Then, Told, blank_before, blank_behind, name_spelled, no_word, sign_spelled, spaced_spelled, spelled_as, spelled_then, text_spelled, token_spelled}
use Rattle.hj_query.proofs.Suited.{SuitedNext, next_suited}

-- Numbers.

digits : IsNumeralModel (λ ds. all_ascii_digits ds ≡ true) (digits_value 10)
digits = numerals_by_value (λ ds. all_ascii_digits ds ≡ true) tells_all_ascii_digits

some_digits : (bytes : List ℕ) → 0 < length bytes → list_all is_ascii_digit bytes ≡ true → is_digits bytes ≡ true
some_digits [] some h = absurd (omega arith)
some_digits (byte ∷ bytes) some h = ap (λ b. b && list_all is_ascii_digit (byte ∷ bytes)) (and_parts _ _ h).0 ∙ h

pub decimal_digits : (value : ℕ) → value < number_end → is_digits (decimal value) ≡ true
decimal_digits value small =
    some_digits (decimal value) (decimal_nonempty value (omega arith)) (list_all-digits (decimal value) ∙ digits.from (decimal value) (decimal_is_IsNumeral value (omega arith)).0.1)

pub decimal_value : (value : ℕ) → value < number_end → number_value (decimal value) ≡ value
decimal_value value small = (decimal_is_IsNumeral value (omega arith)).1

pub number_spelled : (value : ℕ) → value < number_end → Spelled EndsToken (IsNumber value) (decimal value)
number_spelled value small =
    let in_range : number_value (decimal value) < number_end = omega (arith, decimal_value value small) in
    spelled_as (decimal value) (λ more rest b. b)
    (λ more here rest b n. record { bytes = decimal value; stands_for = sym (decimal_value value small); found = n })
    (token_spelled EndsToken kinds.Number (decimal value) (decimal_nonempty value (omega arith)) (λ more rest b. ((decimal_digits value small, in_range), no_word more b)))

-- a number that was read, and what stands behind it
pub record SuitedNumber (value : ℕ) (rest : List Lexeme) : Type 0 where
  pub small : value < number_end
  pub others : AreSuited rest

pub number_suited : (value : ℕ) (here rest : List Lexeme) → AreSuited here → IsNumber value here rest → SuitedNumber value rest
number_suited value here rest s n =
    let t : SuitedNext kinds.Number n.bytes rest = next_suited kinds.Number n.bytes here rest s n.found in
    record { small = omega (arith, n.stands_for, t.next.1); others = t.others }

-- Columns.

same_name : (a b : List ℕ) → bytes_eq a b ≡ true → a ≡ b
same_name a b h = (bytes_eq-Decides a b).0 h

none_some : {A : Type 0} (x : A) → None ≡ Some x → ⊥
none_some x e = cc

some_same : {A : Type 0} (x y : A) → Some x ≡ Some y → x ≡ y
some_same x y e = cc

-- where a name is found
found_at : (name : List ℕ) (columns : List Column) (from place : ℕ) → position_from (λ column. bytes_eq column.name name) from columns ≡ Some place
    → (i : ℕ) × (place ≡ from + i) × (name_at (slice_get columns i) ≡ name)
found_at name [] from place e = absurd (none_some place e)
found_at name (column ∷ columns) from place e = tested (bytes_eq column.name name) refl (found_at name columns (from + 1) place) e
  where
    tested : (b : Bool) → bytes_eq column.name name ≡ b
        → (position_from (λ column. bytes_eq column.name name) (from + 1) columns ≡ Some place → (i : ℕ) × (place ≡ from + 1 + i) × (name_at (slice_get columns i) ≡ name))
        → cond b (Some from) (position_from (λ column. bytes_eq column.name name) (from + 1) columns) ≡ Some place
        → (i : ℕ) × (place ≡ from + i) × (name_at (slice_get (column ∷ columns) i) ≡ name)
    tested true b more f = (0, omega (arith, some_same from place f), same_name column.name name b)
    tested false b more f =
        let later : (i : ℕ) × (place ≡ from + 1 + i) × (name_at (slice_get columns i) ≡ name) = more f in
        (suc later.0, omega (arith, later.1), later.2)

name_there : (name : List ℕ) (columns : List Column) (at : ℕ) → place_of_name name columns ≡ Some at → name_at (slice_get columns at) ≡ name
name_there name columns at e =
    let found : (i : ℕ) × (at ≡ 0 + i) × (name_at (slice_get columns i) ≡ name) = found_at name columns 0 at e in
    let same : at ≡ found.0 = omega (arith, found.1) in
    subst (λ k. name_at (slice_get columns k) ≡ name) (sym same) found.2

NoWord : List ℕ → List Lexeme → Type 0
NoWord more rest = begins is_word more ≡ false

side_name : (side : Side) → is_name (side_word side) ≡ true
side_name sides.Left = refl
side_name sides.Right = refl

some_side : (side : Side) → 0 < length (side_word side)
some_side sides.Left = omega arith
some_side sides.Right = omega arith

side_spelled : (side : Side) → Spelled NoWord (IsWord (side_word side)) (side_word side)
unfolding NoWord
side_spelled side = token_spelled NoWord kinds.Name (side_word side) (some_side side) (λ more rest b. (side_name side, b))

column_spelled : (columns : Side → List Column) (side : Side) (at : ℕ) (name : List ℕ) → is_name name ≡ true → place_of_name name (columns side) ≡ Some at
    → Spelled EndsToken (λ here rest. IsTerm columns here (terms.Column side at) rest) (side_word side ++ codes "." ++ name)
unfolding NoWord
column_spelled columns side at name h found =
    let dotted = spelled_then {Behind = NoWord} (side_word side) (codes ".") (side_spelled side) (sign_spelled 46 refl (λ next. refl)) (λ more rest mid b s. refl) in
    let whole = spelled_then {Behind = Anything} _ name dotted (name_spelled name h) (λ more rest mid b n. tt) in
    spelled_as (side_word side ++ codes "." ++ name) (λ more rest b. b) (λ more here rest b s. of_column side at name s.1.0 s.0 s.1.1 s.1.2 s.2 found refl) whole

-- Terms.

negative_spelled : (columns : Side → List Column) (value : ℕ) → value < number_end
    → Spelled EndsToken (λ here rest. IsTerm columns here (terms.Number (neg_ℤ (pos value))) rest) (signed_decimal (neg_ℤ (pos value)))
negative_spelled columns zero small =
    spelled_as (decimal 0) (λ more rest b. b) (λ more here rest b n. of_number 0 n refl) (number_spelled 0 small)
negative_spelled columns (suc n) small =
    let whole = spelled_then {Behind = Anything} (45 ∷ []) (decimal (suc n)) (sign_spelled 45 refl (λ next. refl)) (number_spelled (suc n) small) (λ more rest mid b n. tt) in
    spelled_as (45 ∷ decimal (suc n)) (λ more rest b. b) (λ more here rest b s. of_negative (suc n) s.0 s.1 s.2 refl) whole

abbrev SpelledTerm : (Side → List Column) → Term → Type 0
SpelledTerm columns term = Spelled EndsToken (λ here rest. IsTerm columns here term rest) (term_text columns term)

abbrev TermTold : (Side → List Column) → Term → List Lexeme → Type 0
TermTold columns term rest = Told EndsToken (λ here rest. IsTerm columns here term rest) (term_text columns term) rest

pub term_told : (columns : Side → List Column) (here : List Lexeme) (term : Term) (rest : List Lexeme) → AreSuited here → IsTerm columns here term rest
    → TermTold columns term rest
term_told columns here term rest s (of_column side at name_bytes dot name is_side is_dot named found e) =
    let behind_side : SuitedNext kinds.Name (side_word side) dot = next_suited kinds.Name (side_word side) here dot s is_side in
    let behind_dot : SuitedNext kinds.Sign (codes ".") name = next_suited kinds.Sign (codes ".") dot name behind_side.others is_dot in
    let behind_name : SuitedNext kinds.Name name_bytes rest = next_suited kinds.Name name_bytes name rest behind_dot.others named in
    let spelled : SpelledTerm columns (terms.Column side at) =
    subst (λ bytes. Spelled EndsToken (λ here rest. IsTerm columns here (terms.Column side at) rest) (side_word side ++ codes "." ++ bytes)) (sym (name_there name_bytes (columns side) at found))
    (column_spelled columns side at name_bytes behind_name.next found) in
    subst (λ (t : Term). TermTold columns t rest) (sym e) (record { spelled = spelled; others = behind_name.others })
term_told columns here term rest s (of_number value n e) =
    let behind_number : SuitedNumber value rest = number_suited value here rest s n in
    let spelled : SpelledTerm columns (terms.Number (pos value)) =
    spelled_as (decimal value) (λ more rest b. b) (λ more here rest b n. of_number value n refl) (number_spelled value behind_number.small) in
    subst (λ (t : Term). TermTold columns t rest) (sym e) (record { spelled = spelled; others = behind_number.others })
term_told columns here term rest s (of_negative value number is_minus n e) =
    let behind_minus : SuitedNext kinds.Sign (codes "-") number = next_suited kinds.Sign (codes "-") here number s is_minus in
    let behind_number : SuitedNumber value rest = number_suited value number rest behind_minus.others n in
    subst (λ (t : Term). TermTold columns t rest) (sym e)
    (record { spelled = negative_spelled columns value behind_number.small; others = behind_number.others })
term_told columns here term rest s (of_text value is e) =
    let behind_text : SuitedNext kinds.Text (quoted value) rest = next_suited kinds.Text (quoted value) here rest s is in
    let spelled : SpelledTerm columns (terms.Text value) =
    spelled_as (quoted value) (λ more rest b. b) (λ more here rest b t. of_text value t refl) (text_spelled value behind_text.next) in
    subst (λ (t : Term). TermTold columns t rest) (sym e) (record { spelled = spelled; others = behind_text.others })

-- Sums.

part_sign_spelled : (plus : Bool) → Spelled Spaced (IsSign (part_sign plus)) (part_sign plus)
part_sign_spelled true = spaced_spelled (codes "+") (omega arith) refl refl
part_sign_spelled false = spaced_spelled (codes "-") (omega arith) refl refl

part_spelled : (columns : Side → List Column) (plus : Bool) (term : Term) → SpelledTerm columns term
    → Spelled EndsToken (Then (IsSign (part_sign plus)) (λ here rest. IsTerm columns here term rest)) (part_text columns (record { plus = plus; term = term }))
part_spelled columns plus term spelled =
    let sign = blank_behind {More = Anything} 32 (32 ∷ part_sign plus) refl (λ more rest b. refl) (blank_before 32 (part_sign plus) refl (part_sign_spelled plus)) in
    spelled_then {Behind = Anything} _ (term_text columns term) sign spelled (λ more rest mid b t. tt)

abbrev longer : Sum → SignedTerm → Sum
longer front part = record { first = front.first; rest = front.rest ++ part ∷ [] }

longer_text : (columns : Side → List Column) (front : Sum) (part : SignedTerm) → sum_text columns (longer front part) ≡ sum_text columns front ++ part_text columns part
longer_text columns front part =
    ap (λ text. term_text columns front.first ++ text)
    (flat_map-append (part_text columns) front.rest (part ∷ []) ∙ ap (λ text. flat_map (part_text columns) front.rest ++ text) (append-nil (part_text columns part)))
    ∙ sym (append_assoc (term_text columns front.first) (flat_map (part_text columns) front.rest) (part_text columns part))

abbrev pub SpelledSum : (Side → List Column) → Sum → Type 0
SpelledSum columns sum = Spelled EndsToken (λ here rest. IsSum columns here sum rest) (sum_text columns sum)

abbrev pub SumTold : (Side → List Column) → Sum → List Lexeme → Type 0
SumTold columns sum rest = Told EndsToken (λ here rest. IsSum columns here sum rest) (sum_text columns sum) rest

lone_spelled : (columns : Side → List Column) (first : Term) → SpelledTerm columns first → SpelledSum columns (record { first = first; rest = [] })
lone_spelled columns first spelled =
    subst (λ text. Spelled EndsToken (λ here rest. IsSum columns here (record { first = first; rest = [] }) rest) text) (sym (append-nil (term_text columns first)))
    (spelled_as (term_text columns first) (λ more rest b. b) (λ more here rest b t. of_term first _ rest t refl) spelled)

longer_spelled : (columns : Side → List Column) (front : Sum) (plus : Bool) (term : Term) → SpelledSum columns front → SpelledTerm columns term → SpelledSum columns (longer front (record { plus = plus; term = term }))
longer_spelled columns front plus term first second =
    let part : SignedTerm = record { plus = plus; term = term } in
    let whole = spelled_then {Behind = EndsToken} (sum_text columns front) (part_text columns part) first (part_spelled columns plus term second) (λ more rest mid b s. refl) in
    subst (λ text. Spelled EndsToken (λ here rest. IsSum columns here (longer front part) rest) text) (sym (longer_text columns front part))
    (spelled_as (sum_text columns front ++ part_text columns part) (λ more rest b. b) (λ more here rest b s. of_part front plus term s.0 s.2.0 _ rest s.1 s.2.1 s.2.2 refl) whole)

pub sum_told : (columns : Side → List Column) (here : List Lexeme) → AreSuited here → (sum : Sum) (rest : List Lexeme) → IsSum columns here sum rest → SumTold columns sum rest
sum_told columns here s _ _ (of_term first sum rest t e) =
    let told : TermTold columns first rest = term_told columns here first rest s t in
    record { spelled = subst (SpelledSum columns) (sym e) (lone_spelled columns first told.spelled); others = told.others }
sum_told columns here s _ _ (of_part front plus term sign next sum rest f is_sign t e) =
    let front_told : SumTold columns front sign = sum_told columns here s front sign f in
    let behind_sign : SuitedNext kinds.Sign (part_sign plus) next = next_suited kinds.Sign (part_sign plus) sign next front_told.others is_sign in
    let told : TermTold columns term rest = term_told columns next term rest behind_sign.others t in
    record { spelled = subst (SpelledSum columns) (sym e) (longer_spelled columns front plus term front_told.spelled told.spelled); others = told.others }
