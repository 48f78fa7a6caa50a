-- The lines of rows that are made: each is one piece, whose record is the row of its two numbers.
use Rattle.std.proofs.Common.{◌≡◌, ℕ, ◌+◌, ◌*◌, ◌<◌, ◌≤◌, ◌^◌, ◌==◌, ℤ, pos, ◌-ℤ◌, int_lt, true, false, cond, List, [], ◌∷◌, ◌++◌, length, codes, map, Ok, Some, None, Option, refl, sym, ap, ap₂, subst, ◌∙◌, arith, append_assoc, append-nil, length-append}
use Rattle.std.proofs.lemmas.Int.{ints}
use Rattle.std.proofs.lemmas.Bool.{le-ltb, and_from, and_left, and_parts}
use Rattle.std.proofs.lemmas.Bool.Decides.{nat_tests}
use Rattle.std.proofs.lemmas.Fmt.{decimal_nonempty, digits_decimal, digits_value-decimal, length-decimal-le}
use Rattle.std.proofs.lemmas.List.{take_all}
use Rattle.std.specs.Char.{is_ascii_digit}
use Rattle.std.specs.Fmt.{decimal}
use Rattle.std.specs.List.{flat_map}
use Rattle.std.specs.Str.{all_ascii_digits}
use Rattle.std.specs.Str.Parse.{digits_value}
use Rattle.csv.specs.Machine.{Read, next_record, step}
use Rattle.csv.specs.Reading.{default_config}
use Rattle.csv.specs.declared.parser.Action.TheVariants as act
use Rattle.csv.specs.declared.parser.State.{State}
use Rattle.csv.specs.declared.parser.State.TheVariants as st
use Rattle.hj_event.specs.SchemaRows.{int_field, put_value, row_of}
use Rattle.hj_event.specs.Rows.{Rows, put_row, row_at, rows_from, rows_in, rows_of, most_in_stream, then_rows, in_time, with_time, clean as rows_clean}
use Rattle.hj_event.proofs.OrderLemmas.{as_read}
use Rattle.hj_gen.specs.Streams.{DrawnRow, row_line}
use Rattle.hj_lex.proofs.Fronts.{int_of-digits}
use Rattle.hj_lex.specs.Tokens.{is_digits}
use Rattle.hj_query.specs.Keyed.{keyed_columns}
use Rattle.hj_record.specs.LineEnd.{inside_after}
use Rattle.hj_record.specs.Pieces.{IsPiece, Pieces, Split, ended, last_pieces, pieces_of, split, then_pieces, up_to_too_long, clean as pieces_clean}
use Rattle.hj_record.specs.Records.{only_record, record_in, record_of, without_marks}
use Rattle.hj_record.proofs.Splits.{IsPiece-from_line, Unended, split-piece, with_piece}
use Rattle.hj_value.specs.declared.field.Field.{Field}
use Rattle.hj_value.specs.declared.field.Field.TheVariants as field
use Rattle.hj_value.specs.Number.{int_of}
use Rattle.hj_words.proofs.NumberWord.{digits, list_all-digits}
use Rattle.hj_relay.specs.Relay.{whole}

-- The times of rows don't fall, from this one on, and all numbers are small.
abbrev pub AreMade : ℕ → List DrawnRow → Type 0
AreMade from [] = Unit {0}
AreMade from (row ∷ rows) = (from ≤ row.time) × (row.time < 2 ^ 32) × (row.key < 2 ^ 32) × AreMade row.time rows

-- ---- digits

digit_no_feed : (d : ℕ) → is_ascii_digit d ≡ true → (d == 10) ≡ false
digit_no_feed d h = grind (arith, nat_tests)

digit_no_quote : (d : ℕ) → is_ascii_digit d ≡ true → (d == 34) ≡ false
digit_no_quote d h = grind (arith, nat_tests)

digit_no_comma : (d : ℕ) → is_ascii_digit d ≡ true → (d == 44) ≡ false
digit_no_comma d h = grind (arith, nat_tests)

digit_no_return : (d : ℕ) → is_ascii_digit d ≡ true → (d == 13) ≡ false
digit_no_return d h = grind (arith, nat_tests)

digit_no_mark : (d : ℕ) → is_ascii_digit d ≡ true → (d == 239) ≡ false
digit_no_mark d h = grind (arith, nat_tests)

module _ (n : ℕ) (small : n < 2 ^ 32) where
  fits : n < 2 ^ 64
  fits = omega (arith, small)

  pub are_digits : all_ascii_digits (decimal n) ≡ true
  are_digits = digits_decimal digits n fits

  some_digits : 0 < length (decimal n)
  some_digits = decimal_nonempty n fits

  few_digits : length (decimal n) ≤ 10
  few_digits = length-decimal-le 10 n (omega arith) (omega (arith, small)) fits

-- ---- a number's field

whole_number : (ds : List ℕ) → 0 < length ds → all_ascii_digits ds ≡ true → is_digits ds ≡ true
whole_number [] some h = absurd (omega (arith, some))
whole_number (x ∷ xs) some h = and_from _ _ (and_parts _ _ h).0 (list_all-digits (x ∷ xs) ∙ h)

int_of-decimal : (n : ℕ) → n < 2 ^ 32 → int_of (decimal n) ≡ Ok (pos n)
int_of-decimal n small =
    let value : digits_value 10 (decimal n) ≡ n = digits_value-decimal digits n (fits n small) in
    int_of-digits (decimal n) (whole_number (decimal n) (some_digits n small) (are_digits n small))
    ∙ rw (value) (grind (arith, nat_tests, small))

-- ---- a line is a piece

-- no line feed and no quote
abbrev AreCalm : List ℕ → Type 0
AreCalm [] = Unit {0}
AreCalm (b ∷ bs) = ((b == 10) ≡ false) × ((b == 34) ≡ false) × AreCalm bs

calm_digits : (ds tail : List ℕ) → all_ascii_digits ds ≡ true → AreCalm tail → AreCalm (ds ++ tail)
calm_digits [] tail h calm = calm
calm_digits (x ∷ xs) tail h calm = (digit_no_feed x (and_parts _ _ h).0, digit_no_quote x (and_parts _ _ h).0, calm_digits xs tail (and_parts _ _ h).1 calm)

calm_all : (ds : List ℕ) → all_ascii_digits ds ≡ true → AreCalm ds
calm_all [] h = tt
calm_all (x ∷ xs) h = (digit_no_feed x (and_parts _ _ h).0, digit_no_quote x (and_parts _ _ h).0, calm_all xs (and_parts _ _ h).1)

unended : (bs : List ℕ) → AreCalm bs → Unended false bs
unended [] calm = tt
unended (b ∷ bs) calm = (and_left (b == 10) true calm.0, subst (λ inside. Unended (cond inside true false) bs) (sym calm.1) (unended bs calm.2))

outside : (bs : List ℕ) → AreCalm bs → inside_after false bs ≡ false
outside [] calm = refl
outside (b ∷ bs) calm = ap (λ inside. inside_after (cond inside true false) bs) calm.1 ∙ outside bs calm.2

-- the texts of two numbers as a line
abbrev line_of : List ℕ → List ℕ → List ℕ
line_of time key = time ++ codes "," ++ key ++ codes "\n"

line_plain : (time key : List ℕ) → line_of time key ≡ time ++ 44 ∷ (key ++ 10 ∷ [])
line_plain time key = append_assoc (time ++ 44 ∷ []) key (10 ∷ []) ∙ append_assoc time (44 ∷ []) (key ++ 10 ∷ [])

line_is : (time key : List ℕ) → line_of time key ≡ (time ++ 44 ∷ key) ++ 10 ∷ []
line_is time key = line_plain time key ∙ sym (append_assoc time (44 ∷ key) (10 ∷ []))

piece_of_texts : (time key : List ℕ) → all_ascii_digits time ≡ true → all_ascii_digits key ≡ true → IsPiece (line_of time key)
piece_of_texts time key t k =
    let calm : AreCalm (time ++ 44 ∷ key) = calm_digits time (44 ∷ key) t (refl, refl, calm_all key k) in
    IsPiece-from_line (line_of time key) (record {
      front = time ++ 44 ∷ key;
      is = line_is time key;
      unended = unended (time ++ 44 ∷ key) calm;
      outside = outside (time ++ 44 ∷ key) calm;
    })

length-texts : (time key : List ℕ) → length (line_of time key) ≡ length time + length key + 2
length-texts time key =
    ap length (line_is time key) ∙ length-append (time ++ 44 ∷ key) (10 ∷ []) ∙ ap (λ n. n + 1) (length-append time (44 ∷ key)) ∙ omega arith

module _ (row : DrawnRow) (time : row.time < 2 ^ 32) (key : row.key < 2 ^ 32) where
  line_piece : IsPiece (row_line row)
  line_piece = piece_of_texts (decimal row.time) (decimal row.key) (are_digits row.time time) (are_digits row.key key)

  line_short : length (row_line row) ≤ 22
  line_short = omega (arith, few_digits row.time time, few_digits row.key key, length-texts (decimal row.time) (decimal row.key))

-- ---- the pieces of lines

split-lines : (from : ℕ) (rows : List DrawnRow) → AreMade from rows → split false (flat_map row_line rows) ≡ record { pieces = map row_line rows; rest = [] }
split-lines from [] made = refl
split-lines from (row ∷ rows) made =
    split-piece (row_line row) (flat_map row_line rows) (line_piece row made.1 made.2)
    ∙ ap (λ (cut : Split). with_piece (row_line row) cut) (split-lines row.time rows made.3)

short_pieces : (from : ℕ) (rows : List DrawnRow) → AreMade from rows → up_to_too_long (map row_line rows) (ended pieces_clean) ≡ record { pieces = map row_line rows; ending = pieces_clean }
short_pieces from [] made = refl
short_pieces from (row ∷ rows) made =
    let short : length (row_line row) ≤ 65536 = omega (arith, line_short row made.1 made.2) in
    rw (le-ltb 65536 (length (row_line row)) short) (ap (λ (others : Pieces). then_pieces (row_line row) others) (short_pieces row.time rows made.3))

pub length-lines : (from : ℕ) (rows : List DrawnRow) → AreMade from rows → length (flat_map row_line rows) ≤ 22 * length rows
length-lines from [] made = omega arith
length-lines from (row ∷ rows) made =
    let line = line_short row made.1 made.2 in
    let others = length-lines row.time rows made.3 in
    let both = length-append (row_line row) (flat_map row_line rows) in
    omega (arith, line, others, both)

no_last : (limit : ℕ) (bytes : List ℕ) → length bytes ≤ limit → last_pieces limit (whole bytes) [] ≡ ended pieces_clean
no_last limit bytes fits = rw (le-ltb limit (length bytes) fits) refl

pieces-lines : (limit from : ℕ) (rows : List DrawnRow) → AreMade from rows → length (flat_map row_line rows) ≤ limit → pieces_of limit (whole (flat_map row_line rows)) ≡ record { pieces = map row_line rows; ending = pieces_clean }
pieces-lines limit from rows made fits =
    let bytes = flat_map row_line rows in
    ap (λ (xs : List ℕ). up_to_too_long (split false xs).pieces (last_pieces limit (whole bytes) (split false xs).rest)) (take_all limit bytes fits)
    ∙ ap (λ (cut : Split). up_to_too_long cut.pieces (last_pieces limit (whole bytes) cut.rest)) (split-lines from rows made)
    ∙ ap (λ (last : Pieces). up_to_too_long (map row_line rows) last) (no_last limit bytes fits)
    ∙ short_pieces from rows made

-- ---- the record of a line

no_marks : (a : ℕ) (text : List ℕ) → (a == 239) ≡ false → without_marks (a ∷ text) ≡ a ∷ text
no_marks a [] other = refl
no_marks a (b ∷ []) other = refl
no_marks a (b ∷ c ∷ rest) other = rw other refl

no_marks-digits : (ds text : List ℕ) → 0 < length ds → all_ascii_digits ds ≡ true → without_marks (ds ++ text) ≡ ds ++ text
no_marks-digits [] text some h = absurd (omega (arith, some))
no_marks-digits (x ∷ xs) text some h = no_marks x (xs ++ text) (digit_no_mark x (and_parts _ _ h).0)

-- what is read from a state on, with these fields before and this one at hand
abbrev reads : State → List (List ℕ) → List ℕ → List ℕ → Option Read
reads state fields field text = next_record default_config state fields field text

step_digit : (d : ℕ) → is_ascii_digit d ≡ true → step default_config st.InField d ≡ (st.InField, act.Copy)
step_digit d h = rw (digit_no_comma d h, digit_no_return d h, digit_no_feed d h) refl

reads_digits : (fields : List (List ℕ)) (field ds text : List ℕ) → all_ascii_digits ds ≡ true → reads st.InField fields field (ds ++ text) ≡ reads st.InField fields (field ++ ds) text
unfolding next_record
reads_digits fields field [] text h = ap (λ f. reads st.InField fields f text) (sym (append-nil field))
reads_digits fields field (x ∷ xs) text h =
    rw (step_digit x (and_parts _ _ h).0)
    (reads_digits fields (field ++ x ∷ []) xs text (and_parts _ _ h).1
    ∙ ap (λ f. reads st.InField fields f text) (append_assoc field (x ∷ []) xs))

reads_field : (fields : List (List ℕ)) (ds text : List ℕ) → 0 < length ds → all_ascii_digits ds ≡ true → reads st.StartField fields [] (ds ++ text) ≡ reads st.InField fields [] (ds ++ text)
unfolding next_record
reads_field fields [] text some h = absurd (omega (arith, some))
reads_field fields (x ∷ xs) text some h = rw (digit_no_quote x (and_parts _ _ h).0) refl

reads_record : (ds text : List ℕ) → 0 < length ds → all_ascii_digits ds ≡ true → reads st.StartRecord [] [] (ds ++ text) ≡ reads st.StartField [] [] (ds ++ text)
unfolding next_record
reads_record [] text some h = absurd (omega (arith, some))
reads_record (x ∷ xs) text some h = rw (digit_no_return x (and_parts _ _ h).0, digit_no_feed x (and_parts _ _ h).0) refl

reads_comma : (fields : List (List ℕ)) (field text : List ℕ) → reads st.InField fields field (44 ∷ text) ≡ reads st.StartField (fields ++ field ∷ []) [] text
unfolding next_record
reads_comma fields field text = refl

ends_line : (fields : List (List ℕ)) (field : List ℕ) → only_record (reads st.InField fields field (10 ∷ [])) ≡ Ok (Some (fields ++ field ∷ []))
unfolding next_record
ends_line fields field = refl

next_field : (ds text : List ℕ) (fields : List (List ℕ)) → 0 < length ds → all_ascii_digits ds ≡ true → reads st.StartField fields [] (ds ++ 44 ∷ text) ≡ reads st.StartField (fields ++ ds ∷ []) [] text
next_field ds text fields some h = reads_field fields ds (44 ∷ text) some h ∙ reads_digits fields [] ds (44 ∷ text) h ∙ reads_comma fields ds text

last_field : (ds : List ℕ) (fields : List (List ℕ)) → 0 < length ds → all_ascii_digits ds ≡ true → only_record (reads st.StartField fields [] (ds ++ 10 ∷ [])) ≡ Ok (Some (fields ++ ds ∷ []))
last_field ds fields some h = ap only_record (reads_field fields ds (10 ∷ []) some h ∙ reads_digits fields [] ds (10 ∷ []) h) ∙ ends_line fields ds

record_of-texts : (time key : List ℕ) → 0 < length time → all_ascii_digits time ≡ true → 0 < length key → all_ascii_digits key ≡ true → record_of (line_of time key) ≡ Ok (Some (time ∷ key ∷ []))
record_of-texts time key some_time t some_key k =
    ap record_of (line_plain time key)
    ∙ ap record_in (no_marks-digits time (44 ∷ (key ++ 10 ∷ [])) some_time t)
    ∙ ap only_record (reads_record time (44 ∷ (key ++ 10 ∷ [])) some_time t ∙ next_field time (key ++ 10 ∷ []) [] some_time t)
    ∙ last_field key (time ∷ []) some_key k

record_of-line : (row : DrawnRow) → row.time < 2 ^ 32 → row.key < 2 ^ 32 → record_of (row_line row) ≡ Ok (Some (decimal row.time ∷ decimal row.key ∷ []))
record_of-line row time key =
    record_of-texts (decimal row.time) (decimal row.key) (some_digits row.time time) (are_digits row.time time) (some_digits row.key key) (are_digits row.key key)

-- ---- the rows of lines

pub fields_of : DrawnRow → List Field
fields_of row = field.Int (pos row.time) ∷ field.Int (pos row.key) ∷ []

row_of-line : (row : DrawnRow) → row.time < 2 ^ 32 → row.key < 2 ^ 32 → row_of keyed_columns (decimal row.time ∷ decimal row.key ∷ []) ≡ Ok (fields_of row)
unfolding fields_of
row_of-line row time key =
    ap₂ (λ a b. put_value (int_field 1 a) (put_value (int_field 2 b) (Ok []))) (int_of-decimal row.time time) (int_of-decimal row.key key)

row_at-line : (before : Option ℤ) (row : DrawnRow) → row.time < 2 ^ 32 → row.key < 2 ^ 32 → row_at keyed_columns 0 before (row_line row) ≡ in_time 0 before (fields_of row)
row_at-line before row time key = rw (record_of-line row time key) (rw (row_of-line row time key) refl)

-- the time before isn't above this one
abbrev IsNoLater : Option ℤ → ℕ → Type 0
IsNoLater None from = Unit {0}
IsNoLater (Some before) from = before ≡ pos from

not_below : (time from : ℕ) → from ≤ time → int_lt (pos time) (pos from -ℤ pos 0) ≡ false
not_below time from later = grind (arith, ints)

in_time-made : (before : Option ℤ) (from : ℕ) (row : DrawnRow) → IsNoLater before from → from ≤ row.time → in_time 0 before (fields_of row) ≡ Ok (Some (fields_of row))
unfolding fields_of
in_time-made None from row no_later later = refl
in_time-made (Some before) from row no_later later = rw (no_later) (rw (not_below row.time from later) refl)

with_time-made : (before : Option ℤ) (from : ℕ) (row : DrawnRow) → IsNoLater before from → from ≤ row.time → with_time before (pos row.time) ≡ pos row.time
with_time-made None from row no_later later = refl
with_time-made (Some before) from row no_later later = rw (no_later) (rw (le-ltb row.time from later) refl)

rows_from-lines : (record_no : ℕ) (before : Option ℤ) (from : ℕ) (rows : List DrawnRow) → IsNoLater before from → AreMade from rows → rows_from keyed_columns 0 record_no before (map row_line rows) pieces_clean ≡ record { rows = map fields_of rows; ending = rows_clean }
unfolding fields_of
rows_from-lines record_no before from [] no_later made = refl
rows_from-lines record_no before from (row ∷ rows) no_later made =
    ap (λ found. put_row record_no before found (λ next time. rows_from keyed_columns 0 next time (map row_line rows) pieces_clean))
    (row_at-line before row made.1 made.2 ∙ in_time-made before from row no_later made.0)
    ∙ ap (λ (time : ℤ). then_rows (fields_of row) (rows_from keyed_columns 0 (record_no + 1) (Some time) (map row_line rows) pieces_clean)) (with_time-made before from row no_later made.0)
    ∙ ap (λ (others : Rows). then_rows (fields_of row) others) (rows_from-lines (record_no + 1) (Some (pos row.time)) row.time rows refl made.3)

pub rows_of-lines : (rows : List DrawnRow) → AreMade 0 rows → 22 * length rows ≤ 2 ^ 62 → rows_of keyed_columns 0 (whole (flat_map row_line rows)) ≡ record { rows = map fields_of rows; ending = rows_clean }
rows_of-lines rows made few =
    as_read keyed_columns 1 None (pieces_of most_in_stream (whole (flat_map row_line rows)))
    ∙ ap (λ (cut : Pieces). rows_in keyed_columns 0 1 None cut) (pieces-lines most_in_stream 0 rows made (omega (arith, length-lines 0 rows made, few)))
    ∙ rows_from-lines 1 None 0 rows tt made
