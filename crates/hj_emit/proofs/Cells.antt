-- Fields with a comma behind each are a record's text but for its last comma and its end.
use Rattle.std.proofs.Common.{◌≡◌, ◌≢◌, ℕ, suc, ◌+◌, ◌-◌, ◌<◌, ◌≤◌, Bool, true, false, cond, eqb, List, [], ◌∷◌, ◌++◌, length, map, take, drop, set, refl, sym, ap, ◌∙◌, append_assoc, arith, length-append, length-drop}
use Rattle.std.proofs.Math.Seq.{take-length}
use Rattle.std.proofs.lemmas.Bool.Decides.{nat_tests}
use Rattle.std.proofs.lemmas.List.{drop_all, length-take-le, nil_from_length, set_split, take_at, take-append-le, take-take}
use Rattle.csv.specs.Writing.{default_writer, field_text, fields_text, is_blank, row_body, row_text}
use Rattle.hj_value.specs.declared.field.Field.{Field}
use Rattle.hj_emit.specs.Cells.{cells}
use Rattle.hj_emit.specs.Line.{field_bytes}

fields_cells : (rest : List Field) → fields_text default_writer (map field_bytes rest) ++ 44 ∷ [] ≡ 44 ∷ cells rest
unfolding fields_text
fields_cells [] = refl
fields_cells (field ∷ rest) =
    ap (λ l. 44 ∷ l) (
    append_assoc (field_text default_writer (field_bytes field)) (fields_text default_writer (map field_bytes rest)) (44 ∷ [])
    ∙ ap (λ l. field_text default_writer (field_bytes field) ++ l) (fields_cells rest)
    ∙ sym (append_assoc (field_text default_writer (field_bytes field)) (44 ∷ []) (cells rest)))

body_cells : (field : Field) (rest : List Field) → cells (field ∷ rest) ≡ row_body default_writer (map field_bytes (field ∷ rest)) ++ 44 ∷ []
body_cells field rest =
    append_assoc (field_text default_writer (field_bytes field)) (44 ∷ []) (cells rest)
    ∙ ap (λ l. field_text default_writer (field_bytes field) ++ l) (sym (fields_cells rest))
    ∙ sym (append_assoc (field_text default_writer (field_bytes field)) (fields_text default_writer (map field_bytes rest)) (44 ∷ []))

front_of : (body text : List ℕ) → text ≡ body ++ 44 ∷ [] → take (length text - 1) text ≡ body
front_of body text e =
    let n : length text - 1 ≡ length body = omega (arith, ap length e, length-append body (44 ∷ [])) in
    ap (λ l. take (length text - 1) l) e ∙ ap (λ k. take k (body ++ 44 ∷ [])) n ∙ take-append-le (length body) body (44 ∷ []) (omega arith) ∙ take-length body

popped_body : (fields : List Field) (old : List ℕ) → old ≡ cells fields → take (length old - 1) old ≡ row_body default_writer (map field_bytes fields)
popped_body [] old e = ap (λ l. take (length l - 1) l) e
popped_body (field ∷ rest) old e = front_of (row_body default_writer (map field_bytes (field ∷ rest))) old (e ∙ body_cells field rest)

blank_body : (fields : List (List ℕ)) → is_blank default_writer fields ≡ eqb (length (row_body default_writer fields)) 0
unfolding is_blank fields_text
blank_body [] = refl
blank_body (field ∷ []) = ap (λ n. eqb n 0) (omega (arith, length-append (field_text default_writer field) []))
blank_body (field ∷ next ∷ rest) =
    let long : length (field_text default_writer field ++ 44 ∷ (field_text default_writer next ++ fields_text default_writer rest)) ≡ 1 + length (field_text default_writer field) + length (field_text default_writer next ++ fields_text default_writer rest)
    = omega (arith, length-append (field_text default_writer field) (44 ∷ (field_text default_writer next ++ fields_text default_writer rest))) in
    sym (not_zero _ (omega arith))
  where
    not_zero : (n : ℕ) → 0 < n → eqb n 0 ≡ false
    not_zero n h = grind (arith, nat_tests)

ended : (fields : List (List ℕ)) (blank : Bool) → is_blank default_writer fields ≡ blank → row_text default_writer fields ≡ row_body default_writer fields ++ (cond blank (34 ∷ 34 ∷ []) [] ++ 10 ∷ [])
ended fields blank e = ap (λ b. row_body default_writer fields ++ (cond b (34 ∷ 34 ∷ []) [] ++ 10 ∷ [])) e

take-behind : (front back : List ℕ) (k : ℕ) → take (length front + k) (front ++ back) ≡ front ++ take k back
take-behind [] back k = let same : 0 + k ≡ k = omega arith in ap (λ j. take j back) same
take-behind (x ∷ front) back k =
    let same : suc (length front) + k ≡ suc (length front + k) = omega arith in
    ap (λ j. take j (x ∷ (front ++ back))) same ∙ ap (λ l. x ∷ l) (take-behind front back k)

-- the last comma is taken off
pub popped : (front : List ℕ) (fields : List Field) (old new : List ℕ) (n : ℕ) → old ≡ front ++ cells fields → n ≡ length old → length front < n → new ≡ take (n - 1) old → new ≡ front ++ row_body default_writer (map field_bytes fields)
popped front fields old new n e long some taken =
    let count : n - 1 ≡ length front + (length (cells fields) - 1) = omega (arith, ap length e, length-append front (cells fields)) in
    taken ∙ ap (λ l. take (n - 1) l) e ∙ ap (λ k. take k (front ++ cells fields)) count ∙ take-behind front (cells fields) (length (cells fields) - 1)
    ∙ ap (λ l. front ++ l) (popped_body fields (cells fields) refl)

-- a record that shows no byte, in front of its end
blank_row : (fields : List Field) → length (row_body default_writer (map field_bytes fields)) ≡ 0 → 34 ∷ 34 ∷ 10 ∷ [] ≡ row_text default_writer (map field_bytes fields)
blank_row fields none =
    let body = row_body default_writer (map field_bytes fields) in
    let blank : is_blank default_writer (map field_bytes fields) ≡ true = blank_body (map field_bytes fields) ∙ ap (λ k. eqb k 0) none in
    ap (λ l. l ++ 34 ∷ 34 ∷ 10 ∷ []) (sym (nil_from_length body none)) ∙ sym (ended (map field_bytes fields) true blank)

few_cells : (fields : List Field) → length (cells fields) ≤ 1 → length (row_body default_writer (map field_bytes fields)) ≡ 0
few_cells [] few = refl
few_cells (field ∷ rest) few = omega (arith, ap length (body_cells field rest), length-append (row_body default_writer (map field_bytes (field ∷ rest))) (44 ∷ []))

-- the line of a record that shows no byte
pub blank_line : (front : List ℕ) (fields : List Field) (old new : List ℕ) → old ≡ front ++ cells fields → length old ≤ length front + 1 → new ≡ take (length front) old ++ 34 ∷ 34 ∷ 10 ∷ []
    → new ≡ front ++ row_text default_writer (map field_bytes fields)
blank_line front fields old new e few grown =
    let none = few_cells fields (omega (arith, ap length e, length-append front (cells fields))) in
    grown ∙ ap (λ l. l ++ 34 ∷ 34 ∷ 10 ∷ []) (ap (λ l. take (length front) l) e ∙ take_at front (cells fields) (length front) refl)
    ∙ ap (λ l. front ++ l) (blank_row fields none)

full_line : (front : List ℕ) (fields : List Field) (old new : List ℕ) (n : ℕ) → old ≡ front ++ row_body default_writer (map field_bytes fields) → n ≡ length old → n ≢ length front → new ≡ old ++ 10 ∷ []
    → new ≡ front ++ row_text default_writer (map field_bytes fields)
full_line front fields old new n e long some grown =
    let body = row_body default_writer (map field_bytes fields) in
    let long_body : 0 < length body = omega (arith, some, ap length e, length-append front body) in
    let full : is_blank default_writer (map field_bytes fields) ≡ false = blank_body (map field_bytes fields) ∙ not_none (length body) long_body in
    grown ∙ ap (λ l. l ++ 10 ∷ []) e ∙ append_assoc front body (10 ∷ []) ∙ ap (λ l. front ++ l) (sym (ended (map field_bytes fields) false full))
  where
    not_none : (k : ℕ) → 0 < k → eqb k 0 ≡ false
    not_none k h = grind (arith, nat_tests)

-- any other line: a line feed in place of the last comma
pub line_fed : (front : List ℕ) (fields : List Field) (old new : List ℕ) (last : ℕ) → old ≡ front ++ cells fields → last + 1 ≡ length old → length front < last → new ≡ set old last 10
    → new ≡ front ++ row_text default_writer (map field_bytes fields)
line_fed front fields old new last e long some fed =
    let before : take last old ≡ take (last + 1 - 1) old = ap (λ k. take k old) (omega arith) in
    let body = popped front fields old (take last old) (last + 1) e long (omega arith) before in
    let within : last < length old = omega arith in
    let nothing : drop (suc last) old ≡ [] = drop_all (suc last) old (omega arith) in
    full_line front fields (take last old) new last body (sym (length-take-le last old (omega arith))) (omega arith)
    (fed ∙ set_split old last 10 within ∙ ap (λ l. take last old ++ 10 ∷ l) nothing)

-- some bytes behind a text, of which the first are a number in front of others, cut behind that number
pub cut_behind : (text bytes number rest : List ℕ) (start n : ℕ) → drop start bytes ≡ number ++ rest → length bytes ≡ length rest + 21 → start ≤ 21 → n ≡ length text + (21 - start)
    → take n (text ++ take 21 (drop start bytes)) ≡ text ++ number
cut_behind text bytes number rest start n is long within at =
    let size : start + length number ≡ 21 = omega (arith, ap length is, length-drop start bytes, length-append number rest) in
    let count : n ≡ length text + length number = omega arith in
    ap (λ k. take k (text ++ take 21 (drop start bytes))) count ∙ take-behind text (take 21 (drop start bytes)) (length number)
    ∙ ap (λ l. text ++ l) (take-take (length number) 21 (drop start bytes) (omega arith) ∙ ap (λ l. take (length number) l) is ∙ take_at number rest (length number) refl)
