-- One more field of a row, and one more byte of a text.
use Rattle.std.proofs.Common.{◌≡◌, ℕ, ◌+◌, ◌<◌, ◌==◌, Bool, true, false, cond, eqb, List, [], ◌∷◌, ◌++◌, length, map, take, get_or, Some, refl, sym, ap, ◌∙◌, append-nil, append_assoc}
use Rattle.std.proofs.lemmas.List.{flat_map_more, map-append, take_more}
use Rattle.std.proofs.lemmas.Option.{slice_get_within, get_or_from_slice_get}
use Rattle.std.proofs.lemmas.Bool.{or_parts}
use Rattle.std.specs.List.{slice_get, list_any}
use Rattle.csv.specs.Writing.{default_writer, escaped}
use Rattle.hj_value.specs.declared.field.Field.{Field}
use Rattle.hj_emit.specs.Cells.{cell, cells}
use Rattle.hj_emit.specs.Line.{field_bytes}

one_more : {A : Type 0} (xs : List A) (at : ℕ) (x : A) → Some x ≡ slice_get xs at → take (at + 1) xs ≡ take at xs ++ x ∷ []
one_more xs at x found =
    take_more xs at x (slice_get_within xs at x (sym found)) ∙ ap (λ y. take at xs ++ y ∷ []) (get_or_from_slice_get xs at x x (sym found))

pub cells_step : (row : List Field) (at : ℕ) (field : Field) (start before after : List ℕ) → Some field ≡ slice_get row at
    → before ≡ start ++ cells (take at row) → after ≡ before ++ cell (field_bytes field)
    → after ≡ start ++ cells (take (at + 1) row)
cells_step row at field start before after found so_far grown =
    grown ∙ ap (λ l. l ++ cell (field_bytes field)) so_far
    ∙ flat_map_more (λ (field : Field). cell (field_bytes field)) start (take at row) field
    ∙ ap (λ (l : List Field). start ++ cells l) (sym (one_more row at field found))

pub fields_step : (row : List Field) (at : ℕ) (field : Field) (start before after : List (List ℕ)) → Some field ≡ slice_get row at
    → before ≡ start ++ map field_bytes (take at row) → after ≡ before ++ field_bytes field ∷ []
    → after ≡ start ++ map field_bytes (take (at + 1) row)
fields_step row at field start before after found so_far grown =
    grown ∙ ap (λ l. l ++ field_bytes field ∷ []) so_far
    ∙ append_assoc start (map field_bytes (take at row)) (field_bytes field ∷ [])
    ∙ ap (λ l. start ++ l) (sym (map-append field_bytes (take at row) (field ∷ [])))
    ∙ ap (λ (l : List Field). start ++ map field_bytes l) (sym (one_more row at field found))

escaped_next : (b : ℕ) (rest : List ℕ) → escaped default_writer (b ∷ rest) ≡ escaped default_writer (b ∷ []) ++ escaped default_writer rest
unfolding escaped
escaped_next b rest = by (eqb b 34)
  where
    by : (t : Bool) → cond t (34 ∷ b ∷ escaped default_writer rest) (b ∷ escaped default_writer rest) ≡ cond t (34 ∷ b ∷ []) (b ∷ []) ++ escaped default_writer rest
    by true = refl
    by false = refl

escaped-append : (front back : List ℕ) → escaped default_writer (front ++ back) ≡ escaped default_writer front ++ escaped default_writer back
unfolding escaped
escaped-append [] back = refl
escaped-append (b ∷ front) back =
    escaped_next b (front ++ back) ∙ ap (λ l. escaped default_writer (b ∷ []) ++ l) (escaped-append front back)
    ∙ sym (append_assoc (escaped default_writer (b ∷ [])) (escaped default_writer front) (escaped default_writer back))
    ∙ ap (λ l. l ++ escaped default_writer back) (sym (escaped_next b front))

-- where there is no quote there is nothing to double
pub escaped_same : (bytes : List ℕ) → list_any (λ byte. byte == 34) bytes ≡ false → escaped default_writer bytes ≡ bytes
unfolding escaped
escaped_same [] none = refl
escaped_same (b ∷ bytes) none =
    let both = or_parts (b == 34) (list_any (λ byte. byte == 34) bytes) none in
    rw both.0 (ap (λ l. b ∷ l) (escaped_same bytes both.1))

pub escaped_none : (start : List ℕ) → start ≡ start ++ escaped default_writer []
unfolding escaped
escaped_none start = sym (append-nil start)

pub escaped_step : (bytes : List ℕ) (at : ℕ) (start before after : List ℕ) → at < length bytes
    → before ≡ start ++ escaped default_writer (take at bytes) → after ≡ before ++ escaped default_writer (get_or bytes at 0 ∷ [])
    → after ≡ start ++ escaped default_writer (take (at + 1) bytes)
escaped_step bytes at start before after within so_far grown =
    grown ∙ ap (λ l. l ++ escaped default_writer (get_or bytes at 0 ∷ [])) so_far
    ∙ append_assoc start (escaped default_writer (take at bytes)) (escaped default_writer (get_or bytes at 0 ∷ []))
    ∙ ap (λ l. start ++ l) (sym (escaped-append (take at bytes) (get_or bytes at 0 ∷ [])))
    ∙ ap (λ l. start ++ escaped default_writer l) (sym (take_more bytes at 0 within))
