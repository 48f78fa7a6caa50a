-- A text that is put behind the others stands where its stored field says, and the others stay where they are.
use Rattle.std.proofs.Common.{◌≡◌, ℕ, ℤ, ◌+◌, ◌-◌, ◌<◌, ◌≤◌, List, [], ◌∷◌, ◌++◌, length, map, take, drop, get_or, refl, sym, ap, ap₂, ◌∙◌, arith}
use Rattle.std.proofs.Math.Seq.{drop-append_seam, take-length}
use Rattle.std.proofs.lemmas.List.{take-append-le, drop-append-le, map-append, length-drop, take_more}
use Rattle.std.proofs.lemmas.List.Elements.{All-head, All-tail}
use Rattle.std.specs.Prelude.{All}
use Rattle.hj_value.specs.declared.field.Field.{Field}
use Rattle.hj_value.specs.declared.field.Field.TheVariants as field
use Rattle.hj_value.specs.declared.stored_fields.StoredField.{StoredField}
use Rattle.hj_value.specs.declared.stored_fields.StoredField.TheVariants as stored
use Rattle.hj_value.specs.StoredFields.{between, field_of, fields_of, IsPlace}

between-append : (texts text : List ℕ) (from to : ℕ) → from ≤ to → to ≤ length texts → between (texts ++ text) from to ≡ between texts from to
between-append texts text from to ordered within =
    ap (take (to - from)) (drop-append-le from texts text (omega arith))
    ∙ take-append-le (to - from) (drop from texts) text (omega (arith, length-drop from texts))

field_of-append : (texts text : List ℕ) (one : StoredField) → IsPlace texts one → field_of (texts ++ text) one ≡ field_of texts one
field_of-append texts text (stored.Int value) place = refl
field_of-append texts text (stored.Text from to) place = ap (λ bytes. field.Text bytes) (between-append texts text from to place.0 place.1)

fields_of-append : (texts text : List ℕ) (fields : List StoredField) → All (IsPlace texts) fields → fields_of (texts ++ text) fields ≡ fields_of texts fields
fields_of-append texts text [] places = refl
fields_of-append texts text (one ∷ fields) places =
    ap₂ (λ f fs. f ∷ fs) (field_of-append texts text one (All-head (IsPlace texts) one fields places)) (fields_of-append texts text fields (All-tail (IsPlace texts) one fields places))

between-last : (texts text : List ℕ) → between (texts ++ text) (length texts) (length texts + length text) ≡ text
between-last texts text =
    let long : (length texts + length text) - length texts ≡ length text = omega arith in
    ap₂ (λ n bytes. take n bytes) long (drop-append_seam texts text) ∙ take-length text

-- a row with a text more
pub fields_of-push : (texts after text : List ℕ) (fields longer : List StoredField) (one : StoredField) (new : Field) (row : List Field) → after ≡ texts ++ text → longer ≡ fields ++ one ∷ [] → one ≡ stored.Text (length texts) (length texts + length text) → new ≡ field.Text text → fields_of texts fields ≡ row → All (IsPlace texts) fields → fields_of after longer ≡ row ++ new ∷ []
fields_of-push texts after text fields longer one new row put pushed placed is seen places =
    ap₂ (λ bytes all. fields_of bytes all) put (pushed ∙ ap (λ last. fields ++ last ∷ []) placed)
    ∙ map-append (field_of (texts ++ text)) fields (stored.Text (length texts) (length texts + length text) ∷ [])
    ∙ ap₂ (λ others last. others ++ field.Text last ∷ []) (fields_of-append texts text fields places ∙ seen) (between-last texts text)
    ∙ ap (λ last. row ++ last ∷ []) (sym is)

-- one number more of a list
pub numbers-more : (numbers : List ℤ) (at : ℕ) (d : ℤ) (before after : List Field) → at < length numbers → before ≡ map field.Int (take at numbers) → after ≡ before ++ field.Int (get_or numbers at d) ∷ [] → after ≡ map field.Int (take (at + 1) numbers)
numbers-more numbers at d before after within is grown =
    grown ∙ ap (λ fields. fields ++ field.Int (get_or numbers at d) ∷ []) is
    ∙ sym (map-append field.Int (take at numbers) (get_or numbers at d ∷ []))
    ∙ ap (λ ns. map field.Int ns) (sym (take_more numbers at d within))
