-- The marks in front of a piece, and the fields of a record of `csv`.
use Rattle.std.proofs.Common.{◌≡◌, zero, suc, ℕ, ◌+◌, ◌<◌, cond, Bool, true, false, List, [], ◌∷◌, ◌++◌, length, take, Option, Some, None, refl, sym, ap, ◌∙◌, arith}
use Rattle.csv.specs.Reading.{strip_bom, is_bom}
use Rattle.csv.specs.Records.{field_at}
use Rattle.hj_record.specs.Records.{without_marks}

strip_first : (a b c : ℕ) (rest : List ℕ) → strip_bom (without_marks rest) ≡ without_marks rest → (mark : Bool) → is_bom a b c ≡ mark → strip_bom (cond mark (without_marks rest) (a ∷ b ∷ c ∷ rest)) ≡ cond mark (without_marks rest) (a ∷ b ∷ c ∷ rest)
unfolding strip_bom
strip_first a b c rest others true is = others
strip_first a b c rest others false is = ap (λ mark. cond mark rest (a ∷ b ∷ c ∷ rest)) is

-- Behind the marks stands none.
pub strip-without_marks : (piece : List ℕ) → strip_bom (without_marks piece) ≡ without_marks piece
unfolding strip_bom
strip-without_marks [] = refl
strip-without_marks (a ∷ []) = refl
strip-without_marks (a ∷ b ∷ []) = refl
strip-without_marks (a ∷ b ∷ c ∷ rest) = strip_first a b c rest (strip-without_marks rest) (is_bom a b c) refl

pub take_field_more : (fields : List (List ℕ)) (at : ℕ) (field : List ℕ) → Some field ≡ field_at fields at → take (at + 1) fields ≡ take at fields ++ field ∷ []
unfolding field_at
take_field_more [] at field found = cc found
take_field_more (f ∷ fields) zero field found = let same : field ≡ f = cc found in ap (λ x. x ∷ []) (sym same)
take_field_more (f ∷ fields) (suc at) field found =
    let next : suc at + 1 ≡ suc (at + 1) = omega arith in
    ap (λ n. take n (f ∷ fields)) next ∙ ap (λ fs. f ∷ fs) (take_field_more fields at field found)

pub field_missing : (fields : List (List ℕ)) (at : ℕ) → at < length fields → ¬ (◌≡◌ {A = Option (List ℕ)} None (field_at fields at))
unfolding field_at
field_missing [] at lt found = absurd (omega arith)
field_missing (f ∷ fields) zero lt found = cc found
field_missing (f ∷ fields) (suc at) lt found = field_missing fields at (omega arith) found
