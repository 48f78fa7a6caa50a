-- A number and its comma, written in front of what stands there.
use Rattle.std.proofs.Common.{◌≡◌, ℕ, ℤ, pos, negsuc, ◌+◌, ◌-◌, ◌≤◌, true, false, List, [], ◌∷◌, ◌++◌, length, drop, set, int_le, unsigned_abs, refl, sym, ap, ◌∙◌, append_assoc, true≢false, arith, FitsSigned, w64}
use lib.Dec.{leb-zero}
use Rattle.std.proofs.lemmas.List.{drop-set}
use Rattle.std.specs.Fmt.{decimal, signed_decimal}
use Rattle.csv.specs.Writing.{default_writer, field_text}
use Rattle.hj_emit.specs.Cells.{cell}
use Rattle.hj_emit.proofs.Plain.{number_text}

-- a number that is not negative begins with a digit
pub digits_first : (z : ℤ) → int_le (pos 0) z ≡ true → decimal (unsigned_abs z) ≡ signed_decimal z
digits_first (pos n) e = refl
digits_first (negsuc n) e = absurd (true≢false (sym e))

-- any other with a minus
pub minus_first : (z : ℤ) → int_le (pos 0) z ≡ false → 45 ∷ decimal (unsigned_abs z) ≡ signed_decimal z
minus_first (pos n) e = absurd (true≢false (sym (leb-zero n) ∙ e))
minus_first (negsuc n) e = refl

-- a comma in front of what stands from a place on
pub comma_in_front : (bytes : List ℕ) (end : ℕ) → 1 ≤ end → end ≤ length bytes → drop (end - 1) (set bytes (end - 1) 44) ≡ 44 ∷ drop end bytes
comma_in_front bytes end some within =
    let next : end - 1 + 1 ≡ end = omega arith in
    drop-set bytes (end - 1) 44 (omega arith) ∙ ap (λ n. 44 ∷ drop n bytes) next

-- a number in front of its comma
pub cell_in_front : (z : ℤ) → FitsSigned w64 z → (digits rest : List ℕ) → digits ≡ signed_decimal z → digits ++ 44 ∷ rest ≡ cell (signed_decimal z) ++ rest
cell_in_front z fits digits rest is =
    ap (λ l. l ++ 44 ∷ rest) (is ∙ sym (number_text z fits))
    ∙ sym (append_assoc (field_text default_writer (signed_decimal z)) (44 ∷ []) rest)
