-- Lanes that are compared with a byte, and the bytes for which a text needs quotes.
use Rattle.std.proofs.Common.{◌≡◌, ℕ, ◌+◌, ◌*◌, ◌%◌, ◌^◌, ◌≤◌, ◌==◌, Bool, true, false, not, ◌||◌, ◌&&◌, cond, eqb, List, [], ◌∷◌, length, map, replicate, w8, refl, sym, ap, ap₂, ◌∙◌, arith}
use Rattle.std.proofs.lemmas.Bool.Decides.{nat_tests}
use Rattle.std.proofs.lemmas.Simd.{bitmask_splat}
use Rattle.std.specs.List.{list_any}
use Rattle.csv.specs.Writing.{default_writer, needs_byte}
use lib.Lanes.{mask_l, top, zip2}

one_set : (m : ℕ) → not (eqb (1 + 2 * m) 0) ≡ true
one_set m = grind (arith, nat_tests)

none_set : (m : ℕ) → eqb m 0 ≡ eqb (0 + 2 * m) 0
none_set m = grind (arith, nat_tests)

mask_step : (b : Bool) (m : ℕ) (rest : Bool) → not (eqb m 0) ≡ rest → not (eqb (cond b 1 0 + 2 * m) 0) ≡ (b || rest)
mask_step true m rest so_far = one_set m
mask_step false m rest so_far = ap not (sym (none_set m)) ∙ so_far

-- a bit of the mask is set where one lane passes the test
any_mask : (p : ℕ → Bool) (lanes : List ℕ) → not (eqb (mask_l (map p lanes)) 0) ≡ list_any p lanes
any_mask p [] = refl
any_mask p (x ∷ lanes) = mask_step (p x) (mask_l (map p lanes)) (list_any p lanes) (any_mask p lanes)

-- the mask of the lanes that are this byte, as the code makes it
pub has_lane : (lanes : List ℕ) (n byte : ℕ) → length lanes ≡ n → n ≤ 64
    → not (eqb (mask_l (map (top 7) (zip2 (λ a b. cond (eqb a b) 255 0) lanes (replicate n byte))) % 2 ^ 64) 0) ≡ list_any (λ lane. lane == byte) lanes
has_lane lanes n byte long few =
    ap (λ m. not (eqb m 0)) (bitmask_splat w8 eqb lanes n byte long few) ∙ any_mask (λ lane. lane == byte) lanes

-- a comma, a quote, CR or LF
one_of_four : (b : ℕ) → needs_byte default_writer b ≡ ((((b == 44) || (b == 34)) || (b == 13)) || (b == 10))
one_of_four b = by (b == 44) (b == 34) (b == 13) (b == 10) (b == 92)
  where
    by : (w x y z e : Bool) → (w || x || (y || z) || (not true && e) || false) ≡ (((w || x) || y) || z)
    by true x y z e = refl
    by false true y z e = refl
    by false false true z e = refl
    by false false false true e = refl
    by false false false false e = refl

exchanged : (a b c d : Bool) → ((a || b) || (c || d)) ≡ ((a || c) || (b || d))
exchanged true b c d = refl
exchanged false true true d = refl
exchanged false true false d = refl
exchanged false false c d = refl

pub any_of_four : (bytes : List ℕ) → (((list_any (λ b. b == 44) bytes || list_any (λ b. b == 34) bytes) || list_any (λ b. b == 13) bytes) || list_any (λ b. b == 10) bytes) ≡ list_any (needs_byte default_writer) bytes
any_of_four [] = refl
any_of_four (b ∷ bytes) =
    let commas = list_any (λ b. b == 44) bytes in
    let quotes = list_any (λ b. b == 34) bytes in
    let returns = list_any (λ b. b == 13) bytes in
    let feeds = list_any (λ b. b == 10) bytes in
    ap (λ t. t || ((b == 10) || feeds)) (ap (λ t. t || ((b == 13) || returns)) (exchanged (b == 44) commas (b == 34) quotes) ∙ exchanged ((b == 44) || (b == 34)) (commas || quotes) (b == 13) returns)
    ∙ exchanged (((b == 44) || (b == 34)) || (b == 13)) ((commas || quotes) || returns) (b == 10) feeds
    ∙ ap₂ (λ one all. one || all) (sym (one_of_four b)) (any_of_four bytes)
