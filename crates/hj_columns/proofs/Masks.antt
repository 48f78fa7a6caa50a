-- Masks of blocks that lie one behind another.
use Rattle.std.proofs.Common.{◌≡◌, ℕ, zero, suc, ◌+◌, ◌-◌, ◌*◌, ◌%◌, ◌^◌, ◌<◌, ◌≤◌, Bool, true, false, cond, leb, ◌&&◌, ◌==◌, min, List, [], ◌∷◌, ◌++◌, get_or, length, take, drop, map, replicate, refl, sym, ap, ap₂, ◌∙◌, arith, w64}
use Rattle.std.specs.Simd.Lanes.{chunk, mask_l, top, zip2}
use Rattle.std.specs.Int.{bit_at}
use Rattle.std.specs.Prelude.{bit_and}
use Rattle.std.proofs.lemmas.Bool.Decides.{nat_tests}
use Rattle.std.proofs.lemmas.Nat.Bits.{bit_at_and, same_from_bits}
use Rattle.std.proofs.lemmas.Simd.{bit_mask_l, chunk-drop, get_or-chunk, length-chunk, mask_l-lt, mask_l-mod, tops_compared, zip2_splat_left}
use Rattle.std.proofs.lemmas.List.{length-map, map-append}
use Rattle.std.proofs.Math.Nat.{mul_assoc, two-pow-succ}
use Rattle.std.proofs.Math.Seq.{take-append-add}

-- `to_bitmask` of `simd_ge` with a splat
pub splat_mask : (low : ℕ) (v : List ℕ) → length v ≡ 16
    → mask_l (map (top 63) (zip2 (λ a b. cond (leb a b) (2 ^ 64 - 1) 0) (replicate 16 low) v)) % 2 ^ 64 ≡ mask_l (map (leb low) v)
splat_mask low v long =
    ap (λ ms. mask_l ms % 2 ^ 64) (tops_compared w64 leb (replicate 16 low) v ∙ zip2_splat_left leb low 16 v long)
    ∙ mask_l-mod (map (leb low) v) 64 (omega (arith, length-map v (leb low)))

pub mask_below : (p : ℕ → Bool) (v : List ℕ) → length v ≡ 16 → mask_l (map p v) < 2 ^ 16
mask_below p v long = omega (arith, mask_l-lt (map p v), ap (λ n. 2 ^ n) (length-map v p ∙ long))

mul_distrib : (p b : ℕ) → (p + p) * b ≡ p * b + p * b
mul_distrib p b = ap (λ n. n * b) (double p) ∙ mul_assoc 2 p b ∙ sym (double (p * b))
  where
    double : (n : ℕ) → n + n ≡ 2 * n
    double n = omega arith

grown : (whole a p b bit q : ℕ) → whole ≡ a + p * b → q ≡ p + p → bit + 2 * whole ≡ (bit + 2 * a) + q * b
grown whole a p b bit q e h = omega (arith, mul_distrib p b, ap (λ n. n * b) h)

mask-append : (xs ys : List Bool) → mask_l (xs ++ ys) ≡ mask_l xs + 2 ^ length xs * mask_l ys
mask-append [] ys = omega arith
mask-append (x ∷ xs) ys =
    grown (mask_l (xs ++ ys)) (mask_l xs) (2 ^ length xs) (mask_l ys) (cond x 1 0) (2 ^ length (x ∷ xs)) (mask-append xs ys) (two-pow-succ (length xs))

chunk-plus : (from more : ℕ) (xs : List ℕ) → from + 16 ≤ length xs → chunk from (16 + more) xs ≡ chunk from 16 xs ++ chunk (from + 16) more xs
chunk-plus from more xs fits =
    ap (take (16 + more)) (chunk-drop from 16 xs)
    ∙ ap (λ n. take (n + more) (chunk from 16 xs ++ drop (from + 16) xs)) (sym (length-chunk from 16 xs fits))
    ∙ take-append-add (chunk from 16 xs) (drop (from + 16) xs) more

-- the mask of a longer block, by those of its first 16 and of the others
pub mask_step : (p : ℕ → Bool) (from more : ℕ) (xs : List ℕ) → from + 16 ≤ length xs
    → mask_l (map p (chunk from (16 + more) xs)) ≡ mask_l (map p (chunk from 16 xs)) + 65536 * mask_l (map p (chunk (from + 16) more xs))
mask_step p from more xs fits =
    let long : length (map p (chunk from 16 xs)) ≡ 16 = length-map (chunk from 16 xs) p ∙ length-chunk from 16 xs fits in
    ap (λ ys. mask_l (map p ys)) (chunk-plus from more xs fits)
    ∙ ap mask_l (map-append p (chunk from 16 xs) (chunk (from + 16) more xs))
    ∙ mask-append (map p (chunk from 16 xs)) (map p (chunk (from + 16) more xs))
    ∙ ap (λ n. mask_l (map p (chunk from 16 xs)) + 2 ^ n * mask_l (map p (chunk (from + 16) more xs))) long

-- the masks of four blocks of 16, one behind another
pub mask_of_four : (p : ℕ → Bool) (from a b c d : ℕ) (xs : List ℕ) → from + 64 ≤ length xs
    → a ≡ mask_l (map p (chunk from 16 xs)) → b ≡ mask_l (map p (chunk (from + 16) 16 xs))
    → c ≡ mask_l (map p (chunk (from + 32) 16 xs)) → d ≡ mask_l (map p (chunk (from + 48) 16 xs))
    → a + 65536 * (b + 65536 * (c + 65536 * d)) ≡ mask_l (map p (chunk from 64 xs))
mask_of_four p from a b c d xs fits ea eb ec ed =
    let third : from + 16 + 16 ≡ from + 32 = omega arith in
    let fourth : from + 32 + 16 ≡ from + 48 = omega arith in
    let one = mask_step p from 48 xs (omega arith) in
    let two = mask_step p (from + 16) 32 xs (omega arith) ∙ ap (λ n. mask_l (map p (chunk (from + 16) 16 xs)) + 65536 * mask_l (map p (chunk n 32 xs))) third in
    let three = mask_step p (from + 32) 16 xs (omega arith) ∙ ap (λ n. mask_l (map p (chunk (from + 32) 16 xs)) + 65536 * mask_l (map p (chunk n 16 xs))) fourth in
    omega (arith, one, two, three, ea, eb, ec, ed)

-- ---- single bits

-- a bit of the mask of a block tells of its key
pub bit_of_mask : (p : ℕ → Bool) (keys : List ℕ) (from k : ℕ) → from + 64 ≤ length keys → k < 64 → bit_at (mask_l (map p (chunk from 64 keys))) k ≡ cond (p (get_or keys (from + k) 0)) 1 0
bit_of_mask p keys from k fits low =
    bit_mask_l (map p (chunk from 64 keys)) k
    ∙ ap (λ b. cond b 1 0) (get_or-map_within p (chunk from 64 keys) k (omega (arith, length-chunk from 64 keys fits)) ∙ ap p (get_or-chunk from 64 keys k 0 low))
  where
    get_or-map_within : (p : ℕ → Bool) (xs : List ℕ) (k : ℕ) → k < length xs → get_or (map p xs) k false ≡ p (get_or xs k 0)
    get_or-map_within p [] k h = absurd (omega arith)
    get_or-map_within p (x ∷ xs) zero h = refl
    get_or-map_within p (x ∷ xs) (suc k) h = get_or-map_within p xs k (omega arith)

and_bits : (a b : Bool) → min (cond a 1 0) (cond b 1 0) ≡ cond (a && b) 1 0
and_bits true true = refl
and_bits true false = refl
and_bits false true = refl
and_bits false false = refl

pub bit_of_both : (a b : Bool) (m n k : ℕ) → bit_at m k ≡ cond a 1 0 → bit_at n k ≡ cond b 1 0 → bit_at (bit_and m n) k ≡ cond (a && b) 1 0
bit_of_both a b m n k ea eb = bit_at_and m n k ∙ ap₂ min ea eb ∙ and_bits a b

-- the bits that are in both masks of the same keys
both_at : (p q : ℕ → Bool) (keys : List ℕ) (k : ℕ) → (get_or (map p keys) k false && get_or (map q keys) k false) ≡ get_or (map (λ key. p key && q key) keys) k false
both_at p q [] k = refl
both_at p q (key ∷ keys) zero = refl
both_at p q (key ∷ keys) (suc k) = both_at p q keys k

pub both_masks : (p q : ℕ → Bool) (keys : List ℕ) → bit_and (mask_l (map p keys)) (mask_l (map q keys)) ≡ mask_l (map (λ key. p key && q key) keys)
both_masks p q keys =
    same_from_bits (bit_and (mask_l (map p keys)) (mask_l (map q keys))) (mask_l (map (λ key. p key && q key) keys))
    (λ k. bit_of_both (get_or (map p keys) k false) (get_or (map q keys) k false) (mask_l (map p keys)) (mask_l (map q keys)) k (bit_mask_l (map p keys) k) (bit_mask_l (map q keys) k)
    ∙ ap (λ b. cond b 1 0) (both_at p q keys k)
    ∙ sym (bit_mask_l (map (λ key. p key && q key) keys) k))

-- a bit that tells of one bound alone, where the other bound is none
pub only_low : (b : Bool) (x high : ℕ) (n : ℕ) → x < 2 ^ 64 → high ≡ 2 ^ 64 - 1 → n ≡ cond b 1 0 → n ≡ cond (b && leb x high) 1 0
only_low true x high n small e h = grind (arith, nat_tests)
only_low false x high n small e h = h

pub only_high : (low x : ℕ) (b : Bool) (n : ℕ) → low ≡ 0 → n ≡ cond b 1 0 → n ≡ cond (leb low x && b) 1 0
only_high low x true n e h = grind (arith, nat_tests)
only_high low x false n e h = grind (arith, nat_tests)

-- a bit that tells of the one key of a range
pub only_one : (low x high : ℕ) (n : ℕ) → low ≡ high → n ≡ cond (x == low) 1 0 → n ≡ cond (leb low x && leb x high) 1 0
only_one low x high n e h = h ∙ ap (λ b. cond b 1 0) (grind (arith, nat_tests, e))
