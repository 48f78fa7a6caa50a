-- Bytes seen 16 at a time: a bit for each that passes a test, and how many stand in front of the first.
use Rattle.std.proofs.Common.{◌≡◌, ℕ, ◌+◌, ◌-◌, ◌%◌, ◌^◌, ◌<◌, ◌≤◌, ◌==◌, Bool, true, false, not, ◌||◌, cond, eqb, bit_or, List, [], ◌∷◌, ◌++◌, length, map, take, drop, get_or, replicate, refl, sym, ap, ap₂, subst, ◌∙◌, All, arith, take-append-drop}
use Rattle.std.proofs.lemmas.Bool.{not-false, not-true}
use Rattle.std.proofs.lemmas.List.{drop-drop, drop-take, get_or-take, length-map, length-take, take-take}
use Rattle.std.proofs.lemmas.List.Elements.{All-append, All-from_get_or}
use Rattle.std.proofs.lemmas.List.Sums.{prefix_len-le-length, prefix_len_passes, prefix_len_stops}
use Rattle.std.proofs.lemmas.Simd.{get_or-chunk, length-chunk, mask_l-mod, zip2_splat}
use Rattle.std.specs.List.{prefix_len}
use Rattle.hj_record.specs.Plain.{is_special}
use lib.Lanes.{chunk, mask_l, top, zip2}

abbrev hit : ℕ → ℕ → ℕ
hit a b = cond (eqb a b) 255 0

one_or_other : (a b : Bool) → bit_or (cond a 255 0) (cond b 255 0) ≡ cond (a || b) 255 0
one_or_other true true = refl
one_or_other true false = refl
one_or_other false true = refl
one_or_other false false = refl

either_lane : (p q : ℕ → Bool) (v : List ℕ) → zip2 bit_or (map (λ x. cond (p x) 255 0) v) (map (λ x. cond (q x) 255 0) v) ≡ map (λ x. cond (p x || q x) 255 0) v
either_lane p q [] = refl
either_lane p q (x ∷ v) = ap₂ (λ a l. a ∷ l) (one_or_other (p x) (q x)) (either_lane p q v)

either : (p q : ℕ → Bool) (v a b : List ℕ) → a ≡ map (λ x. cond (p x) 255 0) v → b ≡ map (λ x. cond (q x) 255 0) v → zip2 bit_or a b ≡ map (λ x. cond (p x || q x) 255 0) v
either p q v a b is also = ap₂ (zip2 bit_or) is also ∙ either_lane p q v

top_of : (b : Bool) → top 7 (cond b 255 0) ≡ b
top_of true = refl
top_of false = refl

tops : (p : ℕ → Bool) (v : List ℕ) → map (top 7) (map (λ x. cond (p x) 255 0) v) ≡ map p v
tops p [] = refl
tops p (x ∷ v) = ap₂ (λ a l. a ∷ l) (top_of (p x)) (tops p v)

masked : (p : ℕ → Bool) (v z : List ℕ) → length v ≤ 64 → z ≡ map (λ x. cond (p x) 255 0) v → mask_l (map (top 7) z) % 2 ^ 64 ≡ mask_l (map p v)
masked p v z few is =
    ap (λ l. mask_l (map (top 7) l) % 2 ^ 64) is ∙ ap (λ l. mask_l l % 2 ^ 64) (tops p v) ∙ mask_l-mod (map p v) 64 (omega (arith, length-map v p))

-- the mask of the lanes that are this byte, as the code makes it
pub one_byte : (v : List ℕ) (n byte : ℕ) → length v ≡ n → n ≤ 64 → mask_l (map (top 7) (zip2 hit v (replicate n byte))) % 2 ^ 64 ≡ mask_l (map (λ x. x == byte) v)
one_byte v n byte long few = masked (λ x. x == byte) v (zip2 hit v (replicate n byte)) (omega arith) (zip2_splat hit v n byte long)

-- the same of a comma, a quote, CR and LF
pub four_bytes : (v : List ℕ) (n : ℕ) → length v ≡ n → n ≤ 64
    → mask_l (map (top 7) (zip2 bit_or (zip2 bit_or (zip2 bit_or (zip2 hit v (replicate n 44)) (zip2 hit v (replicate n 34))) (zip2 hit v (replicate n 13))) (zip2 hit v (replicate n 10)))) % 2 ^ 64
    ≡ mask_l (map is_special v)
four_bytes v n long few =
    let commas = zip2_splat hit v n 44 long in
    let quotes = zip2_splat hit v n 34 long in
    let returns = zip2_splat hit v n 13 long in
    let feeds = zip2_splat hit v n 10 long in
    let two = either (λ x. x == 44) (λ x. x == 34) v _ _ commas quotes in
    let three = either (λ x. (x == 44) || (x == 34)) (λ x. x == 13) v _ _ two returns in
    masked is_special v _ (omega arith) (either (λ x. ((x == 44) || (x == 34)) || (x == 13)) (λ x. x == 10) v _ _ three feeds)

-- the bytes in front of the first that passes the test fail it
all_in_front : (p : ℕ → Bool) (xs : List ℕ) → All (λ b. p b ≡ false) (take (prefix_len (λ b. not (p b)) xs) xs)
all_in_front p xs =
    let n = prefix_len (λ b. not (p b)) xs in
    let before : (i : ℕ) → i < length (take n xs) → i < n = λ i within. omega (arith, within, length-take n xs) in
    All-from_get_or (λ b. p b ≡ false) (take n xs) 0 (λ i within.
    subst (λ b. p b ≡ false) (sym (get_or-take n xs i 0 (before i within))) (not-true _ (prefix_len_passes (λ b. not (p b)) xs i 0 (before i within))))

module _ (p : ℕ → Bool) (text : List ℕ) (at n ahead : ℕ) (room : at + n ≤ length text) (counted : ahead ≡ prefix_len (λ b. not (p b)) (chunk at n text)) where
  pub ahead_within : ahead ≤ n
  ahead_within = omega (arith, counted, prefix_len-le-length (λ b. not (p b)) (chunk at n text), length-chunk at n text room)

  pub ahead_fail : All (λ b. p b ≡ false) (take ahead (drop at text))
  ahead_fail =
      subst (All (λ b. p b ≡ false)) (ap (λ k. take k (chunk at n text)) (sym counted) ∙ take-take ahead n (drop at text) ahead_within) (all_in_front p (chunk at n text))

  pub ahead_stops : ahead < n → p (get_or text (at + ahead) 0) ≡ true
  ahead_stops some =
      let long = length-chunk at n text room in
      let stop = prefix_len_stops (λ b. not (p b)) (chunk at n text) 0 (omega (arith, counted, long)) in
      subst (λ b. p b ≡ true) (ap (λ k. get_or (chunk at n text) k 0) (sym counted) ∙ get_or-chunk at n text ahead 0 some) (not-false _ stop)

-- the first bytes are fewer of them, and some behind those
take_further : (text : List ℕ) (at more : ℕ) → take (at + more) text ≡ take at text ++ take more (drop at text)
take_further text at more =
    sym (take-append-drop at (take (at + more) text)) ∙ ap₂ (λ a b. a ++ b) (take-take at (at + more) text (omega arith)) (drop-take at more text)

pub all_further : (P : ℕ → Type 0) (text : List ℕ) (at more : ℕ) → All P (take at text) → All P (take more (drop at text)) → All P (take (at + more) text)
all_further P text at more so_far ahead = subst (All P) (sym (take_further text at more)) (All-append P (take at text) (take more (drop at text)) so_far ahead)

-- the same from a place on
pub all_further_from : (P : ℕ → Type 0) (text : List ℕ) (from at more : ℕ) → from ≤ at → All P (take (at - from) (drop from text)) → All P (take more (drop at text)) → All P (take (at + more - from) (drop from text))
all_further_from P text from at more within so_far ahead =
    let same : from + (at - from) ≡ at = omega arith in
    let count : at - from + more ≡ at + more - from = omega arith in
    let behind : drop (at - from) (drop from text) ≡ drop at text = drop-drop (at - from) from text ∙ ap (λ k. drop k text) same in
    subst (λ k. All P (take k (drop from text))) count
    (all_further P (drop from text) (at - from) more so_far (subst (λ l. All P (take more l)) (sym behind) ahead))
