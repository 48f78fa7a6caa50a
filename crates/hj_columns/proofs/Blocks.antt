-- The places of a block, by the bits of a mask.
use Rattle.std.proofs.Common.{◌≡◌, ℕ, ◌+◌, ◌-◌, ◌≤◌, ◌<◌, ◌^◌, Bool, true, false, nat_eq, nat_lt, suc, List, ◌++◌, append_assoc, take, drop, None, arith, refl, sym, ap, subst, ◌∙◌}
use Rattle.std.specs.Int.{bit_at, trailing_zeros, w64}
use Rattle.std.proofs.lemmas.Nat.Bits.{bit_at-trailing_zeros, bit_at-zero}
use Rattle.std.proofs.lemmas.Bool.{eqb-false, eqb-true, ltb-false, ltb-true}
use Rattle.std.proofs.lemmas.List.{append-nil}
use Rattle.hj_rows.proofs.Rows.{Places}
use Rattle.hj_columns.specs.declared.found_rows.FoundRows.{FoundRows}
use Rattle.hj_columns.specs.Probing.{as_partner, joined_at, partners_in, IsInOrder}
use Rattle.hj_columns.proofs.Finding.{partners-more, partners-skipped}

-- What a mask still names: some places of the block are done, and its bits below are 0; a place behind with bit 0 has no row that
-- passes.
pub record IsLeft {P : Type 0} (test : P → Bool) (es : Places P) (from : ℕ) (start : FoundRows P) (mask : ℕ) (found : FoundRows P) : Type 0 where
  pub done : ℕ
  pub few : done ≤ 64
  pub fits : mask < 2 ^ 64
  pub below : (k : ℕ) → k < done → bit_at mask k ≡ 0
  pub named : (k : ℕ) → k < 64 → done ≤ k → bit_at mask k ≡ 0 → joined_at test es (from + k) ≡ None
  pub partners : found.partners ≡ start.partners ++ partners_in test (take done (drop from es))
  pub order : IsInOrder start → IsInOrder found

not-above : (bit done set : ℕ) → set ≡ 1 → (bit < done → set ≡ 0) → done ≤ bit
not-above bit done set one zero = by (nat_lt bit done) refl
  where
    by : (b : Bool) → nat_lt bit done ≡ b → done ≤ bit
    by true h = let none = zero (ltb-true bit done h) in omega (arith, none)
    by false h = ltb-false bit done h

lower : (k bit next mask : ℕ) → k < bit + 1 → bit < 64 → bit_at next bit ≡ 0 → ((k : ℕ) → k < 64 → (k ≡ bit → ⊥) → bit_at next k ≡ bit_at mask k) → ((k : ℕ) → k < bit → bit_at mask k ≡ 0) → bit_at next k ≡ 0
lower k bit next mask h low cleared others unset = by (nat_eq k bit) refl
  where
    by : (b : Bool) → nat_eq k bit ≡ b → bit_at next k ≡ 0
    by true p = ap (bit_at next) (eqb-true k bit p) ∙ cleared
    by false p = others k (omega arith) (eqb-false k bit p) ∙ unset k (let apart = eqb-false k bit p in omega (arith, apart))

joined : {A : Type 0} (start done before after one : List A) → done ≡ before → after ≡ before ++ one → (start ++ done) ++ one ≡ start ++ after
joined start done before after one same more = append_assoc start done one ∙ ap (λ xs. start ++ xs) (ap (λ xs. xs ++ one) same ∙ sym more)

module _ {P : Type 0} (test : P → Bool) (es : Places P) (from : ℕ) (start : FoundRows P) where
  pub left-first : (mask : ℕ) → mask < 2 ^ 64 → ((k : ℕ) → k < 64 → bit_at mask k ≡ 0 → joined_at test es (from + k) ≡ None) → IsLeft test es from start mask start
  left-first mask fits named = record {
    done = 0;
    few = omega arith;
    fits = fits;
    below = λ k low. absurd (omega arith);
    named = λ k low high. named k low;
    partners = sym (append-nil start.partners);
    order = λ order. order;
  }

  -- the lowest bit of a mask
  lowest-new : (mask : ℕ) (found : FoundRows P) (left : IsLeft test es from start mask found) → 0 < mask → mask < 2 ^ 64 → left.done ≤ trailing_zeros w64 mask
  lowest-new mask found left some fits =
      let lowest = bit_at-trailing_zeros w64 mask some fits in
      by lowest.1 (λ h. left.below (trailing_zeros w64 mask) h)
    where
      by : bit_at mask (trailing_zeros w64 mask) ≡ 1 → (trailing_zeros w64 mask < left.done → bit_at mask (trailing_zeros w64 mask) ≡ 0) → left.done ≤ trailing_zeros w64 mask
      by set unset = not-above (trailing_zeros w64 mask) left.done (bit_at mask (trailing_zeros w64 mask)) set unset

  pub left-next : (mask next bit : ℕ) (found more : FoundRows P) → IsLeft test es from start mask found → 0 < mask → bit ≡ trailing_zeros w64 mask → next < mask
      → bit_at next bit ≡ 0 → ((k : ℕ) → k < 64 → (k ≡ bit → ⊥) → bit_at next k ≡ bit_at mask k)
      → more.partners ≡ found.partners ++ as_partner (joined_at test es (from + bit)) → (IsInOrder found → IsInOrder more)
      → IsLeft test es from start next more
  left-next mask next bit found more left some is falls cleared others adds keeps =
      let fits = left.fits in
      let lowest = bit_at-trailing_zeros w64 mask some fits in
      let low : bit < 64 = subst (λ n. n < 64) (sym is) lowest.0 in
      let new : left.done ≤ bit = subst (λ n. left.done ≤ n) (sym is) (lowest-new mask found left some fits) in
      let unset : (k : ℕ) → k < bit → bit_at mask k ≡ 0 = λ k h. lowest.2 k (subst (λ n. k < n) is h) in
      let whole : left.done + (bit - left.done) ≡ bit = omega arith in
      let skipped = partners-skipped test es from left.done (bit - left.done) (λ k high below. left.named k (omega arith) high (unset k (omega arith))) in
      record {
        done = bit + 1;
        few = omega arith;
        fits = omega (arith, falls, fits);
        below = λ k h. lower k bit next mask h low cleared others unset;
        named = λ k h high zero. left.named k h (omega arith) (sym (others k h (λ same. omega arith)) ∙ zero);
        partners =
            adds ∙ ap (λ ps. ps ++ as_partner (joined_at test es (from + bit))) left.partners
            ∙ joined start.partners (partners_in test (take left.done (drop from es))) (partners_in test (take bit (drop from es))) (partners_in test (take (bit + 1) (drop from es))) (as_partner (joined_at test es (from + bit)))
            (sym skipped ∙ ap (λ n. partners_in test (take n (drop from es))) whole)
            (ap (λ n. partners_in test (take n (drop from es))) (let e : bit + 1 ≡ suc bit = omega arith in e) ∙ partners-more test es from bit);
        order = λ order. keeps (left.order order);
      }

  -- at the end of a mask the whole block is done
  pub left-last : (mask : ℕ) (found : FoundRows P) → IsLeft test es from start mask found → mask ≡ 0 → found.partners ≡ start.partners ++ partners_in test (take 64 (drop from es))
  left-last mask found left none =
      let whole : left.done + (64 - left.done) ≡ 64 = let few = left.few in omega arith in
      let skipped = partners-skipped test es from left.done (64 - left.done) (λ k high below. left.named k (omega arith) high (ap (λ n. bit_at n k) none ∙ bit_at-zero k)) in
      left.partners ∙ ap (λ ps. start.partners ++ ps) (sym skipped ∙ ap (λ n. partners_in test (take n (drop from es))) whole)
