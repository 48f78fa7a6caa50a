-- The bounds of the keys whose number is near another one.
use Rattle.std.proofs.Common.{◌≡◌, ℕ, ◌^◌, ◌<◌, ◌≤◌, ℤ, pos, negsuc, ◌+ℤ◌, ◌-ℤ◌, ◌≤ℤ◌, ◌<ℤ◌, nat_abs, Bool, true, false, not, ◌&&◌, ltb, nat_eq, arith, refl, sym, ap, ◌∙◌, true≢false}
use Rattle.std.specs.declared.ops.Bound.TheVariants.{Included, Excluded}
use Rattle.std.specs.BTreeMap.Range.{is_from_start, is_past_end}
use Rattle.std.specs.Int.{w64}
use Rattle.std.specs.Ordering.{int_cmp, is_le, nat_cmp, ordering_then}
use Rattle.std.specs.Prelude.{FitsSigned}
use Rattle.std.proofs.lemmas.Bool.{eqb-false, ltb-true, ltb-false}
use Rattle.std.proofs.lemmas.Cmp.{by_ranked, int_ranked}
use Rattle.std.proofs.lemmas.Int.{ints}
use Rattle.hj_index.specs.OrderedIndex.{key_cmp, AreWithin, OrderedKey}

-- ---- numbers that are near

pub near_above : (a n : ℤ) (within : ℕ) → AreWithin within a n → (n -ℤ pos within) ≤ℤ a
near_above a n within near = by (a -ℤ n) refl near
  where
    by : (z : ℤ) → a -ℤ n ≡ z → nat_abs z ≤ within → (n -ℤ pos within) ≤ℤ a
    by (pos m) e h = omega (arith, ints)
    by (negsuc m) e h = omega (arith, ints)

pub near_below : (a n : ℤ) (within : ℕ) → AreWithin within a n → a ≤ℤ (n +ℤ pos within)
near_below a n within near = by (a -ℤ n) refl near
  where
    by : (z : ℤ) → a -ℤ n ≡ z → nat_abs z ≤ within → a ≤ℤ (n +ℤ pos within)
    by (pos m) e h = omega (arith, ints)
    by (negsuc m) e h = omega (arith, ints)

pub near_between : (a n : ℤ) (within : ℕ) → (n -ℤ pos within) ≤ℤ a → a ≤ℤ (n +ℤ pos within) → AreWithin within a n
near_between a n within above below = by (a -ℤ n) refl
  where
    by : (z : ℤ) → a -ℤ n ≡ z → nat_abs z ≤ within
    by (pos m) e = omega (arith, ints)
    by (negsuc m) e = omega (arith, ints)

-- where the number less `within` doesn't fit, all numbers that fit are above it
pub unbounded : (a n : ℤ) (within : ℕ) → FitsSigned w64 a → FitsSigned w64 n → (FitsSigned w64 (n -ℤ pos within) → ⊥) → (n -ℤ pos within) ≤ℤ a
unbounded a n within fits_a fits_n unfit = by (n -ℤ pos within) refl unfit
  where
    of_fit : (a : ℤ) (m : ℕ) → FitsSigned w64 a → 2 ^ 63 ≤ m → negsuc m ≤ℤ a
    of_fit (pos k) m fits far = omega (arith, ints)
    of_fit (negsuc k) m fits far = let small : k < 2 ^ 63 = fits.sfits in omega (arith, ints)

    above : (n : ℤ) (m : ℕ) → FitsSigned w64 n → n -ℤ pos within ≡ pos m → m < 2 ^ 63
    above (pos k) m fits e = let small : k < 2 ^ 63 = fits.sfits in omega (arith, ints)
    above (negsuc k) m fits e = omega (arith, ints)

    by : (z : ℤ) → n -ℤ pos within ≡ z → (FitsSigned w64 z → ⊥) → z ≤ℤ a
    by (pos m) e unfit = absurd (unfit (record { sfits = above n m fits_n e }))
    by (negsuc m) e unfit = of_fit a m fits_a (far (ltb m (2 ^ 63)) refl)
      where
        far : (b : Bool) → ltb m (2 ^ 63) ≡ b → 2 ^ 63 ≤ m
        far true p = absurd (unfit (record { sfits = ltb-true m (2 ^ 63) p }))
        far false p = ltb-false m (2 ^ 63) p

-- ---- keys inside a bound

least : (n : ℕ) → is_le (nat_cmp 0 n) ≡ true
least n = by (ltb 0 n) refl (nat_eq 0 n) refl
  where
    by : (a : Bool) → ltb 0 n ≡ a → (b : Bool) → nat_eq 0 n ≡ b → is_le (nat_cmp 0 n) ≡ true
    by true p b q = rw p refl
    by false p true q = rw (p, q) refl
    by false p false q = absurd (eqb-false 0 n q (omega (arith, ltb-false 0 n p)))

pub from_start : (low : ℤ) (key : OrderedKey) → low ≤ℤ key.0 → is_from_start key_cmp (Included (low, 0)) key ≡ true
from_start low key above =
    by_ranked (low <ℤ key.0) (low ≡ key.0) (key.0 <ℤ low) (int_cmp low key.0) (int_ranked low key.0 (int_cmp low key.0) refl)
    (λ e h. ap (λ o. is_le (ordering_then o (nat_cmp 0 key.1))) e)
    (λ e h. ap (λ o. is_le (ordering_then o (nat_cmp 0 key.1))) e ∙ least key.1)
    (λ e h. absurd (omega (arith, ints)))

pub start_above : (low : ℤ) (key : OrderedKey) → is_from_start key_cmp (Included (low, 0)) key ≡ true → low ≤ℤ key.0
start_above low key inside =
    by_ranked (low <ℤ key.0) (low ≡ key.0) (key.0 <ℤ low) (int_cmp low key.0) (int_ranked low key.0 (int_cmp low key.0) refl)
    (λ e h. omega (arith, ints))
    (λ e h. omega (arith, ints))
    (λ e h. absurd (true≢false (sym inside ∙ ap (λ o. is_le (ordering_then o (nat_cmp 0 key.1))) e)))

pub before_end : (end : ℤ) (key : OrderedKey) → key.0 <ℤ end → is_past_end key_cmp (Excluded (end, 0)) key ≡ false
before_end end key below =
    by_ranked (end <ℤ key.0) (end ≡ key.0) (key.0 <ℤ end) (int_cmp end key.0) (int_ranked end key.0 (int_cmp end key.0) refl)
    (λ e h. absurd (omega (arith, ints)))
    (λ e h. absurd (omega (arith, ints)))
    (λ e h. ap (λ o. is_le (ordering_then o (nat_cmp 0 key.1))) e)

pub end_above : (end : ℤ) (key : OrderedKey) → is_past_end key_cmp (Excluded (end, 0)) key ≡ false → key.0 <ℤ end
end_above end key inside =
    by_ranked (end <ℤ key.0) (end ≡ key.0) (key.0 <ℤ end) (int_cmp end key.0) (int_ranked end key.0 (int_cmp end key.0) refl)
    (λ e h. absurd (true≢false (sym (ap (λ o. is_le (ordering_then o (nat_cmp 0 key.1))) e) ∙ inside)))
    (λ e h. absurd (true≢false (sym (ap (λ o. is_le (ordering_then o (nat_cmp 0 key.1))) e ∙ least key.1) ∙ inside)))
    (λ e h. h)

pub both : (a b : Bool) → a ≡ true → b ≡ false → (a && not b) ≡ true
both true true e f = absurd (true≢false f)
both true false e f = refl
both false b e f = absurd (true≢false (sym e))

pub parts : (a b : Bool) → (a && not b) ≡ true → (a ≡ true) × (b ≡ false)
parts true true e = absurd (true≢false (sym e))
parts true false e = (refl, refl)
parts false b e = absurd (true≢false (sym e))
