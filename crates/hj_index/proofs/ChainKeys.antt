-- The last place of a key among places, as places are added behind, taken from the front, or cut off.
use Rattle.std.proofs.Common.{◌≡◌, ℕ, zero, suc, ◌-◌, ◌≤◌, Bool, true, false, cond, List, [], ◌∷◌, ◌++◌, Some, Option, length, take, slice_get, map, arith, refl, sym, ap, ◌∙◌}
use Rattle.hj_index.specs.declared.chains.RowPlace.{RowPlace}
use Rattle.hj_index.specs.KeyChains.{counted_on, has_key, last_place}

pub last-popped : (key : ℕ) (place : RowPlace) (places : List RowPlace) → last_place key (place ∷ places) - 1 ≡ last_place key places
last-popped key place places = by (has_key key place) (last_place key places)
  where
    by : (b : Bool) (n : ℕ) → counted_on b n - 1 ≡ n
    by true zero = refl
    by false zero = refl
    by b (suc n) = omega arith

pub last-pushed : (key : ℕ) (places : List RowPlace) (place : RowPlace) → last_place key (places ++ place ∷ []) ≡ cond (has_key key place) (suc (length places)) (last_place key places)
last-pushed key [] place = by (has_key key place)
  where
    by : (b : Bool) → counted_on b 0 ≡ cond b 1 0
    by true = refl
    by false = refl
last-pushed key (first ∷ places) place = ap (counted_on (has_key key first)) (last-pushed key places place) ∙ by (has_key key place)
  where
    by : (b : Bool) → counted_on (has_key key first) (cond b (suc (length places)) (last_place key places)) ≡ cond b (suc (suc (length places))) (counted_on (has_key key first) (last_place key places))
    by true = refl
    by false = refl

pub last-cut : (key at : ℕ) (places : List RowPlace) → last_place key (take at places) ≤ at
last-cut key zero places = omega arith
last-cut key (suc at) [] = omega arith
last-cut key (suc at) (place ∷ places) = by (has_key key place) (last_place key (take at places)) (last-cut key at places)
  where
    by : (b : Bool) (n : ℕ) → n ≤ at → counted_on b n ≤ suc at
    by true zero h = omega arith
    by false zero h = omega arith
    by b (suc n) h = omega (arith, h)

-- where the last place is behind all that went before, it has the key
pub last-there : (key at : ℕ) (places : List RowPlace) → last_place key (take (suc at) places) ≡ suc at → (place : RowPlace) × (slice_get places at ≡ Some place) × (has_key key place ≡ true)
last-there key at [] e = absurd cc
last-there key zero (place ∷ places) e = by (has_key key place) refl e
  where
    by : (b : Bool) → has_key key place ≡ b → counted_on b 0 ≡ 1 → (found : RowPlace) × (slice_get (place ∷ places) 0 ≡ Some found) × (has_key key found ≡ true)
    by true h e = (place, refl, h)
    by false h e = absurd (omega (arith, e))
last-there key (suc at) (place ∷ places) e = last-there key at places (by (has_key key place) (last_place key (take (suc at) places)) e)
  where
    by : (b : Bool) (n : ℕ) → counted_on b n ≡ suc (suc at) → n ≡ suc at
    by true zero e = absurd (omega (arith, e))
    by false zero e = absurd (omega (arith, e))
    by b (suc n) e = omega (arith, e)

-- up to the last place, it stays the last
pub last-again : (key : ℕ) (places : List RowPlace) → last_place key (take (last_place key places) places) ≡ last_place key places
last-again key [] = refl
last-again key (place ∷ places) = by (has_key key place) refl (last_place key places) refl (last-again key places)
  where
    by : (b : Bool) → has_key key place ≡ b → (n : ℕ) → last_place key places ≡ n → last_place key (take (last_place key places) places) ≡ last_place key places
        → last_place key (take (counted_on b n) (place ∷ places)) ≡ counted_on b n
    by true h zero e again = rw h refl
    by false h zero e again = refl
    by b h (suc n) e again = rw h (ap (counted_on b) (sym (ap (λ m. last_place key (take m places)) e) ∙ (again ∙ e)))

pub last-again-cut : (key at : ℕ) (places : List RowPlace) → last_place key (take (last_place key (take at places)) places) ≡ last_place key (take at places)
last-again-cut key zero places = refl
last-again-cut key (suc at) [] = refl
last-again-cut key (suc at) (place ∷ places) = by (has_key key place) refl (last_place key (take at places)) refl (last-again-cut key at places)
  where
    by : (b : Bool) → has_key key place ≡ b → (n : ℕ) → last_place key (take at places) ≡ n → last_place key (take (last_place key (take at places)) places) ≡ last_place key (take at places)
        → last_place key (take (counted_on b n) (place ∷ places)) ≡ counted_on b n
    by true h zero e again = rw h refl
    by false h zero e again = refl
    by b h (suc n) e again = rw h (ap (counted_on b) (sym (ap (λ m. last_place key (take m places)) e) ∙ (again ∙ e)))

-- ---- places that have the keys of others

abbrev pub key_list : List RowPlace → List (Option ℕ)
key_list places = map (λ (place : RowPlace). place.key) places

pub same-keys : (key : ℕ) (places others : List RowPlace) → key_list others ≡ key_list places
    → last_place key others ≡ last_place key places
same-keys key [] [] e = refl
same-keys key [] (other ∷ others) e = absurd cc
same-keys key (place ∷ places) [] e = absurd cc
same-keys key (place ∷ places) (other ∷ others) e =
    let first : other.key ≡ place.key = cc in
    let rest : key_list others ≡ key_list places = cc in
    rw (first, same-keys key places others rest) refl
