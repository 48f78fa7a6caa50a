-- Where the row of a number stands.
use Rattle.std.proofs.Common.{◌≡◌, ℕ, zero, suc, ◌+◌, ◌≤◌, ◌<◌, Bool, true, false, cond, nat_eq, ltb, ◌&&◌, List, [], ◌∷◌, None, Some, Option, option_map, is_some, length, get_or, slice_get, arith, refl, sym, ap, subst, ◌∙◌, true≢false}
use Rattle.std.specs.Cmp.{nat_eq_equiv}
use Rattle.std.specs.declared.cmp.Ordering.TheVariants.{Less, Equal, Greater}
use Rattle.std.specs.List.{list_any, position, position_or_len, AllWithin}
use Rattle.std.specs.List.Sorted.{IsNonDecreasingBy}
use Rattle.std.specs.Ordering.{nat_cmp, ordering_index}
use Rattle.std.proofs.lemmas.Bool.{ltb-true, ltb-false, eqb-true, or_parts, or_from}
use Rattle.std.proofs.lemmas.Option.{get_or_from_slice_get, slice_get-get_or, slice_get_within}
use Rattle.std.proofs.lemmas.List.Sums.{fails_before_first, passes_at_first}
use Rattle.hj_value.specs.declared.field.Field.{Field}
use Rattle.hj_msg.specs.Store.{holds}
use Rattle.hj_rows.specs.declared.place.RestingRow.{RestingRow}
use Rattle.hj_index.specs.declared.chains.RowPlace.{RowPlace}
use Rattle.hj_index.specs.KeyChains.{is_row, rows_at, FindsRow, IsAscending}

abbrev pub has_number : ℕ → RowPlace → Bool
has_number n place = nat_eq place.no n

-- where no place has the number, none holds its row
pub placeless : (n : ℕ) (places : List RowPlace) → list_any (has_number n) places ≡ false → holds n (rows_at places) ≡ false
placeless n [] h = refl
placeless n (place ∷ places) h = let parts = or_parts (nat_eq place.no n) (list_any (has_number n) places) h in by place.rest refl parts.0 (placeless n places parts.1)
  where
    by : (rest : Option (RestingRow (List Field))) → place.rest ≡ rest → nat_eq place.no n ≡ false → holds n (rows_at places) ≡ false → holds n (rows_at (place ∷ places)) ≡ false
    by None is other later = rw is later
    by (Some rest) is other later = rw is (or_from (nat_eq place.no n) (holds n (rows_at places)) other later)

pub rowless : (n : ℕ) (places : List RowPlace) → list_any (is_row n) places ≡ false → holds n (rows_at places) ≡ false
rowless n [] h = refl
rowless n (place ∷ places) h = let parts = or_parts (is_row n place) (list_any (is_row n) places) h in by place.rest refl parts.0 (rowless n places parts.1)
  where
    by : (rest : Option (RestingRow (List Field))) → place.rest ≡ rest → is_row n place ≡ false → holds n (rows_at places) ≡ false → holds n (rows_at (place ∷ places)) ≡ false
    by None is other later = rw is later
    by (Some rest) is other later = rw is (or_from (nat_eq place.no n) (holds n (rows_at places)) (whole (nat_eq place.no n) (is_some place.rest) (ap is_some is) other) later)
      where
        whole : (a b : Bool) → b ≡ true → (a && b) ≡ false → a ≡ false
        whole true b e f = absurd (true≢false (sym e ∙ f))
        whole false b e f = refl

-- numbers above one are other numbers
pub higher-absent : (n low : ℕ) (places : List RowPlace) → n < low → IsAscending low places → list_any (has_number n) places ≡ false
higher-absent n low [] lower up = refl
higher-absent n low (place ∷ places) lower up = or_from (nat_eq place.no n) (list_any (has_number n) places) (by (nat_eq place.no n) refl) (higher-absent n (place.no + 1) places (omega (arith, lower, up.0)) up.1)
  where
    by : (b : Bool) → nat_eq place.no n ≡ b → nat_eq place.no n ≡ false
    by true e = absurd (omega (arith, lower, up.0, eqb-true place.no n e))
    by false e = e

-- the only place of a number is empty
pub empty-absent : (n low at : ℕ) (places : List RowPlace) (place : RowPlace) → IsAscending low places → slice_get places at ≡ Some place → place.no ≡ n → is_some place.rest ≡ false → holds n (rows_at places) ≡ false
empty-absent n low at [] place up e numbered none = absurd cc
empty-absent n low zero (first ∷ places) place up e numbered none = by first.rest refl
  where
    same : first ≡ place
    same = cc

    by : (rest : Option (RestingRow (List Field))) → first.rest ≡ rest → holds n (rows_at (first ∷ places)) ≡ false
    by None is = rw is (placeless n places (higher-absent n (first.no + 1) places (omega (arith, ap (λ (p : RowPlace). p.no) same, numbered)) up.1))
    by (Some rest) is = absurd (true≢false (sym (ap is_some is) ∙ (ap (λ (p : RowPlace). is_some p.rest) same ∙ none)))
empty-absent n low (suc at) (first ∷ places) place up e numbered none = by first.rest refl (empty-absent n (first.no + 1) at places place up.1 e numbered none)
  where
    -- its number is above the first one
    above : (low at : ℕ) (places : List RowPlace) → IsAscending low places → slice_get places at ≡ Some place → low ≤ place.no
    above low at [] up e = absurd cc
    above low zero (next ∷ places) up e = let same : next ≡ place = cc in omega (arith, up.0, ap (λ (p : RowPlace). p.no) same)
    above low (suc at) (next ∷ places) up e = omega (arith, up.0, above (next.no + 1) at places up.1 e)

    other : nat_eq first.no n ≡ false
    other = apart (nat_eq first.no n) refl
      where
        apart : (b : Bool) → nat_eq first.no n ≡ b → nat_eq first.no n ≡ false
        apart true e' = absurd (omega (arith, above (first.no + 1) at places up.1 e, numbered, eqb-true first.no n e'))
        apart false e' = e'

    by : (rest : Option (RestingRow (List Field))) → first.rest ≡ rest → holds n (rows_at places) ≡ false → holds n (rows_at (first ∷ places)) ≡ false
    by None is later = rw is later
    by (Some rest) is later = rw is (or_from (nat_eq first.no n) (holds n (rows_at places)) other later)

-- ---- a search by halves

-- numbers that ascend, by index
rising : (low : ℕ) (places : List RowPlace) → IsAscending low places → (i j : ℕ) (d : RowPlace) → i ≤ j → j < length places → (low ≤ (get_or places i d).no) × ((get_or places i d).no ≤ (get_or places j d).no)
rising low [] up i j d le within = absurd (omega (arith, within))
rising low (place ∷ places) up zero zero d le within = (up.0, omega arith)
rising low (place ∷ places) up zero (suc j) d le within = let later = rising (place.no + 1) places up.1 j j d (omega arith) (omega (arith, within)) in (up.0, omega (arith, later.0))
rising low (place ∷ places) up (suc i) zero d le within = absurd (omega (arith, le))
rising low (place ∷ places) up (suc i) (suc j) d le within = let later = rising (place.no + 1) places up.1 i j d (omega (arith, le)) (omega (arith, within)) in (omega (arith, up.0, later.0), later.1)

index-rises : (m k n : ℕ) → m ≤ k → ordering_index (nat_cmp m n) ≤ ordering_index (nat_cmp k n)
index-rises m k n le = by (ltb m n) (nat_eq m n) (ltb k n) (nat_eq k n) refl refl refl refl
  where
    by : (a b c d : Bool) → ltb m n ≡ a → nat_eq m n ≡ b → ltb k n ≡ c → nat_eq k n ≡ d → ordering_index (nat_cmp m n) ≤ ordering_index (nat_cmp k n)
    by true b true d p q r s = rw (p, r) (omega arith)
    by true b false true p q r s = rw (p, r, s) (omega arith)
    by true b false false p q r s = rw (p, r, s) (omega arith)
    by false true true d p q r s = absurd (omega (arith, le, ltb-false m n p, ltb-true k n r))
    by false true false true p q r s = rw (p, q, r, s) (omega arith)
    by false true false false p q r s = rw (p, q, r, s) (omega arith)
    by false false true d p q r s = absurd (omega (arith, le, ltb-false m n p, ltb-true k n r))
    by false false false true p q r s = absurd (by-order (ltb-false m n p) q (eqb-true k n s))
      where
        by-order : n ≤ m → nat_eq m n ≡ false → k ≡ n → ⊥
        by-order above other same = true≢false (sym (ap (λ x. nat_eq x n) (let e : m ≡ n = omega (arith, above, le, same) in e) ∙ nat_eq_equiv.refl n) ∙ other)
    by false false false false p q r s = rw (p, q, r, s) (omega arith)

pub search-rises : (n : ℕ) (places : List RowPlace) → IsAscending 0 places → IsNonDecreasingBy (λ (place : RowPlace). ordering_index (nat_cmp place.no n)) places
search-rises n places up i j d le within = index-rises (get_or places i d).no (get_or places j d).no n (rising 0 places up i j d le within).1

unequal : (m n : ℕ) → (nat_cmp m n ≡ Equal → ⊥) → nat_eq m n ≡ false
unequal m n not_equal = by (ltb m n) (nat_eq m n) refl refl
  where
    by : (a b : Bool) → ltb m n ≡ a → nat_eq m n ≡ b → nat_eq m n ≡ false
    by a false p q = q
    by true true p q = absurd (omega (arith, ltb-true m n p, eqb-true m n q))
    by false true p q = absurd (not_equal (rw (p, q) refl))

-- where each place before an index is less, and each from it on greater, no place is equal
pub search-misses : (n i : ℕ) (places : List RowPlace) → AllWithin (λ (place : RowPlace). nat_cmp place.no n ≡ Less) places 0 i → AllWithin (λ (place : RowPlace). nat_cmp place.no n ≡ Greater) places i (length places) → list_any (has_number n) places ≡ false
search-misses n i places less greater = none places (λ at d within. by at d within (ltb at i) refl)
  where
    by : (at : ℕ) (d : RowPlace) → at < length places → (b : Bool) → ltb at i ≡ b → nat_eq (get_or places at d).no n ≡ false
    by at d within true e = unequal (get_or places at d).no n (λ equal. let bad : Less ≡ Equal = sym (less at d (omega arith) (ltb-true at i e)) ∙ equal in cc)
    by at d within false e = unequal (get_or places at d).no n (λ equal. let bad : Greater ≡ Equal = sym (greater at d (ltb-false at i e) within) ∙ equal in cc)

    none : (places : List RowPlace) → ((at : ℕ) (d : RowPlace) → at < length places → nat_eq (get_or places at d).no n ≡ false) → list_any (has_number n) places ≡ false
    none [] h = refl
    none (place ∷ places) h = or_from (nat_eq place.no n) (list_any (has_number n) places) (h 0 place (omega arith)) (none places (λ at d within. h (suc at) d (omega (arith, within))))

pub equal-number : (m n : ℕ) → nat_cmp m n ≡ Equal → m ≡ n
equal-number m n e = by (ltb m n) (nat_eq m n) refl refl
  where
    by : (a b : Bool) → ltb m n ≡ a → nat_eq m n ≡ b → m ≡ n
    by a true p q = eqb-true m n q
    by true false p q = absurd (let bad : Less ≡ Equal = rw p at e in cc)
    by false false p q = absurd (let bad : Greater ≡ Equal = rw (p, q) at e in cc)

pub search-hits : (n i : ℕ) (places : List RowPlace) → i < length places → ((d : RowPlace) → nat_cmp (get_or places i d).no n ≡ Equal) → option_map (λ (place : RowPlace). place.no) (slice_get places i) ≡ Some n
search-hits n i [] within e = absurd (omega (arith, within))
search-hits n i (place ∷ places) within e = ap (option_map (λ (place : RowPlace). place.no)) (slice_get-get_or (place ∷ places) i place within) ∙ ap Some (equal-number (get_or (place ∷ places) i place).no n (e place))

-- ---- the first place

pub greater-number : (m n : ℕ) → nat_cmp m n ≡ Greater → n < m
greater-number m n e = by (ltb m n) (nat_eq m n) refl refl
  where
    by : (a b : Bool) → ltb m n ≡ a → nat_eq m n ≡ b → n < m
    by true b p q = absurd (let bad : Less ≡ Greater = rw p at e in cc)
    by false true p q = absurd (let bad : Equal ≡ Greater = rw (p, q) at e in cc)
    by false false p q = above (ltb n m) refl
      where
        above : (c : Bool) → ltb n m ≡ c → n < m
        above true r = ltb-true n m r
        above false r = absurd (true≢false (sym (ap (λ k. nat_eq k n) (let same : m ≡ n = omega (arith, ltb-false m n p, ltb-false n m r) in same) ∙ nat_eq_equiv.refl n) ∙ q))

pub lower-absent : (n : ℕ) (places : List RowPlace) (first : RowPlace) → IsAscending 0 places → slice_get places 0 ≡ Some first → n < first.no → list_any (has_number n) places ≡ false
lower-absent n [] first up e lower = refl
lower-absent n (place ∷ places) first up e lower =
    let same : place ≡ first = cc in
    let less : n < place.no = subst (λ (p : RowPlace). n < p.no) (sym same) lower in
    higher-absent n place.no (place ∷ places) less (omega arith, up.1)

-- ---- one place after another

any-none : (test : RowPlace → Bool) (places : List RowPlace) → ((at : ℕ) (d : RowPlace) → at < length places → test (get_or places at d) ≡ false) → list_any test places ≡ false
any-none test [] h = refl
any-none test (place ∷ places) h = or_from (test place) (list_any test places) (h 0 place (omega arith)) (any-none test places (λ at d within. h (suc at) d (omega (arith, within))))

pub position-finds : (n : ℕ) (places : List RowPlace) → FindsRow n places (position (is_row n) places)
position-finds n places = by (ltb (position_or_len (is_row n) places) (length places)) refl
  where
    some : (places : List RowPlace) → position_or_len (is_row n) places < length places → option_map (is_row n) (slice_get places (position_or_len (is_row n) places)) ≡ Some true
    some [] within = absurd (omega (arith, within))
    some (place ∷ places) within =
        ap (option_map (is_row n)) (slice_get-get_or (place ∷ places) (position_or_len (is_row n) (place ∷ places)) place within) ∙ ap Some (passes_at_first (is_row n) (place ∷ places) place within)

    by : (b : Bool) → ltb (position_or_len (is_row n) places) (length places) ≡ b → FindsRow n places (cond b (Some (position_or_len (is_row n) places)) None)
    by true e = some places (ltb-true (position_or_len (is_row n) places) (length places) e)
    by false e = rowless n places (any-none (is_row n) places (λ k d within. fails_before_first (is_row n) places k d (omega (arith, within, ltb-false (position_or_len (is_row n) places) (length places) e))))

pub read-number : (n at : ℕ) (places : List RowPlace) (place : RowPlace) → option_map (λ (place : RowPlace). place.no) (slice_get places at) ≡ Some n → place ≡ get_or places at place → (slice_get places at ≡ Some place) × (place.no ≡ n) × (at < length places)
read-number n at places place found value = by (slice_get places at) refl found
  where
    by : (other : Option RowPlace) → slice_get places at ≡ other → option_map (λ (place : RowPlace). place.no) other ≡ Some n → (slice_get places at ≡ Some place) × (place.no ≡ n) × (at < length places)
    by None e h = absurd cc
    by (Some other) e h =
        let same : place ≡ other = value ∙ get_or_from_slice_get places at other place e in
        let number : other.no ≡ n = cc in
        (e ∙ ap Some (sym same), ap (λ (p : RowPlace). p.no) same ∙ number, slice_get_within places at other e)

pub number-within : (n at : ℕ) (places : List RowPlace) → option_map (λ (place : RowPlace). place.no) (slice_get places at) ≡ Some n → at < length places
number-within n at places found = by (slice_get places at) refl found
  where
    by : (other : Option RowPlace) → slice_get places at ≡ other → option_map (λ (place : RowPlace). place.no) other ≡ Some n
        → at < length places
    by None e h = absurd cc
    by (Some other) e h = slice_get_within places at other e

-- a place of the number that isn't empty holds its row
pub number-row : (n at : ℕ) (places : List RowPlace) (place : RowPlace) → slice_get places at ≡ Some place → place.no ≡ n → is_some place.rest ≡ true → option_map (is_row n) (slice_get places at) ≡ Some true
number-row n at places place found numbered some = ap (option_map (is_row n)) found ∙ ap Some (both (nat_eq place.no n) (is_some place.rest) (ap (λ k. nat_eq k n) numbered ∙ nat_eq_equiv.refl n) some)
  where
    both : (a b : Bool) → a ≡ true → b ≡ true → (a && b) ≡ true
    both true b e f = f
    both false b e f = absurd cc
