-- Lists that are looked over from one element to the next, for those that pass a test.
use Rattle.std.proofs.Common.{◌≡◌, ℕ, zero, suc, ◌+◌, ◌-◌, ◌<◌, ◌≤◌, Bool, true, false, cond, List, [], ◌∷◌, ◌++◌, length, take, drop, filter, Some, None, Option, refl, ap, sym, ◌∙◌, subst, arith, append-nil, ap₂}
use Rattle.std.specs.List.{slice_get}
use Rattle.std.proofs.lemmas.List.Elements.{filter-append}
use Rattle.hj_chain.specs.Serial.{from_there_on}

pub take-at : {X : Type 0} (xs : List X) (i : ℕ) (x : X) → slice_get xs i ≡ Some x → (j : ℕ) → j ≡ i + 1 → take j xs ≡ take i xs ++ x ∷ []
take-at [] i x is j next = absurd (cc)
take-at (y ∷ ys) zero x is (suc zero) next = let same : y ≡ x = cc in ap (λ z. z ∷ []) same
take-at (y ∷ ys) zero x is zero next = absurd (omega (arith, next))
take-at (y ∷ ys) zero x is (suc (suc j)) next = absurd (omega (arith, next))
take-at (y ∷ ys) (suc i) x is zero next = absurd (omega (arith, next))
take-at (y ∷ ys) (suc i) x is (suc j) next = ap (λ l. y ∷ l) (take-at ys i x is j (omega (arith, next)))

pub take-whole : {X : Type 0} (xs : List X) (i : ℕ) → length xs ≤ i → take i xs ≡ xs
take-whole [] zero low = refl
take-whole [] (suc i) low = refl
take-whole (x ∷ xs) zero low = absurd (omega (arith, low))
take-whole (x ∷ xs) (suc i) low = ap (λ l. x ∷ l) (take-whole xs i (omega (arith, low)))

pub at-dropped : {X : Type 0} (xs : List X) (from i j : ℕ) → i ≡ from + j → slice_get (drop from xs) j ≡ slice_get xs i
at-dropped xs zero i j is = ap (slice_get xs) (omega (arith, is))
at-dropped [] (suc from) i j is = refl
at-dropped (x ∷ xs) (suc from) zero j is = absurd (omega (arith, is))
at-dropped (x ∷ xs) (suc from) (suc i) j is = at-dropped xs from i j (omega (arith, is))

-- without its first element, a list from a place on, all the way round
pub turned : {X : Type 0} (x : X) (xs : List X) (place from : ℕ) → from ≡ (place - 1) + 1 → drop from (x ∷ xs) ++ take (from - 1) (drop 1 (x ∷ xs)) ≡ from_there_on (place - 1) xs
turned x xs place zero is = absurd (omega (arith, is))
turned {X} x xs place (suc from) is =
    let same : from ≡ place - 1 = omega (arith, is) in
    let less : suc from - 1 ≡ place - 1 = omega (arith, is) in
    ap₂ (λ (j k : ℕ). drop j xs ++ take k xs) same less

-- where one thing is said of an answer and another one seen, the two are the same
pub seen-so : {X : Type 0} (answer said seen : X) → answer ≡ said → answer ≡ seen → said ≡ seen
seen-so answer said seen is was = sym is ∙ was

module _ {X : Type 0} (test : X → Bool) where
  single : (x : X) (b : Bool) → test x ≡ b → filter test (x ∷ []) ≡ cond b (x ∷ []) []
  single x b is = ap (λ c. cond c (x ∷ []) []) is

  -- one element more is looked at
  pub one-more : (xs : List X) (i : ℕ) (x : X) → slice_get xs i ≡ Some x → test x ≡ true → (j : ℕ) → j ≡ i + 1 → filter test (take j xs) ≡ filter test (take i xs) ++ x ∷ []
  one-more xs i x is passes j next = ap (filter test) (take-at xs i x is j next) ∙ filter-append test (take i xs) (x ∷ []) ∙ ap (λ l. filter test (take i xs) ++ l) (single x true passes)

  pub none-more : (xs : List X) (i : ℕ) (x : X) → slice_get xs i ≡ Some x → test x ≡ false → (j : ℕ) → j ≡ i + 1 → filter test (take j xs) ≡ filter test (take i xs)
  none-more xs i x is fails j next =
      ap (filter test) (take-at xs i x is j next) ∙ filter-append test (take i xs) (x ∷ []) ∙ ap (λ l. filter test (take i xs) ++ l) (single x false fails) ∙ append-nil (filter test (take i xs))

  -- the element that passes stands behind those in front of it that do
  pub found : (xs : List X) (i : ℕ) (x : X) → slice_get xs i ≡ Some x → test x ≡ true → (m : ℕ) → i < m → slice_get (filter test (take m xs)) (length (filter test (take i xs))) ≡ Some x
  found [] i x is passes m low = absurd (cc)
  found (y ∷ ys) i x is passes zero low = absurd (omega (arith, low))
  found (y ∷ ys) zero x is passes (suc m) low =
      let same : y ≡ x = cc in
      ap (λ b. slice_get (cond b (y ∷ filter test (take m ys)) (filter test (take m ys))) 0) (ap test same ∙ passes) ∙ ap Some same
  found (y ∷ ys) (suc i) x is passes (suc m) low = step (test y) (found ys i x is passes m (omega (arith, low)))
    where
      step : (b : Bool) → slice_get (filter test (take m ys)) (length (filter test (take i ys))) ≡ Some x
          → slice_get (cond b (y ∷ filter test (take m ys)) (filter test (take m ys))) (length (cond b (y ∷ filter test (take i ys)) (filter test (take i ys)))) ≡ Some x
      step true deeper = deeper
      step false deeper = deeper

  -- it is the first one where none in front of it passes
  pub found-first : (xs : List X) (i : ℕ) (x : X) → slice_get xs i ≡ Some x → test x ≡ true → filter test (take i xs) ≡ [] → (m : ℕ) → i < m → Some x ≡ slice_get (filter test (take m xs)) 0
  found-first xs i x is passes none m low = sym (subst (λ (k : ℕ). slice_get (filter test (take m xs)) k ≡ Some x) (ap length none) (found xs i x is passes m low))

  -- where all were looked at, those that passed are all that pass
  pub passed-all : (xs : List X) (i count : ℕ) → length xs ≤ i → count ≡ length (filter test (take i xs)) → count ≡ length (filter test xs)
  passed-all xs i count low is = is ∙ ap (λ l. length (filter test l)) (take-whole xs i low)

  -- of two lists one behind the other the first that passes is that of the front, if there is one
  pub first-of-both : (xs ys : List X) → slice_get (filter test xs) 0 ≡ None → slice_get (filter test (xs ++ ys)) 0 ≡ slice_get (filter test ys) 0
  first-of-both xs ys none = ap (λ l. slice_get l 0) (filter-append test xs ys) ∙ behind (filter test xs) none
    where
      behind : (l : List X) → slice_get l 0 ≡ None → slice_get (l ++ filter test ys) 0 ≡ slice_get (filter test ys) 0
      behind [] none = refl
      behind (x ∷ l) none = absurd (cc)

  pub first-of-front : (xs ys : List X) (x : X) → slice_get (filter test xs) 0 ≡ Some x → slice_get (filter test (xs ++ ys)) 0 ≡ Some x
  first-of-front xs ys x some = ap (λ l. slice_get l 0) (filter-append test xs ys) ∙ front (filter test xs) some
    where
      front : (l : List X) → slice_get l 0 ≡ Some x → slice_get (l ++ filter test ys) 0 ≡ Some x
      front [] some = absurd (cc)
      front (y ∷ l) some = some

  -- `front` is the front list as it was looked over, and `first` the first that passes there
  pub first-round : (front xs ys : List X) (first o : Option X) → front ≡ xs → first ≡ slice_get (filter test front) 0 → first ≡ None → o ≡ slice_get (filter test ys) 0 → o ≡ slice_get (filter test (xs ++ ys)) 0
  first-round front xs ys first o same found none is = is ∙ sym (first-of-both xs ys (ap (λ l. slice_get (filter test l) 0) (sym same) ∙ sym found ∙ none))

  pub first-behind : (front xs ys : List X) (first : Option X) → front ≡ xs → first ≡ slice_get (filter test front) 0 → (first ≡ None → ⊥) → first ≡ slice_get (filter test (xs ++ ys)) 0
  first-behind front xs ys None same found some = absurd (some refl)
  first-behind front xs ys (Some x) same found some = sym (first-of-front xs ys x (ap (λ l. slice_get (filter test l) 0) (sym same) ∙ sym found))

  -- no more pass than there are
  pub filtered : (i : ℕ) (xs : List X) → length (filter test (take i xs)) ≤ i
  filtered zero xs = omega arith
  filtered (suc i) [] = omega arith
  filtered (suc i) (x ∷ xs) = step (test x) (filtered i xs)
    where
      step : (b : Bool) → length (filter test (take i xs)) ≤ i → length (cond b (x ∷ filter test (take i xs)) (filter test (take i xs))) ≤ suc i
      step true low = omega (arith, low)
      step false low = omega (arith, low)

  -- a filtered list has no first element where no element passes
  pub none-passes : (xs : List X) (i : ℕ) (x : X) → slice_get (filter test xs) 0 ≡ None → slice_get xs i ≡ Some x → test x ≡ false
  none-passes [] i x none is = absurd (cc)
  none-passes (y ∷ ys) i x none is = step (test y) refl (λ k. none-passes ys k x) none i is
    where
      step : (b : Bool) → test y ≡ b → ((k : ℕ) → slice_get (filter test ys) 0 ≡ None → slice_get ys k ≡ Some x → test x ≡ false)
          → slice_get (cond b (y ∷ filter test ys) (filter test ys)) 0 ≡ None → (k : ℕ) → slice_get (y ∷ ys) k ≡ Some x → test x ≡ false
      step true passes deeper none k is = absurd (cc)
      step false fails deeper none zero is = let same : y ≡ x = cc in subst (λ (z : X). test z ≡ false) same fails
      step false fails deeper none (suc k) is = deeper k none is

  pub passes-one : (xs : List X) (i : ℕ) (x : X) → slice_get (filter test xs) i ≡ Some x → test x ≡ true
  passes-one [] i x is = absurd (cc)
  passes-one (y ∷ ys) i x is = step (test y) refl (λ k. passes-one ys k x) i is
    where
      step : (b : Bool) → test y ≡ b → ((k : ℕ) → slice_get (filter test ys) k ≡ Some x → test x ≡ true) → (k : ℕ) → slice_get (cond b (y ∷ filter test ys) (filter test ys)) k ≡ Some x → test x ≡ true
      step true passes deeper zero is = let same : y ≡ x = cc in subst (λ (z : X). test z ≡ true) same passes
      step true passes deeper (suc k) is = deeper k is
      step false fails deeper k is = deeper k is
