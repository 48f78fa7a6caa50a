-- Which of the kept pairs is given next.
use Rattle.std.proofs.Common.{◌≡◌, ℕ, zero, suc, ◌+◌, ◌≤◌, ◌⊎◌, inl, inr, Bool, true, false, List, [], ◌∷◌, ◌++◌, length, take, drop, filter, slice_get, Contains, Some, None, Option, refl, ap, sym, ◌∙◌, subst, arith, append_assoc, true≢false}
use Rattle.std.specs.List.Sorted.{IsPermutation}
use Rattle.std.proofs.lemmas.List.{take-append-drop, length-drop}
use Rattle.std.proofs.lemmas.List.Elements.{filter-append, Contains-append_right}
use Rattle.std.proofs.lemmas.List.Sorted.{IsPermutation-sym, IsPermutation-trans, IsPermutation-append_right, Contains-permutation, length_permutation}
use Rattle.hj_msg.specs.declared.event.Pair.{Pair}
use Rattle.hj_msg.specs.Punctuation.{Mark}
use Rattle.hj_msg.specs.Emission.{comes_before}
use Rattle.hj_msg.proofs.Members.{Contains-nil, Contains-head, Contains-cons, Contains-cons_cases, Contains-filter, Contains-from_filter, Ranked}
use Rattle.hj_msg.proofs.RankedLists.{one_first}
use Rattle.hj_msg.proofs.Sorting.{sorted, from_sorted, sorted_permutation}
use Rattle.hj_collect.proofs.Shuffles.{IsPermutation-filter, IsPermutation-rests}
use Rattle.hj_collect.proofs.Emissions.{within, emits, sorted-rank, none_passes}

-- ---- the element at a place

none-at : {X : Type 0} (xs : List X) (i : ℕ) → drop i xs ≡ [] → slice_get xs i ≡ None
none-at [] i is = refl
none-at (x ∷ xs) zero is = absurd (cc)
none-at (x ∷ xs) (suc i) is = none-at xs i is

some-at : {X : Type 0} (xs : List X) (i : ℕ) (x : X) (rest : List X) → drop i xs ≡ x ∷ rest → slice_get xs i ≡ Some x
some-at [] zero x rest is = absurd (cc)
some-at [] (suc i) x rest is = absurd (cc)
some-at (y ∷ xs) zero x rest is = let same : y ≡ x = cc in ap Some same
some-at (y ∷ xs) (suc i) x rest is = some-at xs i x rest is

take-more : {X : Type 0} (xs : List X) (i : ℕ) (x : X) (rest : List X) → drop i xs ≡ x ∷ rest → take (suc i) xs ≡ take i xs ++ x ∷ []
take-more [] zero x rest is = absurd (cc)
take-more [] (suc i) x rest is = absurd (cc)
take-more (y ∷ xs) zero x rest is = let same : y ≡ x = cc in ap (λ z. z ∷ []) same
take-more (y ∷ xs) (suc i) x rest is = ap (λ l. y ∷ l) (take-more xs i x rest is)

Contains-take : {X : Type 0} (i : ℕ) (xs : List X) (x : X) → Contains (take i xs) x → Contains xs x
Contains-take zero xs x h = absurd (Contains-nil x h)
Contains-take (suc i) [] x h = h
Contains-take (suc i) (y ∷ ys) x h = elim (Contains-cons_cases y x (take i ys) h) [
  | inl e ↦ subst (λ z. Contains (y ∷ ys) z) e (Contains-head y ys)
  | inr k ↦ Contains-cons y x ys (Contains-take i ys x k)
]

Ranked-drop : {X : Type 0} (R : X → X → Type 0) (i : ℕ) (xs : List X) → Ranked R xs → Ranked R (drop i xs)
Ranked-drop R zero xs r = r
Ranked-drop R (suc i) [] r = r
Ranked-drop R (suc i) (x ∷ xs) r = Ranked-drop R i xs r.1

all_pass : {X : Type 0} (test : X → Bool) (xs : List X) → ((x : X) → Contains xs x → test x ≡ true) → filter test xs ≡ xs
all_pass test [] each = refl
all_pass test (x ∷ xs) each = rw (each x (Contains-head x xs)) (ap (λ ys. x ∷ ys) (all_pass test xs (λ y h. each y (Contains-cons x y xs h))))

-- of two pairs the one comes before the other, or they are one
abbrev pub AreApart : {P : Type 0} → Option Mark → List (Pair P) → Type 0
AreApart {P} mark kept =
    (p q : Pair P) → Contains kept p → Contains kept q → within mark p ≡ true → within mark q ≡ true → (p ≡ q) ⊎ ((comes_before p q ≡ true) ⊎ (comes_before q p ≡ true))

-- ---- the first ones of the pairs within the mark were given, and all others are kept

module _ {P : Type 0} (mark : Option Mark) (pairs kept : List (Pair P)) (given : ℕ) (released : IsPermutation (take given (emits mark pairs) ++ kept) pairs) where
  abbrev all : List (Pair P)
  all = emits mark pairs

  each-within : (pair : Pair P) → Contains all pair → within mark pair ≡ true
  each-within pair h = (Contains-from_filter (within mark) pairs pair (from_sorted comes_before (filter (within mark) pairs) pair h)).1

  -- those that are kept within the mark are those that are still to be given
  pub rest : IsPermutation (filter (within mark) kept) (drop given all)
  rest =
      let front = take given all in
      let same : filter (within mark) (front ++ kept) ≡ front ++ filter (within mark) kept =
      filter-append (within mark) front kept ∙ ap (λ l. l ++ filter (within mark) kept) (all_pass (within mark) front (λ pair h. each-within pair (Contains-take given all pair h))) in
      IsPermutation-rests front (filter (within mark) kept) (drop given all)
      (subst (λ l. IsPermutation l (front ++ drop given all)) same
      (subst (IsPermutation (filter (within mark) (front ++ kept))) (sym (take-append-drop given all))
      (IsPermutation-trans (filter (within mark) (front ++ kept)) (filter (within mark) pairs) all (IsPermutation-filter (within mark) (front ++ kept) pairs released)
      (sorted_permutation comes_before (filter (within mark) pairs)))))

  -- none is kept within the mark
  empty : (l : List (Pair P)) → length l ≡ 0 → l ≡ []
  empty [] is = refl
  empty (p ∷ l) is = absurd (omega (arith, is))

  pub none-due : ((pair : Pair P) → Contains kept pair → within mark pair ≡ false) → slice_get all given ≡ None
  none-due each =
      none-at all given (empty (drop given all) (length_permutation (filter (within mark) kept) (drop given all) rest ∙ ap length (none_passes (within mark) kept each)))

  -- the pairs that two pairs that are kept within the mark are
  pub apart-kept : Ranked (λ p q. comes_before p q ≡ true) all → AreApart mark kept
  apart-kept ranked p q h k fits fits' = one_first (λ p q. comes_before p q ≡ true) all ranked p q (member p h fits) (member q k fits')
    where
      member : (r : Pair P) → Contains kept r → within mark r ≡ true → Contains all r
      member r h fits =
          sorted comes_before (filter (within mark) pairs) r
          (Contains-filter (within mark) pairs r (Contains-permutation (take given all ++ kept) pairs r released (Contains-append_right (take given all) kept r h)) fits)

  -- a pair that is taken out of those that are kept, and that none of these comes before
  module _ (pair : Pair P) (left : List (Pair P)) (taken : IsPermutation kept (pair ∷ left)) (fits : within mark pair ≡ true) (first : (other : Pair P) → Contains kept other → comes_before other pair ≡ false)
      (apart : AreApart mark kept) where
    pair-kept : Contains kept pair
    pair-kept = Contains-permutation (pair ∷ left) kept pair (IsPermutation-sym kept (pair ∷ left) taken) (Contains-head pair left)

    record Next : Type 0 where
      behind : List (Pair P)
      is : drop given all ≡ pair ∷ behind

    next : Next
    next = by (drop given all) refl (Contains-permutation (filter (within mark) kept) (drop given all) pair rest (Contains-filter (within mark) kept pair pair-kept fits))
      where
        due : (head : Pair P) (behind : List (Pair P)) → drop given all ≡ head ∷ behind → Contains (filter (within mark) kept) head
        due head behind is =
            Contains-permutation (drop given all) (filter (within mark) kept) head (IsPermutation-sym (filter (within mark) kept) (drop given all) rest) (subst (λ l. Contains l head) (sym is) (Contains-head head behind))

        by : (l : List (Pair P)) → drop given all ≡ l → Contains l pair → Next
        by [] is h = absurd (Contains-nil pair h)
        by (head ∷ behind) is h = elim (Contains-cons_cases head pair behind h) [
          | inl same ↦ record { behind = behind; is = is ∙ ap (λ p. p ∷ behind) same }
          | inr k ↦
              let ranked : Ranked (λ p q. comes_before q p ≡ false) (head ∷ behind) = subst (Ranked (λ p q. comes_before q p ≡ false)) is (Ranked-drop (λ p q. comes_before q p ≡ false) given all (sorted-rank (filter (within mark) pairs))) in
              let found = Contains-from_filter (within mark) kept head (due head behind is) in
              elim (apart pair head pair-kept found.0 fits found.1) [
                | inl same ↦ record { behind = behind; is = is ∙ ap (λ p. p ∷ behind) (sym same) }
                | inr (inl before) ↦ absurd (true≢false (sym before ∙ ranked.0 pair k))
                | inr (inr before) ↦ absurd (true≢false (sym before ∙ first head found.0))
              ]
        ]

    pub one-due : slice_get all given ≡ Some pair
    one-due = some-at all given pair next.behind next.is

    pub one-more : given + 1 ≤ length all
    one-more = omega (arith, ap length next.is, length-drop given all)

    pub still-released : IsPermutation (take (suc given) all ++ left) pairs
    still-released =
        subst (λ l. IsPermutation l pairs) (sym (ap (λ l. l ++ left) (take-more all given pair next.behind next.is) ∙ append_assoc (take given all) (pair ∷ []) left))
        (IsPermutation-trans (take given all ++ pair ∷ left) (take given all ++ kept) pairs (IsPermutation-append_right (take given all) (pair ∷ left) kept (IsPermutation-sym kept (pair ∷ left) taken)) released)
