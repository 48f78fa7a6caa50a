-- Lists with the same elements in another order: what a test keeps of them, and what is left without an element of both.
use Rattle.std.proofs.Common.{◌≡◌, ℕ, zero, suc, ◌<◌, ◌⊎◌, inl, inr, Bool, true, false, cond, List, [], ◌∷◌, ◌++◌, length, set, get_or, filter, refl, sym, subst, arith}
use Rattle.std.specs.List.Sorted.{IsPermutation}
use Rattle.std.specs.List.{swap}
use Rattle.std.proofs.lemmas.List.Edits.{swap_is}
use Rattle.std.proofs.lemmas.List.Sorted.{IsPermutation-refl, IsPermutation-cons, IsPermutation-trans, IsPermutation-swap, IsPermutation-keeps}

-- the same, by exchanges of neighbours
data Shuffled {X : Type 0} : List X → List X → Type 0 where
  none : Shuffled [] []
  kept : (x : X) (xs ys : List X) → Shuffled xs ys → Shuffled (x ∷ xs) (x ∷ ys)
  crossed : (x y : X) (xs ys : List X) → Shuffled xs ys → Shuffled (x ∷ y ∷ xs) (y ∷ x ∷ ys)
  twice : (xs ys zs : List X) → Shuffled xs ys → Shuffled ys zs → Shuffled xs zs

same : {X : Type 0} (xs : List X) → Shuffled xs xs
same [] = none
same (x ∷ xs) = kept x xs xs (same xs)

-- the first element and the one at a place change places
to_place : {X : Type 0} (x d : X) (xs : List X) (j : ℕ) → j < length xs → Shuffled (x ∷ xs) (get_or xs j d ∷ set xs j x)
to_place x d [] j low = absurd (omega (arith, low))
to_place x d (y ∷ ys) zero low = crossed x y ys ys (same ys)
to_place x d (y ∷ ys) (suc j) low =
    let z = get_or ys j d in
    twice (x ∷ y ∷ ys) (y ∷ x ∷ ys) (z ∷ y ∷ set ys j x) (crossed x y ys ys (same ys))
    (twice (y ∷ x ∷ ys) (y ∷ z ∷ set ys j x) (z ∷ y ∷ set ys j x) (kept y (x ∷ ys) (z ∷ set ys j x) (to_place x d ys j (omega (arith, low)))) (crossed y z (set ys j x) (set ys j x) (same (set ys j x))))

exchanged : {X : Type 0} (d : X) (xs : List X) (i j : ℕ) → i < length xs → j < length xs → Shuffled xs (set (set xs i (get_or xs j d)) j (get_or xs i d))
exchanged d [] i j p q = absurd (omega (arith, p))
exchanged d (x ∷ xs) zero zero p q = same (x ∷ xs)
exchanged d (x ∷ xs) zero (suc j) p q = to_place x d xs j (omega (arith, q))
exchanged d (x ∷ xs) (suc i) zero p q = to_place x d xs i (omega (arith, p))
exchanged d (x ∷ xs) (suc i) (suc j) p q = kept x xs _ (exchanged d xs i j (omega (arith, p)) (omega (arith, q)))

shuffled : {X : Type 0} (xs ys : List X) → IsPermutation xs ys → Shuffled xs ys
shuffled {X} xs ys is = IsPermutation-keeps xs (Shuffled xs) (same xs) step ys is
  where
    step : (l : List X) (i j : ℕ) → i < length l → j < length l → Shuffled xs l → Shuffled xs (swap l i j)
    step [] i j p q old = absurd (omega (arith, p))
    step (d ∷ l) i j p q old = twice xs (d ∷ l) (swap (d ∷ l) i j) old (subst (Shuffled (d ∷ l)) (swap_is (d ∷ l) i j d p q) (exchanged d (d ∷ l) i j p q))

permuted : {X : Type 0} {xs ys : List X} → Shuffled xs ys → IsPermutation xs ys
permuted none = IsPermutation-refl []
permuted (kept x xs ys s) = IsPermutation-cons x xs ys (permuted s)
permuted (crossed x y xs ys s) =
    IsPermutation-trans (x ∷ y ∷ xs) (y ∷ x ∷ xs) (y ∷ x ∷ ys) (IsPermutation-swap (x ∷ y ∷ xs) (y ∷ x ∷ xs) 0 1 (omega arith) (omega arith) refl)
    (IsPermutation-cons y (x ∷ xs) (x ∷ ys) (IsPermutation-cons x xs ys (permuted s)))
permuted (twice xs ys zs s t) = IsPermutation-trans xs ys zs (permuted s) (permuted t)

-- what a test keeps
one_more : {X : Type 0} (x : X) (xs ys : List X) (b : Bool) → Shuffled xs ys → Shuffled (cond b (x ∷ xs) xs) (cond b (x ∷ ys) ys)
one_more x xs ys true s = kept x xs ys s
one_more x xs ys false s = s

two_more : {X : Type 0} (x y : X) (xs ys : List X) (a b : Bool) → Shuffled xs ys
    → Shuffled (cond a (x ∷ cond b (y ∷ xs) xs) (cond b (y ∷ xs) xs)) (cond b (y ∷ cond a (x ∷ ys) ys) (cond a (x ∷ ys) ys))
two_more x y xs ys true true s = crossed x y xs ys s
two_more x y xs ys true false s = kept x xs ys s
two_more x y xs ys false true s = kept y xs ys s
two_more x y xs ys false false s = s

module _ {X : Type 0} (test : X → Bool) where
  filtered : {xs ys : List X} → Shuffled xs ys → Shuffled (filter test xs) (filter test ys)
  filtered none = none
  filtered (kept x xs ys s) = one_more x (filter test xs) (filter test ys) (test x) (filtered s)
  filtered (crossed x y xs ys s) = two_more x y (filter test xs) (filter test ys) (test x) (test y) (filtered s)
  filtered (twice xs ys zs s t) = twice (filter test xs) (filter test ys) (filter test zs) (filtered s) (filtered t)

  pub IsPermutation-filter : (xs ys : List X) → IsPermutation xs ys → IsPermutation (filter test xs) (filter test ys)
  IsPermutation-filter xs ys is = permuted (filtered (shuffled xs ys is))

-- the list is this one, with the element somewhere in it
abbrev Without : {X : Type 0} → X → List X → List X → Type 0
Without a [] rest = ⊥
Without {X} a (y ∷ l) rest = (a ≡ y) × (rest ≡ l) ⊎ (r : List X) × (rest ≡ y ∷ r) × Without a l r

put_first : {X : Type 0} (a : X) (l rest : List X) → Without a l rest → Shuffled l (a ∷ rest)
put_first a [] rest w = absurd w
put_first a (y ∷ l) rest (inl (is, all)) = rw (is, all) (same (y ∷ l))
put_first a (y ∷ l) rest (inr (r, all, w)) = rw all (twice (y ∷ l) (y ∷ a ∷ r) (a ∷ y ∷ r) (kept y l (a ∷ r) (put_first a l r w)) (crossed y a r r (same r)))

-- an element of the one list is one of the other, and without it they are the same still
both_without : {X : Type 0} (a : X) {xs ys : List X} → Shuffled xs ys → (rest : List X) → Without a ys rest → (left : List X) × Without a xs left × Shuffled left rest
both_without a none rest w = absurd w
both_without a (kept x xs ys s) rest (inl (is, all)) = (xs, inl (is, refl), subst (Shuffled xs) (sym all) s)
both_without a (kept x xs ys s) rest (inr (r, all, w)) =
    let found = both_without a s r w in
    (x ∷ found.0, inr (found.0, refl, found.1), subst (Shuffled (x ∷ found.0)) (sym all) (kept x found.0 r found.2))
both_without a (crossed x y xs ys s) rest (inl (is, all)) = (x ∷ xs, inr (xs, refl, inl (is, refl)), subst (Shuffled (x ∷ xs)) (sym all) (kept x xs ys s))
both_without a (crossed x y xs ys s) rest (inr (r, all, inl (is, more))) =
    (y ∷ xs, inl (is, refl), subst (Shuffled (y ∷ xs)) (sym all) (subst (λ l. Shuffled (y ∷ xs) (y ∷ l)) (sym more) (kept y xs ys s)))
both_without a (crossed x y xs ys s) rest (inr (r, all, inr (q, more, w))) =
    let found = both_without a s q w in
    (x ∷ y ∷ found.0, inr (y ∷ found.0, refl, inr (found.0, refl, found.1)), subst (Shuffled (x ∷ y ∷ found.0)) (sym all) (subst (λ l. Shuffled (x ∷ y ∷ found.0) (y ∷ l)) (sym more) (crossed x y found.0 q found.2)))
both_without a (twice xs ys zs s t) rest w =
    let first = both_without a t rest w in
    let second = both_without a s first.0 first.1 in
    (second.0, second.1, twice second.0 first.0 rest second.2 first.2)

without_first : {X : Type 0} (a : X) (xs ys : List X) → Shuffled (a ∷ xs) (a ∷ ys) → Shuffled xs ys
without_first {X} a xs ys s = by (both_without a s ys (inl (refl, refl)))
  where
    by : (left : List X) × Without a (a ∷ xs) left × Shuffled left ys → Shuffled xs ys
    by (left, inl (is, all), t) = subst (λ l. Shuffled l ys) all t
    by (left, inr (r, all, w), t) = twice xs (a ∷ r) ys (put_first a xs r w) (subst (λ l. Shuffled l ys) all t)

all_without : {X : Type 0} (front xs ys : List X) → Shuffled (front ++ xs) (front ++ ys) → Shuffled xs ys
all_without [] xs ys s = s
all_without (a ∷ front) xs ys s = all_without front xs ys (without_first a (front ++ xs) (front ++ ys) s)

-- two lists of the same elements begin with the same ones: so do their rests
pub IsPermutation-rests : {X : Type 0} (front xs ys : List X) → IsPermutation (front ++ xs) (front ++ ys) → IsPermutation xs ys
IsPermutation-rests front xs ys is = permuted (all_without front xs ys (shuffled (front ++ xs) (front ++ ys) is))
