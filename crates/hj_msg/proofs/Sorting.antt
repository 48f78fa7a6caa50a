-- Sorting: it keeps the members and how often each stands, and ranks a list of which no two elements are equal in rank.
use Rattle.std.proofs.Common.{◌≡◌, ◌+◌, ◌⊎◌, inl, inr, Bool, true, false, cond, List, [], ◌∷◌, Contains, refl, sym, ◌∙◌, subst, arith, true≢false}
use Rattle.std.specs.List.Sorted.{IsPermutation}
use Rattle.std.proofs.lemmas.List.Sorted.{IsPermutation-refl, IsPermutation-cons, IsPermutation-trans, IsPermutation-swap}
use Rattle.hj_msg.specs.Order.{insert_by, sort_by}
use Rattle.hj_msg.proofs.Counts.{count}
use Rattle.hj_msg.proofs.Members.{Contains-nil, Contains-head, Contains-cons, Contains-cons_cases, Ranked}

-- sorting keeps the members
inserted : {X : Type 0} (first : X → X → Bool) (x : X) (xs : List X) (y : X) → Contains (x ∷ xs) y → Contains (insert_by first x xs) y
inserted first x [] y h = h
inserted {X} first x (z ∷ zs) y h = go (first z x) (inserted first x zs y)
  where
    go : (b : Bool) → (Contains (x ∷ zs) y → Contains (insert_by first x zs) y) → Contains (cond b (z ∷ insert_by first x zs) (x ∷ z ∷ zs)) y
    go false deeper = h
    go true deeper = elim (Contains-cons_cases x y (z ∷ zs) h) [
      | inl e ↦ Contains-cons z y (insert_by first x zs) (deeper (subst (λ w. Contains (x ∷ zs) w) e (Contains-head x zs)))
      | inr k ↦ elim (Contains-cons_cases z y zs k) [
        | inl e ↦ subst (λ w. Contains (z ∷ insert_by first x zs) w) e (Contains-head z (insert_by first x zs))
        | inr l ↦ Contains-cons z y (insert_by first x zs) (deeper (Contains-cons x y zs l))
      ]
    ]

pub sorted : {X : Type 0} (first : X → X → Bool) (xs : List X) (y : X) → Contains xs y → Contains (sort_by first xs) y
sorted first [] y h = h
sorted first (x ∷ xs) y h = inserted first x (sort_by first xs) y (elim (Contains-cons_cases x y xs h) [
  | inl e ↦ subst (λ w. Contains (x ∷ sort_by first xs) w) e (Contains-head x (sort_by first xs))
  | inr k ↦ Contains-cons x y (sort_by first xs) (sorted first xs y k)
])

-- sorting adds no member
from_inserted : {X : Type 0} (first : X → X → Bool) (x : X) (xs : List X) (y : X) → Contains (insert_by first x xs) y → Contains (x ∷ xs) y
from_inserted first x [] y h = h
from_inserted {X} first x (z ∷ zs) y h = go (first z x) h (from_inserted first x zs y)
  where
    go : (b : Bool) → Contains (cond b (z ∷ insert_by first x zs) (x ∷ z ∷ zs)) y → (Contains (insert_by first x zs) y → Contains (x ∷ zs) y) → Contains (x ∷ z ∷ zs) y
    go false h deeper = h
    go true h deeper = elim (Contains-cons_cases z y (insert_by first x zs) h) [
      | inl e ↦ Contains-cons x y (z ∷ zs) (subst (λ w. Contains (z ∷ zs) w) e (Contains-head z zs))
      | inr k ↦ elim (Contains-cons_cases x y zs (deeper k)) [
        | inl e ↦ subst (λ w. Contains (x ∷ z ∷ zs) w) e (Contains-head x (z ∷ zs))
        | inr l ↦ Contains-cons x y (z ∷ zs) (Contains-cons z y zs l)
      ]
    ]

pub from_sorted : {X : Type 0} (first : X → X → Bool) (xs : List X) (y : X) → Contains (sort_by first xs) y → Contains xs y
from_sorted first [] y h = h
from_sorted first (x ∷ xs) y h = elim (Contains-cons_cases x y (sort_by first xs) (from_inserted first x (sort_by first xs) y h)) [
  | inl e ↦ subst (λ w. Contains (x ∷ xs) w) e (Contains-head x xs)
  | inr k ↦ Contains-cons x y xs (from_sorted first xs y k)
]

-- a count is kept by sorting
count-insert : {X : Type 0} (p : X → Bool) (first : X → X → Bool) (x : X) (xs : List X) → count p (insert_by first x xs) ≡ cond (p x) 1 0 + count p xs
count-insert p first x [] = refl
count-insert {X} p first x (y ∷ ys) = go (first y x) (count-insert p first x ys)
  where
    go : (b : Bool) → count p (insert_by first x ys) ≡ cond (p x) 1 0 + count p ys → count p (cond b (y ∷ insert_by first x ys) (x ∷ y ∷ ys)) ≡ cond (p x) 1 0 + (cond (p y) 1 0 + count p ys)
    go true e = omega (arith, e)
    go false e = refl

pub count-sort : {X : Type 0} (p : X → Bool) (first : X → X → Bool) (xs : List X) → count p (sort_by first xs) ≡ count p xs
count-sort p first [] = refl
count-sort p first (x ∷ xs) = omega (arith, count-insert p first x (sort_by first xs), count-sort p first xs)

-- the sorted list has the elements of the list, each as often
inserted_permutation : {X : Type 0} (first : X → X → Bool) (x : X) (xs : List X) → IsPermutation (x ∷ xs) (insert_by first x xs)
inserted_permutation first x [] = IsPermutation-refl (x ∷ [])
inserted_permutation {X} first x (y ∷ ys) = go (first y x) (inserted_permutation first x ys)
  where
    two : IsPermutation (x ∷ y ∷ ys) (y ∷ x ∷ ys)
    two = IsPermutation-swap (x ∷ y ∷ ys) (y ∷ x ∷ ys) 0 1 (omega arith) (omega arith) refl

    go : (b : Bool) → IsPermutation (x ∷ ys) (insert_by first x ys) → IsPermutation (x ∷ y ∷ ys) (cond b (y ∷ insert_by first x ys) (x ∷ y ∷ ys))
    go true deeper = IsPermutation-trans (x ∷ y ∷ ys) (y ∷ x ∷ ys) (y ∷ insert_by first x ys) two (IsPermutation-cons y (x ∷ ys) (insert_by first x ys) deeper)
    go false deeper = IsPermutation-refl (x ∷ y ∷ ys)

pub sorted_permutation : {X : Type 0} (first : X → X → Bool) (xs : List X) → IsPermutation xs (sort_by first xs)
sorted_permutation first [] = IsPermutation-refl []
sorted_permutation first (x ∷ xs) =
    IsPermutation-trans (x ∷ xs) (x ∷ sort_by first xs) (insert_by first x (sort_by first xs)) (IsPermutation-cons x xs (sort_by first xs) (sorted_permutation first xs)) (inserted_permutation first x (sort_by first xs))

inserted_ranked : {X : Type 0} (first : X → X → Bool) → ((x y z : X) → first x y ≡ true → first y z ≡ true → first x z ≡ true) → (x : X) (ys : List X)
    → ((y : X) → Contains ys y → (first x y ≡ true) ⊎ (first y x ≡ true)) → Ranked (λ x y. first x y ≡ true) ys → Ranked (λ x y. first x y ≡ true) (insert_by first x ys)
inserted_ranked first trans x [] either r = (λ y h. absurd (Contains-nil y h), tt)
inserted_ranked {X} first trans x (y ∷ ys) either r = go (first y x) refl (inserted_ranked first trans x ys (λ z h. either z (Contains-cons y z ys h)) r.1)
  where
    go : (b : Bool) → first y x ≡ b → Ranked (λ x y. first x y ≡ true) (insert_by first x ys) → Ranked (λ x y. first x y ≡ true) (cond b (y ∷ insert_by first x ys) (x ∷ y ∷ ys))
    go true e deeper = (
      λ z h. elim (Contains-cons_cases x z ys (from_inserted first x ys z h)) [ inl s ↦ subst (λ w. first y w ≡ true) s e | inr k ↦ r.0 z k ],
      deeper,
    )
    go false e deeper =
        let own : first x y ≡ true = elim (either y (Contains-head y ys)) [ inl f ↦ f | inr f ↦ absurd (true≢false (sym f ∙ e)) ] in
        (λ z h. elim (Contains-cons_cases y z ys h) [ inl s ↦ subst (λ w. first x w ≡ true) s own | inr k ↦ trans x y z own (r.0 z k) ], r)

-- sorting ranks a list of which no two elements are equal in rank
pub sorted_ranked : {X : Type 0} (first : X → X → Bool) → ((x y z : X) → first x y ≡ true → first y z ≡ true → first x z ≡ true) → (xs : List X)
    → Ranked (λ x y. (first x y ≡ true) ⊎ (first y x ≡ true)) xs → Ranked (λ x y. first x y ≡ true) (sort_by first xs)
sorted_ranked first trans [] r = tt
sorted_ranked first trans (x ∷ xs) r = inserted_ranked first trans x (sort_by first xs) (λ y h. r.0 y (from_sorted first xs y h)) (sorted_ranked first trans xs r.1)
