-- Lists of which one element after another is changed.
use Rattle.std.proofs.Common.{◌≡◌, ℕ, zero, suc, ◌+◌, ◌≤◌, ◌<◌, List, [], ◌∷◌, length, get_or, map, set, take, All, Some, slice_get, arith, refl, sym, ap, subst, ◌∙◌}
use Rattle.std.proofs.lemmas.List.Elements.{All-cons, All-get_or, All-head, All-nil, All-tail}

-- a change that leaves what a function sees of an element
pub map-set : {A B : Type 0} (f : A → B) (xs : List A) (i : ℕ) (old new : A) → old ≡ get_or xs i old → f new ≡ f old → map f (set xs i new) ≡ map f xs
map-set f [] i old new is same = refl
map-set f (x ∷ xs) zero old new is same = ap (λ y. y ∷ map f xs) (same ∙ ap f is)
map-set f (x ∷ xs) (suc i) old new is same = ap (λ ys. f x ∷ ys) (map-set f xs i old new is same)

take-nil : {A : Type 0} (n : ℕ) → take {A = A} n [] ≡ []
take-nil zero = refl
take-nil (suc n) = refl

-- one more of the first elements has a property
pub all-more : {A : Type 0} (P : A → Type 0) (xs : List A) (i : ℕ) (new : A) → P new → All P (take i xs) → All P (take (i + 1) (set xs i new))
all-more P [] i new here all = subst (All P) (sym (take-nil (i + 1))) (All-nil P)
all-more P (x ∷ xs) zero new here all = All-cons P new [] here (All-nil P)
all-more P (x ∷ xs) (suc i) new here all =
    subst (λ n. All P (take n (x ∷ set xs i new))) (let e : suc (i + 1) ≡ suc i + 1 = omega arith in e)
    (All-cons P x (take (i + 1) (set xs i new)) (All-head P x (take i xs) all) (all-more P xs i new here (All-tail P x (take i xs) all)))

-- all elements are the first so many
pub all-taken : {A : Type 0} (P : A → Type 0) (xs : List A) (n : ℕ) → length xs ≤ n → All P (take n xs) → All P xs
all-taken P xs n le all = subst (All P) (whole xs n le) all
  where
    whole : {A : Type 0} (xs : List A) (n : ℕ) → length xs ≤ n → take n xs ≡ xs
    whole [] zero le = refl
    whole [] (suc n) le = refl
    whole (x ∷ xs) zero le = absurd (omega arith)
    whole (x ∷ xs) (suc n) le = ap (λ ys. x ∷ ys) (whole xs n (omega arith))

-- an element that was read
pub all-read : {A : Type 0} (P : A → Type 0) (xs : List A) (i : ℕ) (x : A) → All P xs → i < length xs → x ≡ get_or xs i x → P x
all-read P xs i x all below is = subst P (sym is) (All-get_or P xs i x below all)

pub within-length : {A : Type 0} (xs : List A) (k : ℕ) (x : A) → slice_get xs k ≡ Some x → k < length xs
within-length [] k x e = absurd cc
within-length (y ∷ xs) zero x e = omega arith
within-length (y ∷ xs) (suc k) x e = omega (arith, within-length xs k x e)

-- two functions that agree at each element
pub map-agree : {A B : Type 0} (f g : A → B) (xs : List A) → All (λ x. f x ≡ g x) xs → map f xs ≡ map g xs
map-agree f g [] all = refl
map-agree f g (x ∷ xs) all = rw (All-head (λ y. f y ≡ g y) x xs all) (ap (λ ys. g x ∷ ys) (map-agree f g xs (All-tail (λ y. f y ≡ g y) x xs all)))

-- and back
pub agree-map : {A B : Type 0} (f g : A → B) (xs : List A) → map f xs ≡ map g xs → All (λ x. f x ≡ g x) xs
agree-map f g [] e = All-nil (λ x. f x ≡ g x)
agree-map {A} {B} f g (x ∷ xs) e = All-cons (λ y. f y ≡ g y) x xs (heads (f x) (g x) (map f xs) (map g xs) e) (agree-map f g xs (tails (f x) (g x) (map f xs) (map g xs) e))
  where
    heads : (a b : B) (us vs : List B) → a ∷ us ≡ b ∷ vs → a ≡ b
    heads a b us vs e = cc

    tails : (a b : B) (us vs : List B) → a ∷ us ≡ b ∷ vs → us ≡ vs
    tails a b us vs e = cc
