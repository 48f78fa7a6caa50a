-- How many elements of a list pass a test.
use Rattle.std.proofs.Common.{◌≡◌, ℕ, ◌+◌, ◌<◌, ◌≤◌, Bool, true, false, cond, List, [], ◌∷◌, ◌++◌, length, map, refl, ap, arith}
use Rattle.std.specs.List.{count_by, list_any, flat_map, AllByRecursion}
use Rattle.std.proofs.lemmas.List.Recursion.{is_count_by}
use Rattle.hj_base.specs.Journals.{IsPrefix}

abbrev pub count : {X : Type 0} → (X → Bool) → List X → ℕ
count p [] = 0
count p (x ∷ xs) = cond (p x) 1 0 + count p xs

pub count_is : {X : Type 0} (p : X → Bool) (xs : List X) → count p xs ≡ count_by p xs
count_is p xs = is_count_by (count p) p refl (λ x ys. step (p x) (count p ys)) xs
  where
    step : (b : Bool) (n : ℕ) → cond b 1 0 + n ≡ cond b (1 + n) n
    step true n = refl
    step false n = omega arith

pub count-append : {X : Type 0} (p : X → Bool) (xs ys : List X) → count p (xs ++ ys) ≡ count p xs + count p ys
count-append p [] ys = omega arith
count-append p (x ∷ xs) ys = omega (arith, count-append p xs ys)

pub count-prefix : {X : Type 0} (p : X → Bool) {xs ys : List X} → IsPrefix xs ys → count p xs ≤ count p ys
count-prefix p {xs} prefix = rw prefix.is (omega (arith, count-append p xs prefix.rest))

-- a list that passes, and one of which no element passes, where both are beginnings of one list: the first is longer
pub longer_by_one : {X : Type 0} (p : X → Bool) (xs ys rest others : List X) → xs ++ rest ≡ ys ++ others → count p ys ≡ 0 → 1 ≤ count p xs → length ys < length xs
longer_by_one p [] ys rest others e none some = omega arith
longer_by_one p (x ∷ xs) [] rest others e none some = omega arith
longer_by_one p (x ∷ xs) (y ∷ ys) rest others e none some =
    let same : x ≡ y = cc in
    let tails : xs ++ rest ≡ ys ++ others = cc in
    let head : cond {A = ℕ} (p x) 1 0 ≡ cond {A = ℕ} (p y) 1 0 = ap (λ z. cond {A = ℕ} (p z) 1 0) same in
    let deeper : length ys < length xs = longer_by_one p xs ys rest others tails (omega arith) (omega arith) in
    omega arith

pub count-list_any : {X : Type 0} (p : X → Bool) (xs : List X) → list_any p xs ≡ true → 1 ≤ count p xs
count-list_any p [] h = absurd (cc)
count-list_any p (x ∷ xs) h = grind (arith, count-list_any p xs)

pub count-flat_map-le : {X Y : Type 0} (p : Y → Bool) (f : X → List Y) (g : X → Y) (xs : List X)
    → AllByRecursion (λ x. count p (f x) ≤ cond (p (g x)) 1 0) xs → count p (flat_map f xs) ≤ count p (map g xs)
count-flat_map-le p f g [] all = omega arith
count-flat_map-le p f g (x ∷ xs) all = omega (arith, count-append p (f x) (flat_map f xs), count-flat_map-le p f g xs all.1, all.0)

pub count-flat_map-none : {X Y : Type 0} (p : Y → Bool) (f : X → List Y) (xs : List X)
    → AllByRecursion (λ x. count p (f x) ≡ 0) xs → count p (flat_map f xs) ≡ 0
count-flat_map-none p f [] all = refl
count-flat_map-none p f (x ∷ xs) all = omega (arith, count-append p (f x) (flat_map f xs), count-flat_map-none p f xs all.1, all.0)
