-- Lists with the element at a place changed.
use Rattle.std.proofs.Common.{◌≡◌, ◌≢◌, ℕ, zero, suc, ◌<◌, List, [], ◌∷◌, length, map, set, get_or, refl, ap, ◌∙◌, arith}
use Rattle.hj_chain.specs.Links.{changed_at}

-- the list with an element written at a place is the list with that element changed
pub set-changed_at : {X : Type 0} (xs : List X) (i : ℕ) (x y : X) (f : X → X) → i < length xs → x ≡ get_or xs i x → y ≡ f x → set xs i y ≡ changed_at i f xs
set-changed_at [] i x y f in_range at is = absurd (omega arith)
set-changed_at (a ∷ xs) zero x y f in_range at is = ap (λ b. b ∷ xs) (is ∙ ap f at)
set-changed_at (a ∷ xs) (suc i) x y f in_range at is = ap (λ ys. a ∷ ys) (set-changed_at xs i x y f (omega arith) at is)

pub written : {X : Type 0} (xs ys : List X) (i : ℕ) (x y : X) (f : X → X) → xs ≡ ys → i < length ys → x ≡ get_or xs i x → y ≡ f x → set xs i y ≡ changed_at i f ys
written {X} xs ys i x y f same in_range at is =
    let in_xs : i < length xs = omega (arith, ap length same) in
    set-changed_at xs i x y f in_xs at is ∙ ap (changed_at i f) same

pub length-changed_at : {X : Type 0} (i : ℕ) (f : X → X) (xs : List X) → length (changed_at i f xs) ≡ length xs
length-changed_at i f [] = refl
length-changed_at zero f (x ∷ xs) = refl
length-changed_at (suc i) f (x ∷ xs) = ap suc (length-changed_at i f xs)

pub get_or-changed_at : {X : Type 0} (i : ℕ) (f : X → X) (xs : List X) (d : X) → i < length xs → get_or (changed_at i f xs) i d ≡ f (get_or xs i d)
get_or-changed_at i f [] d in_range = absurd (omega arith)
get_or-changed_at zero f (x ∷ xs) d in_range = refl
get_or-changed_at (suc i) f (x ∷ xs) d in_range = get_or-changed_at i f xs d (omega arith)

pub get_or-changed_other : {X : Type 0} (i j : ℕ) (f : X → X) (xs : List X) (d : X) → i ≢ j → get_or (changed_at i f xs) j d ≡ get_or xs j d
get_or-changed_other i j f [] d other = refl
get_or-changed_other zero zero f (x ∷ xs) d other = absurd (other refl)
get_or-changed_other zero (suc j) f (x ∷ xs) d other = refl
get_or-changed_other (suc i) zero f (x ∷ xs) d other = refl
get_or-changed_other (suc i) (suc j) f (x ∷ xs) d other = get_or-changed_other i j f xs d (λ same. other (ap suc same))

pub map-changed_at : {X : Type 0} {Y : Type 0} (v : X → Y) (i : ℕ) (f : X → X) (g : Y → Y) (xs : List X) → ((x : X) → v (f x) ≡ g (v x)) → map v (changed_at i f xs) ≡ changed_at i g (map v xs)
map-changed_at v i f g [] same = refl
map-changed_at v zero f g (x ∷ xs) same = ap (λ y. y ∷ map v xs) (same x)
map-changed_at v (suc i) f g (x ∷ xs) same = ap (λ ys. v x ∷ ys) (map-changed_at v i f g xs same)

-- one change after another at one place
pub changed_at-twice : {X : Type 0} (i : ℕ) (f g h : X → X) (xs : List X) → ((x : X) → g (f x) ≡ h x) → changed_at i g (changed_at i f xs) ≡ changed_at i h xs
changed_at-twice i f g h [] both = refl
changed_at-twice zero f g h (x ∷ xs) both = ap (λ y. y ∷ xs) (both x)
changed_at-twice (suc i) f g h (x ∷ xs) both = ap (λ ys. x ∷ ys) (changed_at-twice i f g h xs both)

-- a change that changes nothing
pub changed_at-same : {X : Type 0} (i : ℕ) (f : X → X) (xs : List X) → ((x : X) → f x ≡ x) → changed_at i f xs ≡ xs
changed_at-same i f [] same = refl
changed_at-same zero f (x ∷ xs) same = ap (λ y. y ∷ xs) (same x)
changed_at-same (suc i) f (x ∷ xs) same = ap (λ ys. x ∷ ys) (changed_at-same i f xs same)

-- the default doesn't matter in range
pub get_or-any : {X : Type 0} (xs : List X) (i : ℕ) (d e : X) → i < length xs → get_or xs i d ≡ get_or xs i e
get_or-any [] i d e in_range = absurd (omega arith)
get_or-any (x ∷ xs) zero d e in_range = refl
get_or-any (x ∷ xs) (suc i) d e in_range = get_or-any xs i d e (omega arith)
