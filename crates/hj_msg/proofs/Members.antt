-- Members of lists and what tests find among them, and lists in which each element stands in a relation to all that follow it.
use Rattle.std.proofs.Common.{◌≡◌, zero, suc, ◌⊎◌, inl, inr, Bool, true, false, cond, ◌||◌, List, [], ◌∷◌, ◌++◌, map, filter, Contains, arith, refl, sym, ap, ◌∙◌, subst, true≢false}
use Rattle.std.specs.List.{list_any}
use Rattle.std.proofs.lemmas.List.Elements.{Contains-append_right, Contains-append_cases}

pub Contains-nil : {X : Type 0} (x : X) → Contains [] x → ⊥
Contains-nil x h = omega (arith, h.1)

pub Contains-head : {X : Type 0} (x : X) (xs : List X) → Contains (x ∷ xs) x
Contains-head x xs = (zero, omega arith, refl)

pub Contains-cons : {X : Type 0} (x y : X) (xs : List X) → Contains xs y → Contains (x ∷ xs) y
Contains-cons x y xs h = Contains-append_right (x ∷ []) xs y h

pub Contains-cons_cases : {X : Type 0} (x y : X) (xs : List X) → Contains (x ∷ xs) y → (x ≡ y) ⊎ Contains xs y
Contains-cons_cases x y xs (zero, l, e) = inl e
Contains-cons_cases x y xs (suc k, l, e) = inr (k, omega arith, e)

kept_behind : {X : Type 0} (keep : Bool) (x y : X) (xs : List X) → Contains xs y → Contains (cond keep (x ∷ xs) xs) y
kept_behind true x y xs h = Contains-cons x y xs h
kept_behind false x y xs h = h

kept_cases : {X : Type 0} (keep : Bool) (x y : X) (xs : List X) → Contains (cond keep (x ∷ xs) xs) y → (keep ≡ true) × (x ≡ y) ⊎ Contains xs y
kept_cases true x y xs h = elim (Contains-cons_cases x y xs h) [ inl e ↦ inl (refl, e) | inr k ↦ inr k ]
kept_cases false x y xs h = inr h

pub Contains-filter : {X : Type 0} (test : X → Bool) (xs : List X) (x : X) → Contains xs x → test x ≡ true → Contains (filter test xs) x
Contains-filter test [] x h t = h
Contains-filter test (y ∷ ys) x h t = elim (Contains-cons_cases y x ys h) [
  | inl e ↦ subst (λ z. Contains (cond (test z) (z ∷ filter test ys) (filter test ys)) x) (sym e) (rw t (Contains-head x (filter test ys)))
  | inr k ↦ kept_behind (test y) y x (filter test ys) (Contains-filter test ys x k t)
]

pub Contains-from_filter : {X : Type 0} (test : X → Bool) (xs : List X) (x : X) → Contains (filter test xs) x → Contains xs x × (test x ≡ true)
Contains-from_filter test [] x h = absurd (Contains-nil x h)
Contains-from_filter test (y ∷ ys) x h = elim (kept_cases (test y) y x (filter test ys) h) [
  | inl t ↦ subst (λ z. Contains (y ∷ ys) z × (test z ≡ true)) t.1 (Contains-head y ys, t.0)
  | inr k ↦ (Contains-cons y x ys (Contains-from_filter test ys x k).0, (Contains-from_filter test ys x k).1)
]

pub Contains-map : {X Y : Type 0} (f : X → Y) (xs : List X) (x : X) → Contains xs x → Contains (map f xs) (f x)
Contains-map f [] x h = absurd (Contains-nil x h)
Contains-map f (y ∷ ys) x h = elim (Contains-cons_cases y x ys h) [
  | inl e ↦ subst (λ z. Contains (f y ∷ map f ys) (f z)) e (Contains-head (f y) (map f ys))
  | inr k ↦ Contains-cons (f y) (f x) (map f ys) (Contains-map f ys x k)
]

pub Contains-from_map : {X Y : Type 0} (f : X → Y) (xs : List X) (y : Y) → Contains (map f xs) y → (x : X) × Contains xs x × (f x ≡ y)
Contains-from_map f [] y h = absurd (Contains-nil y h)
Contains-from_map f (x ∷ xs) y h = elim (Contains-cons_cases (f x) y (map f xs) h) [
  | inl e ↦ (x, Contains-head x xs, e)
  | inr k ↦ let found = Contains-from_map f xs y k in (found.0, Contains-cons x found.0 xs found.1, found.2)
]

-- the place of a member cuts the list in two
pub Contains-cut : {X : Type 0} (xs : List X) (x : X) → Contains xs x → (before : List X) × (behind : List X) × (xs ≡ before ++ x ∷ behind)
Contains-cut [] x h = absurd (Contains-nil x h)
Contains-cut (y ∷ ys) x h = elim (Contains-cons_cases y x ys h) [
  | inl e ↦ ([], ys, ap (λ z. z ∷ ys) e)
  | inr k ↦ let found = Contains-cut ys x k in (y ∷ found.0, found.1, ap (λ zs. y ∷ zs) found.2)
]

-- each element stands in the relation to all that follow it
abbrev pub Ranked : {X : Type 0} → (X → X → Type 0) → List X → Type 0
Ranked R [] = Unit {0}
Ranked {X} R (x ∷ xs) = ((y : X) → Contains xs y → R x y) × Ranked R xs

pub Ranked-append : {X : Type 0} (R : X → X → Type 0) (xs ys : List X) → Ranked R xs → Ranked R ys → ((x y : X) → Contains xs x → Contains ys y → R x y) → Ranked R (xs ++ ys)
Ranked-append R [] ys r s across = s
Ranked-append R (x ∷ xs) ys r s across = (
  λ y h. elim (Contains-append_cases xs ys y h) [ inl k ↦ r.0 y k | inr k ↦ across x y (Contains-head x xs) k ],
  Ranked-append R xs ys r.1 s (λ a b k l. across a b (Contains-cons x a xs k) l),
)

pub Ranked-push : {X : Type 0} (R : X → X → Type 0) (xs : List X) (y : X) → Ranked R xs → ((x : X) → Contains xs x → R x y) → Ranked R (xs ++ y ∷ [])
Ranked-push R xs y r before = Ranked-append R xs (y ∷ []) r (λ z h. absurd (Contains-nil z h), tt)
    (λ x z h k. elim (Contains-cons_cases y z [] k) [ inl e ↦ subst (λ w. R x w) e (before x h) | inr n ↦ absurd (Contains-nil z n) ])

kept_ranked : {X : Type 0} (R : X → X → Type 0) (keep : Bool) (x : X) (xs : List X) → ((y : X) → Contains xs y → R x y) → Ranked R xs → Ranked R (cond keep (x ∷ xs) xs)
kept_ranked R true x xs before r = (before, r)
kept_ranked R false x xs before r = r

pub Ranked-filter : {X : Type 0} (R : X → X → Type 0) (test : X → Bool) (xs : List X) → Ranked R xs → Ranked R (filter test xs)
Ranked-filter R test [] r = r
Ranked-filter R test (x ∷ xs) r = kept_ranked R (test x) x (filter test xs) (λ y h. r.0 y (Contains-from_filter test xs y h).0) (Ranked-filter R test xs r.1)

pub Ranked-map : {X Y : Type 0} (R : X → X → Type 0) (S : Y → Y → Type 0) (f : X → Y) (xs : List X) → ((x y : X) → Contains xs x → Contains xs y → R x y → S (f x) (f y)) → Ranked R xs → Ranked S (map f xs)
Ranked-map R S f [] keeps r = r
Ranked-map R S f (x ∷ xs) keeps r = (
  λ y h. let found = Contains-from_map f xs y h in
      subst (λ z. S (f x) z) found.2 (keeps x found.0 (Contains-head x xs) (Contains-cons x found.0 xs found.1) (r.0 found.0 found.1)),
  Ranked-map R S f xs (λ a b k l. keeps a b (Contains-cons x a xs k) (Contains-cons x b xs l)) r.1,
)

-- any two elements, however far apart
pub Ranked-apart : {X : Type 0} (R : X → X → Type 0) (before between behind : List X) (p q : X) → Ranked R (before ++ p ∷ (between ++ q ∷ behind)) → R p q
Ranked-apart R [] between behind p q r = r.0 q (Contains-append_right between (q ∷ behind) q (Contains-head q behind))
Ranked-apart R (x ∷ xs) between behind p q r = Ranked-apart R xs between behind p q r.1

-- a member that passes a test shows that one does, and the other way round
pub any_of : {X : Type 0} (test : X → Bool) (xs : List X) (x : X) → Contains xs x → test x ≡ true → list_any test xs ≡ true
any_of test [] x h e = absurd (Contains-nil x h)
any_of test (y ∷ ys) x h e = elim (Contains-cons_cases y x ys h) [
  | inl same ↦ rw (ap test same ∙ e) refl
  | inr k ↦ rw (any_of test ys x k e) (or_true (test y))
]
  where
    or_true : (b : Bool) → (b || true) ≡ true
    or_true true = refl
    or_true false = refl

pub record Found {X : Type 0} (test : X → Bool) (xs : List X) : Type 0 where
  pub one : X
  pub is : Contains xs one
  pub passes : test one ≡ true

pub find : {X : Type 0} (test : X → Bool) (xs : List X) → list_any test xs ≡ true → Found test xs
find test [] h = absurd (true≢false (sym h))
find {X} test (x ∷ xs) h = go (test x) refl h (find test xs)
  where
    go : (b : Bool) → test x ≡ b → (b || list_any test xs) ≡ true → (list_any test xs ≡ true → Found test xs) → Found test (x ∷ xs)
    go true e h deeper = record { one = x; is = Contains-head x xs; passes = e }
    go false e h deeper = let found = deeper h in record { one = found.one; is = Contains-cons x found.one xs found.is; passes = found.passes }
