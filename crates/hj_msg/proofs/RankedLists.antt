-- Lists of which each element stands in an order to all that follow it, and what a test keeps of them.
use Rattle.std.proofs.Common.{◌≡◌, ◌⊎◌, inl, inr, Bool, true, false, cond, List, [], ◌∷◌, ◌++◌, filter, Contains, refl, ap, ap₂, sym, ◌∙◌, subst, true≢false}
use Rattle.hj_base.specs.Journals.{IsPrefix}
use Rattle.hj_msg.proofs.Members.{Contains-nil, Contains-head, Contains-cons, Contains-cons_cases, Ranked}

-- two lists in the same order with the same members are one
pub same_ranked : {X : Type 0} (R : X → X → Type 0) → ((x y : X) → R x y → R y x → ⊥) → (xs ys : List X) → Ranked R xs → Ranked R ys → ((x : X) → Contains xs x → Contains ys x) → ((x : X) → Contains ys x → Contains xs x) → xs ≡ ys
same_ranked R apart [] [] r s to from = refl
same_ranked R apart [] (y ∷ ys) r s to from = absurd (Contains-nil y (from y (Contains-head y ys)))
same_ranked R apart (x ∷ xs) [] r s to from = absurd (Contains-nil x (to x (Contains-head x xs)))
same_ranked {X} R apart (x ∷ xs) (y ∷ ys) r s to from =
    ap₂ (λ z zs. z ∷ zs) heads (same_ranked R apart xs ys r.1 s.1
    (λ z h. elim (Contains-cons_cases y z ys (to z (Contains-cons x z xs h))) [
      | inl e ↦ let loop : R x x = subst (λ w. R x w) (sym (heads ∙ e)) (r.0 z h) in absurd (apart x x loop loop)
      | inr k ↦ k
    ])
    (λ z h. elim (Contains-cons_cases x z xs (from z (Contains-cons y z ys h))) [
      | inl e ↦ let loop : R y y = subst (λ w. R y w) (sym e ∙ heads) (s.0 z h) in absurd (apart y y loop loop)
      | inr k ↦ k
    ]))
  where
    heads : x ≡ y
    heads = elim (Contains-cons_cases y x ys (to x (Contains-head x xs))) [
      | inl e ↦ sym e
      | inr k ↦ elim (Contains-cons_cases x y xs (from y (Contains-head y ys))) [
        | inl e ↦ e
        | inr l ↦ absurd (apart x y (r.0 y l) (s.0 x k))
      ]
    ]

-- of two members one stands before the other, or they are one
pub one_first : {X : Type 0} (R : X → X → Type 0) (xs : List X) → Ranked R xs → (x y : X) → Contains xs x → Contains xs y → (x ≡ y) ⊎ (R x y ⊎ R y x)
one_first R [] r x y h k = absurd (Contains-nil x h)
one_first R (z ∷ zs) r x y h k = elim (Contains-cons_cases z x zs h) [
  | inl e ↦ elim (Contains-cons_cases z y zs k) [
    | inl f ↦ inl (sym e ∙ f)
    | inr l ↦ inr (inl (subst (λ w. R w y) e (r.0 y l)))
  ]
  | inr l ↦ elim (Contains-cons_cases z y zs k) [
    | inl f ↦ inr (inr (subst (λ w. R w x) f (r.0 x l)))
    | inr m ↦ one_first R zs r.1 x y l m
  ]
]

pub ranked_by : {X : Type 0} (R S : X → X → Type 0) → ((x y : X) → R x y → S x y) → (xs : List X) → Ranked R xs → Ranked S xs
ranked_by R S to [] r = tt
ranked_by R S to (x ∷ xs) r = (λ y h. to x y (r.0 y h), ranked_by R S to xs r.1)

-- a test that holds of all that comes before what passes keeps a beginning
pub filter_prefix : {X : Type 0} (R : X → X → Type 0) (test : X → Bool) → ((x y : X) → R x y → test y ≡ true → test x ≡ true) → (xs : List X) → Ranked R xs → IsPrefix (filter test xs) xs
filter_prefix R test down [] r = record { rest = []; is = refl }
filter_prefix {X} R test down (x ∷ xs) r = go (test x) refl (filter_prefix R test down xs r.1)
  where
    none : (ys : List X) → ((y : X) → Contains ys y → test y ≡ false) → filter test ys ≡ []
    none [] each = refl
    none (y ∷ ys) each = rw (each y (Contains-head y ys)) (none ys (λ z h. each z (Contains-cons y z ys h)))

    fails : (b : Bool) (y : X) → test y ≡ b → R x y → test x ≡ false → test y ≡ false
    fails false y e above f = e
    fails true y e above f = absurd (true≢false (sym (down x y above e) ∙ f))

    go : (b : Bool) → test x ≡ b → IsPrefix (filter test xs) xs → IsPrefix (cond b (x ∷ filter test xs) (filter test xs)) (x ∷ xs)
    go true e deeper = record { rest = deeper.rest; is = ap (λ ys. x ∷ ys) deeper.is }
    go false e deeper = record { rest = x ∷ xs; is = ap (λ ys. ys ++ x ∷ xs) (sym (none xs (λ y h. fails (test y) y refl (r.0 y h) e))) }

pub filter_all : {X : Type 0} (test : X → Bool) → ((x : X) → test x ≡ true) → (xs : List X) → filter test xs ≡ xs
filter_all test holds [] = refl
filter_all test holds (x ∷ xs) = rw (holds x) (ap (λ ys. x ∷ ys) (filter_all test holds xs))

-- the narrower of two tests
pub filter_twice : {X : Type 0} (narrow wide : X → Bool) → ((x : X) → narrow x ≡ true → wide x ≡ true) → (xs : List X) → filter narrow (filter wide xs) ≡ filter narrow xs
filter_twice narrow wide within [] = refl
filter_twice {X} narrow wide within (x ∷ xs) = go (wide x) (narrow x) refl refl (filter_twice narrow wide within xs)
  where
    go : (b c : Bool) → wide x ≡ b → narrow x ≡ c → filter narrow (filter wide xs) ≡ filter narrow xs → filter narrow (cond b (x ∷ filter wide xs) (filter wide xs)) ≡ cond c (x ∷ filter narrow xs) (filter narrow xs)
    go true true e f deeper = rw f (ap (λ ys. x ∷ ys) deeper)
    go true false e f deeper = rw f deeper
    go false false e f deeper = deeper
    go false true e f deeper = absurd (true≢false (sym (within x f) ∙ e))
