-- Which of two messages comes first in a list.
use Rattle.std.proofs.Common.{◌≡◌, ◌≤◌, Bool, true, false, cond, ◌||◌, List, [], ◌∷◌, ◌++◌, refl, ap, ap₂, sym, ◌∙◌, arith, append_assoc, true≢false}
use Rattle.std.specs.List.{list_any, flat_map}
use Rattle.hj_base.specs.Journals.{IsPrefix}
use Rattle.hj_msg.proofs.Counts.{count, count-append}

-- whether an element that passes p stands before the first one that passes q
abbrev pub before : {X : Type 0} → (X → Bool) → (X → Bool) → List X → Bool
before p q [] = false
before p q (x ∷ xs) = cond (q x) false (p x || before p q xs)

pub any-append : {X : Type 0} (p : X → Bool) (xs ys : List X) → list_any p (xs ++ ys) ≡ (list_any p xs || list_any p ys)
any-append p [] ys = refl
any-append p (x ∷ xs) ys = grind (arith, any-append p xs ys)

pub before-done : {X : Type 0} (p q : X → Bool) (xs ys : List X) → list_any q xs ≡ true → before p q (xs ++ ys) ≡ before p q xs
before-done p q [] ys h = absurd (true≢false (sym h))
before-done p q (x ∷ xs) ys h = grind (arith, before-done p q xs ys)

pub before-open : {X : Type 0} (p q : X → Bool) (xs ys : List X) → list_any q xs ≡ false → before p q (xs ++ ys) ≡ (list_any p xs || before p q ys)
before-open p q [] ys h = refl
before-open p q (x ∷ xs) ys h = grind (arith, before-open p q xs ys)

pub before-prefix : {X : Type 0} (p q : X → Bool) {xs ys : List X} → IsPrefix xs ys → list_any q xs ≡ true → before p q ys ≡ before p q xs
before-prefix p q {xs} prefix h = rw prefix.is (before-done p q xs prefix.rest h)

pub any-prefix : {X : Type 0} (p : X → Bool) {xs ys : List X} → IsPrefix xs ys → list_any p xs ≡ true → list_any p ys ≡ true
any-prefix p {xs} prefix h = rw prefix.is (rw (any-append p xs prefix.rest) (grind (arith, h)))

-- what stands before comes to be
pub before-any : {X : Type 0} (p q : X → Bool) (xs : List X) → before p q xs ≡ true → list_any p xs ≡ true
before-any p q [] h = absurd (true≢false (sym h))
before-any p q (x ∷ xs) h = grind (arith, before-any p q xs)

pub before-not_self : {X : Type 0} (p : X → Bool) (xs : List X) → before p p xs ≡ false
before-not_self p [] = refl
before-not_self p (x ∷ xs) = grind (arith, before-not_self p xs)

-- one before the other, and never the other way round
pub before-other : {X : Type 0} (p q : X → Bool) (xs : List X) → before p q xs ≡ true → before q p xs ≡ false
before-other p q [] h = refl
before-other p q (x ∷ xs) h = grind (arith, before-other p q xs)

-- What each element turns into: it holds an element that passes p' where the element passes p, the same of q' and q, and,
-- where it passes q, none of p' before the one of q'.
pub record Lifts {X Y : Type 0} (p' q' : Y → Bool) (p q : X → Bool) (f : X → List Y) (x : X) : Type 0 where
  pub first : list_any p' (f x) ≡ p x
  pub second : list_any q' (f x) ≡ q x
  pub apart : q x ≡ true → before p' q' (f x) ≡ false

-- The same order before and after. The last list is a part of what a last element turns into.
pub lifted : {X Y : Type 0} (p' q' : Y → Bool) (p q : X → Bool) (f : X → List Y) → ((x : X) → Lifts p' q' p q f x) → (xs : List X) (last : List X) (part : List Y)
    → (list_any q' part ≡ true → before p' q' part ≡ before p q last)
    → list_any q' (flat_map f xs ++ part) ≡ true → before p' q' (flat_map f xs ++ part) ≡ before p q (xs ++ last)
lifted p' q' p q f lifts [] last part base h = base h
lifted {X} {Y} p' q' p q f lifts (x ∷ xs) last part base h =
    rw (append_assoc (f x) (flat_map f xs) part) (go (q x) refl (lifted p' q' p q f lifts xs last part base))
  where
    all : list_any q' (f x ++ (flat_map f xs ++ part)) ≡ true
    all = ap (list_any q') (sym (append_assoc (f x) (flat_map f xs) part)) ∙ h

    go : (b : Bool) → q x ≡ b → (list_any q' (flat_map f xs ++ part) ≡ true → before p' q' (flat_map f xs ++ part) ≡ before p q (xs ++ last))
        → before p' q' (f x ++ (flat_map f xs ++ part)) ≡ cond b false (p x || before p q (xs ++ last))
    go true e deeper = before-done p' q' (f x) (flat_map f xs ++ part) ((lifts x).second ∙ e) ∙ (lifts x).apart e
    go false e deeper =
        let none : list_any q' (f x) ≡ false = (lifts x).second ∙ e in
        let later : list_any q' (flat_map f xs ++ part) ≡ true = grind (arith, any-append q' (f x) (flat_map f xs ++ part), all, none) in
        before-open p' q' (f x) (flat_map f xs ++ part) none ∙ ap₂ (λ b c. b || c) (lifts x).first (deeper later)

pub lifted-any : {X Y : Type 0} (q' : Y → Bool) (q : X → Bool) (f : X → List Y) → ((x : X) → list_any q' (f x) ≡ q x) → (xs : List X) (last : List X) (part : List Y)
    → (list_any q' part ≡ true → list_any q last ≡ true)
    → list_any q' (flat_map f xs ++ part) ≡ true → list_any q (xs ++ last) ≡ true
lifted-any q' q f lifts [] last part base h = base h
lifted-any q' q f lifts (x ∷ xs) last part base h =
    let all : list_any q' (f x ++ (flat_map f xs ++ part)) ≡ true = ap (list_any q') (sym (append_assoc (f x) (flat_map f xs) part)) ∙ h in
    grind (arith, all, any-append q' (f x) (flat_map f xs ++ part), lifts x, lifted-any q' q f lifts xs last part base)

pub before-or : {X : Type 0} (p e q : X → Bool) (xs : List X) → list_any e xs ≡ false → before (λ x. p x || e x) q xs ≡ before p q xs
before-or p e q [] none = refl
before-or p e q (x ∷ xs) none = grind (arith, none, before-or p e q xs)

pub any-or : {X : Type 0} (p e : X → Bool) (xs : List X) → list_any e xs ≡ false → list_any (λ x. p x || e x) xs ≡ list_any p xs
any-or p e [] none = refl
any-or p e (x ∷ xs) none = grind (arith, none, any-or p e xs)

-- the order is transitive
pub before-trans : {X : Type 0} (p q r : X → Bool) (xs : List X) → before p q xs ≡ true → before q r xs ≡ true → before p r xs ≡ true
before-trans p q r [] h k = absurd (true≢false (sym h))
before-trans p q r (x ∷ xs) h k = grind (arith, h, k, before-trans p q r xs)

-- of two that both stand there, one is before the other
pub before-either : {X : Type 0} (p q : X → Bool) (xs : List X) → ((x : X) → p x ≡ true → q x ≡ false) → list_any p xs ≡ true → before p q xs ≡ false → before q p xs ≡ false → ⊥
before-either p q [] apart some one other = true≢false (sym some)
before-either p q (x ∷ xs) apart some one other = grind (arith, some, one, other, apart x, before-either p q xs apart)

-- what stands in front of a message that comes once is what comes before it
pub front_is : {X : Type 0} (p q : X → Bool) (front back : List X) (x : X) → q x ≡ true → count q (front ++ x ∷ back) ≤ 1 → before p q (front ++ x ∷ back) ≡ list_any p front
front_is {X} p q front back x is_q once =
    let none : list_any q front ≡ false = empty front (omega_none front) in
    before-open p q front (x ∷ back) none ∙ (rw is_q (or_false (list_any p front)))
  where
    or_false : (b : Bool) → (b || false) ≡ b
    or_false true = refl
    or_false false = refl

    empty : (xs : List X) → count q xs ≡ 0 → list_any q xs ≡ false
    empty [] e = refl
    empty (y ∷ ys) e = grind (arith, e, empty ys)

    omega_none : (xs : List X) → count q front ≡ 0
    omega_none xs = grind (arith, count-append q front (x ∷ back), once, is_q)

pub front_has : {X : Type 0} (q : X → Bool) (front back : List X) (x : X) → q x ≡ true → list_any q (front ++ x ∷ back) ≡ true
front_has q front back x is_q = any-append q front (x ∷ back) ∙ rw is_q (or_true (list_any q front))
  where
    or_true : (b : Bool) → (b || true) ≡ true
    or_true true = refl
    or_true false = refl

-- the front of a list, where one message comes before another in the whole
pub front_before : {X : Type 0} (p q : X → Bool) (front back : List X) → list_any q front ≡ true → before p q (front ++ back) ≡ true → before p q front ≡ true
front_before p q front back some h = sym (before-done p q front back some) ∙ h

pub front_count : {X : Type 0} (p : X → Bool) (front back : List X) → count p (front ++ back) ≤ 1 → count p front ≤ 1
front_count p front back once = omega (arith, count-append p front back, once)
