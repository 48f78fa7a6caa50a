-- The least of marks, and how many of them it is, where a mark comes, goes or takes another one's place.
use Rattle.std.proofs.Common.{◌≡◌, ℕ, zero, suc, ◌+◌, ◌-◌, ◌<◌, Bool, true, false, cond, List, [], ◌∷◌, ◌++◌, fold, map, set, take, get_or, slice_get, length, count_by, Some, refl, sym, ap, subst, ◌∙◌, arith, inl, inr, true≢false}
use Rattle.std.specs.declared.option.Option.{Option}
use Rattle.std.proofs.lemmas.List.Sums.{fold-append, sum_by-cons, count_by-le-length}
use Rattle.std.proofs.Math.Seq.{take-suc}
use Rattle.std.proofs.lemmas.List.{map-append}
use Rattle.hj_msg.specs.Punctuation.{Mark, all, lesser}
use Rattle.hj_collect.specs.Marks.{least_of, is_same}
use Rattle.hj_collect.proofs.MarkOrder.{IsLess, same-self, same-true, same-flip, lesser-self, lesser-comm, lesser-assoc, lesser-either}

-- ---- the least

fold-lesser : (a b : Option Mark) (xs : List (Option Mark)) → fold lesser (lesser a b) xs ≡ lesser a (fold lesser b xs)
fold-lesser a b [] = refl
fold-lesser a b (x ∷ xs) = ap (λ m. fold lesser m xs) (lesser-assoc a b x) ∙ fold-lesser a (lesser b x) xs

pub least-cons : (x : Option Mark) (xs : List (Option Mark)) → least_of (x ∷ xs) ≡ lesser x (least_of xs)
least-cons x xs = ap (λ m. fold lesser m xs) (lesser-comm (Some all) x) ∙ fold-lesser x (Some all) xs

pub least-snoc : (xs : List (Option Mark)) (x : Option Mark) → least_of (xs ++ x ∷ []) ≡ least_of (x ∷ xs)
least-snoc xs x = fold-append lesser (Some all) xs (x ∷ []) ∙ (lesser-comm (least_of xs) x ∙ sym (least-cons x xs))

count-cons : (p : Option Mark → Bool) (x : Option Mark) (xs : List (Option Mark)) → count_by p (x ∷ xs) ≡ cond (p x) 1 0 + count_by p xs
count-cons p x xs = sum_by-cons (λ y. cond (p y) 1 0) x xs

count-yes : (p : Option Mark → Bool) (x : Option Mark) (xs : List (Option Mark)) → p x ≡ true → count_by p (x ∷ xs) ≡ 1 + count_by p xs
count-yes p x xs e = count-cons p x xs ∙ rw e refl

count-no : (p : Option Mark → Bool) (x : Option Mark) (xs : List (Option Mark)) → p x ≡ false → count_by p (x ∷ xs) ≡ count_by p xs
count-no p x xs e = count-cons p x xs ∙ rw e (omega arith)

-- a mark that is below the least of others is none of them
pub none_below : (m : Option Mark) (xs : List (Option Mark)) → IsLess m (least_of xs) → count_by (is_same m) xs ≡ 0
none_below m [] less = refl
none_below m (x ∷ xs) less = by (is_same m x) refl (none_below m xs)
  where
    below : lesser m (lesser x (least_of xs)) ≡ m
    below = ap (lesser m) (sym (least-cons x xs)) ∙ less.0

    deeper : lesser m (least_of xs) ≡ m
    deeper =
        ap (λ n. lesser n (least_of xs)) (sym below)
        ∙ (lesser-assoc m (lesser x (least_of xs)) (least_of xs)
        ∙ (ap (lesser m) (lesser-assoc x (least_of xs) (least_of xs) ∙ ap (lesser x) (lesser-self (least_of xs))) ∙ below))

    -- m would be the least of all
    clash : m ≡ least_of (x ∷ xs) → count_by (is_same m) (x ∷ xs) ≡ 0
    clash e = absurd (true≢false (sym (same-self m) ∙ (ap (is_same m) e ∙ less.1)))

    by : (b : Bool) → is_same m x ≡ b → (IsLess m (least_of xs) → count_by (is_same m) xs ≡ 0) → count_by (is_same m) (x ∷ xs) ≡ 0
    by true e later =
        let same : m ≡ x = same-true m x e in
        clash (sym deeper ∙ (ap (λ n. lesser n (least_of xs)) same ∙ sym (least-cons x xs)))
    by false e later = inner (is_same m (least_of xs)) refl
      where
        inner : (b : Bool) → is_same m (least_of xs) ≡ b → count_by (is_same m) (x ∷ xs) ≡ 0
        inner false f = count-no (is_same m) x xs e ∙ later (deeper, f)
        inner true f =
            let same : m ≡ least_of xs = same-true m (least_of xs) f in
            let first : lesser m x ≡ m =
            ap (λ n. lesser n x) (sym (lesser-self m)) ∙ (lesser-assoc m m x ∙ (ap (lesser m) (lesser-comm m x ∙ ap (lesser x) same) ∙ below)) in
            clash (sym first ∙ (lesser-comm m x ∙ (ap (lesser x) same ∙ sym (least-cons x xs))))

-- a mark that is above none of others, and one of them, is their least
pub some_holder : (m : Option Mark) (xs : List (Option Mark)) → lesser m (least_of xs) ≡ m → 0 < count_by (is_same m) xs → m ≡ least_of xs
some_holder m xs below some = by (is_same m (least_of xs)) refl
  where
    by : (b : Bool) → is_same m (least_of xs) ≡ b → m ≡ least_of xs
    by true e = same-true m (least_of xs) e
    by false e = absurd (omega (arith, some, none_below m xs (below, e)))

-- the least of marks, and how many of them it is
abbrev pub Counts : Option Mark → ℕ → List (Option Mark) → Type 0
Counts m held xs = (m ≡ least_of xs) × (held ≡ count_by (is_same m) xs)

-- ---- one mark more

pub with_less : (x m : Option Mark) (held : ℕ) (xs : List (Option Mark)) → Counts m held xs → IsLess x m → Counts x 1 (x ∷ xs)
with_less x m held xs counts less = (
  sym less.0 ∙ (ap (lesser x) counts.0 ∙ sym (least-cons x xs)),
  let none = none_below x xs (ap (lesser x) (sym counts.0) ∙ less.0, ap (is_same x) (sym counts.0) ∙ less.1) in omega (arith, none, count-yes (is_same x) x xs (same-self x)),
)

pub with_same : (x m : Option Mark) (held : ℕ) (xs : List (Option Mark)) → Counts m held xs → x ≡ m → Counts x (held + 1) (x ∷ xs)
with_same x m held xs counts same = (
  sym (lesser-self x) ∙ (ap (lesser x) (same ∙ counts.0) ∙ sym (least-cons x xs)),
  let more : held ≡ count_by (is_same x) xs = counts.1 ∙ ap (λ n. count_by (is_same n) xs) (sym same) in omega (arith, more, count-yes (is_same x) x xs (same-self x)),
)

pub with_greater : (x m : Option Mark) (held : ℕ) (xs : List (Option Mark)) → Counts m held xs → IsLess m x → Counts m held (x ∷ xs)
with_greater x m held xs counts less = (
  sym less.0 ∙ (lesser-comm m x ∙ (ap (lesser x) counts.0 ∙ sym (least-cons x xs))),
  counts.1 ∙ sym (count-no (is_same m) x xs less.1),
)

-- ---- one mark fewer

pub without_other : (x m : Option Mark) (held : ℕ) (xs : List (Option Mark)) → Counts m held (x ∷ xs) → is_same x m ≡ false → Counts m held xs
without_other x m held xs counts apart = (
  elim (lesser-either x (least_of xs)) [
    | inl e ↦ absurd (true≢false (sym (same-self x) ∙ (ap (is_same x) (sym e ∙ (sym (least-cons x xs) ∙ sym counts.0)) ∙ apart)))
    | inr e ↦ counts.0 ∙ (least-cons x xs ∙ e)
  ],
  let flipped : is_same m x ≡ false = same-flip m x ∙ apart in counts.1 ∙ count-no (is_same m) x xs flipped,
)

pub without_same : (x m : Option Mark) (held : ℕ) (xs : List (Option Mark)) → Counts m held (x ∷ xs) → is_same x m ≡ true → 0 < held - 1 → Counts m (held - 1) xs
without_same x m held xs counts same more =
    let e : x ≡ m = same-true x m same in
    let self : is_same m x ≡ true = ap (is_same m) e ∙ same-self m in
    let all_of : held ≡ 1 + count_by (is_same m) xs = counts.1 ∙ count-yes (is_same m) x xs self in
    let left : held - 1 ≡ count_by (is_same m) xs = omega (arith, all_of) in
    let whole : m ≡ lesser m (least_of xs) = counts.0 ∙ (least-cons x xs ∙ ap (λ n. lesser n (least_of xs)) e) in
    (some_holder m xs (sym whole) (omega (arith, left, more)), left)

-- ---- a mark in the place of another one

-- the elements but the one at a place
abbrev pub others : {X : Type 0} → List X → ℕ → List X
others [] i = []
others (x ∷ xs) zero = xs
others (x ∷ xs) (suc i) = x ∷ others xs i

swap_lesser : (a b c : Option Mark) → lesser a (lesser b c) ≡ lesser b (lesser a c)
swap_lesser a b c = sym (lesser-assoc a b c) ∙ (ap (λ m. lesser m c) (lesser-comm a b) ∙ lesser-assoc b a c)

least-others : (xs : List (Option Mark)) (i : ℕ) (x : Option Mark) → slice_get xs i ≡ Some x → least_of xs ≡ lesser x (least_of (others xs i))
least-others [] i x e = cc
least-others (y ∷ ys) zero x e = let same : y ≡ x = cc in least-cons y ys ∙ ap (λ m. lesser m (least_of ys)) same
least-others (y ∷ ys) (suc i) x e =
    least-cons y ys ∙ (ap (lesser y) (least-others ys i x e) ∙ (swap_lesser y x (least_of (others ys i)) ∙ ap (lesser x) (sym (least-cons y (others ys i)))))

least-set : (xs : List (Option Mark)) (i : ℕ) (x : Option Mark) → i < length xs → least_of (set xs i x) ≡ lesser x (least_of (others xs i))
least-set [] i x low = absurd (omega (arith, low))
least-set (y ∷ ys) zero x low = least-cons x ys
least-set (y ∷ ys) (suc i) x low =
    least-cons y (set ys i x)
    ∙ (ap (lesser y) (least-set ys i x (omega (arith, low))) ∙ (swap_lesser y x (least_of (others ys i)) ∙ ap (lesser x) (sym (least-cons y (others ys i)))))

count-others : (p : Option Mark → Bool) (xs : List (Option Mark)) (i : ℕ) (x : Option Mark) → slice_get xs i ≡ Some x → count_by p xs ≡ cond (p x) 1 0 + count_by p (others xs i)
count-others p [] i x e = cc
count-others p (y ∷ ys) zero x e = let same : y ≡ x = cc in count-cons p y ys ∙ ap (λ z. cond (p z) 1 0 + count_by p ys) same
count-others p (y ∷ ys) (suc i) x e = omega (arith, count-others p ys i x e, count-cons p y ys, count-cons p y (others ys i))

count-set : (p : Option Mark → Bool) (xs : List (Option Mark)) (i : ℕ) (x : Option Mark) → i < length xs → count_by p (set xs i x) ≡ cond (p x) 1 0 + count_by p (others xs i)
count-set p [] i x low = absurd (omega (arith, low))
count-set p (y ∷ ys) zero x low = count-cons p x ys
count-set p (y ∷ ys) (suc i) x low = omega (arith, count-set p ys i x (omega (arith, low)), count-cons p y (set ys i x), count-cons p y (others ys i))

pub taken_out : (m : Option Mark) (held : ℕ) (xs : List (Option Mark)) (i : ℕ) (x : Option Mark) → slice_get xs i ≡ Some x → Counts m held xs → Counts m held (x ∷ others xs i)
taken_out m held xs i x e counts = (counts.0 ∙ (least-others xs i x e ∙ sym (least-cons x (others xs i))), counts.1 ∙ (count-others (is_same m) xs i x e ∙ sym (count-cons (is_same m) x (others xs i))))

pub put_in : (m : Option Mark) (held : ℕ) (xs : List (Option Mark)) (i : ℕ) (x : Option Mark) → i < length xs → Counts m held (x ∷ others xs i) → Counts m held (set xs i x)
put_in m held xs i x low counts = (counts.0 ∙ (least-cons x (others xs i) ∙ sym (least-set xs i x low)), counts.1 ∙ (count-cons (is_same m) x (others xs i) ∙ sym (count-set (is_same m) xs i x low)))

-- a mark at the end is one more
pub put_last : (m : Option Mark) (held : ℕ) (xs : List (Option Mark)) (x : Option Mark) → Counts m held (x ∷ xs) → Counts m held (xs ++ x ∷ [])
put_last m held xs x counts = (counts.0 ∙ sym (least-snoc xs x), counts.1 ∙ (count-cons (is_same m) x xs ∙ sym (count-append (is_same m) xs)))
  where
    count-append : (p : Option Mark → Bool) (ys : List (Option Mark)) → count_by p (ys ++ x ∷ []) ≡ cond (p x) 1 0 + count_by p ys
    count-append p [] = count-cons p x []
    count-append p (y ∷ ys) = omega (arith, count-append p ys, count-cons p y ys, count-cons p y (ys ++ x ∷ []))

-- the marks of a list, one more of them
pub next_counts : {X : Type 0} (f : X → Option Mark) (xs : List X) (i : ℕ) (d : X) (m : Option Mark) (held : ℕ) → i < length xs → Counts m held (f (get_or xs i d) ∷ map f (take i xs)) → Counts m held (map f (take (i + 1) xs))
next_counts f xs i d m held low counts =
    let next : i + 1 ≡ suc i = omega arith in
    let is : map f (take (i + 1) xs) ≡ map f (take i xs) ++ f (get_or xs i d) ∷ [] = rw (next, take-suc xs i d low) (map-append f (take i xs) (get_or xs i d ∷ [])) in
    subst (λ ys. Counts m held ys) (sym is) (put_last m held (map f (take i xs)) (f (get_or xs i d)) counts)

-- the same behind a first one
pub next_behind : {X : Type 0} (f : X → Option Mark) (first : Option Mark) (xs : List X) (i : ℕ) (d : X) (m : Option Mark) (held : ℕ) → i < length xs → Counts m held (f (get_or xs i d) ∷ first ∷ map f (take i xs)) → Counts m held (first ∷ map f (take (i + 1) xs))
next_behind f first xs i d m held low counts =
    let next : i + 1 ≡ suc i = omega arith in
    let is : map f (take (i + 1) xs) ≡ map f (take i xs) ++ f (get_or xs i d) ∷ [] = rw (next, take-suc xs i d low) (map-append f (take i xs) (get_or xs i d ∷ [])) in
    subst (λ ys. Counts m held (first ∷ ys)) (sym is) (put_last m held (first ∷ map f (take i xs)) (f (get_or xs i d)) counts)

-- none but those that are there are counted
pub few : (m : Option Mark) (held : ℕ) (xs : List (Option Mark)) (i : ℕ) (x : Option Mark) → slice_get xs i ≡ Some x → Counts m held (others xs i) → held < length xs
few m held xs i x e counts = omega (arith, counts.1, count_by-le-length (is_same m) (others xs i), length-others xs i x e)
  where
    length-others : (ys : List (Option Mark)) (k : ℕ) (y : Option Mark) → slice_get ys k ≡ Some y → length (others ys k) < length ys
    length-others [] k y e = cc
    length-others (z ∷ ys) zero y e = omega arith
    length-others (z ∷ ys) (suc k) y e = omega (arith, length-others ys k y e)
