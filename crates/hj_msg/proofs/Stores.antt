-- Which numbers stand in a list of rows, and stand there settled, after an entry came in, was settled or went out.
use Rattle.std.proofs.Common.{◌≡◌, ℕ, Bool, true, false, cond, not, ◌||◌, ◌&&◌, ◌==◌, List, [], ◌∷◌, filter, refl, ap, arith}
use Rattle.std.specs.List.{list_any}
use Rattle.std.proofs.lemmas.Bool.Decides.{nat_tests}
use Rattle.hj_msg.specs.Store.{Resting, with_element, with_settled}
use Rattle.hj_msg.specs.Core.{InFlight}

abbrev pub flies : {P : Type 0} → ℕ → List (InFlight P) → Bool
flies j rows = list_any (λ flying. flying.no == j) rows

abbrev pub rests : {P : Type 0} → ℕ → List (Resting P) → Bool
rests j rows = list_any (λ entry. entry.no == j) rows

abbrev pub rests_settled : {P : Type 0} → ℕ → List (Resting P) → Bool
rests_settled j rows = list_any (λ entry. entry.settled && entry.no == j) rows

-- an element is put in
pub any-with : {X : Type 0} (of : X → ℕ) (j : ℕ) (x : X) (rows : List X) → list_any (λ y. of y == j) (with_element of x rows) ≡ (of x == j || list_any (λ y. of y == j) rows)
any-with of j x [] = refl
any-with {X} of j x (y ∷ rows) = go (of y == of x) refl (any-with of j x rows)
  where
    go : (b : Bool) → (of y == of x) ≡ b → list_any (λ y. of y == j) (with_element of x rows) ≡ (of x == j || list_any (λ y. of y == j) rows)
        → list_any (λ y. of y == j) (cond b (x ∷ rows) (y ∷ with_element of x rows)) ≡ (of x == j || (of y == j || list_any (λ y. of y == j) rows))
    go true e deeper = grind (arith, nat_tests, e)
    go false e deeper = grind (arith, nat_tests, e, deeper)

-- another test than that of the number
pub any-with-other : {X : Type 0} (of : X → ℕ) (test : X → Bool) (x : X) (rows : List X) → test x ≡ false → ((y : X) → (of y == of x) ≡ true → test y ≡ false)
    → list_any test (with_element of x rows) ≡ list_any test rows
any-with-other of test x [] none same = rw none refl
any-with-other {X} of test x (y ∷ rows) none same = go (of y == of x) refl (any-with-other of test x rows none same)
  where
    go : (b : Bool) → (of y == of x) ≡ b → list_any test (with_element of x rows) ≡ list_any test rows
        → list_any test (cond b (x ∷ rows) (y ∷ with_element of x rows)) ≡ (test y || list_any test rows)
    go true e deeper = rw (none, same y e) refl
    go false e deeper = rw deeper refl

pub any-with-this : {X : Type 0} (of : X → ℕ) (test : X → Bool) (x : X) (rows : List X) → test x ≡ true → list_any test (with_element of x rows) ≡ true
any-with-this of test x [] some = rw some refl
any-with-this {X} of test x (y ∷ rows) some = go (of y == of x) refl (any-with-this of test x rows some)
  where
    go : (b : Bool) → (of y == of x) ≡ b → list_any test (with_element of x rows) ≡ true → list_any test (cond b (x ∷ rows) (y ∷ with_element of x rows)) ≡ true
    go true e deeper = rw some refl
    go false e deeper = rw deeper (grind arith)

pub any-with-none : {X : Type 0} (of : X → ℕ) (test : X → Bool) (x : X) (rows : List X) → test x ≡ false → list_any test rows ≡ false → list_any test (with_element of x rows) ≡ false
any-with-none of test x [] none all = rw none refl
any-with-none {X} of test x (y ∷ rows) none all = go (of y == of x) (any-with-none of test x rows none)
  where
    go : (b : Bool) → (list_any test rows ≡ false → list_any test (with_element of x rows) ≡ false) → list_any test (cond b (x ∷ rows) (y ∷ with_element of x rows)) ≡ false
    go true deeper = grind (arith, none, all)
    go false deeper = grind (arith, all, deeper)

pub any-without : {X : Type 0} (of : X → ℕ) (test : X → Bool) (j : ℕ) (rows : List X) → ((y : X) → (of y == j) ≡ true → test y ≡ false)
    → list_any test (filter (λ y. not (of y == j)) rows) ≡ list_any test rows
any-without of test j [] same = refl
any-without {X} of test j (y ∷ rows) same = go (of y == j) refl (any-without of test j rows same)
  where
    go : (b : Bool) → (of y == j) ≡ b → list_any test (filter (λ y. not (of y == j)) rows) ≡ list_any test rows
        → list_any test (cond (not b) (y ∷ filter (λ y. not (of y == j)) rows) (filter (λ y. not (of y == j)) rows)) ≡ (test y || list_any test rows)
    go true e deeper = rw (deeper, same y e) refl
    go false e deeper = rw deeper refl

pub any-without-this : {X : Type 0} (of : X → ℕ) (test : X → Bool) (j : ℕ) (rows : List X) → ((y : X) → (of y == j) ≡ false → test y ≡ false)
    → list_any test (filter (λ y. not (of y == j)) rows) ≡ false
any-without-this of test j [] other = refl
any-without-this {X} of test j (y ∷ rows) other = go (of y == j) refl (any-without-this of test j rows other)
  where
    go : (b : Bool) → (of y == j) ≡ b → list_any test (filter (λ y. not (of y == j)) rows) ≡ false
        → list_any test (cond (not b) (y ∷ filter (λ y. not (of y == j)) rows) (filter (λ y. not (of y == j)) rows)) ≡ false
    go true e deeper = deeper
    go false e deeper = rw (other y e, deeper) refl

pub rests-settling : {P : Type 0} (j at : ℕ) (rows : List (Resting P)) → rests j (with_settled at rows) ≡ rests j rows
rests-settling j at [] = refl
rests-settling j at (y ∷ rows) = ap (λ b. y.no == j || b) (rests-settling j at rows)

pub settled-settling : {P : Type 0} (j at : ℕ) (rows : List (Resting P)) → rests_settled j (with_settled at rows) ≡ (rests_settled j rows || (at == j && rests j rows))
settled-settling j at [] = grind arith
settled-settling j at (y ∷ rows) = grind (arith, nat_tests, settled-settling j at rows)

pub settled_held : {P : Type 0} (j : ℕ) (rows : List (Resting P)) → rests_settled j rows ≡ true → rests j rows ≡ true
settled_held j [] h = h
settled_held j (y ∷ rows) h = grind (arith, h, settled_held j rows)
