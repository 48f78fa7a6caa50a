-- What holds of each member of a list.
use Rattle.std.proofs.Common.{ℕ, zero, suc, ◌<◌, Bool, true, false, cond, List, [], ◌∷◌, ◌++◌, length, get_or, All, arith}
use Rattle.std.specs.List.{filter}

-- each member is so
abbrev pub Each : {X : Type 0} → (X → Type 0) → List X → Type 0
Each P [] = Unit {0}
Each P (x ∷ xs) = P x × Each P xs

module _ {X : Type 0} (P : X → Type 0) where
  pub each-both : (xs ys : List X) → Each P xs → Each P ys → Each P (xs ++ ys)
  each-both [] ys h k = k
  each-both (x ∷ xs) ys h k = (h.0, each-both xs ys h.1 k)

  pub each-filter : (test : X → Bool) (xs : List X) → Each P xs → Each P (filter test xs)
  each-filter test [] h = tt
  each-filter test (x ∷ xs) h = by_test (test x) (each-filter test xs h.1)
    where
      by_test : (keep : Bool) → Each P (filter test xs) → Each P (cond keep (x ∷ filter test xs) (filter test xs))
      by_test true kept = (h.0, kept)
      by_test false kept = kept

  pub each-all : (xs : List X) → Each P xs → All P xs
  each-all [] h = λ k d lt. absurd (omega (arith, lt))
  each-all (x ∷ xs) h = at (each-all xs h.1)
    where
      at : All P xs → (k : ℕ) (d : X) → k < length (x ∷ xs) → P (get_or (x ∷ xs) k d)
      at others zero d lt = h.0
      at others (suc k) d lt = others k d (omega (arith, lt))

-- what follows of each
pub each-weaker : {X : Type 0} (P Q : X → Type 0) (xs : List X) → ((x : X) → P x → Q x) → Each P xs → Each Q xs
each-weaker P Q [] so h = tt
each-weaker P Q (x ∷ xs) so h = (so x h.0, each-weaker P Q xs so h.1)
