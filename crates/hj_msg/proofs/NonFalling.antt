-- Numbers of which each is at most the next.
use Rattle.std.proofs.Common.{ℕ, zero, suc, ◌<◌, ◌≤◌, List, [], ◌∷◌, length, get_or, arith}
use Rattle.std.specs.List.Sorted.{IsNonDecreasing}

abbrev pub NoFall : ℕ → List ℕ → Type 0
NoFall low [] = Unit {0}
NoFall low (x ∷ xs) = (low ≤ x) × NoFall x xs

no_fall_from : (low : ℕ) (xs : List ℕ) → NoFall low xs → (j d : ℕ) → j < length xs → low ≤ get_or xs j d
no_fall_from low [] all j d within = absurd (omega arith)
no_fall_from low (x ∷ xs) all zero d within = all.0
no_fall_from low (x ∷ xs) all (suc j) d within = omega (arith, all.0, no_fall_from x xs all.1 j d (omega arith))

pub no_fall-lower : (low high : ℕ) (xs : List ℕ) → low ≤ high → NoFall high xs → NoFall low xs
no_fall-lower low high [] less all = tt
no_fall-lower low high (x ∷ xs) less all = (omega (arith, less, all.0), all.1)

pub non_decreasing : (low : ℕ) (xs : List ℕ) → NoFall low xs → IsNonDecreasing xs
non_decreasing low [] all i j d below within = absurd (omega arith)
non_decreasing low (x ∷ xs) all zero zero d below within = omega arith
non_decreasing low (x ∷ xs) all zero (suc j) d below within = no_fall_from x xs all.1 j d (omega arith)
non_decreasing low (x ∷ xs) all (suc i) zero d below within = absurd (omega arith)
non_decreasing low (x ∷ xs) all (suc i) (suc j) d below within = non_decreasing x xs all.1 i j d (omega arith) (omega arith)
