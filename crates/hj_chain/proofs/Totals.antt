-- What the elements of a list weigh together, each by its place.
use Rattle.std.proofs.Common.{◌≡◌, ℕ, zero, suc, ◌+◌, ◌<◌, List, [], ◌∷◌, ◌++◌, length, get_or, refl, arith}
use Rattle.hj_chain.specs.Links.{changed_at}

-- wherever the elements stand
abbrev pub sum_of : {X : Type 0} → (X → ℕ) → List X → ℕ
sum_of weigh [] = 0
sum_of weigh (x ∷ xs) = weigh x + sum_of weigh xs

pub sum_of-append : {X : Type 0} (weigh : X → ℕ) (xs ys : List X) → sum_of weigh (xs ++ ys) ≡ sum_of weigh xs + sum_of weigh ys
sum_of-append weigh [] ys = omega arith
sum_of-append weigh (x ∷ xs) ys = omega (arith, sum_of-append weigh xs ys)

-- by their places
abbrev pub total : {X : Type 0} → (ℕ → X → ℕ) → List X → ℕ
total weigh [] = 0
total weigh (x ∷ xs) = weigh 0 x + total (λ k. weigh (suc k)) xs

pub total-changed : {X : Type 0} (weigh : ℕ → X → ℕ) (i : ℕ) (f : X → X) (xs : List X) (default : X) → i < length xs
    → total weigh (changed_at i f xs) + weigh i (get_or xs i default) ≡ total weigh xs + weigh i (f (get_or xs i default))
total-changed weigh i f [] default in_range = absurd (omega arith)
total-changed weigh zero f (x ∷ xs) default in_range = omega arith
total-changed weigh (suc i) f (x ∷ xs) default in_range = omega (arith, total-changed (λ k. weigh (suc k)) i f xs default (omega arith))

pub total-nothing : {X : Type 0} (weigh : ℕ → X → ℕ) (xs : List X) (default : X) → ((k : ℕ) → k < length xs → weigh k (get_or xs k default) ≡ 0) → total weigh xs ≡ 0
total-nothing weigh [] default each = refl
total-nothing weigh (x ∷ xs) default each = omega (arith, each 0 (omega arith), total-nothing (λ k. weigh (suc k)) xs default (λ k low. each (suc k) (omega (arith, low))))
