-- A latch that elements of one kind set, and elements of another kind clear.
use Rattle.std.proofs.Common.{◌≡◌, ◌≤◌, Bool, true, false, cond, not, ◌||◌, ◌&&◌, List, [], ◌∷◌, refl, sym, arith, true≢false}
use Rattle.std.specs.List.{list_any}
use Rattle.hj_msg.proofs.Counts.{count}
use Rattle.hj_msg.proofs.Orders.{before}

abbrev pub latch : {X : Type 0} → (X → Bool) → (X → Bool) → Bool → List X → Bool
latch on off b [] = b
latch on off b (x ∷ xs) = latch on off (cond (off x) false (on x || b)) xs

pub latch-set : {X : Type 0} (on off : X → Bool) (b : Bool) (xs : List X) → list_any off xs ≡ false → latch on off b xs ≡ (list_any on xs || b)
latch-set on off b [] none = refl
latch-set on off b (x ∷ xs) none = grind (arith, none, latch-set on off (cond (off x) false (on x || b)) xs)

pub latch-not_set : {X : Type 0} (on off : X → Bool) (b : Bool) (xs : List X) → count on xs ≡ 0 → latch on off b xs ≡ (b && not (list_any off xs))
latch-not_set on off b [] none = grind arith
latch-not_set on off b (x ∷ xs) none = grind (arith, none, latch-not_set on off (cond (off x) false (on x || b)) xs)

pub latch-cleared : {X : Type 0} (on off : X → Bool) (b : Bool) (xs : List X) → list_any off xs ≡ true → before on off xs ≡ true → count on xs ≤ 1 → latch on off b xs ≡ false
latch-cleared on off b [] some order once = absurd (true≢false (sym some))
latch-cleared on off b (x ∷ xs) some order once =
    grind (arith, some, order, once, latch-not_set on off (cond (off x) false (on x || b)) xs, latch-cleared on off (cond (off x) false (on x || b)) xs)

pub latch-never : {X : Type 0} (on off : X → Bool) (xs : List X) → list_any on xs ≡ false → latch on off false xs ≡ false
latch-never on off [] none = refl
latch-never on off (x ∷ xs) none = grind (arith, none, latch-never on off xs)
