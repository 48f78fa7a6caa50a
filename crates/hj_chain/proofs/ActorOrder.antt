-- The actors of a chain, each at its place in their order.
use Rattle.std.proofs.Common.{◌≡◌, ℕ, zero, suc, ◌+◌, ◌*◌, ◌<◌, List, [], ◌∷◌, ◌++◌, length, map, Some, refl, ap, ◌∙◌, arith, length-append}
use Rattle.std.specs.List.{flat_map, range_with_len, slice_get}
use Rattle.std.proofs.lemmas.List.{length-map}
use Rattle.std.proofs.lemmas.List.FromFn.{length-range_with_len}
use Rattle.circular_buffer.proofs.Places.{slice_get-append_left, slice_get-append_right}
use Rattle.hj_base.specs.declared.numbers.Side.TheVariants.{Left, Right}
use Rattle.hj_chain.specs.declared.actor.Actor.{Actor}
use Rattle.hj_chain.specs.declared.actor.Actor.TheVariants.{Core, Collect}
use Rattle.hj_chain.specs.Serial.{actors, core_no}

abbrev ends_of : ℕ → List Actor
ends_of place = Core (core_no place) Left ∷ Core (core_no place) Right ∷ []

abbrev collection_of : ℕ → Actor
collection_of place = Collect (core_no place)

length-ends : (s n : ℕ) → length (flat_map ends_of (range_with_len s n)) ≡ 2 * n
length-ends s zero = refl
length-ends s (suc n) = omega (arith, length-ends (s + 1) n)

length-collections : (n : ℕ) → length (map collection_of (range_with_len 0 n)) ≡ n
length-collections n = length-map (range_with_len 0 n) collection_of ∙ length-range_with_len 0 n

pub length-actors : (n : ℕ) → length (actors n) ≡ 3 * n + 3
length-actors n = omega (arith, length-append (flat_map ends_of (range_with_len 0 n)) (map collection_of (range_with_len 0 n)), length-ends 0 n, length-collections n)

left_end-at : (s n k : ℕ) → k < n → (i at : ℕ) → i ≡ 2 * k → at ≡ s + k → slice_get (flat_map ends_of (range_with_len s n)) i ≡ Some (Core (core_no at) Left)
left_end-at s zero k low i at is is_at = absurd (omega (arith, low))
left_end-at s (suc n) zero low zero at is is_at = ap (λ (m : ℕ). Some (Core (core_no m) Left)) (omega (arith, is_at))
left_end-at s (suc n) zero low (suc i) at is is_at = absurd (omega (arith, is))
left_end-at s (suc n) (suc k) low (suc (suc i)) at is is_at = left_end-at (s + 1) n k (omega (arith, low)) i at (omega (arith, is)) (omega (arith, is_at))
left_end-at s (suc n) (suc k) low zero at is is_at = absurd (omega (arith, is))
left_end-at s (suc n) (suc k) low (suc zero) at is is_at = absurd (omega (arith, is))

right_end-at : (s n k : ℕ) → k < n → (i at : ℕ) → i ≡ 2 * k + 1 → at ≡ s + k → slice_get (flat_map ends_of (range_with_len s n)) i ≡ Some (Core (core_no at) Right)
right_end-at s zero k low i at is is_at = absurd (omega (arith, low))
right_end-at s (suc n) zero low (suc zero) at is is_at = ap (λ (m : ℕ). Some (Core (core_no m) Right)) (omega (arith, is_at))
right_end-at s (suc n) zero low zero at is is_at = absurd (omega (arith, is))
right_end-at s (suc n) zero low (suc (suc i)) at is is_at = absurd (omega (arith, is))
right_end-at s (suc n) (suc k) low (suc (suc i)) at is is_at = right_end-at (s + 1) n k (omega (arith, low)) i at (omega (arith, is)) (omega (arith, is_at))
right_end-at s (suc n) (suc k) low zero at is is_at = absurd (omega (arith, is))
right_end-at s (suc n) (suc k) low (suc zero) at is is_at = absurd (omega (arith, is))

collection-at : (s n k : ℕ) → k < n → (at : ℕ) → at ≡ s + k → slice_get (map collection_of (range_with_len s n)) k ≡ Some (Collect (core_no at))
collection-at s zero k low at is_at = absurd (omega (arith, low))
collection-at s (suc n) zero low at is_at = ap (λ (m : ℕ). Some (Collect (core_no m))) (omega (arith, is_at))
collection-at s (suc n) (suc k) low at is_at = collection-at (s + 1) n k (omega (arith, low)) at (omega (arith, is_at))

behind-ports : (n i j : ℕ) → i ≡ j + 3 → slice_get (actors n) i ≡ slice_get (flat_map ends_of (range_with_len 0 n) ++ map collection_of (range_with_len 0 n)) j
behind-ports n (suc (suc (suc i))) j is = ap (slice_get (flat_map ends_of (range_with_len 0 n) ++ map collection_of (range_with_len 0 n))) (omega (arith, is))
behind-ports n zero j is = absurd (omega (arith, is))
behind-ports n (suc zero) j is = absurd (omega (arith, is))
behind-ports n (suc (suc zero)) j is = absurd (omega (arith, is))

-- each actor at its place
pub at-left : (n k i : ℕ) → k < n → i ≡ 2 * k + 3 → slice_get (actors n) i ≡ Some (Core (core_no k) Left)
at-left n k i low is =
    behind-ports n i (2 * k) is ∙ slice_get-append_left (flat_map ends_of (range_with_len 0 n)) (map collection_of (range_with_len 0 n)) (2 * k) (omega (arith, low, length-ends 0 n))
    ∙ left_end-at 0 n k low (2 * k) k refl (omega arith)

pub at-right : (n k i : ℕ) → k < n → i ≡ 2 * k + 4 → slice_get (actors n) i ≡ Some (Core (core_no k) Right)
at-right n k i low is =
    behind-ports n i (2 * k + 1) (omega (arith, is)) ∙ slice_get-append_left (flat_map ends_of (range_with_len 0 n)) (map collection_of (range_with_len 0 n)) (2 * k + 1) (omega (arith, low, length-ends 0 n))
    ∙ right_end-at 0 n k low (2 * k + 1) k refl (omega arith)

pub at-collection : (n k i : ℕ) → k < n → i ≡ 2 * n + k + 3 → slice_get (actors n) i ≡ Some (Collect (core_no k))
at-collection n k i low is =
    behind-ports n i (2 * n + k) is
    ∙ slice_get-append_right (flat_map ends_of (range_with_len 0 n)) (map collection_of (range_with_len 0 n)) (2 * n + k) k (omega (arith, length-ends 0 n))
    ∙ collection-at 0 n k low k (omega arith)
