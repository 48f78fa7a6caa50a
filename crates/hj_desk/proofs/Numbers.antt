-- The numbers of turns: each is above those before it.
use Rattle.std.proofs.Common.{◌≡◌, ℕ, ◌+◌, ◌-◌, ◌<◌, List, [], ◌∷◌, ◌++◌, length, map, get_or, refl, sym, subst, arith, add-one}
use Rattle.std.specs.List.{All}
use Rattle.std.specs.List.Sorted.{IsStrictlyIncreasing, IsNonDecreasing}
use Rattle.std.proofs.lemmas.List.{map-append}
use Rattle.std.proofs.lemmas.List.Elements.{All-push, All-weaker}
use Rattle.std.proofs.lemmas.List.Kept.{AllPairs-from_increasing}
use Rattle.std.proofs.lemmas.List.Quantifiers.{all_pairs_push}
use Rattle.std.proofs.lemmas.List.Sorted.{IsNonDecreasingBy-push}
use Rattle.hj_base.specs.Journals.{Entry, taken}
use Rattle.hj_desk.specs.Desk.{IsBefore}

module _ (bound next : ℕ) (is : next ≡ bound + 1) where
  pub below-more : (xs : List ℕ) → All (λ x. x < bound) xs → All (λ x. x < next) xs
  below-more xs old = All-weaker (λ x. x < bound) (λ x. x < next) (λ x less. omega (arith, less, is)) xs old

  pub below-push : (xs : List ℕ) → All (λ x. x < bound) xs → All (λ x. x < next) (xs ++ bound ∷ [])
  below-push xs old = All-push (λ x. x < next) xs bound (below-more xs old) (omega (arith, is))

  module _ {M : Type 0} (journal : List (Entry M)) (old : IsBefore bound journal) where
    pub before-more : IsBefore next journal
    before-more = record { in_turn = old.in_turn; before = below-more (map (λ (e : Entry M). e.turn) journal) old.before }

    pub before-taken : (message : M) → IsBefore next (journal ++ taken bound message ∷ [])
    before-taken message =
        let xs = map (λ (e : Entry M). e.turn) journal in
        let pushed : map (λ (e : Entry M). e.turn) (journal ++ taken bound message ∷ []) ≡ map (λ (e : Entry M). e.turn) journal ++ bound ∷ [] = map-append (λ (e : Entry M). e.turn) journal (taken bound message ∷ []) in
        record {
          in_turn = subst IsNonDecreasing (sym pushed) (IsNonDecreasingBy-push (λ x. x) xs bound old.in_turn (λ d some. omega (arith, old.before (length xs - 1) d (omega arith))));
          before = subst (All (λ x. x < next)) (sym pushed) (below-push xs old.before);
        }

pub increasing-push : (bound : ℕ) (xs : List ℕ) → IsStrictlyIncreasing xs → All (λ x. x < bound) xs → IsStrictlyIncreasing (xs ++ bound ∷ [])
increasing-push bound xs rising below k low = all_pairs_push (λ x y. x < y) xs bound (AllPairs-from_increasing xs rising) below k (k + 1) 0 (omega arith) low

pub tail_rises : (x : ℕ) (xs : List ℕ) → IsStrictlyIncreasing (x ∷ xs) → IsStrictlyIncreasing xs
tail_rises x xs rising k within =
    let next : get_or (x ∷ xs) (k + 1) 0 < get_or (x ∷ xs) ((k + 1) + 1) 0 = rising (k + 1) (omega arith) in
    let here : get_or (x ∷ xs) (k + 1) 0 ≡ get_or xs k 0 = rw (add-one k) refl in
    let there : get_or (x ∷ xs) ((k + 1) + 1) 0 ≡ get_or xs (k + 1) 0 = rw (add-one (k + 1)) refl in
    omega arith
