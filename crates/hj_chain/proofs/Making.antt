-- The cores that are made from the last one to the first.
use Rattle.std.proofs.Common.{◌≡◌, ℕ, suc, ◌+◌, List, [], ◌∷◌, ◌++◌, length, map, reverse, replicate, Some, Option, ap, ap₂, sym, ◌∙◌, subst, arith, length-append}
use Rattle.std.proofs.lemmas.List.{length-map, length-replicate, reverse-append}
use Rattle.std.specs.Option.{option_to_list}
use Rattle.hj_msg.specs.Core as step
use Rattle.hj_core.specs.Contents as core
use Rattle.hj_chain.specs.Placed.{ArePlaced}

-- of n cores these are made, and those of the first `left` places are still to be made
pub record Made {P J S : Type 0} (view : core.Contents P J S → step.State P) (join : J) (n left : ℕ) (cores : List (core.Contents P J S)) : Type 0 where
  pub counted : length cores + left ≡ n
  pub placed : ArePlaced join n left (reverse cores)
  pub empty : map view (reverse cores) ≡ replicate (length cores) step.empty_state

module _ {P J S : Type 0} (view : core.Contents P J S → step.State P) (join : J) (n : ℕ) where
  pub made-more : (old new : ℕ) (cores more : List (core.Contents P J S)) (one : core.Contents P J S) → Made view join n old cores → more ≡ cores ++ one ∷ [] → new + 1 ≡ old → one.place ≡ new → one.cores ≡ n → one.join ≡ join
      → view one ≡ step.empty_state → Made view join n new more
  made-more old new cores more one made added less place all same empty =
      let first : reverse (cores ++ one ∷ []) ≡ one ∷ reverse cores = reverse-append cores (one ∷ []) in
      let longer : suc (length cores) ≡ length (cores ++ one ∷ []) = omega (arith, length-append cores (one ∷ [])) in
      subst (Made view join n new) (sym added)
      (record {
        counted = omega (arith, made.counted, less, longer);
        placed =
            subst (ArePlaced join n new) (sym first) (place, all, same, subst (λ (p : ℕ). ArePlaced join n p (reverse cores)) (sym less) made.placed);
        empty =
            ap (map view) first ∙ ap₂ (λ (s : step.State P) (ss : List (step.State P)). s ∷ ss) empty made.empty ∙ ap (λ (k : ℕ). replicate k step.empty_state) longer;
      })

-- a list from whose end an element was taken
pub popped : {X : Type 0} (xs ys : List X) (r : Option X) (x : X) → xs ≡ ys ++ option_to_list r → r ≡ Some x → length ys + 1 ≡ length xs
popped {X} xs ys r x is some = omega (arith, ap length is, length-append ys (option_to_list r), ap (λ (o : Option X). length (option_to_list o)) some)

-- as many cores as there are empty states
pub all-made : {X Y : Type 0} (view : X → Y) (n : ℕ) (xs : List X) (y : Y) → map view xs ≡ replicate n y → n ≡ length xs
all-made view n xs y is = omega (arith, ap length is, length-map xs view, length-replicate n y)
