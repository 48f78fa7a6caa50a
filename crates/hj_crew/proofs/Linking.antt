-- What has two ends: made one after another, and closed.
use Rattle.std.proofs.Common.{◌≡◌, ◌⊎◌, inl, inr, zero, suc, List, [], ◌∷◌, ◌++◌, length, map, All, arith, refl, sym, ap₂, subst}
use Rattle.std.specs.List.{AllZip, zip}
use Rattle.std.proofs.lemmas.Slice.Zip.{all_zipped_more}

-- where nothing is left of one of two lists, nothing is left to join
pub none-zipped : {X Y Z : Type 0} (R : X × Y → Z → Type 0) (xs : List X) (ys : List Y) → length xs ≡ 0 ⊎ length ys ≡ 0 → AllZip R (zip xs ys) []
none-zipped R [] ys none = tt
none-zipped R (x ∷ xs) [] none = tt
none-zipped R (x ∷ xs) (y ∷ ys) (inl none) = absurd (omega (arith, none))
none-zipped R (x ∷ xs) (y ∷ ys) (inr none) = absurd (omega (arith, none))

-- ---- what is so of items of two lists that are related

module _ {X Y : Type 0} (R : X → Y → Type 0) where
  pub related-as : (S : X → Y → Type 0) → ((x : X) (y : Y) → R x y → S x y) → (xs : List X) (ys : List Y) → AllZip R xs ys → AllZip S xs ys
  related-as S so [] [] related = tt
  related-as S so [] (y ∷ ys) related = absurd related
  related-as S so (x ∷ xs) [] related = absurd related
  related-as S so (x ∷ xs) (y ∷ ys) related = (so x y related.0, related-as S so xs ys related.1)

  pub firsts-are : (Q : X → Type 0) → ((x : X) (y : Y) → R x y → Q x) → (xs : List X) (ys : List Y) → AllZip R xs ys → All Q xs
  firsts-are Q so [] ys related k d low = absurd (omega (arith, low))
  firsts-are Q so (x ∷ xs) [] related k d low = absurd related
  firsts-are Q so (x ∷ xs) (y ∷ ys) related zero d low = so x y related.0
  firsts-are Q so (x ∷ xs) (y ∷ ys) related (suc k) d low = firsts-are Q so xs ys related.1 k d (omega (arith, low))

  pub seconds-are : (Q : Y → Type 0) → ((x : X) (y : Y) → R x y → Q y) → (xs : List X) (ys : List Y) → AllZip R xs ys → All Q ys
  seconds-are Q so [] [] related k d low = absurd (omega (arith, low))
  seconds-are Q so [] (y ∷ ys) related k d low = absurd related
  seconds-are Q so (x ∷ xs) [] related k d low = absurd related
  seconds-are Q so (x ∷ xs) (y ∷ ys) related zero d low = so x y related.0
  seconds-are Q so (x ∷ xs) (y ∷ ys) related (suc k) d low = seconds-are Q so xs ys related.1 k d (omega (arith, low))

  -- where the second of two is a function of the first one
  pub seconds-by : (f : X → Y) → ((x : X) (y : Y) → R x y → y ≡ f x) → (xs : List X) (ys : List Y) → AllZip R xs ys → ys ≡ map f xs
  seconds-by f so [] [] related = refl
  seconds-by f so [] (y ∷ ys) related = absurd related
  seconds-by f so (x ∷ xs) [] related = absurd related
  seconds-by f so (x ∷ xs) (y ∷ ys) related = ap₂ (λ (z : Y) (zs : List Y). z ∷ zs) (so x y related.0) (seconds-by f so xs ys related.1)

-- two lists whose items are related, with one item more each
pub related-with : {X Y : Type 0} (R : X → Y → Type 0) (xs more_xs : List X) (ys more_ys : List Y) (x : X) (y : Y) → more_xs ≡ xs ++ x ∷ [] → more_ys ≡ ys ++ y ∷ [] → AllZip R xs ys → R x y → AllZip R more_xs more_ys
related-with {X} {Y} R xs more_xs ys more_ys x y first second related is =
    subst (λ (l : List Y). AllZip R more_xs l) (sym second) (subst (λ (l : List X). AllZip R l (ys ++ y ∷ [])) (sym first) (all_zipped_more R xs ys x y related is))
