-- Lists that agree place by place.
use Rattle.std.proofs.Common.{◌≡◌, ℕ, ◌+◌, ◌<◌, ◌≤◌, List, [], ◌∷◌, ◌++◌, length, take, drop, get_or, sym, ap, ◌∙◌, arith, length-drop}
use Rattle.std.specs.Prelude.{unwrap_or}
use Rattle.std.specs.List.{slice_get}
use Rattle.std.proofs.lemmas.List.{get_or-drop, take_more}
use Rattle.std.proofs.lemmas.Option.{unwrap_or-slice_get}

module _ {X : Type 0} (d : X) where
  -- the member at a place, some places on
  at_place : (xs : List X) (from at : ℕ) → get_or (drop from xs) at d ≡ get_or xs (from + at) d
  at_place xs from at = get_or-drop from xs at d

  -- One place more agrees.
  pub one_more : (xs ys : List X) (from at : ℕ) → from + length ys ≤ length xs → at < length ys → slice_get xs (from + at) ≡ slice_get ys at → take at (drop from xs) ≡ take at ys
      → take (at + 1) (drop from xs) ≡ take (at + 1) ys
  one_more xs ys from at fits lt same so_far =
      let within : at < length (drop from xs) = omega (arith, length-drop from xs) in
      let member : get_or (drop from xs) at d ≡ get_or ys at d =
      at_place xs from at ∙ (sym (unwrap_or-slice_get xs (from + at) d) ∙ (ap (λ o. unwrap_or o d) same ∙ unwrap_or-slice_get ys at d)) in
      take_more (drop from xs) at d within ∙ (ap (λ front. front ++ get_or (drop from xs) at d ∷ []) so_far ∙ (ap (λ one. take at ys ++ one ∷ []) member ∙ sym (take_more ys at d lt)))
