-- Lists whose parts are regrouped.
use Rattle.std.proofs.Common.{◌≡◌, List, [], ◌∷◌, ◌++◌, ℕ, refl, ◌∙◌, append_assoc}

pub cancel : (xs ys zs : List ℕ) → xs ++ ys ≡ xs ++ zs → ys ≡ zs
cancel [] ys zs e = e
cancel (x ∷ xs) ys zs e = cancel xs ys zs (let same : x ∷ (xs ++ ys) ≡ x ∷ (xs ++ zs) = e in cc)

pub front_empty : (xs ys : List ℕ) → xs ++ ys ≡ [] → xs ≡ []
front_empty [] ys e = refl
front_empty (x ∷ xs) ys e = absurd (let wrong : x ∷ (xs ++ ys) ≡ [] = e in cc)

-- what came of a trace, behind these lines
pub regroup : (lines bytes unused later : List ℕ) → ((lines ++ bytes) ++ unused) ++ later ≡ lines ++ (bytes ++ (unused ++ later))
regroup lines bytes unused later = append_assoc (lines ++ bytes) unused later ∙ append_assoc lines bytes (unused ++ later)
