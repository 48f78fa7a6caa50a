-- The pairs of a report.
use Rattle.std.proofs.Common.{◌≡◌, ℕ, zero, suc, ◌+◌, List, [], ◌∷◌, ◌++◌, map, take, length, slice_get, Some, ap, sym, ◌∙◌, arith, append_assoc}
use Rattle.hj_base.specs.declared.numbers.EventNo.{EventNo}
use Rattle.hj_base.specs.declared.numbers.Side.{Side}
use Rattle.hj_msg.specs.declared.event.Pair.{Pair}
use Rattle.hj_msg.specs.declared.message.Report.{Report}
use Rattle.hj_msg.specs.declared.message.Report.TheVariants.{Handled}
use Rattle.hj_msg.specs.declared.partner.Partner.{Partner}
use Rattle.hj_msg.specs.Met.{pair_of, pairs_of}

-- one element more
pub mapped_more : {X Y : Type 0} (f : X → Y) (xs : List X) (i : ℕ) (x : X) → slice_get xs i ≡ Some x → map f (take (i + 1) xs) ≡ map f (take i xs) ++ f x ∷ []
mapped_more f xs i x e = let next : i + 1 ≡ suc i = omega arith in rw next (go f xs i x e)
  where
    go : {X Y : Type 0} (f : X → Y) (xs : List X) (i : ℕ) (x : X) → slice_get xs i ≡ Some x → map f (take (suc i) xs) ≡ map f (take i xs) ++ f x ∷ []
    go f [] i x e = cc
    go f (y ∷ ys) zero x e = let same : y ≡ x = cc in ap (λ z. f z ∷ []) same
    go f (y ∷ ys) (suc i) x e = ap (λ zs. f y ∷ zs) (go f ys i x e)

pub mapped_push : {X Y : Type 0} (f : X → Y) (xs : List X) (i : ℕ) (x : X) (y : Y) (front found pushed : List Y) → Some x ≡ slice_get xs i → found ≡ front ++ map f (take i xs) → y ≡ f x → pushed ≡ found ++ y ∷ []
    → pushed ≡ front ++ map f (take (i + 1) xs)
mapped_push f xs i x y front found pushed at is same pushes =
    rw (pushes, is, same) (append_assoc front (map f (take i xs)) (f x ∷ []) ∙ ap (λ zs. front ++ zs) (sym (mapped_more f xs i x (sym at))))

-- ---- the only pair

alone : {X : Type 0} (xs : List X) (x : X) → length xs ≡ 1 → Some x ≡ slice_get xs 0 → xs ≡ x ∷ []
alone [] x one at = absurd (omega (arith, one))
alone (y ∷ []) x one at = let same : y ≡ x = cc in ap (λ z. z ∷ []) same
alone (y ∷ z ∷ zs) x one at = absurd (omega (arith, one))

pub only : {P : Type 0} (report : Report P) (side : Side) (at : EventNo) (row : P) (partners : List (Partner P)) (partner : Partner P) (pair : Pair P) → report ≡ Handled at side row partners → length partners ≡ 1
    → Some partner ≡ slice_get partners 0 → pair ≡ pair_of side at row partner → pairs_of report ≡ pair ∷ []
only {P} report side at row partners partner pair is one first made =
    ap (λ (r : Report P). pairs_of r) is ∙ ap (λ (ps : List (Partner P)). pairs_of (Handled at side row ps)) (alone partners partner one first) ∙ ap (λ (p : Pair P). p ∷ []) (sym made)
