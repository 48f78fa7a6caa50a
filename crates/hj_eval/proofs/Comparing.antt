-- Two texts are equal exactly where the order of their bytes is `Equal`.
use Rattle.std.proofs.Common.{◌≡◌, ℕ, Bool, not, List, refl, sym, ap, ◌∙◌, arith, nat_eq}
use Rattle.std.proofs.lemmas.Bool.Decides.{nat_tests}
use Rattle.std.specs.Cmp.Lexicographic.{pointwise, slice_cmp, lists_ties}
use Rattle.std.specs.Ordering.{nat_cmp, is_eq, is_ne}
use Rattle.std.specs.declared.cmp.Ordering.{Ordering}
use Rattle.std.specs.declared.cmp.Ordering.TheVariants.{Less, Equal, Greater}
use Rattle.hj_query.specs.declared.pred.Op.{Op}
use Rattle.hj_query.specs.declared.pred.Op.TheVariants as ops
use Rattle.hj_eval.specs.Holds.{accepts}

nat_ties : (x y : ℕ) → nat_eq x y ≡ is_eq (nat_cmp x y)
nat_ties x y = grind (arith, nat_tests)

texts_tie : (a b : List ℕ) → pointwise nat_eq a b ≡ is_eq (slice_cmp nat_cmp a b)
texts_tie a b = lists_ties nat_cmp nat_ties a b

differs : (o : Ordering) → not (is_eq o) ≡ is_ne o
differs Less = refl
differs Equal = refl
differs Greater = refl

pub equal_texts : (op : Op) (a b : List ℕ) (r : Bool) → op ≡ ops.Eq → r ≡ pointwise nat_eq a b → r ≡ accepts op (slice_cmp nat_cmp a b)
equal_texts op a b r is e = e ∙ texts_tie a b ∙ ap (λ (o : Op). accepts o (slice_cmp nat_cmp a b)) (sym is)

pub unequal_texts : (op : Op) (a b : List ℕ) (r : Bool) → op ≡ ops.Ne → r ≡ not (pointwise nat_eq a b) → r ≡ accepts op (slice_cmp nat_cmp a b)
unequal_texts op a b r is e =
    e ∙ ap not (texts_tie a b) ∙ differs (slice_cmp nat_cmp a b) ∙ ap (λ (o : Op). accepts o (slice_cmp nat_cmp a b)) (sym is)
