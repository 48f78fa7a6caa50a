-- The least of a list of marks, where the mark at a place is replaced.
use Rattle.std.proofs.Common.{◌≡◌, ℕ, zero, suc, ◌<◌, List, [], ◌∷◌, map, set, get_or, slice_get, length, replicate, None, Some, Less, refl, sym, ap, subst, arith}
use Rattle.std.specs.declared.option.Option.{Option}
use Rattle.std.proofs.lemmas.List.{map-set, length-map}
use Rattle.hj_msg.specs.Punctuation.{Mark as Meaning}
use Rattle.hj_collect.specs.declared.least.LeastMark.{LeastMark}
use Rattle.hj_collect.specs.declared.reach.Reach.{Reach}
use Rattle.hj_collect.specs.declared.reach.Reach.TheVariants.{Nowhere}
use Rattle.hj_collect.specs.Marks.{compared}
use Rattle.hj_collect.specs.Reach.{reached}
use Rattle.hj_collect.specs.Least.{IsLeast}
use Rattle.hj_collect.proofs.MarkOrder.{less_by_cmp}
use Rattle.hj_collect.proofs.LeastMarks.{others, taken_out, put_in, few, with_greater}

at_place : {X Y : Type 0} (f : X → Y) (xs : List X) (i : ℕ) (x : X) → x ≡ get_or xs i x → i < length xs → slice_get (map f xs) i ≡ Some (f x)
at_place f [] i x e low = absurd (omega (arith, low))
at_place f (y ∷ ys) zero x e low = ap (λ z. Some (f z)) (sym e)
at_place f (y ∷ ys) (suc i) x e low = at_place f ys i x e (omega (arith, low))

module _ (items : List Reach) (core : ℕ) (low : core < length items) where
  abbrev pub rest : List (Option Meaning)
  rest = others (map reached items) core

  pub least_with : (least : LeastMark) (before : Reach) → before ≡ get_or items core before → IsLeast least (map reached items) → IsLeast least (reached before ∷ rest)
  least_with least before e is =
      let counts = taken_out (reached least.mark) least.holders (map reached items) core (reached before) (at_place reached items core before e low) (is.mark, is.holders) in
      record { mark = counts.0; holders = counts.1 }

  pub least_put : (least : LeastMark) (mark : Reach) → IsLeast least (reached mark ∷ rest)
      → IsLeast least (map reached (set items core mark))
  least_put least mark is =
      let counts = put_in (reached least.mark) least.holders (map reached items) core (reached mark) (omega (arith, low, length-map items reached)) (is.mark, is.holders) in
      subst (IsLeast least) (sym (map-set reached items core mark)) (record { mark = counts.0; holders = counts.1 })

  -- what the mark there says
  pub mark_at : (before : Reach) → before ≡ get_or items core before → reached before ≡ get_or (map reached items) core None
  mark_at before e = stands items core before e low
    where
      stands : (xs : List Reach) (i : ℕ) (x : Reach) → x ≡ get_or xs i x → i < length xs → reached x ≡ get_or (map reached xs) i None
      stands [] i x e low = absurd (omega (arith, low))
      stands (y ∷ ys) zero x e low = ap reached e
      stands (y ∷ ys) (suc i) x e low = stands ys i x e (omega (arith, low))

  -- where a mark above the least of the others comes
  pub put_above : (least : LeastMark) (mark : Reach) → IsLeast least rest → Less ≡ compared (reached least.mark) (reached mark) → IsLeast least (map reached (set items core mark))
  put_above least mark is under =
      let put = with_greater (reached mark) (reached least.mark) least.holders rest (is.mark, is.holders) (less_by_cmp (reached least.mark) (reached mark) under) in
      least_put least mark (record { mark = put.0; holders = put.1 })

  pub fewer : (least : LeastMark) (before : Reach) → before ≡ get_or items core before → IsLeast least rest → least.holders < length items
  fewer least before e is =
      let held = few (reached least.mark) least.holders (map reached items) core (reached before) (at_place reached items core before e low) (is.mark, is.holders) in
      omega (arith, held, length-map items reached)

-- no marks at all
pub no_marks : (n k : ℕ) (items : List Reach) → items ≡ replicate n Nowhere → n ≡ k → map reached items ≡ replicate k None
no_marks n k items is same = rw (is, same) (none k)
  where
    none : (n : ℕ) → map reached (replicate n Nowhere) ≡ replicate n None
    none zero = refl
    none (suc n) = ap (λ ms. None ∷ ms) (none n)
