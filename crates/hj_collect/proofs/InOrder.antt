-- Pairs that are kept in the order in which they are due, and those that came late.
use Rattle.std.proofs.Common.{◌≡◌, suc, ◌-◌, ◌<◌, true, false, List, [], ◌∷◌, ◌++◌, length, get_or, slice_get, All, Some, refl, sym, ap, subst, ◌∙◌, arith, append_assoc, append-nil, true≢false}
use Rattle.std.specs.List.Sorted.{IsPermutation}
use Rattle.std.proofs.lemmas.Bool.Decides.{nat_tests}
use Rattle.std.proofs.lemmas.List.Sorted.{IsPermutation-refl, IsPermutation-append, IsPermutation-append_comm, IsPermutation-trans, IsPermutation-sym, IsPermutation-map, IsPermutation-middle, IsPermutation-append_left, All-permutation}
use Rattle.std.proofs.lemmas.List.Elements.{All-nil, All-cons, All-head, All-push, All-append, All-weaker, All-map}
use Rattle.hj_msg.specs.declared.event.Pair.{Pair}
use Rattle.hj_msg.specs.Valid.{later}
use Rattle.hj_msg.specs.Emission.{comes_before, is_within}
use Rattle.hj_msg.specs.Punctuation.{Mark, up_to, all}
use Rattle.hj_collect.specs.declared.kept.KeptPair.{KeptPair}
use Rattle.hj_collect.specs.Due.{pairs_in, AreInOrder, NoneBefore}

module _ {P : Type 0} where
  pub not_before : (p q r : Pair P) → comes_before q p ≡ false → comes_before r q ≡ false → comes_before r p ≡ false
  not_before p q r first second = grind (arith, nat_tests, first, second)

  pub not_itself : (p : Pair P) → comes_before p p ≡ false
  not_itself p = grind (arith, nat_tests)

  -- ---- one more at the end

  pub in_order-first : (one : KeptPair P) → AreInOrder (one ∷ [])
  in_order-first one = (All-nil (λ (other : KeptPair P). comes_before other.pair one.pair ≡ false), tt)

  pub in_order-push : (ones : List (KeptPair P)) (last one : KeptPair P) → AreInOrder ones → last ≡ get_or ones (length ones - 1) last → comes_before one.pair last.pair ≡ false → AreInOrder (ones ++ one ∷ [])
  in_order-push [] last one ordered is apart = in_order-first one
  in_order-push (x ∷ []) last one ordered is apart =
      (All-cons (λ (other : KeptPair P). comes_before other.pair x.pair ≡ false) one [] (subst (λ (k : KeptPair P). comes_before one.pair k.pair ≡ false) is apart) (All-nil (λ (other : KeptPair P). comes_before other.pair x.pair ≡ false)), in_order-first one)
  in_order-push (x ∷ y ∷ ones) last one ordered is apart =
      let behind : length (x ∷ y ∷ ones) - 1 ≡ suc (length (y ∷ ones) - 1) = omega arith in
      let is_last : last ≡ get_or (y ∷ ones) (length (y ∷ ones) - 1) last = is ∙ ap (λ i. get_or (x ∷ y ∷ ones) i last) behind in
      let low : length (y ∷ ones) - 1 < length (y ∷ ones) = omega arith in
      let x_last : comes_before last.pair x.pair ≡ false = subst (λ (k : KeptPair P). comes_before k.pair x.pair ≡ false) (sym is_last) (ordered.0 (length (y ∷ ones) - 1) last low) in (
        All-push (λ (other : KeptPair P). comes_before other.pair x.pair ≡ false) (y ∷ ones) one ordered.0 (not_before x.pair last.pair one.pair x_last apart),
        in_order-push (y ∷ ones) last one ordered.1 is_last apart,
      )

  -- none comes before the first one
  pub none_before_first : (one : KeptPair P) (others : List (KeptPair P)) → AreInOrder (one ∷ others) → NoneBefore one.pair (one ∷ others)
  none_before_first one others ordered = All-cons (λ (other : KeptPair P). comes_before other.pair one.pair ≡ false) one others (not_itself one.pair) ordered.0

  -- ---- both lists

  pub none_before_both : (p : Pair P) (late ordered : List (KeptPair P)) → NoneBefore p late → NoneBefore p ordered → All (λ other. comes_before other p ≡ false) (pairs_in (late ++ ordered))
  none_before_both p late ordered h k =
      All-map (λ other. comes_before other p ≡ false) (λ (one : KeptPair P). one.pair) (late ++ ordered) (All-append (λ (one : KeptPair P). comes_before one.pair p ≡ false) late ordered h k)

  -- the same of one that is first in its list
  pub first_late : (one : KeptPair P) (late ordered : List (KeptPair P)) → NoneBefore one.pair late → ((other : KeptPair P) → slice_get late 0 ≡ Some other → NoneBefore other.pair ordered) → slice_get late 0 ≡ Some one
      → All (λ other. comes_before other one.pair ≡ false) (pairs_in (late ++ ordered))
  first_late one late ordered h before is = none_before_both one.pair late ordered h (before one is)

  pub first_ordered : (one : KeptPair P) (late ordered rest : List (KeptPair P)) → ordered ≡ one ∷ rest → AreInOrder ordered → ((other : KeptPair P) → slice_get ordered 0 ≡ Some other → NoneBefore other.pair late)
      → All (λ other. comes_before other one.pair ≡ false) (pairs_in (late ++ ordered))
  first_ordered one late ordered rest is are before =
      none_before_both one.pair late ordered (before one (ap (λ ones. slice_get ones 0) is)) (subst (NoneBefore one.pair) (sym is) (none_before_first one rest (subst AreInOrder is are)))

  -- ---- one that is taken out

  pub taken_late : (one : KeptPair P) (late left ordered : List (KeptPair P)) → IsPermutation late (one ∷ left) → IsPermutation (pairs_in (late ++ ordered)) (one.pair ∷ pairs_in (left ++ ordered))
  taken_late one late left ordered is = IsPermutation-map (λ (k : KeptPair P). k.pair) (late ++ ordered) (one ∷ (left ++ ordered)) (IsPermutation-append_left ordered late (one ∷ left) is)

  pub taken_ordered : (one : KeptPair P) (late ordered rest : List (KeptPair P)) → ordered ≡ one ∷ rest → IsPermutation (pairs_in (late ++ ordered)) (one.pair ∷ pairs_in (late ++ rest))
  taken_ordered one late ordered rest is =
      IsPermutation-map (λ (k : KeptPair P). k.pair) (late ++ ordered) (one ∷ (late ++ rest)) (subst (λ ones. IsPermutation (late ++ ones) (one ∷ (late ++ rest))) (sym is) (IsPermutation-middle late one rest))

  -- ---- one that is put in

  pub put_late : (one : KeptPair P) (late more ordered : List (KeptPair P)) → IsPermutation (one ∷ late) more → IsPermutation (one ∷ (late ++ ordered)) (more ++ ordered)
  put_late one late more ordered is = IsPermutation-append_left ordered (one ∷ late) more is

  pub put_ordered : (one : KeptPair P) (late ordered : List (KeptPair P))
      → IsPermutation (one ∷ (late ++ ordered)) (late ++ (ordered ++ one ∷ []))
  put_ordered one late ordered =
      subst (IsPermutation (one ∷ (late ++ ordered))) (append_assoc late ordered (one ∷ []))
      (IsPermutation-sym ((late ++ ordered) ++ one ∷ []) (one ∷ (late ++ ordered)) (subst (λ l. IsPermutation ((late ++ ordered) ++ one ∷ []) (one ∷ l)) (append-nil (late ++ ordered)) (IsPermutation-middle (late ++ ordered) one [])))

  -- a pair more goes from a list to those that are kept
  pub one_kept : (whole rest : List (Pair P)) (old new : List (KeptPair P)) (one : KeptPair P) → IsPermutation whole (pairs_in old ++ one.pair ∷ rest) → IsPermutation (one ∷ old) new → IsPermutation whole (pairs_in new ++ rest)
  one_kept whole rest old new one is put =
      IsPermutation-trans whole (pairs_in old ++ one.pair ∷ rest) (pairs_in new ++ rest) is
      (IsPermutation-trans (pairs_in old ++ one.pair ∷ rest) (pairs_in (one ∷ old) ++ rest) (pairs_in new ++ rest) (IsPermutation-middle (pairs_in old) one.pair rest)
      (IsPermutation-append_left rest (pairs_in (one ∷ old)) (pairs_in new) (IsPermutation-map (λ (k : KeptPair P). k.pair) (one ∷ old) new put)))

  -- the same where it was the last one of the list
  pub one_popped : (whole rest : List (Pair P)) (old new : List (KeptPair P)) (one : KeptPair P) → IsPermutation whole (pairs_in old ++ (rest ++ one.pair ∷ [])) → IsPermutation (one ∷ old) new → IsPermutation whole (pairs_in new ++ rest)
  one_popped whole rest old new one is put =
      one_kept whole rest old new one
      (IsPermutation-trans whole (pairs_in old ++ (rest ++ one.pair ∷ [])) (pairs_in old ++ one.pair ∷ rest) is
      (IsPermutation-append (pairs_in old) (pairs_in old) (rest ++ one.pair ∷ []) (one.pair ∷ rest) (IsPermutation-refl (pairs_in old)) (IsPermutation-append_comm rest (one.pair ∷ []))))
      put

  -- ---- none is due

  abbrev pub NoneWithin : Mark → List (KeptPair P) → Type 0
  NoneWithin mark ones = All (λ (one : KeptPair P). is_within (Some mark) (later one.pair) ≡ false) ones

  later_past : (mark : Mark) (p q : Pair P) → comes_before q p ≡ false → is_within (Some mark) (later p) ≡ false
      → is_within (Some mark) (later q) ≡ false
  later_past (up_to number) p q before beyond = grind (arith, nat_tests, before, beyond)
  later_past all p q before beyond = beyond

  past : (mark : Mark) (p : Pair P) (ones : List (KeptPair P)) → NoneBefore p ones → is_within (Some mark) (later p) ≡ false → NoneWithin mark ones
  past mark p ones before beyond = All-weaker (λ (one : KeptPair P). comes_before one.pair p ≡ false) (λ (one : KeptPair P). is_within (Some mark) (later one.pair) ≡ false) (λ one h. later_past mark p one.pair h beyond) ones before

  none_both : (mark : Mark) (late ordered : List (KeptPair P)) → NoneWithin mark late → NoneWithin mark ordered → All (λ other. is_within (Some mark) (later other) ≡ false) (pairs_in (late ++ ordered))
  none_both mark late ordered h k =
      All-map (λ other. is_within (Some mark) (later other) ≡ false) (λ (one : KeptPair P). one.pair) (late ++ ordered) (All-append (λ (one : KeptPair P). is_within (Some mark) (later one.pair) ≡ false) late ordered h k)

  pub none-late : (mark : Mark) (late ordered : List (KeptPair P)) → 0 < length late → ((one : KeptPair P) → slice_get late 0 ≡ Some one → NoneBefore one.pair ordered) → NoneWithin mark late
      → All (λ other. is_within (Some mark) (later other) ≡ false) (pairs_in (late ++ ordered))
  none-late mark [] ordered some before beyond = absurd (omega (arith, some))
  none-late mark (one ∷ late) ordered some before beyond =
      none_both mark (one ∷ late) ordered beyond (past mark one.pair ordered (before one refl) (All-head (λ (k : KeptPair P). is_within (Some mark) (later k.pair) ≡ false) one late beyond))

  pub none-ordered : (mark : Mark) (one : KeptPair P) (late ordered : List (KeptPair P)) → 0 < length ordered → one ≡ get_or ordered 0 one → AreInOrder ordered → ((other : KeptPair P) → slice_get ordered 0 ≡ Some other → NoneBefore other.pair late)
      → is_within (Some mark) (later one.pair) ≡ false → All (λ other. is_within (Some mark) (later other) ≡ false) (pairs_in (late ++ ordered))
  none-ordered mark one late [] some is are before beyond = absurd (omega (arith, some))
  none-ordered mark one late (x ∷ rest) some is are before beyond =
      let x_beyond : is_within (Some mark) (later x.pair) ≡ false = subst (λ (k : KeptPair P). is_within (Some mark) (later k.pair) ≡ false) is beyond in
      none_both mark late (x ∷ rest) (past mark x.pair late (before x refl) x_beyond) (past mark x.pair (x ∷ rest) (none_before_first x rest are) x_beyond)

  -- one that is within the mark is one of them
  pub one-within : (mark : Mark) (p : Pair P) (old left : List (Pair P)) → IsPermutation old (p ∷ left) → is_within (Some mark) (later p) ≡ true → All (λ other. is_within (Some mark) (later other) ≡ false) old → ⊥
  one-within mark p old left is within none =
      true≢false (sym within ∙ All-head (λ (other : Pair P). is_within (Some mark) (later other) ≡ false) p left (All-permutation (λ (other : Pair P). is_within (Some mark) (later other) ≡ false) old (p ∷ left) is none))
