-- Of sorted pairs, those within a mark come first: so what is emitted stays as the mark grows.
use Rattle.std.proofs.Common.{◌≡◌, ℕ, zero, suc, ◌<◌, ◌||◌, ◌&&◌, ◌==◌, nat_lt, ◌⊎◌, inl, inr, not, Bool, true, false, cond, List, [], ◌∷◌, ◌++◌, length, filter, Contains, Some, None, Option, refl, ap, sym, ◌∙◌, subst, arith, append_assoc, append-nil, true≢false}
use Rattle.std.specs.List.{flat_map}
use Rattle.std.specs.List.Sorted.{IsPermutation}
use Rattle.std.proofs.lemmas.Bool.Decides.{nat_tests}
use Rattle.std.proofs.lemmas.List.Concat.{flat_map-append}
use Rattle.std.proofs.lemmas.List.Elements.{filter-append}
use Rattle.std.proofs.lemmas.List.Sorted.{IsPermutation-append_right, IsPermutation-append_comm}
use Rattle.hj_base.specs.Journals.{IsPrefix}
use Rattle.hj_msg.specs.declared.event.Pair.{Pair}
use Rattle.hj_msg.specs.declared.message.Report.{Report}
use Rattle.hj_msg.specs.Valid.{later, earlier}
use Rattle.hj_msg.specs.Order.{insert_by, sort_by}
use Rattle.hj_msg.specs.Met.{met, pairs_of}
use Rattle.hj_msg.specs.Punctuation.{Mark, up_to, all}
use Rattle.hj_msg.specs.Emission.{is_within, comes_before}
use Rattle.hj_msg.proofs.Members.{Contains-nil, Contains-head, Contains-cons, Contains-cons_cases, Contains-from_filter, Ranked}
use Rattle.hj_msg.proofs.RankedLists.{filter_twice}
use Rattle.hj_msg.proofs.Sorting.{from_sorted}
use Rattle.hj_collect.specs.StandsFor.{with_report}

-- ---- the elements that pass a test stand first in a sorted list, if each of them comes before each other one

module _ {X : Type 0} (first : X → X → Bool) (low : X → Bool) (apart : (x y : X) → low x ≡ true → low y ≡ false → (first x y ≡ true) × (first y x ≡ false)) where
  insert-low : (x : X) (xs ys : List X) → low x ≡ true → ((y : X) → Contains ys y → low y ≡ false) → insert_by first x (xs ++ ys) ≡ insert_by first x xs ++ ys
  insert-low x [] [] is high = refl
  insert-low x [] (y ∷ ys) is high = ap (λ b. cond b (y ∷ insert_by first x ys) (x ∷ y ∷ ys)) (apart x y is (high y (Contains-head y ys))).1
  insert-low x (z ∷ zs) ys is high = step (first z x) (insert-low x zs ys is high)
    where
      step : (b : Bool) → insert_by first x (zs ++ ys) ≡ insert_by first x zs ++ ys → cond b (z ∷ insert_by first x (zs ++ ys)) (x ∷ z ∷ (zs ++ ys)) ≡ cond b (z ∷ insert_by first x zs) (x ∷ z ∷ zs) ++ ys
      step true deeper = ap (λ l. z ∷ l) deeper
      step false deeper = refl

  insert-high : (x : X) (xs ys : List X) → low x ≡ false → ((y : X) → Contains xs y → low y ≡ true) → insert_by first x (xs ++ ys) ≡ xs ++ insert_by first x ys
  insert-high x [] ys is each = refl
  insert-high x (z ∷ zs) ys is each =
      ap (λ b. cond b (z ∷ insert_by first x (zs ++ ys)) (x ∷ z ∷ (zs ++ ys))) (apart z x (each z (Contains-head z zs)) is).0
      ∙ ap (λ l. z ∷ l) (insert-high x zs ys is (λ y h. each y (Contains-cons z y zs h)))

  abbrev high : X → Bool
  high x = not (low x)

  not_false : (b : Bool) → not b ≡ true → b ≡ false
  not_false true is = absurd (true≢false (sym is))
  not_false false is = refl

  pub sort-parts : (xs : List X) → sort_by first xs ≡ sort_by first (filter low xs) ++ sort_by first (filter high xs)
  sort-parts [] = refl
  sort-parts (x ∷ xs) = ap (insert_by first x) (sort-parts xs) ∙ step (low x) refl
    where
      lows : (y : X) → Contains (sort_by first (filter low xs)) y → low y ≡ true
      lows y h = (Contains-from_filter low xs y (from_sorted first (filter low xs) y h)).1

      highs : (y : X) → Contains (sort_by first (filter high xs)) y → low y ≡ false
      highs y h = not_false (low y) (Contains-from_filter high xs y (from_sorted first (filter high xs) y h)).1

      step : (b : Bool) → low x ≡ b → insert_by first x (sort_by first (filter low xs) ++ sort_by first (filter high xs))
          ≡ sort_by first (cond b (x ∷ filter low xs) (filter low xs)) ++ sort_by first (cond (not b) (x ∷ filter high xs) (filter high xs))
      step true is = insert-low x (sort_by first (filter low xs)) (sort_by first (filter high xs)) is highs
      step false is = insert-high x (sort_by first (filter low xs)) (sort_by first (filter high xs)) is lows

-- ---- no element of a sorted list comes before one that stands in front of it

inserted : {X : Type 0} (first : X → X → Bool) (x : X) (xs : List X) (y : X) → Contains (insert_by first x xs) y → (x ≡ y) ⊎ Contains xs y
inserted first x [] y h = Contains-cons_cases x y [] h
inserted {X} first x (w ∷ ws) y h = go (first w x) (inserted first x ws y) h
  where
    go : (b : Bool) → (Contains (insert_by first x ws) y → (x ≡ y) ⊎ Contains ws y) → Contains (cond b (w ∷ insert_by first x ws) (x ∷ w ∷ ws)) y → (x ≡ y) ⊎ Contains (w ∷ ws) y
    go true deeper h = elim (Contains-cons_cases w y (insert_by first x ws) h) [
      | inl e ↦ inr (subst (λ v. Contains (w ∷ ws) v) e (Contains-head w ws))
      | inr k ↦ elim (deeper k) [ inl e ↦ inl e | inr l ↦ inr (Contains-cons w y ws l) ]
    ]
    go false deeper h = Contains-cons_cases x y (w ∷ ws) h

inserted-rank : {X : Type 0} (first : X → X → Bool) → ((x y : X) → first x y ≡ true → first y x ≡ false) → ((x y z : X) → first y x ≡ false → first z y ≡ false → first z x ≡ false)
    → (x : X) (xs : List X) → Ranked (λ y z. first z y ≡ false) xs → Ranked (λ y z. first z y ≡ false) (insert_by first x xs)
inserted-rank first apart trans x [] r = (λ y h. absurd (Contains-nil y h), tt)
inserted-rank {X} first apart trans x (z ∷ zs) r = step (first z x) refl (inserted-rank first apart trans x zs r.1)
  where
    step : (b : Bool) → first z x ≡ b → Ranked (λ y w. first w y ≡ false) (insert_by first x zs) → Ranked (λ y w. first w y ≡ false) (cond b (z ∷ insert_by first x zs) (x ∷ z ∷ zs))
    step true e deeper = (λ w h. elim (inserted first x zs w h) [ inl s ↦ subst (λ v. first v z ≡ false) s (apart z x e) | inr k ↦ r.0 w k ], deeper)
    step false e deeper = (
      λ w h. elim (Contains-cons_cases z w zs h) [ inl s ↦ subst (λ v. first v x ≡ false) s e | inr k ↦ trans x z w e (r.0 w k) ],
      r,
    )

-- ---- pairs

lex_apart : (a b c d : ℕ) → (nat_lt a c || (a == c && nat_lt b d)) ≡ true → (nat_lt c a || (c == a && nat_lt d b)) ≡ false
lex_apart a b c d h = grind (arith, nat_tests, h)

lex_not_before : (a b c d e f : ℕ) → (nat_lt c a || (c == a && nat_lt d b)) ≡ false → (nat_lt e c || (e == c && nat_lt f d)) ≡ false → (nat_lt e a || (e == a && nat_lt f b)) ≡ false
lex_not_before a b c d e f h k = grind (arith, nat_tests, h, k)

lex_lower : (a b c d : ℕ) → a < c → ((nat_lt a c || (a == c && nat_lt b d)) ≡ true) × ((nat_lt c a || (c == a && nat_lt d b)) ≡ false)
lex_lower a b c d h = (grind (arith, nat_tests, h), grind (arith, nat_tests, h))

below : (mark : Option Mark) (a b : ℕ) → is_within mark a ≡ true → is_within mark b ≡ false → a < b
below None a b h k = absurd (true≢false (sym h))
below (Some (up_to m)) a b h k = grind (arith, nat_tests, h, k)
below (Some all) a b h k = absurd (true≢false k)

module _ {P : Type 0} where
  pub sorted-rank : (pairs : List (Pair P)) → Ranked (λ p q. comes_before q p ≡ false) (sort_by comes_before pairs)
  sorted-rank [] = tt
  sorted-rank (p ∷ pairs) =
      inserted-rank comes_before (λ p q h. lex_apart (later p) (earlier p) (later q) (earlier q) h) (λ p q r h k. lex_not_before (later p) (earlier p) (later q) (earlier q) (later r) (earlier r) h k)
      p (sort_by comes_before pairs) (sorted-rank pairs)

  -- what was emitted stays, where the mark doesn't fall and no new pair is within the old one
  abbrev pub within : Option Mark → Pair P → Bool
  within mark pair = is_within mark (later pair)

  abbrev pub emits : Option Mark → List (Pair P) → List (Pair P)
  emits mark pairs = sort_by comes_before (filter (within mark) pairs)

  pub emits-more : (old new : Option Mark) (pairs more : List (Pair P)) → ((number : ℕ) → is_within old number ≡ true → is_within new number ≡ true) → filter (within old) more ≡ filter (within old) pairs
      → IsPrefix (emits old pairs) (emits new more)
  emits-more old new pairs more stays same =
      let parts = sort-parts comes_before (within old) (λ p q h k. lex_lower (later p) (earlier p) (later q) (earlier q) (below old (later p) (later q) h k)) (filter (within new) more) in
      record {
        rest = _;
        is = parts ∙ ap (λ l. sort_by comes_before l ++ sort_by comes_before (filter (λ p. not (within old p)) (filter (within new) more))) (filter_twice (within old) (within new) (λ p h. stays (later p) h) more ∙ same);
      }

-- ---- the pairs that were met, with one report more

flat_map-push : {X Y : Type 0} (f : X → List Y) (xs : List X) (x : X) → flat_map f (xs ++ x ∷ []) ≡ flat_map f xs ++ f x
flat_map-push f xs x = flat_map-append f xs (x ∷ []) ∙ ap (λ ys. flat_map f xs ++ ys) (append-nil (f x))

module _ {P : Type 0} where
  -- they stand somewhere among the others
  pub record Among (lists : List (List (Report P))) (core : ℕ) (report : Report P) : Type 0 where
    pub front : List (Pair P)
    pub back : List (Pair P)
    pub old : met lists ≡ front ++ back
    pub new : met (with_report core report lists) ≡ front ++ (pairs_of report ++ back)

  pub among : (lists : List (List (Report P))) (core : ℕ) (report : Report P) → core < length lists → Among lists core report
  among [] core report low = absurd (omega (arith, low))
  among (reports ∷ lists) zero report low = record {
    front = flat_map pairs_of reports;
    back = met lists;
    old = refl;
    new = ap (λ pairs. pairs ++ met lists) (flat_map-push pairs_of reports report) ∙ append_assoc (flat_map pairs_of reports) (pairs_of report) (met lists);
  }
  among (reports ∷ lists) (suc core) report low =
      let found = among lists core report (omega (arith, low)) in
      record {
        front = flat_map pairs_of reports ++ found.front;
        back = found.back;
        old = ap (λ pairs. flat_map pairs_of reports ++ pairs) found.old ∙ sym (append_assoc (flat_map pairs_of reports) found.front found.back);
        new = ap (λ pairs. flat_map pairs_of reports ++ pairs) found.new ∙ sym (append_assoc (flat_map pairs_of reports) found.front (pairs_of report ++ found.back));
      }

  pub met-permutation : (lists : List (List (Report P))) (core : ℕ) (report : Report P) → core < length lists → IsPermutation (met lists ++ pairs_of report) (met (with_report core report lists))
  met-permutation lists core report low =
      let found = among lists core report low in
      subst (λ pairs. IsPermutation (pairs ++ pairs_of report) (met (with_report core report lists))) (sym found.old)
      (subst (IsPermutation ((found.front ++ found.back) ++ pairs_of report)) (sym found.new)
      (subst (λ pairs. IsPermutation pairs (found.front ++ (pairs_of report ++ found.back))) (sym (append_assoc found.front found.back (pairs_of report)))
      (IsPermutation-append_right found.front (found.back ++ pairs_of report) (pairs_of report ++ found.back) (IsPermutation-append_comm found.back (pairs_of report)))))

  pub none_passes : (test : Pair P → Bool) (pairs : List (Pair P)) → ((pair : Pair P) → Contains pairs pair → test pair ≡ false) → filter test pairs ≡ []
  none_passes test [] each = refl
  none_passes test (p ∷ pairs) each = rw (each p (Contains-head p pairs)) (none_passes test pairs (λ q h. each q (Contains-cons p q pairs h)))

  pub met-filter : (lists : List (List (Report P))) (core : ℕ) (report : Report P) → core < length lists → (test : Pair P → Bool) → ((pair : Pair P) → Contains (pairs_of report) pair → test pair ≡ false)
      → filter test (met (with_report core report lists)) ≡ filter test (met lists)
  met-filter lists core report low test each =
      let found = among lists core report low in
      ap (filter test) found.new ∙ filter-append test found.front (pairs_of report ++ found.back)
      ∙ ap (λ pairs. filter test found.front ++ pairs) (filter-append test (pairs_of report) found.back ∙ ap (λ pairs. pairs ++ filter test found.back) (none_passes test (pairs_of report) each))
      ∙ sym (filter-append test found.front found.back) ∙ sym (ap (filter test) found.old)
