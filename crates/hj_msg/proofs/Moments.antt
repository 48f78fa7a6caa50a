-- Facts on every place of a list, from what is computed of the list.
use Rattle.std.proofs.Common.{◌≡◌, ℕ, zero, suc, ◌+◌, ◌<◌, Bool, true, false, cond, not, ◌&&◌, nat_lt, List, [], ◌∷◌, ◌++◌, length, map, get_or, refl, ap, sym, ◌∙◌, subst, arith, append-nil, append_assoc, add-one, true≢false}
use Rattle.std.specs.List.{list_all, filter}
use Rattle.std.specs.List.Sorted.{IsStrictlyIncreasing}
use Rattle.std.proofs.lemmas.Bool.Decides.{nat_tests}
use Rattle.hj_base.specs.Journals.{Entry, puts, takes}
use Rattle.hj_base.specs.Link.{TookBeforePut}

-- Q holds of each element, with those before it
abbrev pub Walk : {X : Type 0} → (List X → X → Type 0) → List X → List X → Type 0
Walk Q done [] = Unit {0}
Walk Q done (x ∷ xs) = Q done x × Walk Q (done ++ x ∷ []) xs

pub walked : {X : Type 0} (Q : List X → X → Type 0) (done xs : List X) → Walk Q done xs → (earlier later : List X) (x : X) → xs ≡ earlier ++ x ∷ later → Q (done ++ earlier) x
walked Q done [] walk [] later x e = absurd (cc)
walked Q done [] walk (y ∷ earlier) later x e = absurd (cc)
walked Q done (z ∷ xs) walk [] later x e =
    let same : z ≡ x = cc in
    subst (λ front. Q front x) (sym (append-nil done)) (subst (Q done) same walk.0)
walked Q done (z ∷ xs) walk (y ∷ earlier) later x e =
    let same : z ≡ y = cc in
    let tail : xs ≡ earlier ++ x ∷ later = cc in
    subst (λ front. Q front x) (append_assoc done (z ∷ []) earlier ∙ ap (λ w. done ++ w ∷ earlier) same) (walked Q (done ++ z ∷ []) xs walk.1 earlier later x tail)

-- each number is below the next
abbrev pub Rising : ℕ → List ℕ → Type 0
Rising low [] = Unit {0}
Rising low (x ∷ xs) = (low < x) × Rising x xs

rising_from : (low : ℕ) (xs : List ℕ) → Rising low xs → (k : ℕ) → k + 1 < length (low ∷ xs) → get_or (low ∷ xs) k 0 < get_or (low ∷ xs) (k + 1) 0
rising_from low [] all k within = absurd (omega arith)
rising_from low (x ∷ xs) all zero within = all.0
rising_from low (x ∷ xs) all (suc k) within = rw (add-one (suc k)) (subst (λ m. get_or (x ∷ xs) k 0 < get_or (x ∷ xs) m 0) (add-one k) (rising_from x xs all.1 k (omega arith)))

pub strictly_increasing : (low : ℕ) (xs : List ℕ) → Rising low xs → IsStrictlyIncreasing (low ∷ xs)
strictly_increasing low xs all = rising_from low xs all

-- At each moment of a journal, how many takes and puts there were.
record Counted : Type 0 where
  taken : ℕ
  put : ℕ

abbrev one_more : Counted → Bool → Counted
one_more counted true = record { taken = counted.taken; put = counted.put + 1 }
one_more counted false = record { taken = counted.taken + 1; put = counted.put }

abbrev moments : {M : Type 0} → Counted → List (Entry M) → List Counted
moments counted [] = counted ∷ []
moments counted (entry ∷ journal) = counted ∷ moments (one_more counted entry.is_put) journal

-- whether no two moments of the ends have each taken what the other was yet to put
abbrev no_circle : Counted → Counted → Bool
no_circle left right = not (nat_lt right.put left.taken && nat_lt left.put right.taken)

abbrev pub in_time : {M : Type 0} → List (Entry M) → List (Entry M) → Bool
in_time left right = list_all (λ l. list_all (λ r. no_circle l r) (moments (record { taken = 0; put = 0 }) right)) (moments (record { taken = 0; put = 0 }) left)

and_right : (b c : Bool) → (b && c) ≡ true → c ≡ true
and_right true c e = e
and_right false c e = absurd (true≢false (sym e))

and_left : (b c : Bool) → (b && c) ≡ true → b ≡ true
and_left true c e = refl
and_left false c e = e

one_more_taken : {M : Type 0} (counted : Counted) (entry : Entry M) (before : List (Entry M))
    → (one_more counted entry.is_put).taken + length (takes before) ≡ counted.taken + length (takes (entry ∷ before))
one_more_taken counted entry before = go entry.is_put
  where
    go : (b : Bool) → (one_more counted b).taken + length (takes before) ≡ counted.taken + length (map (λ e. e.message) (cond (not b) (entry ∷ filter (λ e. not e.is_put) before) (filter (λ e. not e.is_put) before)))
    go true = refl
    go false = omega arith

one_more_put : {M : Type 0} (counted : Counted) (entry : Entry M) (before : List (Entry M))
    → (one_more counted entry.is_put).put + length (puts before) ≡ counted.put + length (puts (entry ∷ before))
one_more_put counted entry before = go entry.is_put
  where
    go : (b : Bool) → (one_more counted b).put + length (puts before) ≡ counted.put + length (map (λ e. e.message) (cond b (entry ∷ filter (λ e. e.is_put) before) (filter (λ e. e.is_put) before)))
    go true = omega arith
    go false = refl

first_moment : {M : Type 0} (test : Counted → Bool) (counted : Counted) (journal : List (Entry M)) → list_all test (moments counted journal) ≡ true → test counted ≡ true
first_moment test counted [] all = and_left (test counted) true all
first_moment test counted (entry ∷ journal) all = and_left (test counted) (list_all test (moments (one_more counted entry.is_put) journal)) all

at_moment : {M : Type 0} (test : Counted → Bool) (counted : Counted) (before after : List (Entry M)) → list_all test (moments counted (before ++ after)) ≡ true
    → test (record { taken = counted.taken + length (takes before); put = counted.put + length (puts before) }) ≡ true
at_moment test counted [] after all =
    let taken_same : counted.taken ≡ counted.taken + 0 = omega arith in
    let put_same : counted.put ≡ counted.put + 0 = omega arith in
    subst (λ t. test (record { taken = t; put = counted.put + 0 }) ≡ true) taken_same
    (subst (λ u. test (record { taken = counted.taken; put = u }) ≡ true) put_same (first_moment test counted after all))
at_moment {M} test counted (entry ∷ before) after all =
    subst (λ t. test (record { taken = t; put = counted.put + length (puts (entry ∷ before)) }) ≡ true) (one_more_taken counted entry before)
    (subst (λ u. test (record { taken = (one_more counted entry.is_put).taken + length (takes before); put = u }) ≡ true) (one_more_put counted entry before)
    (at_moment test (one_more counted entry.is_put) before after (and_right (test counted) (list_all test (moments (one_more counted entry.is_put) (before ++ after))) all)))

abbrev none_counted : Counted
none_counted = record { taken = 0; put = 0 }

circle : (left right : Counted) → no_circle left right ≡ true → right.put < left.taken → left.put < right.taken → ⊥
circle left right e more less = grind (arith, nat_tests)

pub in_time_from : {M : Type 0} (left right : List (Entry M)) → in_time left right ≡ true → (p q : ℕ) → TookBeforePut left q p → ¬ (TookBeforePut right p q)
in_time_from left right all p q here there =
    let left_moment : list_all (λ r. no_circle (record { taken = 0 + length (takes here.before); put = 0 + length (puts here.before) }) r) (moments none_counted right) ≡ true
    = at_moment (λ l. list_all (λ r. no_circle l r) (moments none_counted right)) none_counted here.before here.after (subst (λ journal. in_time journal right ≡ true) here.moment all) in
    let both : no_circle (record { taken = 0 + length (takes here.before); put = 0 + length (puts here.before) }) (record { taken = 0 + length (takes there.before); put = 0 + length (puts there.before) }) ≡ true
    = at_moment (λ r. no_circle (record { taken = 0 + length (takes here.before); put = 0 + length (puts here.before) }) r) none_counted there.before there.after
    (subst (λ journal. list_all (λ r. no_circle (record { taken = 0 + length (takes here.before); put = 0 + length (puts here.before) }) r) (moments none_counted journal) ≡ true) there.moment left_moment) in
    circle (record { taken = 0 + length (takes here.before); put = 0 + length (puts here.before) }) (record { taken = 0 + length (takes there.before); put = 0 + length (puts there.before) }) both (omega arith) (omega arith)
