-- A probe among the rows of which the keys are in a band: it finds what a look at all rows finds.
use Rattle.std.proofs.Common.{◌≡◌, ◌≢◌, ℕ, ℤ, suc, Bool, true, false, not, ◌&&◌, ◌⊎◌, inl, inr, cond, nat_eq, ltb, List, [], ◌∷◌, ◌++◌, map, filter, None, Some, Option, option_map, option_and_then, All, Contains, slice_get, arith, refl, sym, ap, subst, ◌∙◌, ◌≤◌}
use Rattle.std.specs.declared.cmp.Ordering.TheVariants.{Less, Equal}
use Rattle.std.specs.declared.ops.Bound.{Bound}
use Rattle.std.specs.BTreeMap.{insert_entry, is_at}
use Rattle.std.specs.BTreeMap.Range.{range_contains}
use Rattle.std.specs.Cmp.{nat_eq_equiv}
use Rattle.std.specs.List.{AllByRecursion, IsDistinct}
use Rattle.std.specs.List.Sorted.{IsStrictlySortedBy}
use Rattle.std.specs.Map.{keys_of, lookup}
use Rattle.std.specs.Ordering.{nat_cmp}
use Rattle.std.proofs.lemmas.Bool.{eqb-true, ltb-true, ltb-false}
use Rattle.std.proofs.lemmas.Cmp.{tied_itself}
use Rattle.std.proofs.lemmas.Map.Keys.{sorted_head, sorted_tail}
use Rattle.std.proofs.lemmas.Map.Views.{list_any-from_Contains, Contains-from_any}
use Rattle.hj_base.specs.declared.numbers.Side.{Side}
use Rattle.hj_eval.specs.Plan.{AreNear}
use Rattle.hj_msg.specs.declared.partner.Partner.{Partner}
use Rattle.hj_msg.specs.Store.{Resting, by_number, joins, settled_matches, settled_partners, AreDistinct}
use Rattle.hj_msg.proofs.Members.{Contains-cons, Contains-cons_cases, Contains-filter, Contains-from_filter, Contains-from_map, Contains-head, Contains-map, Contains-nil, Ranked, Ranked-filter, Ranked-map}
use Rattle.hj_msg.proofs.RankedLists.{same_ranked}
use Rattle.hj_msg.proofs.Sorting.{from_sorted, sorted, sorted_ranked}
use Rattle.hj_value.specs.declared.field.Field.{Field}
use Rattle.hj_value.specs.declared.field.Field.TheVariants as field
use Rattle.hj_index.specs.declared.ordered_index.OrderedIndex.{OrderedIndex}
use Rattle.hj_rows.specs.declared.place.RestingRow.{RestingRow}
use Rattle.hj_index.specs.OrderedIndex.{holds_key, is_key, key_cmp, key_of, number_at, number_of, AreWithin, OrderedKey}
use Rattle.hj_index.specs.OrderedStore.{key_at, rest_at, rest_of, AreOrdered, JoinsNear}
use Rattle.hj_rows.specs.Places.{entry_at, joining, rows_of}
use Rattle.hj_index.proofs.OrderedKeys.{key_equiv, key_found, key_itself, key_total, same_key}
use Rattle.hj_rows.proofs.Probes.{finds-nothing, finds-pushed, number, partner, Finds}
use Rattle.hj_rows.proofs.Rows.{Places}
use Rattle.hj_rows.proofs.SortedProbes.{sorts-joined, sorts-nothing, sorts-passed, Sorts}
use Rattle.hj_index.proofs.Sufficing.{none-suffice}

-- ---- rows of which the numbers differ

either_first : (m n : ℕ) → m ≢ n → (ltb m n ≡ true) ⊎ (ltb n m ≡ true)
either_first m n apart = by (ltb m n) refl (ltb n m) refl
  where
    by : (a : Bool) → ltb m n ≡ a → (b : Bool) → ltb n m ≡ b → (ltb m n ≡ true) ⊎ (ltb n m ≡ true)
    by true p b q = inl p
    by false p true q = inr q
    by false p false q = absurd (apart (omega (arith, ltb-false m n p, ltb-false n m q)))

module _ {P : Type 0} where
  abbrev pub Differs : Resting P → Resting P → Type 0
  Differs entry other = entry.no ≢ other.no

  pub distinct_ranked : (rows : List (Resting P)) → AreDistinct rows → Ranked Differs rows
  distinct_ranked [] h = tt
  distinct_ranked (row ∷ rows) h = (
    λ y at. subst (Differs row) at.2 (h 0 (suc at.0) y (omega arith) (omega (arith, at.1))),
    distinct_ranked rows (λ i j d below within. h (suc i) (suc j) d (omega (arith, below)) (omega (arith, within))),
  )

  -- a row is found under its number
  pub entry_found : (rows : List (Resting P)) → Ranked Differs rows → (entry : Resting P) → Contains rows entry → entry_at entry.no rows ≡ Some entry
  entry_found [] r entry at = absurd (Contains-nil entry at)
  entry_found (row ∷ rows) r entry at = elim (Contains-cons_cases row entry rows at) [
    | inl e ↦ subst (λ x. entry_at x.no (row ∷ rows) ≡ Some x) e (rw (nat_eq_equiv.refl row.no) refl)
    | inr k ↦ by (nat_eq row.no entry.no) refl k (entry_found rows r.1 entry k)
  ]
    where
      by : (b : Bool) → nat_eq row.no entry.no ≡ b → Contains rows entry → entry_at entry.no rows ≡ Some entry → entry_at entry.no (row ∷ rows) ≡ Some entry
      by true e k later = absurd (r.0 entry k (eqb-true row.no entry.no e))
      by false e k later = rw e later

  -- what is found is a row
  pub entry_listed : (n : ℕ) (rows : List (Resting P)) (entry : Resting P) → entry_at n rows ≡ Some entry → Contains rows entry × (entry.no ≡ n)
  entry_listed n [] entry e = absurd cc
  entry_listed n (row ∷ rows) entry e = by (nat_eq row.no n) refl e (entry_listed n rows entry)
    where
      by : (b : Bool) → nat_eq row.no n ≡ b → cond b (Some row) (entry_at n rows) ≡ Some entry → (entry_at n rows ≡ Some entry → Contains rows entry × (entry.no ≡ n)) → Contains (row ∷ rows) entry × (entry.no ≡ n)
      by true p e later = let same : row ≡ entry = cc in (subst (Contains (row ∷ rows)) same (Contains-head row rows), ap (λ (x : Resting P). x.no) (sym same) ∙ eqb-true row.no n p)
      by false p e later = (Contains-cons row entry rows (later e).0, (later e).1)

  -- ---- lists with the same rows that pass have the same partners

  abbrev first : Partner P → Partner P → Bool
  first partner other = ltb partner.no.0 other.no.0

  module _ (test : P → Bool) where
    abbrev passes : Resting P → Bool
    passes entry = entry.settled && test entry.row

    abbrev as_partner : Resting P → Partner P
    as_partner entry = record { no = record { 0 = entry.no }; row = entry.row }

    partners_ranked : (rows : List (Resting P)) → Ranked Differs rows → Ranked (λ x y. first x y ≡ true) (by_number (settled_partners test rows))
    partners_ranked rows r =
        sorted_ranked first (λ x y z p q. before x.no.0 y.no.0 z.no.0 p q) (settled_partners test rows)
        (Ranked-map Differs (λ x y. (first x y ≡ true) ⊎ (first y x ≡ true)) as_partner (filter passes rows) (λ x y h k apart. either_first x.no y.no apart) (Ranked-filter Differs passes rows r))
      where
        before : (l m n : ℕ) → ltb l m ≡ true → ltb m n ≡ true → ltb l n ≡ true
        before l m n p q = by (ltb l n) refl
          where
            by : (b : Bool) → ltb l n ≡ b → ltb l n ≡ true
            by true e = e
            by false e = absurd (omega (arith, ltb-true l m p, ltb-true m n q, ltb-false l n e))

    partners_among : (rows others : List (Resting P)) → ((entry : Resting P) → Contains rows entry → passes entry ≡ true → Contains others entry)
        → (partner : Partner P) → Contains (by_number (settled_partners test rows)) partner → Contains (by_number (settled_partners test others)) partner
    partners_among rows others among partner h =
        let found = Contains-from_map as_partner (filter passes rows) partner (from_sorted first (settled_partners test rows) partner h) in
        let kept = Contains-from_filter passes rows found.0 found.1 in
        sorted first (settled_partners test others) partner
        (subst (Contains (settled_partners test others)) found.2
        (Contains-map as_partner (filter passes others) found.0 (Contains-filter passes others found.0 (among found.0 kept.0 kept.1) kept.1)))

    pub same_partners : (rows others : List (Resting P)) → Ranked Differs rows → Ranked Differs others
        → ((entry : Resting P) → Contains rows entry → passes entry ≡ true → Contains others entry)
        → ((entry : Resting P) → Contains others entry → passes entry ≡ true → Contains rows entry)
        → by_number (settled_partners test rows) ≡ by_number (settled_partners test others)
    same_partners rows others r s to from =
        same_ranked (λ x y. first x y ≡ true) (λ x y p q. omega (arith, ltb-true x.no.0 y.no.0 p, ltb-true y.no.0 x.no.0 q))
        (by_number (settled_partners test rows)) (by_number (settled_partners test others)) (partners_ranked rows r) (partners_ranked others s)
        (partners_among rows others to) (partners_among others rows from)

-- ---- the rows of some keys, as places

abbrev pub Rows : Type 0
Rows = List (Resting (List Field))

abbrev pub places_at : Rows → List OrderedKey → Places (List Field)
places_at rows keys = map (λ (key : OrderedKey). (key.1, rest_at key.1 rows)) keys

abbrev pub arrivals : List OrderedKey → List ℕ
arrivals keys = map (λ (key : OrderedKey). key.1) keys

module _ (rows : Rows) where
  abbrev entry_of : ℕ → RestingRow (List Field) → Resting (List Field)
  entry_of n rest = record { no = n; row = rest.row; settled = rest.settled }

  rest_found : (found : Option (Resting (List Field))) (rest : RestingRow (List Field)) → option_map (λ (entry : Resting (List Field)). record { row = entry.row; settled = entry.settled }) found ≡ Some rest → (n : ℕ) × (found ≡ Some (entry_of n rest))
  rest_found None rest e = absurd cc
  rest_found (Some entry) rest e = (entry.no, ap (λ (rest : RestingRow (List Field)). Some (entry_of entry.no rest)) (some_same (record { row = entry.row; settled = entry.settled }) rest e))
    where
      some_same : (x y : RestingRow (List Field)) → Some x ≡ Some y → x ≡ y
      some_same x y e = cc

  rest_entry : (n : ℕ) (rest : RestingRow (List Field)) → rest_at n rows ≡ Some rest → entry_at n rows ≡ Some (entry_of n rest)
  rest_entry n rest is =
      let found = rest_found (entry_at n rows) rest is in
      found.1 ∙ ap (λ m. Some (entry_of m rest)) (entry_listed n rows (entry_of found.0 rest) found.1).1

  -- a row of the places is that of its number
  pub listed_found : (keys : List OrderedKey) (entry : Resting (List Field)) → Contains (rows_of (places_at rows keys)) entry → (entry_at entry.no rows ≡ Some entry) × Contains (arrivals keys) entry.no
  listed_found [] entry at = absurd (Contains-nil entry at)
  listed_found (key ∷ keys) entry at = by (rest_at key.1 rows) refl at (listed_found keys entry)
    where
      by : (place : Option (RestingRow (List Field))) → rest_at key.1 rows ≡ place → Contains (rows_of ((key.1, place) ∷ places_at rows keys)) entry
          → (Contains (rows_of (places_at rows keys)) entry → (entry_at entry.no rows ≡ Some entry) × Contains (arrivals keys) entry.no)
          → (entry_at entry.no rows ≡ Some entry) × Contains (arrivals (key ∷ keys)) entry.no
      by None is at later = ((later at).0, Contains-cons key.1 entry.no (arrivals keys) (later at).1)
      by (Some rest) is at later = elim (Contains-cons_cases (entry_of key.1 rest) entry (rows_of (places_at rows keys)) at) [
        | inl e ↦
            (subst (λ (x : Resting (List Field)). entry_at x.no rows ≡ Some x) e (rest_entry key.1 rest is), subst (Contains (key.1 ∷ arrivals keys)) (ap (λ (x : Resting (List Field)). x.no) e) (Contains-head key.1 (arrivals keys)))
        | inr k ↦ ((later k).0, Contains-cons key.1 entry.no (arrivals keys) (later k).1)
      ]

  -- the row of a key's number is one of the places
  pub found_listed : (keys : List OrderedKey) (key : OrderedKey) (entry : Resting (List Field)) → entry_at key.1 rows ≡ Some entry → Contains keys key → Contains (rows_of (places_at rows keys)) entry
  found_listed [] key entry is at = absurd (Contains-nil key at)
  found_listed (other ∷ keys) key entry is at = by (rest_at other.1 rows) refl (Contains-cons_cases other key keys at) (found_listed keys key entry is)
    where
      by : (place : Option (RestingRow (List Field))) → rest_at other.1 rows ≡ place → (other ≡ key) ⊎ Contains keys key → (Contains keys key → Contains (rows_of (places_at rows keys)) entry)
          → Contains (rows_of ((other.1, place) ∷ places_at rows keys)) entry
      by None none (inr k) later = later k
      by (Some rest) some (inr k) later = Contains-cons (entry_of other.1 rest) entry (rows_of (places_at rows keys)) (later k)
      by None none (inl e) later =
          absurd (clash (sym (ap (option_map (λ (entry : Resting (List Field)). record { row = entry.row; settled = entry.settled })) is) ∙ (ap (λ (key : OrderedKey). rest_at key.1 rows) (sym e) ∙ none)))
        where
          clash : {rest : RestingRow (List Field)} → Some rest ≡ None → ⊥
          clash e = cc
      by (Some rest) some (inl e) later =
          let one : entry_of other.1 rest ≡ entry = some_same (entry_of other.1 rest) entry (sym (rest_entry other.1 rest some) ∙ (ap (λ (key : OrderedKey). entry_at key.1 rows) e ∙ is)) in
          subst (Contains (entry_of other.1 rest ∷ rows_of (places_at rows keys))) one (Contains-head (entry_of other.1 rest) (rows_of (places_at rows keys)))
        where
          some_same : (x y : Resting (List Field)) → Some x ≡ Some y → x ≡ y
          some_same x y e = cc

  pub places_differ : (keys : List OrderedKey) → Ranked (λ m n. m ≢ n) (arrivals keys) → Ranked Differs (rows_of (places_at rows keys))
  places_differ [] r = tt
  places_differ (key ∷ keys) r = by (rest_at key.1 rows) (places_differ keys r.1)
    where
      by : (place : Option (RestingRow (List Field))) → Ranked Differs (rows_of (places_at rows keys)) → Ranked Differs (rows_of ((key.1, place) ∷ places_at rows keys))
      by None later = later
      by (Some rest) later = (λ entry at. r.0 entry.no (listed_found keys entry at).1, later)

  pub places_distinct : (keys : List OrderedKey) → Ranked (λ m n. m ≢ n) (arrivals keys) → IsDistinct nat_eq (keys_of (places_at rows keys))
  unfolding IsDistinct
  places_distinct [] r = tt
  places_distinct (key ∷ keys) r = (away keys r.0, places_distinct keys r.1)
    where
      differ : (m n : ℕ) → m ≢ n → nat_eq m n ≡ false
      differ m n apart = by (nat_eq m n) refl
        where
          by : (b : Bool) → nat_eq m n ≡ b → nat_eq m n ≡ false
          by true e = absurd (apart (eqb-true m n e))
          by false e = e

      away : (others : List OrderedKey) → ((n : ℕ) → Contains (arrivals others) n → key.1 ≢ n) → AllByRecursion (λ n. nat_eq key.1 n ≡ false) (keys_of (places_at rows others))
      away [] apart = tt
      away (other ∷ others) apart = (differ key.1 other.1 (apart other.1 (Contains-head other.1 (arrivals others))), away others (λ n at. apart n (Contains-cons other.1 n (arrivals others) at)))

-- ---- the keys of a band

ranked_keys : (keys : List OrderedKey) → IsStrictlySortedBy key_cmp keys → Ranked (λ key other. key_cmp key other ≡ Less) keys
ranked_keys [] s = tt
ranked_keys (key ∷ keys) s = (λ other at. of (λ other. key_cmp key other ≡ Less) keys (sorted_head key_cmp key keys s) other at, ranked_keys keys (sorted_tail key_cmp key keys s))
  where
    of : (Q : OrderedKey → Type 0) (keys : List OrderedKey) → AllByRecursion Q keys → (other : OrderedKey) → Contains keys other → Q other
    of Q [] all other at = absurd (Contains-nil other at)
    of Q (x ∷ xs) all other at = elim (Contains-cons_cases x other xs at) [ inl e ↦ subst Q e all.0 | inr k ↦ of Q xs all.1 other k ]

-- the keys that stand there for rows
abbrev pub row_keys : Option OrderedKey → List OrderedKey → List OrderedKey
row_keys reserved keys = filter (λ key. not (is_key key reserved)) keys

abbrev pub places_left : Rows → Option OrderedKey → List OrderedKey → Places (List Field)
places_left rows reserved keys = places_at rows (row_keys reserved keys)

module _ (own : ℕ) (rows : Rows) (index : OrderedIndex) (ordered : AreOrdered own rows index) (first last : Bound OrderedKey) where
  abbrev band_keys : List OrderedKey
  band_keys = filter (range_contains key_cmp first last) index.keys.keys

  both : (a b : Bool) → a ≡ true → b ≡ true → (a && b) ≡ true
  both true true p q = refl
  both true false p q = absurd cc
  both false b p q = absurd cc

  -- such a key is that of its row
  standing : (key : OrderedKey) → Contains (row_keys index.reserved band_keys) key → key_at own rows key.1 ≡ Some key
  standing key at =
      let kept = Contains-from_filter (λ key. not (is_key key index.reserved)) band_keys key at in
      let held = Contains-from_filter (range_contains key_cmp first last) index.keys.keys key kept.0 in
      key_found key (key_at own rows key.1)
      (sym (ordered.indexed key) ∙ both (holds_key index.keys.keys key) (not (is_key key index.reserved)) (list_any-from_Contains key_equiv key index.keys.keys held.0) kept.1)

  pub arrivals_differ : IsStrictlySortedBy key_cmp index.keys.keys → Ranked (λ m n. m ≢ n) (arrivals (row_keys index.reserved band_keys))
  arrivals_differ in_order =
      Ranked-map (λ key other. key_cmp key other ≡ Less) (λ m n. m ≢ n) (λ (key : OrderedKey). key.1) (row_keys index.reserved band_keys)
      (λ key other h k less same. apart key other less (some_same key other (sym (standing key h) ∙ (ap (key_at own rows) same ∙ standing other k))))
      (Ranked-filter (λ key other. key_cmp key other ≡ Less) (λ key. not (is_key key index.reserved)) band_keys
      (Ranked-filter (λ key other. key_cmp key other ≡ Less) (range_contains key_cmp first last) index.keys.keys (ranked_keys index.keys.keys in_order)))
    where
      some_same : (x y : OrderedKey) → Some x ≡ Some y → x ≡ y
      some_same x y e = cc

      clash : Less ≡ Equal → ⊥
      clash e = cc

      apart : (key other : OrderedKey) → key_cmp key other ≡ Less → key ≡ other → ⊥
      apart key other less same = clash (sym less ∙ (ap (key_cmp key) (sym same) ∙ tied_itself key_total key))

  module _ (other within : ℕ) (predicate : List Field → List Field → Bool) (side : Side) (suits : JoinsNear own other within predicate side) (against : List Field) (number_against : ℤ) (at : number_at other against ≡ Some number_against)
      (in_band : (key : OrderedKey) → AreWithin within key.0 number_against → range_contains key_cmp first last key ≡ true) where
    abbrev test : List Field → Bool
    test row = joins predicate side row against

    -- a row that joins has a key in the band
    has_key : (entry : Resting (List Field)) → entry_at entry.no rows ≡ Some entry → test entry.row ≡ true → (key : OrderedKey) × Contains (row_keys index.reserved band_keys) key × (key.1 ≡ entry.no)
    has_key entry is e = of (suits entry.row against e)
      where
        same_number : (b : ℤ) → slice_get against other ≡ Some (field.Int b) → b ≡ number_against
        same_number b is_b = some_same b number_against (sym (ap number_of is_b) ∙ at)
          where
            some_same : (x y : ℤ) → Some x ≡ Some y → x ≡ y
            some_same x y e = cc

        parts : (a b : Bool) → (a && not b) ≡ true → (a ≡ true) × (not b ≡ true)
        parts true b e = (refl, e)
        parts false b e = absurd cc

        of : AreNear within (slice_get entry.row own) (slice_get against other) → (key : OrderedKey) × Contains (row_keys index.reserved band_keys) key × (key.1 ≡ entry.no)
        of (a, b, is_a, is_b, near) =
            let key : OrderedKey = (a, entry.no) in
            let found : key_at own rows entry.no ≡ Some key =
            ap (λ (found : Option (Resting (List Field))). option_and_then (key_of own entry.no) (option_map (λ (entry : Resting (List Field)). entry.row) found)) is
            ∙ ap (λ (value : Option Field). option_map (λ (number : ℤ). (number, entry.no)) (number_of value)) is_a in
            let there = parts (holds_key index.keys.keys key) (is_key key index.reserved) (ordered.indexed key ∙ (ap (is_key key) found ∙ key_itself key)) in (
              key,
              Contains-filter (λ key. not (is_key key index.reserved)) band_keys key
                  (Contains-filter (range_contains key_cmp first last) index.keys.keys key (Contains-from_any same_key key index.keys.keys there.0) (in_band key (subst (AreWithin within a) (same_number b is_b) near)))
                  there.1,
              refl,
            )

    passing : (a b : Bool) → (a && b) ≡ true → b ≡ true
    passing true b e = e
    passing false b e = absurd cc

    abbrev pub target : List (Partner (List Field))
    target = settled_matches predicate side against rows

    band_suffices : IsStrictlySortedBy key_cmp index.keys.keys → by_number (settled_partners test (rows_of (places_left rows index.reserved band_keys))) ≡ target
    band_suffices in_order =
        let rank = distinct_ranked rows ordered.distinct in
        same_partners test (rows_of (places_left rows index.reserved band_keys)) rows (places_differ rows (row_keys index.reserved band_keys) (arrivals_differ in_order)) rank
        (λ entry h e. (entry_listed entry.no rows entry (listed_found rows (row_keys index.reserved band_keys) entry h).0).0)
        (λ entry h e.
        let found = entry_found rows rank entry h in
        let k = has_key entry found (passing entry.settled (test entry.row) e) in
        found_listed rows (row_keys index.reserved band_keys) k.0 entry (subst (λ n. entry_at n rows ≡ Some entry) (sym k.2) found) k.1)

    -- what a probe finds before its first step, where it goes over these keys
    pub finds_first : (found : List (Partner (List Field))) (keys among : List OrderedKey) → IsStrictlySortedBy key_cmp index.keys.keys → found ≡ [] → keys ≡ among → among ≡ band_keys → Finds test target found (places_left rows index.reserved keys)
    finds_first found keys among in_order none same all =
        subst (λ keys. Finds test target found (places_left rows index.reserved keys)) (sym (same ∙ all))
        (subst (λ goal. Finds test goal found (places_left rows index.reserved band_keys)) (band_suffices in_order)
        (finds-nothing test found (places_left rows index.reserved band_keys) (places_left rows index.reserved band_keys) none refl))

    pub sorts_first : (found : List (ℕ × List Field)) (keys among : List OrderedKey) → IsStrictlySortedBy key_cmp index.keys.keys → found ≡ [] → keys ≡ among → among ≡ band_keys → Sorts test target found (places_left rows index.reserved keys)
    sorts_first found keys among in_order none same all =
        subst (λ keys. Sorts test target found (places_left rows index.reserved keys)) (sym (same ∙ all))
        (subst (λ goal. Sorts test goal found (places_left rows index.reserved band_keys)) (band_suffices in_order)
        (sorts-nothing test found (places_left rows index.reserved band_keys) (places_left rows index.reserved band_keys) none refl (places_distinct rows (row_keys index.reserved band_keys) (arrivals_differ in_order))))

-- ---- one key after another

module _ (rows : Rows) (reserved : Option OrderedKey) (key : OrderedKey) (before keys : List OrderedKey) (is : before ≡ key ∷ keys) where
  seen : is_key key reserved ≡ false → places_left rows reserved before ≡ (key.1, rest_of rows reserved key) ∷ places_left rows reserved keys
  seen e =
      ap (places_left rows reserved) is
      ∙ (ap (λ b. places_at rows (cond (not b) (key ∷ row_keys reserved keys) (row_keys reserved keys))) e
      ∙ ap (λ b. (key.1, cond b None (rest_at key.1 rows)) ∷ places_left rows reserved keys) (sym e))

  skipped : is_key key reserved ≡ true → places_left rows reserved before ≡ places_left rows reserved keys
  skipped e = ap (places_left rows reserved) is ∙ ap (λ b. places_at rows (cond (not b) (key ∷ row_keys reserved keys) (row_keys reserved keys))) e

  module _ (test : List Field → Bool) (goal : List (Partner (List Field))) where
    pub near_sort_passed : (found : List (ℕ × List Field)) → None ≡ joining test (rest_of rows reserved key) → Sorts test goal found (places_left rows reserved before) → Sorts test goal found (places_left rows reserved keys)
    near_sort_passed found none sorts = by (is_key key reserved) refl
      where
        by : (b : Bool) → is_key key reserved ≡ b → Sorts test goal found (places_left rows reserved keys)
        by true e = subst (Sorts test goal found) (skipped e) sorts
        by false e = sorts-passed test goal found key.1 (rest_of rows reserved key) (places_left rows reserved before) (places_left rows reserved keys) (sym none) (seen e) sorts

    -- `row` is shared from the one that joins
    module _ (row joins : List Field) (is_there : Some joins ≡ joining test (rest_of rows reserved key)) (same : row ≡ joins) where
      some : joining test (rest_of rows reserved key) ≡ Some row
      some = sym is_there ∙ ap Some (sym same)

      -- a row that joins stands there under its key
      no_place : is_key key reserved ≡ false
      no_place = by (is_key key reserved) refl
        where
          clash : None ≡ Some row → ⊥
          clash e = cc

          by : (b : Bool) → is_key key reserved ≡ b → is_key key reserved ≡ false
          by true e = absurd (clash (ap (λ b. joining test (cond b None (rest_at key.1 rows))) (sym e) ∙ some))
          by false e = e

      pub near_pushed : (found pushed : List (Partner (List Field))) (last : ℕ) → Finds test goal found (places_left rows reserved before) → All (λ other. number other ≤ last) found → last ≤ key.1 → pushed ≡ found ++ partner key.1 row ∷ []
          → Finds test goal pushed (places_left rows reserved keys) × All (λ other. number other ≤ key.1) pushed
      near_pushed found pushed last finds within above pushes =
          finds-pushed test goal found pushed key.1 last (rest_of rows reserved key) (places_left rows reserved before) (places_left rows reserved keys) row some (seen no_place) finds within above pushes

      pub near_sorted : (found new : List (ℕ × List Field)) → Sorts test goal found (places_left rows reserved before) → new ≡ insert_entry nat_cmp found key.1 row
          → ((k : ℕ) → lookup (is_at (nat_cmp k)) new ≡ cond (is_at (nat_cmp key.1) k) (Some row) (lookup (is_at (nat_cmp k)) found)) → Sorts test goal new (places_left rows reserved keys)
      near_sorted found new sorts inserts looks =
          sorts-joined test goal found new key.1 (rest_of rows reserved key) (places_left rows reserved before) (places_left rows reserved keys) row some (seen no_place) sorts inserts looks

-- nothing joins with a row that has no number
pub no_number_joins : (own other within : ℕ) (predicate : List Field → List Field → Bool) (side : Side) → JoinsNear own other within predicate side → (against : List Field) (rows : Rows) → number_at other against ≡ None
    → [] ≡ settled_matches predicate side against rows
no_number_joins own other within predicate side suits against rows none =
    sym (ap by_number (none-suffice (λ row. joins predicate side row against) rows (λ row. by row (joins predicate side row against) refl)))
  where
    clash : {number : ℤ} → Some number ≡ None → ⊥
    clash e = cc

    by : (row : List Field) (b : Bool) → joins predicate side row against ≡ b → joins predicate side row against ≡ false
    by row true e = let near = suits row against e in absurd (clash (sym (ap number_of near.3) ∙ none))
    by row false e = e
