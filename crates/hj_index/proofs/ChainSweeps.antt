-- Places that are linked anew, and keys of no place that are swept out.
use Rattle.std.proofs.Common.{◌≡◌, ℕ, zero, suc, ◌+◌, ◌-◌, ◌≤◌, ◌<◌, Bool, true, false, cond, nat_eq, not, ltb, ◌||◌, List, [], ◌∷◌, ◌++◌, None, Some, Option, is_some, option_map, length, filter, slice_get, append_assoc, append-nil, arith, refl, sym, ap, subst, ◌∙◌, true≢false}
use Rattle.std.specs.Cmp.{nat_eq_equiv}
use Rattle.std.specs.List.{AllByRecursion, IsDistinct}
use Rattle.std.specs.Map.{keys_of, lookup}
use Rattle.std.proofs.lemmas.Bool.{ltb-true, ltb-false, eqb-true, or_parts, or_from, or_left, or_right}
use Rattle.std.proofs.lemmas.Map.Entries.{option_filter}
use Rattle.hj_value.specs.declared.field.Field.{Field}
use Rattle.hj_rows.specs.declared.place.RestingRow.{RestingRow}
use Rattle.hj_index.specs.declared.chains.RowPlace.{RowPlace}
use Rattle.hj_index.specs.KeyChains.{counted_on, has_key, is_member, known_place, last_place, rows_at, AreApart, AreKeyed, AreKnown, AreLinked, IsAscending}
use Rattle.hj_index.proofs.ChainLinks.{ascending-same, linked-pushed, key-is}
use Rattle.hj_index.proofs.ChainRows.{ascending-later, number_list, rows-pushed}

-- ---- one place after another is linked

-- the places that are linked, and those that are left; both together have the rows that there were
pub record Linking (own : ℕ) (start : List RowPlace) (rising : Bool) (items : List RowPlace) (last : ℕ → Option ℕ)
    (count at : ℕ) : Type 0 where
  pub done : List RowPlace
  pub left : List RowPlace
  pub items_are : items ≡ left ++ done
  pub to_go : length left + at ≡ length start
  pub rows : rows_at (done ++ left) ≡ rows_at start
  pub linked : AreLinked own 0 done last
  pub counted : count ≡ length done
  pub full : length done ≡ length (rows_at done)
  pub known : AreKnown left last
  pub keyed : AreKeyed own left
  pub ascending : rising ≡ true → IsAscending 0 (done ++ left)

pub linking-starts : (own : ℕ) (start : List RowPlace) (rising : Bool) (last : ℕ → Option ℕ) → ((key : ℕ) → known_place (last key) ≡ 0) → AreKnown start last → AreKeyed own start → (rising ≡ true → IsAscending 0 start)
    → Linking own start rising start last 0 0
linking-starts own start rising last first known keyed ascending = record {
  done = [];
  left = start;
  items_are = sym (append-nil start);
  to_go = omega arith;
  rows = refl;
  linked = record { placed = λ at place e. absurd cc; ended = λ key. ap (λ n. n - 0) (first key) };
  counted = refl;
  full = refl;
  known = known;
  keyed = keyed;
  ascending = ascending;
}

-- the first of those that are left
split : (own : ℕ) (start : List RowPlace) (rising : Bool) (items : List RowPlace) (last : ℕ → Option ℕ) (count at : ℕ) (l : Linking own start rising items last count at) → at < length start → (place : RowPlace) (rest : List RowPlace) → items ≡ place ∷ rest
    → (others : List RowPlace) × (l.left ≡ place ∷ others) × (rest ≡ others ++ l.done)
split own start rising items last count at l more place rest e = by l.left refl
  where
    by : (left : List RowPlace) → l.left ≡ left → (others : List RowPlace) × (left ≡ place ∷ others) × (rest ≡ others ++ l.done)
    by [] is = absurd (omega (arith, more, l.to_go, ap length is))
    by (first ∷ others) is =
        let all : place ∷ rest ≡ first ∷ (others ++ l.done) = sym e ∙ (l.items_are ∙ ap (λ ps. ps ++ l.done) is) in
        (others, (let same : first ≡ place = cc in ap (λ p. p ∷ others) same), (let same : rest ≡ others ++ l.done = cc in same))

rows-dropped : (done others : List RowPlace) (place : RowPlace) → place.rest ≡ None
    → rows_at (done ++ place ∷ others) ≡ rows_at (done ++ others)
rows-dropped done others place none = rows-pushed done (place ∷ others) ∙ (ap (λ rows. rows_at done ++ rows) (rw none refl) ∙ sym (rows-pushed done others))

ascending-dropped : (low : ℕ) (done others : List RowPlace) (place : RowPlace) → IsAscending low (done ++ place ∷ others) → IsAscending low (done ++ others)
ascending-dropped low [] others place up = ascending-later low (place.no + 1) others (omega (arith, up.0)) up.1
ascending-dropped low (first ∷ done) others place up = (up.0, ascending-dropped (first.no + 1) done others place up.1)

pub linking-dropped : (own : ℕ) (start : List RowPlace) (rising : Bool) (items : List RowPlace) (last : ℕ → Option ℕ) (count at : ℕ) → Linking own start rising items last count at → at < length start → (place : RowPlace) (rest : List RowPlace) → items ≡ place ∷ rest → place.rest ≡ None
    → Linking own start rising rest last count (at + 1)
linking-dropped own start rising items last count at l more place rest e none =
    let s = split own start rising items last count at l more place rest e in record {
      done = l.done;
      left = s.0;
      items_are = s.2;
      to_go = omega (arith, l.to_go, ap length s.1);
      rows = sym (rows-dropped l.done s.0 place none) ∙ (ap (λ left. rows_at (l.done ++ left)) (sym s.1) ∙ l.rows);
      linked = l.linked;
      counted = l.counted;
      full = l.full;
      known = λ i key p found is. l.known (suc i) key p (ap (λ left. slice_get left (suc i)) s.1 ∙ found) is;
      keyed = λ i p rest found is. l.keyed (suc i) p rest (ap (λ left. slice_get left (suc i)) s.1 ∙ found) is;
      ascending = λ rises. ascending-dropped 0 l.done s.0 place (subst (λ left. IsAscending 0 (l.done ++ left)) s.1 (l.ascending rises));
    }

rows-full : (done : List RowPlace) (new : RowPlace) → is_some new.rest ≡ true → length done ≡ length (rows_at done) → length (done ++ new ∷ []) ≡ length (rows_at (done ++ new ∷ []))
rows-full [] new some full = by new.rest refl
  where
    by : (rest : Option (RestingRow (List Field))) → new.rest ≡ rest → 1 ≡ length (rows_at (new ∷ []))
    by None is = absurd (true≢false (sym some ∙ ap is_some is))
    by (Some rest) is = rw is refl
rows-full (first ∷ done) new some full = by first.rest refl (rows-full done new some)
  where
    fewer : (places : List RowPlace) → length (rows_at places) ≤ length places
    fewer [] = omega arith
    fewer (place ∷ places) = each place.rest refl (fewer places)
      where
        each : (rest : Option (RestingRow (List Field))) → place.rest ≡ rest → length (rows_at places) ≤ length places → length (rows_at (place ∷ places)) ≤ suc (length places)
        each None is le = rw is (omega (arith, le))
        each (Some rest) is le = rw is (omega (arith, le))

    by : (rest : Option (RestingRow (List Field))) → first.rest ≡ rest → (length done ≡ length (rows_at done) → length (done ++ new ∷ []) ≡ length (rows_at (done ++ new ∷ []))) → suc (length (done ++ new ∷ [])) ≡ length (rows_at (first ∷ done ++ new ∷ []))
    by None is later = absurd (let short : suc (length done) ≡ length (rows_at done) = rw is at full in omega (arith, short, fewer done))
    by (Some rest) is later = rw is (ap suc (later (let tail : suc (length done) ≡ suc (length (rows_at done)) = rw is at full in omega (arith, tail))))

pub linking-moved : (own : ℕ) (start : List RowPlace) (rising : Bool) (items : List RowPlace) (last : ℕ → Option ℕ) (count at : ℕ) → (l : Linking own start rising items last count at) → at < length start → (place : RowPlace) (rest : List RowPlace) → items ≡ place ∷ rest → is_some place.rest ≡ true
    → (new : RowPlace) (now : ℕ → Option ℕ) → new.no ≡ place.no → new.key ≡ place.key → new.rest ≡ place.rest
    → ((key : ℕ) → new.key ≡ Some key → new.before ≡ known_place (last key))
    → ((key : ℕ) → now key ≡ cond (has_key key new) (Some (count + 1)) (last key))
    → Linking own start rising (rest ++ new ∷ []) now (count + 1) (at + 1)
linking-moved own start rising items last count at l more place rest e some new now numbered key same_rest before moves =
    let s = split own start rising items last count at l more place rest e in
    let front : (i : ℕ) → slice_get l.left i ≡ slice_get (place ∷ s.0) i = λ i. ap (λ left. slice_get left i) s.1 in record {
      done = l.done ++ new ∷ [];
      left = s.0;
      items_are = ap (λ ps. ps ++ new ∷ []) s.2 ∙ append_assoc s.0 l.done (new ∷ []);
      to_go = omega (arith, l.to_go, ap length s.1);
      rows =
          ap rows_at (append_assoc l.done (new ∷ []) s.0)
          ∙ (rows-pushed l.done (new ∷ s.0) ∙ (ap (λ rows. rows_at l.done ++ rows) (same-row s.0) ∙ (sym (rows-pushed l.done (place ∷ s.0)) ∙ (ap (λ left. rows_at (l.done ++ left)) (sym s.1) ∙ l.rows))));
      linked = linked-pushed own 0 l.done last new now l.linked
          (λ row is. key ∙ l.keyed 0 place row (front 0) (sym same_rest ∙ is))
          before
          (λ k. ap known_place (moves k) ∙ by k (has_key k new));
      counted = omega (arith, l.counted, longer l.done);
      full = rows-full l.done new (ap is_some same_rest ∙ some) l.full;
      known = λ i k p found is. stays k (has_key k new) (l.known (suc i) k p (front (suc i) ∙ found) is);
      keyed = λ i p row found is. l.keyed (suc i) p row (front (suc i) ∙ found) is;
      ascending = λ rises. ascending-same 0 (l.done ++ place ∷ s.0) ((l.done ++ new ∷ []) ++ s.0) (numbers-moved l.done s.0) (subst (λ left. IsAscending 0 (l.done ++ left)) s.1 (l.ascending rises));
    }
  where
    same-row : (others : List RowPlace) → rows_at (new ∷ others) ≡ rows_at (place ∷ others)
    same-row others = rw (same_rest, numbered) refl

    longer : (done : List RowPlace) → length (done ++ new ∷ []) ≡ suc (length done)
    longer [] = refl
    longer (p ∷ done) = ap suc (longer done)

    by : (k : ℕ) (b : Bool) → known_place (cond b (Some (count + 1)) (last k)) ≡ cond b (0 + suc (length l.done)) (known_place (last k))
    by k true = omega (arith, l.counted)
    by k false = refl

    stays : (k : ℕ) (b : Bool) → is_some (last k) ≡ true → is_some (now k) ≡ true
    stays k b had = ap is_some (moves k) ∙ each (has_key k new)
      where
        each : (b : Bool) → is_some (cond b (Some (count + 1)) (last k)) ≡ true
        each true = refl
        each false = had

    numbers-moved : (done others : List RowPlace) → number_list ((done ++ new ∷ []) ++ others) ≡ number_list (done ++ place ∷ others)
    numbers-moved [] others = ap (λ n. n ∷ number_list others) numbered
    numbers-moved (first ∷ done) others = ap (λ ns. first.no ∷ ns) (numbers-moved done others)

-- ---- keys of no place

-- a key that is swept out has no place
pub keys-swept : (own base : ℕ) (places : List RowPlace) (last now : ℕ → Option ℕ) → ((key : ℕ) → now key ≡ option_filter (λ place. ltb base place) (last key)) → AreLinked own base places last → AreLinked own base places now
keys-swept own base places last now sweeps linked = record {
  placed = linked.placed;
  ended = λ key. ap (λ place. known_place place - base) (sweeps key) ∙ (by (last key) ∙ linked.ended key);
}
  where
    by : (place : Option ℕ) → known_place (option_filter (λ place. ltb base place) place) - base ≡ known_place place - base
    by None = refl
    by (Some place) = each (ltb base place) refl
      where
        each : (b : Bool) → ltb base place ≡ b → known_place (cond b (Some place) None) - base ≡ place - base
        each true e = refl
        each false e = omega (arith, ltb-false base place e)

member-there : {X : Type 0} (key : ℕ) (es : List (ℕ × X)) → is_member key (keys_of es) ≡ true → is_some (lookup (nat_eq key) es) ≡ true
member-there key [] e = absurd cc
member-there {X} key (entry ∷ es) e = by (nat_eq key entry.0) refl (member-there key es)
  where
    by : (b : Bool) → nat_eq key entry.0 ≡ b → (is_member key (keys_of es) ≡ true → is_some (lookup (nat_eq key) es) ≡ true) → is_some (cond b (Some entry.1) (lookup (nat_eq key) es)) ≡ true
    by true same later = refl
    by false other later = later (sym (ap (λ b. b || is_member key (keys_of es)) (nat_eq_equiv.symm entry.0 key ∙ other)) ∙ e)

distinct-apart : (keys : List ℕ) → IsDistinct nat_eq keys → AreApart keys
unfolding IsDistinct
distinct-apart [] h = tt
distinct-apart (key ∷ keys) h = (out keys h.0, distinct-apart keys h.1)
  where
    out : (others : List ℕ) → AllByRecursion (λ other. nat_eq key other ≡ false) others → is_member key others ≡ false
    out [] h = refl
    out (other ∷ others) h = or_from (nat_eq other key) (is_member key others) (nat_eq_equiv.symm other key ∙ h.0) (out others h.1)

absent-kept : (test : ℕ → Bool) (key : ℕ) (keys : List ℕ) → is_member key keys ≡ false → is_member key (filter test keys) ≡ false
absent-kept test key [] h = refl
absent-kept test key (other ∷ keys) h = let parts = or_parts (nat_eq other key) (is_member key keys) h in by (test other) parts.0 (absent-kept test key keys parts.1)
  where
    by : (b : Bool) → nat_eq other key ≡ false → is_member key (filter test keys) ≡ false → is_member key (cond b (other ∷ filter test keys) (filter test keys)) ≡ false
    by true unlike later = or_from (nat_eq other key) (is_member key (filter test keys)) unlike later
    by false unlike later = later

apart-kept : (test : ℕ → Bool) (keys : List ℕ) → AreApart keys → AreApart (filter test keys)
apart-kept test [] h = tt
apart-kept test (key ∷ keys) h = by (test key) (apart-kept test keys h.1)
  where
    by : (b : Bool) → AreApart (filter test keys) → AreApart (cond b (key ∷ filter test keys) (filter test keys))
    by true later = (absent-kept test key keys h.0, later)
    by false later = later

member-kept : (test : ℕ → Bool) (key : ℕ) (keys : List ℕ) → is_member key (filter test keys) ≡ true → (is_member key keys ≡ true) × (test key ≡ true)
member-kept test key [] h = absurd cc
member-kept test key (other ∷ keys) h = by (test other) refl h (λ h. let kept = member-kept test key keys h in (or_right (nat_eq other key) (is_member key keys) kept.0, kept.1))
  where
    by : (b : Bool) → test other ≡ b → is_member key (cond b (other ∷ filter test keys) (filter test keys)) ≡ true
        → (is_member key (filter test keys) ≡ true → (is_member key (other ∷ keys) ≡ true) × (test key ≡ true)) → (is_member key (other ∷ keys) ≡ true) × (test key ≡ true)
    by true t h later = same (nat_eq other key) refl
      where
        same : (b : Bool) → nat_eq other key ≡ b → (is_member key (other ∷ keys) ≡ true) × (test key ≡ true)
        same true e = (or_left (nat_eq other key) (is_member key keys) e, ap test (sym (eqb-true other key e)) ∙ t)
        same false e = later (sym (ap (λ b. b || is_member key (filter test keys)) e) ∙ h)
    by false t h later = later h

-- at most one of them is the key of a place
lose-one : (place : RowPlace) (keys : List ℕ) → AreApart keys → length keys ≤ suc (length (filter (λ key. not (has_key key place)) keys))
lose-one place [] h = omega arith
lose-one place (key ∷ keys) h = by (has_key key place) refl (lose-one place keys h.1)
  where
    all-stay : (others : List ℕ) → is_member key others ≡ false → place.key ≡ Some key → filter (λ key. not (has_key key place)) others ≡ others
    all-stay [] out is = refl
    all-stay (other ∷ others) out is =
        let parts = or_parts (nat_eq other key) (is_member key others) out in
        let not_it : has_key other place ≡ false = rw is (nat_eq_equiv.symm key other ∙ parts.0) in
        rw not_it (ap (λ ks. other ∷ ks) (all-stay others parts.1 is))

    by : (b : Bool) → has_key key place ≡ b → length keys ≤ suc (length (filter (λ key. not (has_key key place)) keys)) → suc (length keys) ≤ suc (length (cond (not b) (key ∷ filter (λ key. not (has_key key place)) keys) (filter (λ key. not (has_key key place)) keys)))
    by true e later = omega (arith, ap length (all-stay keys h.0 (key-is key place e)))
    by false e later = omega (arith, later)

-- keys that each have a place are at most as many as the places
few_keys : (places : List RowPlace) (keys : List ℕ) → AreApart keys → ((key : ℕ) → is_member key keys ≡ true → 0 < last_place key places) → length keys ≤ length places
few_keys [] [] apart all = omega arith
few_keys [] (key ∷ keys) apart all = absurd (omega (arith, all key (or_left (nat_eq key key) (is_member key keys) (nat_eq_equiv.refl key))))
few_keys (place ∷ places) keys apart all =
    omega (arith, lose-one place keys apart, few_keys places (filter (λ key. not (has_key key place)) keys) (apart-kept (λ key. not (has_key key place)) keys apart) later)
  where
    later : (key : ℕ) → is_member key (filter (λ key. not (has_key key place)) keys) ≡ true → 0 < last_place key places
    later key h = let kept = member-kept (λ key. not (has_key key place)) key keys h in by (has_key key place) kept.1 (last_place key places) (all key kept.0)
      where
        by : (b : Bool) → not b ≡ true → (n : ℕ) → 0 < counted_on b n → 0 < n
        by true e n h = absurd cc
        by false e zero h = absurd (omega (arith, h))
        by false e (suc n) h = omega arith

pub keys-few : (own base : ℕ) (places : List RowPlace) (last : ℕ → Option ℕ) (es : List (ℕ × ℕ)) → AreLinked own base places last → ((key : ℕ) → lookup (nat_eq key) es ≡ option_filter (λ place. ltb base place) (last key)) → IsDistinct nat_eq (keys_of es)
    → length (keys_of es) ≤ length places
keys-few own base places last es linked sweeps distinct = few_keys places (keys_of es) (distinct-apart (keys_of es) distinct) each
  where
    each : (key : ℕ) → is_member key (keys_of es) ≡ true → 0 < last_place key places
    each key there = by (last key) refl
      where
        some : is_some (option_filter (λ place. ltb base place) (last key)) ≡ true
        some = ap is_some (sym (sweeps key)) ∙ member-there key es there

        by : (place : Option ℕ) → last key ≡ place → 0 < last_place key places
        by None is = absurd (let none : false ≡ true = sym (ap (λ o. is_some (option_filter (λ place. ltb base place) o)) is) ∙ some in cc)
        by (Some place) is = passes (ltb base place) refl (sym (ap (λ o. is_some (option_filter (λ place. ltb base place) o)) is) ∙ some)
          where
            passes : (b : Bool) → ltb base place ≡ b → is_some (cond b (Some place) None) ≡ true → 0 < last_place key places
            passes true e h = omega (arith, ltb-true base place e, sym (ap (λ o. known_place o - base) is) ∙ linked.ended key)
            passes false e h = absurd cc

-- the key of the first of those that are left is known
pub linking-known : (own : ℕ) (start : List RowPlace) (rising : Bool) (items : List RowPlace) (last : ℕ → Option ℕ) (count at : ℕ) → Linking own start rising items last count at → at < length start → (place : RowPlace) (rest : List RowPlace) → items ≡ place ∷ rest
    → (key : ℕ) → place.key ≡ Some key → is_some (last key) ≡ true
linking-known own start rising items last count at l more place rest e key is =
    let s = split own start rising items last count at l more place rest e in
    l.known 0 key place (ap (λ left. slice_get left 0) s.1) is

-- ---- keys whose places are forgotten

pub zero-known : (place : Option ℕ) → known_place (option_map (λ (n : ℕ). 0) place) ≡ 0
zero-known None = refl
zero-known (Some n) = refl

pub still-some : (place : Option ℕ) → is_some {T = ℕ} (option_map (λ (n : ℕ). 0) place) ≡ is_some place
still-some None = refl
still-some (Some n) = refl

pub none-here : (rest : Option (RestingRow (List Field))) → is_some rest ≡ false → rest ≡ None
none-here None e = refl
none-here (Some rest) e = absurd cc
