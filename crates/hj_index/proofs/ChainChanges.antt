-- Chains, as one row is settled, taken out, or put in.
use Rattle.std.proofs.Common.{◌≡◌, ℕ, suc, ◌+◌, ◌^◌, ◌≤◌, ◌<◌, Bool, true, false, cond, nat_eq, ◌&&◌, ◌||◌, not, List, [], ◌∷◌, ◌++◌, None, Some, Option, option_map, is_some, length, length-set, drop, slice_get, inl, inr, arith, refl, sym, ap, subst, ◌∙◌, true≢false}
use Rattle.std.specs.HashMap.{get, hash_map_len}
use Rattle.std.specs.List.{slice_index_or, slice_set}
use Rattle.std.proofs.lemmas.Bool.{eqb-true}
use Rattle.std.proofs.lemmas.Option.{get_or_from_slice_get, slice_get_within}
use Rattle.hj_value.specs.declared.field.Field.{Field}
use Rattle.hj_msg.specs.Store.{Resting, holds, with_entry, with_settled, without_entry}
use Rattle.hj_rows.specs.declared.place.RestingRow.{RestingRow}
use Rattle.hj_rows.proofs.Rows.{without-absent}
use Rattle.hj_index.specs.declared.chains.KeyChains.{KeyChains}
use Rattle.hj_index.specs.declared.chains.RowPlace.{RowPlace}
use Rattle.hj_index.specs.KeyChains.{is_key, is_member, is_row, known_place, numbers, rows_at, rows_in, AreApart, AreChained, AreKeyed, AreKnown, AreLinked, IsAbove, IsAscending, NearlyChained}
use Rattle.hj_index.specs.Keys.{key_at}
use Rattle.hj_index.proofs.ChainLinks.{ascending-same, key-here, linked-keyed, linked-known, linked-popped, linked-pushed, linked-set, set-at, number-at, set-numbers}
use Rattle.hj_index.proofs.ChainRows.{apart-pushed, apart-put, apart-without, ascending-later, ascending-pushed, emptied, holds-member, number_list, numbers-settled, put-last, row-held, rows-emptied, rows-pushed, rows-replaced, rows-settled, settled}

-- what stands at a place that holds the row of a number
pub record Reads (n at : ℕ) (places : List RowPlace) (place : RowPlace) : Type 0 where
  pub there : slice_get places at ≡ Some place
  pub numbered : place.no ≡ n
  pub full : is_some place.rest ≡ true

pub reads : (n at : ℕ) (places : List RowPlace) (place : RowPlace) → option_map (is_row n) (slice_get places at) ≡ Some true → place ≡ slice_index_or places at place → Reads n at places place
reads n at places place filled value = by (slice_get places at) refl filled
  where
    both : (a b : Bool) → (a && b) ≡ true → (a ≡ true) × (b ≡ true)
    both true b e = (refl, e)
    both false b e = absurd cc

    by : (found : Option RowPlace) → slice_get places at ≡ found → option_map (is_row n) found ≡ Some true → Reads n at places place
    by None e h = absurd cc
    by (Some other) e h =
        let same : place ≡ other = value ∙ get_or_from_slice_get places at other place e in
        let parts = both (nat_eq other.no n) (is_some other.rest) (let row : is_row n other ≡ true = cc in row) in
        record { there = e ∙ ap Some (sym same); numbered = ap (λ (p : RowPlace). p.no) same ∙ eqb-true other.no n parts.0; full = ap (λ (p : RowPlace). is_some p.rest) same ∙ parts.1 }

-- the same numbers at as many places
nearly-changed : (old new : KeyChains) → NearlyChained old → new.own ≡ old.own → new.base ≡ old.base → new.last ≡ old.last → new.is_ascending ≡ old.is_ascending → AreLinked old.own old.base new.places.items (get nat_eq old.last)
    → number_list new.places.items ≡ number_list old.places.items → length new.places.items ≡ length old.places.items → AreApart (numbers (rows_in new)) → length (rows_in new) + new.empty ≡ length new.places.items → NearlyChained new
nearly-changed old new nearly own base last up linked nos long apart counted = record {
  linked = rw (own, base, last) linked;
  ascending = λ rises. ascending-same 0 old.places.items new.places.items nos (nearly.ascending (sym up ∙ rises));
  apart = apart;
  counted = counted;
  near = rw (base, long) nearly.near;
}

settled-length : (n : ℕ) (rows : List (Resting (List Field))) → length (with_settled n rows) ≡ length rows
settled-length n [] = refl
settled-length n (row ∷ rows) = ap suc (settled-length n rows)

module _ (old : KeyChains) (n at : ℕ) (place : RowPlace) (rest : RestingRow (List Field)) (chained : AreChained old) (read : Reads n at old.places.items place) (some : place.rest ≡ Some rest) where
  pub settled_rows : rows_at (slice_set old.places.items at (settled place rest)) ≡ with_settled n (rows_in old)
  settled_rows = rows-settled n at old.places.items place rest chained.nearly.apart read.there some read.numbered

  pub settled_chained : (new : KeyChains) → new.places.items ≡ slice_set old.places.items at (settled place rest) → new.own ≡ old.own → new.base ≡ old.base → new.last ≡ old.last → new.empty ≡ old.empty → new.is_ascending ≡ old.is_ascending → AreChained new
  settled_chained new items own base last empty up =
      let rows : rows_in new ≡ with_settled n (rows_in old) = ap rows_at items ∙ settled_rows in
      let long : length new.places.items ≡ length old.places.items = ap length items ∙ length-set old.places.items at (settled place rest) in
      let many : length (rows_in new) ≡ length (rows_in old) = ap length rows ∙ settled-length n (rows_in old) in
      let it = chained.nearly.linked.placed at place read.there in record {
        nearly =
            nearly-changed old new chained.nearly own base last up
            (subst (λ places. AreLinked old.own old.base places (get nat_eq old.last)) (sym items)
            (linked-set old.own old.base old.places.items (get nat_eq old.last) at place (settled place rest) chained.nearly.linked read.there refl refl (λ r is. it.keyed rest some ∙ ap (λ (r : RestingRow (List Field)). key_at old.own r.row) (row_same r is))))
            (ap number_list items ∙ set-numbers old.places.items at place.no (settled place rest) (number-at old.places.items at place read.there) refl)
            long (subst AreApart (sym (ap numbers rows ∙ numbers-settled n (rows_in old))) chained.nearly.apart) (omega (arith, many, long, empty, chained.nearly.counted));
        few_empty = omega (arith, many, empty, chained.few_empty);
        few_keys = rw last (omega (arith, long, chained.few_keys));
        near = rw base chained.near;
      }
    where
      row_same : (r : RestingRow (List Field)) → Some (record rest { settled = true }) ≡ Some r → record rest { settled = true } ≡ r
      row_same r is = cc

  pub emptied_rows : rows_at (slice_set old.places.items at (emptied place)) ≡ without_entry n (rows_in old)
  emptied_rows = rows-emptied n at old.places.items place rest chained.nearly.apart read.there some read.numbered

without-fewer : (n : ℕ) (rows : List (Resting (List Field))) → AreApart (numbers rows) → holds n rows ≡ true → length (without_entry n rows) + 1 ≡ length rows
without-fewer n [] apart h = absurd cc
without-fewer n (row ∷ rows) apart h = by (nat_eq row.no n) refl (without-fewer n rows apart.1)
  where
    by : (b : Bool) → nat_eq row.no n ≡ b → (holds n rows ≡ true → length (without_entry n rows) + 1 ≡ length rows) → length (cond (not b) (row ∷ without_entry n rows) (without_entry n rows)) + 1 ≡ suc (length rows)
    by true e later =
        let absent : holds n rows ≡ false = holds-member n rows ∙ (ap (λ k. is_member k (numbers rows)) (sym (eqb-true row.no n e)) ∙ apart.0) in
        omega (arith, ap length (without-absent n rows absent))
    by false e later = omega (arith, later (sym (ap (λ b. b || holds n rows) e) ∙ h))

module _ (old : KeyChains) (n at : ℕ) (place : RowPlace) (rest : RestingRow (List Field)) (chained : AreChained old) (read : Reads n at old.places.items place) (some : place.rest ≡ Some rest) (filled : option_map (is_row n) (slice_get old.places.items at) ≡ Some true) where
  pub emptied_nearly : (new : KeyChains) → new.places.items ≡ slice_set old.places.items at (emptied place) → new.own ≡ old.own → new.base ≡ old.base → new.last ≡ old.last → new.empty ≡ old.empty + 1 → new.is_ascending ≡ old.is_ascending → NearlyChained new
  emptied_nearly new items own base last empty up =
      let rows : rows_in new ≡ without_entry n (rows_in old) = ap rows_at items ∙ rows-emptied n at old.places.items place rest chained.nearly.apart read.there some read.numbered in
      let long : length new.places.items ≡ length old.places.items = ap length items ∙ length-set old.places.items at (emptied place) in
      let fewer = without-fewer n (rows_in old) chained.nearly.apart (row-held n at old.places.items filled) in
      nearly-changed old new chained.nearly own base last up
      (subst (λ places. AreLinked old.own old.base places (get nat_eq old.last)) (sym items)
      (linked-set old.own old.base old.places.items (get nat_eq old.last) at place (emptied place) chained.nearly.linked read.there refl refl (λ r is. absurd cc)))
      (ap number_list items ∙ set-numbers old.places.items at place.no (emptied place) (number-at old.places.items at place read.there) refl)
      long (subst AreApart (sym (ap numbers rows)) (apart-without n (rows_in old) chained.nearly.apart)) (omega (arith, ap length rows, long, empty, fewer, chained.nearly.counted))

-- ---- a row that is put behind all others

longer : {X : Type 0} (xs : List X) (x : X) → length (xs ++ x ∷ []) ≡ length xs + 1
longer [] x = refl
longer (y ∷ xs) x = omega (arith, longer xs x)

module _ (old new : KeyChains) (n : ℕ) (row : List Field) (settled : Bool) (key : Option ℕ) (count before : ℕ)
    (chained : AreChained old) where
  abbrev pub pushed : RowPlace
  pushed = record { no = n; key = key; before = before; rest = Some (record { row = row; settled = settled }) }

  abbrev pub entry : Resting (List Field)
  entry = record { no = n; row = row; settled = settled }

  pub pushed_rows : new.places.items ≡ old.places.items ++ pushed ∷ [] → holds n (rows_in old) ≡ false → rows_in new ≡ with_entry entry (rows_in old)
  pushed_rows items absent = ap rows_at items ∙ (rows-pushed old.places.items (pushed ∷ []) ∙ sym (put-last entry (rows_in old) absent))

  pub pushed_chained : new.places.items ≡ old.places.items ++ pushed ∷ [] → new.own ≡ old.own → new.base ≡ old.base → new.empty ≡ old.empty → new.is_ascending ≡ old.is_ascending
      → holds n (rows_in old) ≡ false → (old.is_ascending ≡ true → IsAbove n old.places.items) → key ≡ key_at old.own row → ((other : ℕ) → key ≡ Some other → before ≡ known_place (get nat_eq old.last other))
      → count ≡ old.base + length old.places.items + 1 → ((other : ℕ) → get nat_eq new.last other ≡ cond (is_key other key) (Some count) (get nat_eq old.last other)) → hash_map_len new.last ≤ hash_map_len old.last + 1
      → length new.places.items < 2 ^ 63 → AreChained new
  pushed_chained items own base empty up absent above keyed known counted moves few small =
      let rows : rows_in new ≡ rows_in old ++ entry ∷ [] = ap rows_at items ∙ rows-pushed old.places.items (pushed ∷ []) in
      let long : length new.places.items ≡ length old.places.items + 1 = ap length items ∙ longer old.places.items pushed in
      let many : length (rows_in new) ≡ length (rows_in old) + 1 = ap length rows ∙ longer (rows_in old) entry in record {
        nearly = record {
          linked = rw (own, base, items) (linked-pushed old.own old.base old.places.items (get nat_eq old.last) pushed (get nat_eq new.last) chained.nearly.linked
              (λ rest is. keyed ∙ ap (λ (r : RestingRow (List Field)). key_at old.own r.row) (row_same rest is)) known (λ other. ap known_place (moves other) ∙ by other (is_key other key)));
          ascending = λ rises. rw items (ascending-pushed 0 old.places.items pushed (omega arith) (chained.nearly.ascending (sym up ∙ rises)) (above (sym up ∙ rises)));
          apart = rw rows (apart-pushed entry (rows_in old) absent chained.nearly.apart);
          counted = omega (arith, many, long, empty, chained.nearly.counted);
          near = omega (arith, base, small, chained.near);
        };
        few_empty = omega (arith, many, empty, chained.few_empty);
        few_keys = omega (arith, few, long, chained.few_keys);
        near = rw base chained.near;
      }
    where
      row_same : (rest : RestingRow (List Field)) → Some (record { row = row; settled = settled }) ≡ Some rest → record { row = row; settled = settled } ≡ rest
      row_same rest is = cc

      by : (other : ℕ) (b : Bool) → known_place (cond b (Some count) (get nat_eq old.last other)) ≡ cond b (old.base + suc (length old.places.items)) (known_place (get nat_eq old.last other))
      by other true = omega (arith, counted)
      by other false = refl

pub held_rest : (place : RowPlace) → is_some place.rest ≡ true → (rest : RestingRow (List Field)) × (place.rest ≡ Some rest)
held_rest place full = by place.rest refl
  where
    by : (found : Option (RestingRow (List Field))) → place.rest ≡ found → (rest : RestingRow (List Field)) × (place.rest ≡ Some rest)
    by None e = absurd (true≢false (sym full ∙ ap is_some e))
    by (Some rest) e = (rest, e)

-- ---- an empty place that is dropped from the front

module _ (old new : KeyChains) (first : RowPlace) (nearly : NearlyChained old) (items : old.places.items ≡ first ∷ new.places.items) (none : first.rest ≡ None) where
  pub dropped_rows : rows_in new ≡ rows_in old
  dropped_rows = sym (ap rows_at items ∙ rw none refl)

  -- where a place is empty, one is counted
  pub one_empty : 0 < old.empty
  one_empty = omega (arith, nearly.counted, fewer new.places.items, ap length items, ap length dropped_rows)
    where
      fewer : (places : List RowPlace) → length (rows_at places) ≤ length places
      fewer [] = omega arith
      fewer (place ∷ places) = each place.rest refl (fewer places)
        where
          each : (rest : Option (RestingRow (List Field))) → place.rest ≡ rest → length (rows_at places) ≤ length places → length (rows_at (place ∷ places)) ≤ suc (length places)
          each None is le = rw is (omega (arith, le))
          each (Some rest) is le = rw is (omega (arith, le))

  pub dropped_nearly : new.own ≡ old.own → new.base ≡ old.base + 1 → new.last ≡ old.last → new.empty + 1 ≡ old.empty → new.is_ascending ≡ old.is_ascending → NearlyChained new
  dropped_nearly own base last empty up = record {
    linked = rw (own, base, last) (linked-popped old.own old.base first new.places.items (get nat_eq old.last) (subst (λ places. AreLinked old.own old.base places (get nat_eq old.last)) items nearly.linked));
    ascending = λ rises. let all = subst (IsAscending 0) items (nearly.ascending (sym up ∙ rises)) in ascending-later 0 (first.no + 1) new.places.items (omega arith) all.1;
    apart = rw dropped_rows nearly.apart;
    counted = omega (arith, ap length dropped_rows, empty, ap length items, nearly.counted);
    near = omega (arith, base, ap length items, nearly.near);
  }

pub front-split : (places : List RowPlace) → option_map (λ (place : RowPlace). is_some place.rest) (slice_get places 0) ≡ Some false → (first : RowPlace) × (places ≡ first ∷ drop 1 places) × (first.rest ≡ None)
front-split [] e = absurd cc
front-split (first ∷ places) e = (first, refl, by first.rest refl)
  where
    by : (rest : Option (RestingRow (List Field))) → first.rest ≡ rest → first.rest ≡ None
    by None is = is
    by (Some rest) is = absurd (let bad : Some true ≡ Some false = sym (ap (λ (o : Option (RestingRow (List Field))). Some (is_some o)) is) ∙ e in cc)

-- ---- a row that is put in the place of one

module _ (old : KeyChains) (n at : ℕ) (row : List Field) (settled : Bool) (key : Option ℕ) (chained : AreChained old) (filled : option_map (is_row n) (slice_get old.places.items at) ≡ Some true) where
  abbrev pub instead : RowPlace
  instead = record { no = n; key = key; before = 0; rest = Some (record { row = row; settled = settled }) }

  pub replaced_within : at < length old.places.items
  replaced_within = by (slice_get old.places.items at) refl filled
    where
      by : (found : Option RowPlace) → slice_get old.places.items at ≡ found → option_map (is_row n) found ≡ Some true → at < length old.places.items
      by None e h = absurd cc
      by (Some place) e h = slice_get_within old.places.items at place e

  pub replaced_rows : (new : KeyChains) → new.places.items ≡ slice_set old.places.items at instead → rows_in new ≡ with_entry (record { no = n; row = row; settled = settled }) (rows_in old)
  replaced_rows new items = ap rows_at items ∙ rows-replaced n at old.places.items instead (record { row = row; settled = settled }) chained.nearly.apart filled refl refl

  pub replaced_apart : (new : KeyChains) → new.places.items ≡ slice_set old.places.items at instead → AreApart (numbers (rows_in new))
  replaced_apart new items =
      subst AreApart (sym (ap numbers (replaced_rows new items)))
      (apart-put (record { no = n; row = row; settled = settled }) (rows_in old) (row-held n at old.places.items filled) chained.nearly.apart)

  pub replaced_known : (new : KeyChains) → new.places.items ≡ slice_set old.places.items at instead → ((other : ℕ) → get nat_eq new.last other ≡ cond (is_key other key) (Some 0) (get nat_eq old.last other)) → AreKnown new.places.items (get nat_eq new.last)
  replaced_known new items sets i other place found is = elim (set-at old.places.items at instead i place (ap (λ places. slice_get places i) (sym items) ∙ found)) [
    | inl same ↦ ap is_some (sets other) ∙ either (is_key other key) (linked-known old.own old.base old.places.items (get nat_eq old.last) chained.nearly.linked i other place same is)
    | inr here ↦ ap is_some (sets other) ∙ own (is_key other key) (key-here other instead (ap (λ (p : RowPlace). p.key) (sym here.1) ∙ is))
  ]
    where
      either : (b : Bool) → is_some (get nat_eq old.last other) ≡ true → is_some (cond b (Some 0) (get nat_eq old.last other)) ≡ true
      either true h = refl
      either false h = h

      own : (b : Bool) → b ≡ true → is_some (cond b (Some 0) (get nat_eq old.last other)) ≡ true
      own true h = refl
      own false h = absurd cc

  pub replaced_keyed : (new : KeyChains) → new.places.items ≡ slice_set old.places.items at instead → key ≡ key_at old.own row → AreKeyed old.own new.places.items
  replaced_keyed new items keyed i place rest found is = elim (set-at old.places.items at instead i place (ap (λ places. slice_get places i) (sym items) ∙ found)) [
    | inl same ↦ linked-keyed old.own old.base old.places.items (get nat_eq old.last) chained.nearly.linked i place rest same is
    | inr here ↦
        ap (λ (p : RowPlace). p.key) here.1 ∙ (keyed ∙ ap (λ (r : RestingRow (List Field)). key_at old.own r.row) (row_same (ap (λ (p : RowPlace). p.rest) (sym here.1) ∙ is)))
  ]
    where
      row_same : Some (record { row = row; settled = settled }) ≡ Some rest → record { row = row; settled = settled } ≡ rest
      row_same is = cc

  pub replaced_ascending : (new : KeyChains) → new.places.items ≡ slice_set old.places.items at instead → new.is_ascending ≡ old.is_ascending → new.is_ascending ≡ true → IsAscending 0 new.places.items
  replaced_ascending new items up rises =
      ascending-same 0 old.places.items new.places.items (ap number_list items ∙ set-numbers old.places.items at n instead (by (slice_get old.places.items at) refl filled) refl) (chained.nearly.ascending (sym up ∙ rises))
    where
      both : (a b : Bool) → (a && b) ≡ true → a ≡ true
      both true b e = refl
      both false b e = absurd cc

      by : (found : Option RowPlace) → slice_get old.places.items at ≡ found → option_map (is_row n) found ≡ Some true → slice_get (number_list old.places.items) at ≡ Some n
      by None e h = absurd cc
      by (Some place) e h =
          number-at old.places.items at place e ∙ ap Some (eqb-true place.no n (both (nat_eq place.no n) (is_some place.rest) (let is : is_row n place ≡ true = cc in is)))
