-- A probe of all places, whose numbers stand in any order.
use Rattle.std.proofs.Common.{◌≡◌, ℕ, zero, suc, ◌+◌, ◌≤◌, Bool, false, cond, nat_eq, List, [], ◌∷◌, None, Some, Option, length, map, drop, slice_get, arith, refl, sym, ap, subst, ◌∙◌}
use Rattle.std.specs.BTreeMap.{insert_entry, is_at}
use Rattle.std.specs.Cmp.{nat_eq_equiv}
use Rattle.std.specs.List.{AllByRecursion, IsDistinct}
use Rattle.std.specs.Map.{keys_of, lookup}
use Rattle.std.specs.Ordering.{nat_cmp}
use Rattle.std.proofs.lemmas.Bool.{or_parts}
use Rattle.hj_value.specs.declared.field.Field.{Field}
use Rattle.hj_msg.specs.Store.{by_number, settled_partners}
use Rattle.hj_rows.specs.declared.place.RestingRow.{RestingRow}
use Rattle.hj_rows.specs.Places.{joining, rows_of}
use Rattle.hj_rows.proofs.Rows.{Places}
use Rattle.hj_rows.proofs.SortedProbes.{sorts-joined, sorts-nothing, sorts-passed, Sorts}
use Rattle.hj_index.specs.declared.chains.RowPlace.{RowPlace}
use Rattle.hj_index.specs.KeyChains.{is_member, numbers, rows_at, AreApart}
use Rattle.hj_index.proofs.ChainRows.{Entries}
use Rattle.hj_index.proofs.ChainWalks.{drop-at, matches}

abbrev pub full_places : Entries → Places (List Field)
full_places rows = map (λ entry. (entry.no, Some (record { row = entry.row; settled = entry.settled }))) rows

full-rows : (rows : Entries) → rows_of (full_places rows) ≡ rows
full-rows [] = refl
full-rows (row ∷ rows) = ap (λ rows. row ∷ rows) (full-rows rows)

full-distinct : (rows : Entries) → AreApart (numbers rows) → IsDistinct nat_eq (keys_of (full_places rows))
unfolding IsDistinct
full-distinct [] h = tt
full-distinct (row ∷ rows) h = (away row.no rows h.0, full-distinct rows h.1)
  where
    away : (n : ℕ) (rows : Entries) → is_member n (numbers rows) ≡ false → AllByRecursion (λ m. nat_eq n m ≡ false) (keys_of (full_places rows))
    away n [] h = tt
    away n (row ∷ rows) h =
        let parts = or_parts (nat_eq row.no n) (is_member n (numbers rows)) h in
        (nat_eq_equiv.symm n row.no ∙ parts.0, away n rows parts.1)

-- the places with rows from an index on
abbrev pub left_at : ℕ → List RowPlace → Places (List Field)
left_at at places = full_places (rows_at (drop at places))

module _ (test : List Field → Bool) (places : List RowPlace) where
  abbrev pub IsSorting : List (ℕ × List Field) → ℕ → Type 0
  IsSorting rows at = Sorts test (by_number (matches test places)) rows (left_at at places)

  pub sort-starts : (rows : List (ℕ × List Field)) → rows ≡ [] → AreApart (numbers (rows_at places)) → IsSorting rows 0
  sort-starts rows none apart =
      subst (λ entries. Sorts test (by_number (settled_partners test entries)) rows (full_places (rows_at places))) (full-rows (rows_at places))
      (sorts-nothing test rows (full_places (rows_at places)) (full_places (rows_at places)) none refl (full-distinct (rows_at places) apart))

  -- what is left before and after a place
  before : (at : ℕ) (place : RowPlace) (rest : RestingRow (List Field)) → slice_get places at ≡ Some place → place.rest ≡ Some rest → left_at at places ≡ (place.no, Some rest) ∷ left_at (suc at) places
  before at place rest e is = ap (λ ps. full_places (rows_at ps)) (drop-at places at place e) ∙ rw is refl

  before-empty : (at : ℕ) (place : RowPlace) → slice_get places at ≡ Some place → place.rest ≡ None → left_at at places ≡ left_at (suc at) places
  before-empty at place e is = ap (λ ps. full_places (rows_at ps)) (drop-at places at place e) ∙ rw is refl

  -- `found` is what was found at a place
  pub sort-passed : (rows : List (ℕ × List Field)) (at : ℕ) (place : RowPlace) (found : Option (List Field)) → slice_get places at ≡ Some place → found ≡ joining test place.rest → found ≡ None → IsSorting rows at → IsSorting rows (at + 1)
  sort-passed rows at place found e is none sorting = subst (IsSorting rows) (let n : suc at ≡ at + 1 = omega arith in n) (by place.rest refl (sym is ∙ none))
    where
      by : (rest : Option (RestingRow (List Field))) → place.rest ≡ rest → joining test rest ≡ None → IsSorting rows (suc at)
      by None is none = subst (Sorts test (by_number (matches test places)) rows) (before-empty at place e is) sorting
      by (Some rest) is none = sorts-passed test (by_number (matches test places)) rows place.no (Some rest) (left_at at places) (left_at (suc at) places) none (before at place rest e is) sorting

  pub sort-joined : (rows new : List (ℕ × List Field)) (at : ℕ) (place : RowPlace) (found : Option (List Field)) (row : List Field) → slice_get places at ≡ Some place → found ≡ joining test place.rest → found ≡ Some row → IsSorting rows at
      → new ≡ insert_entry nat_cmp rows place.no row → ((k : ℕ) → lookup (is_at (nat_cmp k)) new ≡ cond (is_at (nat_cmp place.no) k) (Some row) (lookup (is_at (nat_cmp k)) rows)) → IsSorting new (at + 1)
  sort-joined rows new at place found row e is some sorting inserts looks = subst (IsSorting new) (let n : suc at ≡ at + 1 = omega arith in n) (by place.rest refl (sym is ∙ some))
    where
      by : (rest : Option (RestingRow (List Field))) → place.rest ≡ rest → joining test rest ≡ Some row → IsSorting new (suc at)
      by None is some = absurd cc
      by (Some rest) is some = sorts-joined test (by_number (matches test places)) rows new place.no (Some rest) (left_at at places) (left_at (suc at) places) row some (before at place rest e is) sorting inserts looks
