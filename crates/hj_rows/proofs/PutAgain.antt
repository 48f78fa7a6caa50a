-- A row that is put under a number whose place is empty: it is put there, and then moved behind all others.
use Rattle.std.proofs.Common.{◌≡◌, ◌≤◌, ℕ, nat_eq, length, None, Some, Option, option_map, IfSome, is_some, true, ap, subst, ◌∙◌}
use Rattle.std.specs.List.{IsDistinct}
use Rattle.std.specs.Map.{lookup, remove_entry, keys_of}
use Rattle.indexmap.specs.IndexMap.{IndexMap, insert_entry}
use Rattle.indexmap.proofs.CallerLemmas.{keys-insert_entry-present}
use Rattle.hj_msg.specs.Store.{Resting, with_entry}
use Rattle.hj_rows.specs.Places.{is_empty_place, row_at, rows_of}
use Rattle.hj_rows.specs.declared.place.RestingRow.{RestingRow}
use Rattle.hj_rows.proofs.Rows.{Places, entry-found, found-empty, row_of, rows-moved}
use Rattle.hj_rows.proofs.InPlace.{put-again}

-- what is so then: there was no row, now it is the last one, and there are no more places
pub record IsPutAgain {P : Type 0} (k : ℕ) (rest : RestingRow P) (es last : Places P) : Type 0 where
  pub none : row_at k (rows_of es) ≡ None
  pub rows : rows_of last ≡ with_entry (row_of k rest) (rows_of es)
  pub no_longer : length last ≤ length es

pub put_again : {P S : Type 0} (k : ℕ) (rest : RestingRow P) (m : IndexMap ℕ (Option (RestingRow P)) S) (new last : Places P) (held : Option (Option (RestingRow P)))
    → is_empty_place (lookup (nat_eq k) m.entries) ≡ true → new ≡ insert_entry nat_eq m.entries k (Some rest)
    → IsDistinct nat_eq (keys_of new)
    → held ≡ Some (Some rest) → IfSome held (λ place. last ≡ insert_entry nat_eq (remove_entry (nat_eq k) new) k place)
    → IsPutAgain k rest m.entries last
put_again {P} k rest m new last held empty puts unique there moves =
    let found = found-empty (lookup (nat_eq k) m.entries) empty in
    let distinct : IsDistinct nat_eq (keys_of m.entries) = subst (IsDistinct nat_eq) (ap keys_of puts ∙ keys-insert_entry-present nat_eq m k (Some rest) (ap is_some found)) unique in
    let moved : last ≡ insert_entry nat_eq (remove_entry (nat_eq k) new) k (Some rest) = subst (λ (o : Option (Option (RestingRow P))). IfSome o (λ place. last ≡ insert_entry nat_eq (remove_entry (nat_eq k) new) k place)) there moves in
    record {
      none = ap (option_map (λ (entry : Resting P). entry.row)) (entry-found k None m.entries distinct found);
      rows = ap rows_of moved ∙ rw puts (rows-moved k rest m.entries distinct empty);
      no_longer = put-again k (Some rest) m.entries new last None found puts moved;
    }
