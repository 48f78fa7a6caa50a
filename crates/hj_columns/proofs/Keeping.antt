-- Columns of keys through the changes of the places beside them.
use Rattle.std.proofs.Common.{◌≡◌, ℕ, zero, suc, ◌%◌, ◌≤◌, ◌<◌, true, ◌&&◌, nat_le, Result, Ok, Err, OnOk, List, [], ◌∷◌, ◌++◌, length, map, get_or, All, Some, Option, option_map, slice_get, arith, refl, sym, ap, subst, ◌∙◌}
use Rattle.std.proofs.lemmas.Bool.Decides.{nat_tests}
use Rattle.std.proofs.lemmas.List.{length-append, length-map}
use Rattle.std.proofs.lemmas.Simd.{map-map}
use Rattle.hj_rows.specs.declared.key_filter.KeyRange.{KeyRange}
use Rattle.hj_rows.specs.declared.place.RestingRow.{RestingRow}
use Rattle.hj_rows.specs.Keys.{IsKeyWithin}
use Rattle.hj_rows.specs.Places.{place_rows}
use Rattle.hj_rows.proofs.Rows.{Places}
use Rattle.hj_columns.specs.declared.key_column.KeyColumn.{KeyColumn}
use Rattle.hj_columns.specs.Columns.{filters_of, AreIn, AreLetIn, IsKeyColumn, Waits}
use Rattle.hj_columns.specs.Masks.{is_in}
use Rattle.hj_columns.specs.Store.{keys_behind}
use Rattle.hj_columns.proofs.Listing.{agree-map, map-agree, within-length}

module _ {P F : Type 0} (key : F → P → ℕ) where
  -- a key that is put behind all places
  pub put-keeps : (places : List (Option P)) (at : ℕ) (old new : KeyColumn F) → length places ≡ at → IsKeyColumn key places old → new.filter ≡ old.filter
      → ((k : ℕ) → k < at → slice_get new.keys.items k ≡ slice_get old.keys.items k) → length old.keys.items ≤ length new.keys.items → length new.keys.items % 64 ≡ 0
      → IsKeyColumn key places new
  put-keeps places at old new long column same before room blocks = record {
    room = record { keys = let keys = column.room.keys in omega (arith, keys, room); blocks = blocks };
    keyed = λ k row e.
        before k (let low = within-length places k (Some row) e in omega (arith, low, long)) ∙ column.keyed k row e ∙ ap (λ filter. Some (key filter row)) (sym same);
  }

  pub put-waits : (places : List (Option P)) (at : ℕ) (row : P) (old new : KeyColumn F) (k : ℕ) → length places ≡ at → new.filter ≡ old.filter → k ≡ key old.filter row → slice_get new.keys.items at ≡ Some k → Waits key places row new
  put-waits places at row old new k long same is put = ap (slice_get new.keys.items) long ∙ put ∙ ap Some is ∙ ap (λ filter. Some (key filter row)) (sym same)

  get-append : {A : Type 0} (xs : List A) (x y : A) (k : ℕ) → slice_get (xs ++ x ∷ []) k ≡ Some y → (P : Type 0) → (slice_get xs k ≡ Some y → P) → (k ≡ length xs → x ≡ y → P) → P
  get-append [] x y zero e P first last = last refl (some_same x y e)
    where
      some_same : {A : Type 0} (x y : A) → Some x ≡ Some y → x ≡ y
      some_same x y e = cc
  get-append [] x y (suc k) e P first last = absurd cc
  get-append (z ∷ xs) x y zero e P first last = first e
  get-append (z ∷ xs) x y (suc k) e P first last = get-append xs x y k e P first (λ at same. last (ap suc at) same)

  -- a row more behind the last place, whose key waits there
  appends : (places : List (Option P)) (row : P) (column : KeyColumn F) → IsKeyColumn key places column → Waits key places row column → IsKeyColumn key (places ++ Some row ∷ []) column
  appends places row column is waits = record {
    room = record {
      keys = let low = within-length column.keys.items (length places) (key column.filter row) waits in omega (arith, low, length-append places (Some row ∷ []));
      blocks = is.room.blocks;
    };
    keyed = λ at other e.
        get-append places (Some row) (Some other) at e (slice_get column.keys.items at ≡ Some (key column.filter other)) (is.keyed at other)
        (λ last same. ap (slice_get column.keys.items) last ∙ waits ∙ ap (λ r. Some (key column.filter r)) (some_same row other same));
  }
    where
      some_same : (x y : P) → Some x ≡ Some y → x ≡ y
      some_same x y e = cc

  pub all-append : (places after : List (Option P)) (row : P) (columns : List (KeyColumn F)) → after ≡ places ++ Some row ∷ [] → All (IsKeyColumn key places) columns → All (Waits key places row) columns → All (IsKeyColumn key after) columns
  all-append places after row columns is all waits =
      subst (λ ps. All (IsKeyColumn key ps) columns) (sym is) (λ k d low. appends places row (get_or columns k d) (all k d low) (waits k d low))

  -- a row that all filters let in has its keys in all ranges
  pub let-in : (range : F → Option KeyRange) (places : List (Option P)) (columns : List (KeyColumn F)) (ranges : List KeyRange) (at : ℕ) (row : P)
      → All (IsKeyColumn key places) columns → map (λ r. Some r) ranges ≡ map (λ column. range column.filter) columns → slice_get places at ≡ Some (Some row)
      → AreLetIn range key row columns → AreIn columns ranges at
  let-in range places [] ranges at row all same here lets j column r low = absurd (omega arith)
  let-in range places (c ∷ columns) [] at row all same here lets j column r low = absurd cc
  let-in range places (c ∷ columns) (x ∷ ranges) at row all same here lets zero column r low =
      first (range c.filter) (sym (heads (Some x) (range c.filter) (map (λ r. Some r) ranges) (map (λ column. range column.filter) columns) same))
      (lets zero c (omega arith)) ((all zero c (omega arith)).keyed at row here)
    where
      heads : (a b : Option KeyRange) (us vs : List (Option KeyRange)) → a ∷ us ≡ b ∷ vs → a ≡ b
      heads a b us vs e = cc

      first : (o : Option KeyRange) → o ≡ Some x → IsKeyWithin o (key c.filter row) → slice_get c.keys.items at ≡ Some (key c.filter row) → is_in x (get_or c.keys.items at 0) ≡ true
      first o e within stands =
          let bounds = subst (λ (o : Option KeyRange). IsKeyWithin o (key c.filter row)) e within in
          ap (is_in x) (got c.keys.items at (key c.filter row) stands) ∙ tests x.low (key c.filter row) x.high bounds.0 bounds.1
        where
          got : (xs : List ℕ) (k x : ℕ) → slice_get xs k ≡ Some x → get_or xs k 0 ≡ x
          got [] k x e = absurd cc
          got (y ∷ xs) zero x e = some_same y x e
            where
              some_same : (x y : ℕ) → Some x ≡ Some y → x ≡ y
              some_same x y e = cc
          got (y ∷ xs) (suc k) x e = got xs k x e

          tests : (low k high : ℕ) → low ≤ k → k ≤ high → (nat_le low k && nat_le k high) ≡ true
          tests low k high a b = grind (arith, nat_tests)
  let-in range places (c ∷ columns) (x ∷ ranges) at row all same here lets (suc j) column r low =
      let-in range places columns ranges at row (λ k d low. all (suc k) d (omega arith)) (tails (Some x) (range c.filter) (map (λ r. Some r) ranges) (map (λ column. range column.filter) columns) same) here
      (λ k d low. lets (suc k) d (omega arith)) j column r (omega arith)
    where
      tails : (a b : Option KeyRange) (us vs : List (Option KeyRange)) → a ∷ us ≡ b ∷ vs → us ≡ vs
      tails a b us vs e = cc

pub length-places : {P : Type 0} (es : Places P) → length (place_rows es) ≡ length es
length-places {P} es = length-map es (λ (place : ℕ × Option (RestingRow P)). option_map (λ rest. rest.row) place.1)

-- the keys that stand behind the last place wait for a row
pub waits-behind : {P F : Type 0} (key : F → P → ℕ) (places : List (Option P)) (columns : List (KeyColumn F)) (row : P) → keys_behind places columns ≡ map (λ filter. Some (key filter row)) (filters_of columns) → All (Waits key places row) columns
waits-behind {P} {F} key places columns row e =
    agree-map (λ (column : KeyColumn F). slice_get column.keys.items (length places)) (λ (column : KeyColumn F). Some (key column.filter row)) columns
    (e ∙ map-map (λ (filter : F). Some (key filter row)) (λ (column : KeyColumn F). column.filter) columns)

pub behind-waits : {P F : Type 0} (key : F → P → ℕ) (places : List (Option P)) (columns : List (KeyColumn F)) (row : P) → All (Waits key places row) columns → keys_behind places columns ≡ map (λ filter. Some (key filter row)) (filters_of columns)
behind-waits {P} {F} key places columns row waits =
    map-agree (λ (column : KeyColumn F). slice_get column.keys.items (length places)) (λ (column : KeyColumn F). Some (key column.filter row)) columns waits
    ∙ sym (map-map (λ (filter : F). Some (key filter row)) (λ (column : KeyColumn F). column.filter) columns)

pub on-ok-then : {T E P Q : Type 0} (r : Result T E) → (P → Q) → OnOk r P → OnOk r Q
on-ok-then (Ok x) more p = more p
on-ok-then (Err e) more p = p
