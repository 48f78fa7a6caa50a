-- A probe, block by block.
use Rattle.std.proofs.Common.{◌≡◌, ℕ, zero, suc, ◌+◌, ◌*◌, ◌%◌, ◌≤◌, ◌<◌, ◌&&◌, Bool, true, false, List, [], ◌∷◌, ◌++◌, length, map, take, drop, filter, All, Some, None, Option, option_map, option_and_then, slice_get, arith, refl, sym, ap, ◌∙◌, if◌then◌else◌}
use Rattle.std.proofs.lemmas.List.{length-map}
use Rattle.std.proofs.lemmas.List.Elements.{All-weaker}
use Rattle.hj_base.specs.declared.numbers.Side.{Side}
use Rattle.hj_msg.specs.declared.partner.Partner.{Partner}
use Rattle.hj_msg.specs.Store.{Resting, by_number, joins, settled_matches, settled_partners}
use Rattle.hj_rows.specs.declared.key_filter.KeyRange.{KeyRange}
use Rattle.hj_rows.specs.declared.place.RestingRow.{RestingRow}
use Rattle.hj_rows.specs.Keys.{KeepsKeys}
use Rattle.hj_rows.specs.Places.{joining, place_rows, rows_of}
use Rattle.hj_rows.proofs.Rows.{Places}
use Rattle.hj_columns.specs.declared.key_column.KeyColumn.{KeyColumn}
use Rattle.hj_columns.specs.declared.found_rows.FoundRows.{FoundRows}
use Rattle.hj_columns.specs.Columns.{filters_of, AreIn, AreLetIn, IsKeyColumn}
use Rattle.hj_columns.specs.Probing.{joined_at, partners_in, IsInOrder}
use Rattle.hj_columns.proofs.Finding.{partners-block}
use Rattle.hj_columns.proofs.Keeping.{let-in}

-- ---- where nothing joins

pub none-match : {P : Type 0} (predicate : P → P → Bool) (side : Side) (against : P) (rows : List (Resting P)) → ((row : P) → joins predicate side row against ≡ true → ⊥) → settled_matches predicate side against rows ≡ []
none-match {P} predicate side against rows none = ap by_number (nothing rows)
  where
    nothing : (rows : List (Resting P)) → settled_partners (λ row. joins predicate side row against) rows ≡ []
    nothing [] = refl
    nothing (row ∷ rows) = by row.settled (joins predicate side row.row against) refl (nothing rows)
      where
        by : (settled joined : Bool) → joins predicate side row.row against ≡ joined → settled_partners (λ row. joins predicate side row against) rows ≡ []
            → map {B = Partner P} (λ (entry : Resting P). record { no = record { 0 = entry.no }; row = entry.row }) (if settled && joins predicate side row.row against then row ∷ filter (λ entry. entry.settled && joins predicate side entry.row against) rows else filter (λ entry. entry.settled && joins predicate side entry.row against) rows) ≡ []
        by false joined h later = later
        by true true h later = absurd (none row.row h)
        by true false h later = rw h later

-- ---- rows that joins

row-place : {P : Type 0} (es : Places P) (at : ℕ) (entry : ℕ × Option (RestingRow P)) (rest : RestingRow P) → slice_get es at ≡ Some entry → entry.1 ≡ Some rest → slice_get (place_rows es) at ≡ Some (Some rest.row)
row-place [] at entry rest e is = absurd cc
row-place (x ∷ es) zero entry rest e is = let same : x ≡ entry = cc in rw (same, is) refl
row-place (x ∷ es) (suc at) entry rest e is = row-place es at entry rest e is

-- a place has no row that passes a test, where none of its rows does
no-join : {P : Type 0} (test : P → Bool) (es : Places P) (at : ℕ) → ((row : P) → slice_get (place_rows es) at ≡ Some (Some row) → test row ≡ true → ⊥) → joined_at test es at ≡ None
no-join {P} test es at none = by (slice_get es at) refl
  where
    by : (o : Option (ℕ × Option (RestingRow P))) → slice_get es at ≡ o → option_and_then {U = ℕ × P} (λ (place : ℕ × Option (RestingRow P)). option_map (λ row. (place.0, row)) (joining test place.1)) o ≡ None
    by None h = refl
    by (Some (n, None)) h = refl
    by (Some (n, Some rest)) h = of rest.settled (test rest.row) refl
      where
        of : (settled passes : Bool) → test rest.row ≡ passes → option_map {U = ℕ × P} (λ row. (n, row)) (if settled && test rest.row then Some rest.row else None) ≡ None
        of false passes e = refl
        of true true e = absurd (none rest.row (row-place es at (n, Some rest) rest h refl) e)
        of true false e = rw e refl

-- the keys of a row that joins lie in all ranges
pub let-all : {P F : Type 0} (predicate : P → P → Bool) (side : Side) (against : P) (key : F → Side → P → ℕ) (range : F → Side → P → Option KeyRange) (columns : List (KeyColumn F))
    → All (λ filter. KeepsKeys predicate (key filter) (range filter)) (filters_of columns) → (row : P) → joins predicate side row against ≡ true
    → AreLetIn (λ filter. range filter side against) (λ filter. key filter side) row columns
let-all predicate side against key range [] keeps row joined k d low = absurd (omega arith)
let-all predicate side against key range (c ∷ columns) keeps row joined zero d low = keeps zero c.filter (omega arith) side row against joined
let-all predicate side against key range (c ∷ columns) keeps row joined (suc k) d low = let-all predicate side against key range columns (λ k d low. keeps (suc k) d (omega arith)) row joined k d (omega arith)

-- what is left out doesn't join
pub left-out : {P F : Type 0} (key : F → Side → P → ℕ) (range : F → Side → P → Option KeyRange) (predicate : P → P → Bool) (side : Side) (against : P) (columns : List (KeyColumn F)) (ranges : List KeyRange) (es : Places P) (at bit : ℕ)
    → All (IsKeyColumn (λ filter. key filter side) (place_rows es)) columns → map (λ r. Some r) ranges ≡ map (λ column. range column.filter side against) columns
    → All (λ filter. KeepsKeys predicate (key filter) (range filter)) (filters_of columns) → (AreIn columns ranges at → bit ≡ 1) → bit ≡ 0
    → joined_at (λ row. joins predicate side row against) es at ≡ None
left-out {P} {F} key range predicate side against columns ranges es at bit all same keeps set unset =
    no-join (λ row. joins predicate side row against) es at (λ row here joined.
    let bits = set (let-in (λ filter. key filter side) (λ filter. range filter side against) (place_rows es) columns ranges at row all same here (lets row joined)) in
    absurd (omega (arith, bits, unset)))
  where
    lets : (row : P) → joins predicate side row against ≡ true → AreLetIn (λ filter. range filter side against) (λ filter. key filter side) row columns
    lets row joined = let-all predicate side against key range columns keeps row joined

-- ---- blocks

pub block-room : {P F : Type 0} (key : F → P → ℕ) (places : List (Option P)) (columns : List (KeyColumn F)) (block blocks : ℕ) → 64 * blocks < length places + 64 → block < blocks
    → All (IsKeyColumn key places) columns → All (λ column. 64 * block + 64 ≤ length column.keys.items) columns
block-room {P} {F} key places columns block blocks most low all = All-weaker (IsKeyColumn key places) (λ (column : KeyColumn F). 64 * block + 64 ≤ length column.keys.items) roomy columns all
  where
    whole : (block keys places : ℕ) → keys % 64 ≡ 0 → places ≤ keys → 64 * block < places → 64 * block + 64 ≤ keys
    whole block keys places blocks le lt = omega arith

    roomy : (column : KeyColumn F) → IsKeyColumn key places column → 64 * block + 64 ≤ length column.keys.items
    roomy column is = whole block (length column.keys.items) (length places) is.room.blocks is.room.keys (omega arith)

pub same-count : {F : Type 0} (f : KeyColumn F → Option KeyRange) (ranges : List KeyRange) (columns : List (KeyColumn F)) → map (λ r. Some r) ranges ≡ map f columns → length ranges ≡ length columns
same-count f ranges columns e = sym (length-map ranges (λ r. Some r)) ∙ ap length e ∙ length-map columns f

pub next-block : {P : Type 0} (test : P → Bool) (es : Places P) (block : ℕ) (before after : List (Partner P)) → before ≡ partners_in test (take (64 * block) es) → after ≡ before ++ partners_in test (take 64 (drop (64 * block) es))
    → after ≡ partners_in test (take (64 * (block + 1)) es)
next-block test es block before after is adds =
    let next : 64 * block + 64 ≡ 64 * (block + 1) = omega arith in
    adds ∙ ap (λ ps. ps ++ partners_in test (take 64 (drop (64 * block) es))) is ∙ sym (partners-block test es (64 * block)) ∙ ap (λ n. partners_in test (take n es)) next

-- all blocks have been looked at
pub all-blocks : {P : Type 0} (predicate : P → P → Bool) (side : Side) (against : P) (es : Places P) (block : ℕ) (found : FoundRows P) → length es ≤ 64 * block
    → found.partners ≡ partners_in (λ row. joins predicate side row against) (take (64 * block) es) → IsInOrder found
    → found.partners ≡ settled_matches predicate side against (rows_of es)
all-blocks predicate side against es block found enough is order =
    let all : found.partners ≡ partners_in (λ row. joins predicate side row against) es = is ∙ ap (partners_in (λ row. joins predicate side row against)) (whole es (64 * block) enough) in
    sym order.sorted ∙ ap by_number all
  where
    whole : {A : Type 0} (xs : List A) (n : ℕ) → length xs ≤ n → take n xs ≡ xs
    whole [] zero le = refl
    whole [] (suc n) le = refl
    whole (x ∷ xs) zero le = absurd (omega arith)
    whole (x ∷ xs) (suc n) le = ap (λ ys. x ∷ ys) (whole xs n (omega arith))
