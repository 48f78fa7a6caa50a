-- Columns of keys, which stand beside the places of rows.
use Rattle.std.specs.Prelude.{◌≡◌, ℕ, ◌%◌, ◌≤◌, ◌<◌, true, List, length, map, All, Some, slice_get, slice_index, slice_index_or}
use Rattle.std.specs.declared.option.Option.{Option}
use Rattle.hj_rows.specs.declared.key_filter.KeyRange.{KeyRange}
use Rattle.hj_rows.specs.Keys.{IsKeyWithin}
use Rattle.hj_columns.specs.declared.key_column.KeyColumn.{KeyColumn}
use Rattle.hj_columns.specs.Masks.{is_in}

-- the filters of some columns
abbrev pub filters_of : {F : Type 0} → List (KeyColumn F) → List F
filters_of columns = map (λ column. column.filter) columns

-- there is a key for each place, and the keys are whole blocks of 64
pub record HasWholeBlocks {P F : Type 0} (places : List (Option P)) (column : KeyColumn F) : Type 0 where
  pub keys : length places ≤ length column.keys.items
  pub blocks : length column.keys.items % 64 ≡ 0

-- the key of each row stands at its place
abbrev pub HasRowKeys : {P F : Type 0} → (F → P → ℕ) → List (Option P) → KeyColumn F → Type 0
HasRowKeys {P} key places column = (at : ℕ) (row : P) → slice_get places at ≡ Some (Some row) → slice_get column.keys.items at ≡ Some (key column.filter row)

pub record IsKeyColumn {P F : Type 0} (key : F → P → ℕ) (places : List (Option P)) (column : KeyColumn F) : Type 0 where
  pub room : HasWholeBlocks places column
  pub keyed : HasRowKeys key places column

-- the key that this row would have behind the last place stands there
abbrev pub Waits : {P F : Type 0} → (F → P → ℕ) → List (Option P) → P → KeyColumn F → Type 0
Waits key places row column = slice_get column.keys.items (length places) ≡ Some (key column.filter row)

-- the filters of these columns let a row in
abbrev pub AreLetIn : {P F : Type 0} → (F → Option KeyRange) → (F → P → ℕ) → P → List (KeyColumn F) → Type 0
AreLetIn range key row columns = All (λ column. IsKeyWithin (range column.filter) (key column.filter row)) columns

-- the keys of all columns at a place lie in the columns' ranges
abbrev pub AreIn : {F : Type 0} → List (KeyColumn F) → List KeyRange → ℕ → Type 0
AreIn {F} columns ranges at = (j : ℕ) (column : KeyColumn F) (range : KeyRange) → j < length columns
    → is_in (slice_index_or ranges j range) (slice_index (slice_index_or columns j column).keys.items at) ≡ true
