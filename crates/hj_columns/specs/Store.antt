-- What a store of columns is seen as.
use Rattle.std.specs.Prelude.{ℕ, List, length, map, slice_get}
use Rattle.std.specs.declared.option.Option.{Option}
use Rattle.hj_base.specs.declared.numbers.Side.{Side}
use Rattle.hj_msg.specs.Store.{Resting}
use Rattle.hj_columns.specs.declared.key_column.KeyColumn.{KeyColumn}

-- what a store of columns is seen as
pub record ColumnRows (P F : Type 0) : Type 0 where
  -- the side of the rows at rest
  pub side : Side
  pub rows : List (Resting P)
  -- how many more rows there is room for
  pub room : ℕ
  pub filters : List F
  -- the key that stands behind the last place, of each column
  pub waiting : List (Option ℕ)

-- the keys that stand behind the last place
abbrev pub keys_behind : {P F : Type 0} → List (Option P) → List (KeyColumn F) → List (Option ℕ)
keys_behind places columns = map (λ column. slice_get column.keys.items (length places)) columns
