-- When a second join can read the relay of a first one.
use Rattle.std.specs.Prelude.{◌≡◌, List, ◌∷◌, ◌++◌, map}
use Rattle.hj_value.specs.declared.column.Column.{Column}
use Rattle.hj_value.specs.declared.column.ColumnType.{ColumnType}
use Rattle.hj_value.specs.declared.column.ColumnType.TheVariants.{Int}
use Rattle.hj_query.specs.QueryParts.{QueryParts}

abbrev pub kinds : List Column → List ColumnType
kinds columns = map (λ column. column.kind) columns

-- The left columns of the second query are of these kinds: a number, then those of the first query's left columns, then those of its
-- right ones.
abbrev pub Fits : QueryParts → QueryParts → Type 0
Fits first second = kinds second.left.columns ≡ Int ∷ (kinds first.left.columns ++ kinds first.right.columns)
