-- What a schema asks of its columns.
use Rattle.std.specs.Prelude.{Bool, true, false, not, ◌&&◌, List, [], ◌∷◌, codes}
use Rattle.std.specs.List.{list_any}
use Rattle.std.specs.Str.{bytes_eq}
use Rattle.hj_value.specs.declared.column.Column.{Column}
use Rattle.hj_value.specs.declared.column.ColumnType.{ColumnType}
use Rattle.hj_value.specs.declared.column.ColumnType.TheVariants as kind

-- no column has the name of one before it
abbrev pub has_distinct_names : List Column → Bool
has_distinct_names [] = true
has_distinct_names (column ∷ columns) =
    not (list_any (λ other. bytes_eq column.name other.name) columns) && has_distinct_names columns

abbrev pub is_int : ColumnType → Bool
is_int kind.Int = true
is_int kind.Text = false

-- the first column is `ts int`
abbrev pub starts_with_time : List Column → Bool
starts_with_time [] = false
starts_with_time (column ∷ columns) = bytes_eq column.name (codes "ts") && is_int column.kind
