-- The row of a record's fields, by the columns of a schema.
use Rattle.std.specs.Prelude.{ℕ, ◌+◌, ℤ, List, [], ◌∷◌, ◌==◌, length, if◌then◌else◌, Ok, Err}
use Rattle.std.specs.Str.{is_utf8}
use Rattle.std.specs.declared.result.Result.{Result}
use Rattle.hj_value.specs.declared.column.Column.{Column}
use Rattle.hj_value.specs.declared.column.ColumnType.{ColumnType}
use Rattle.hj_value.specs.declared.column.ColumnType.TheVariants as kind
use Rattle.hj_value.specs.declared.field.Field.{Field}
use Rattle.hj_value.specs.declared.field.Field.TheVariants as field
use Rattle.hj_value.specs.declared.number.IntFault.{IntFault}
use Rattle.hj_value.specs.declared.number.IntFault.TheVariants as int
use Rattle.hj_value.specs.Number.{int_of}
use Rattle.hj_event.specs.declared.schema.fault.RowFault.{RowFault}
use Rattle.hj_event.specs.declared.schema.fault.RowFault.TheVariants as fault

-- a number in this column, or its fault
abbrev pub int_field : ℕ → Result ℤ IntFault → Result Field RowFault
int_field column (Ok value) = Ok (field.Int value)
int_field column (Err int.NotNumber) = Err (fault.NotNumber column)
int_field column (Err int.NumberRange) = Err (fault.NumberRange column)

-- what the bytes of a field are in this column, which is of this kind
abbrev pub value_of : ℕ → ColumnType → List ℕ → Result Field RowFault
value_of column kind.Int bytes = int_field column (int_of bytes)
value_of column kind.Text bytes = if is_utf8 bytes then Ok (field.Text bytes) else Err (fault.NotText column)

-- A value and what comes behind it: the first fault stands for all.
abbrev pub put_value : Result Field RowFault → Result (List Field) RowFault → Result (List Field) RowFault
put_value (Err found) others = Err found
put_value (Ok value) (Err found) = Err found
put_value (Ok value) (Ok values) = Ok (value ∷ values)

-- the values of these fields in these columns, of which the first has this number
abbrev pub values_from : ℕ → List Column → List (List ℕ) → Result (List Field) RowFault
values_from at (column ∷ columns) (bytes ∷ fields) = put_value (value_of at column.kind bytes) (values_from (at + 1) columns fields)
values_from at [] fields = Ok []
values_from at (column ∷ columns) [] = Ok []

-- The row of a record's fields: a value for each column, and no other field. Columns are counted from 1.
abbrev pub row_of : List Column → List (List ℕ) → Result (List Field) RowFault
row_of columns fields =
    if length fields == length columns then values_from 1 columns fields else Err (fault.FieldCount (length fields))
