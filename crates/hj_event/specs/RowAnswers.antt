-- What reading a row answers: what its definition gives, unless memory ran out.
use Rattle.std.specs.Prelude.{◌≡◌, ℕ, List, Ok, Err}
use Rattle.std.specs.declared.result.Result.{Result}
use Rattle.hj_value.specs.declared.column.Column.{Column}
use Rattle.hj_value.specs.declared.field.Field.{Field}
use Rattle.hj_event.specs.declared.schema.fault.RowFault.{RowFault}
use Rattle.hj_event.specs.declared.schema.fault.RowFault.TheVariants as fault
use Rattle.hj_event.specs.SchemaRows.{row_of}

abbrev pub ReadsRow : Result (List Field) RowFault → List Column → List (List ℕ) → Type 0
ReadsRow (Ok row) columns fields = row_of columns fields ≡ Ok row
ReadsRow (Err fault.Memory) columns fields = Unit {0}
ReadsRow (Err found) columns fields = row_of columns fields ≡ Err found
