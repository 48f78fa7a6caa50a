-- The fields of a row, in the row itself or stored beside their texts.
use Rattle.std.specs.Prelude.{List, map}
use Rattle.hj_value.specs.declared.field.Field.{Field}
use Rattle.hj_value.specs.declared.field.Field.TheVariants as field
use Rattle.hj_value.specs.declared.row.RowFields.{RowFields}
use Rattle.hj_value.specs.declared.row.RowFields.TheVariants as held

abbrev pub fields_in : RowFields → List Field
fields_in (held.Numbers numbers) = map field.Int numbers.items
fields_in (held.Stored fields) = fields
