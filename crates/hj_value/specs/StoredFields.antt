-- Rows whose texts stand in one buffer.
use Rattle.std.specs.Prelude.{ℕ, ◌-◌, ◌≤◌, List, take, drop, map, length}
use Rattle.std.specs.Str.{IsUtf8}
use Rattle.hj_value.specs.declared.field.Field.{Field}
use Rattle.hj_value.specs.declared.field.Field.TheVariants as field
use Rattle.hj_value.specs.declared.stored_fields.StoredField.{StoredField}
use Rattle.hj_value.specs.declared.stored_fields.StoredField.TheVariants as stored

-- the bytes between two places
abbrev pub between : List ℕ → ℕ → ℕ → List ℕ
between texts from to = take (to - from) (drop from texts)

-- the field that a stored one stands for
abbrev pub field_of : List ℕ → StoredField → Field
field_of texts (stored.Int value) = field.Int value
field_of texts (stored.Text from to) = field.Text (between texts from to)

abbrev pub fields_of : List ℕ → List StoredField → List Field
fields_of texts fields = map (field_of texts) fields

-- a stored text names a range of the texts that is UTF-8
abbrev pub IsPlace : List ℕ → StoredField → Type 0
IsPlace texts (stored.Int value) = Unit {0}
IsPlace texts (stored.Text from to) = (from ≤ to) × (to ≤ length texts) × IsUtf8 (between texts from to)
