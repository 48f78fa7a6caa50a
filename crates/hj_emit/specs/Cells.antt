-- Fields while a line is written: a comma stands behind each of them.
use Rattle.std.specs.Prelude.{ℕ, List, [], ◌∷◌, ◌++◌}
use Rattle.std.specs.List.{flat_map}
use Rattle.csv.specs.Writing.{comma, default_writer, field_text}
use Rattle.hj_value.specs.declared.field.Field.{Field}
use Rattle.hj_emit.specs.Line.{field_bytes}

abbrev pub cell : List ℕ → List ℕ
cell bytes = field_text default_writer bytes ++ comma ∷ []

abbrev pub cells : List Field → List ℕ
cells fields = flat_map (λ field. cell (field_bytes field)) fields
