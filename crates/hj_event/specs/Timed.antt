-- Rows beside their times.
use Rattle.std.specs.Prelude.{◌≡◌, List, map, All}
use Rattle.hj_value.specs.declared.field.Field.{Field}
use Rattle.hj_value.specs.Row.{time_of}
use Rattle.hj_event.specs.declared.waiting.TimedRow.{TimedRow}

abbrev pub timed_rows : List TimedRow → List (List Field)
timed_rows rows = map (λ one. one.row) rows

-- Each row stands beside its own time.
abbrev pub AreTimed : List TimedRow → Type 0
AreTimed rows = All (λ one. one.time ≡ time_of one.row) rows
