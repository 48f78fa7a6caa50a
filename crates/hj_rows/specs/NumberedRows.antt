-- What rows under their numbers are seen as.
use Rattle.std.specs.Prelude.{ℕ, List}
use Rattle.indexmap.specs.IndexMap.{spare}
use Rattle.hj_msg.specs.Store.{Resting}
use Rattle.hj_rows.specs.declared.numbered.NumberedRows.{NumberedRows}
use Rattle.std.specs.declared.option.Option.{Option}
use Rattle.hj_rows.specs.Places.{place_rows, rows_of}

-- the rows, in the order in which their numbers came
abbrev pub rows_in : {P : Type 0} → NumberedRows P → List (Resting P)
rows_in rows = rows_of rows.places.entries

-- the row of each place, in order
abbrev pub places_in : {P : Type 0} → NumberedRows P → List (Option P)
places_in rows = place_rows rows.places.entries

-- how many places more there is room for
abbrev pub room_in : {P : Type 0} → NumberedRows P → ℕ
room_in rows = spare rows.places
