-- The rows of a list store.
use Rattle.std.specs.Prelude.{List}
use Rattle.hj_msg.specs.Store.{Resting}
use Rattle.hj_rows.specs.declared.list_store.ListStore.{ListStore}
use Rattle.hj_rows.specs.NumberedRows.{rows_in}

abbrev pub resting_rows : {P : Type 0} → ListStore P → List (Resting P)
resting_rows store = rows_in store.rows
