-- Rows by their sides and numbers, as they are answered.
use Rattle.std.specs.Prelude.{List, map}
use Rattle.std.specs.Option.{option_map}
use Rattle.std.specs.declared.option.Option.{Option}
use Rattle.hj_base.specs.declared.numbers.EventNo.{EventNo}
use Rattle.hj_base.specs.declared.numbers.Side.{Side}
use Rattle.hj_window.specs.LiveRows.{LiveRow}

abbrev pub number_of : LiveRow → EventNo
number_of row = record { 0 = row.no }

-- the side and the number of each row
abbrev pub numbers_of : List LiveRow → List (Side × EventNo)
numbers_of rows = map (λ row. (row.side, number_of row)) rows

abbrev pub number_of_some : Option LiveRow → Option EventNo
number_of_some row = option_map number_of row
