-- The rows of a stream: each is of its columns' kinds, and their times never fall.
use Rattle.std.proofs.Common.{◌≡◌, ℕ, ◌+◌, ℤ, pos, Bool, true, false, cond, List, [], ◌∷◌, Ok, Err, None, Some, refl, subst, arith}
use Rattle.std.specs.Prelude.{◌-ℤ◌, int_lt}
use Rattle.std.specs.declared.option.Option.{Option}
use Rattle.std.specs.declared.result.Result.{Result}
use Rattle.std.proofs.lemmas.Int.{ints}
use Rattle.hj_value.specs.declared.column.Column.{Column}
use Rattle.hj_value.specs.declared.field.Field.{Field}
use Rattle.hj_value.specs.Row.{time_of}
use Rattle.hj_record.specs.declared.fault.PieceFault.{PieceFault}
use Rattle.hj_record.specs.Pieces.{PiecesEnd, Stream, pieces_of}
use Rattle.hj_record.specs.Records.{record_of}
use Rattle.hj_event.specs.declared.schema.fault.RowFault.{RowFault}
use Rattle.hj_event.specs.declared.fault.RecordFault.{RecordFault}
use Rattle.hj_event.specs.declared.fault.RecordFault.TheVariants as fault
use Rattle.hj_event.specs.SchemaRows.{row_of}
use Rattle.hj_event.specs.Rows.{Rows, RowsEnd, bad, clean, greatest_of, in_time, is_sure, most_in_stream, put_all, put_in, put_row, read_of, record_row, row_at, row_in_time, rows_from, rows_of, staying, unread, with_time}
use Rattle.hj_event.specs.Waiting.{AreInOrder, NoneBefore}
use Rattle.hj_event.proofs.OrderLaws.{rows_in_order}
use Rattle.hj_relay.specs.Fits.{kinds}
use Rattle.hj_relay.proofs.Each.{Each, each-filter}
use Rattle.hj_relay.proofs.FieldKinds.{AreOfKinds, row_of-kinds}

-- ---- kinds

module _ (columns : List Column) where
  abbrev IsRow : List Field → Type 0
  IsRow row = AreOfKinds (kinds columns) row

  timed_is : (slack : ℕ) (greatest : Option ℤ) (row other : List Field) → IsRow row → in_time slack greatest row ≡ Ok (Some other) → IsRow other
  timed_is slack None row other h e = let same : row ≡ other = cc in subst IsRow same h
  timed_is slack (Some greatest) row other h e = by_test (int_lt (time_of row) (greatest -ℤ pos slack)) e
    where
      by_test : (late : Bool) → cond {A = Result (Option (List Field)) RecordFault} late (Err (fault.TimeBack greatest (time_of row))) (Ok (Some row)) ≡ Ok (Some other) → IsRow other
      by_test true e = cc
      by_test false e = let same : row ≡ other = cc in subst IsRow same h

  read_is : (slack : ℕ) (greatest : Option ℤ) (fields : List (List ℕ)) (read : Result (List Field) RowFault) (row : List Field) → row_of columns fields ≡ read → row_in_time slack greatest read ≡ Ok (Some row) → IsRow row
  read_is slack greatest fields (Err found) row is e = cc
  read_is slack greatest fields (Ok other) row is e = timed_is slack greatest other row (row_of-kinds columns fields other is) e

  record_is : (slack : ℕ) (greatest : Option ℤ) (read : Result (Option (List (List ℕ))) PieceFault) (row : List Field) → record_row columns slack greatest read ≡ Ok (Some row) → IsRow row
  record_is slack greatest (Err found) row e = cc
  record_is slack greatest (Ok None) row e = cc
  record_is slack greatest (Ok (Some fields)) row e = read_is slack greatest fields (row_of columns fields) row refl e

  put_row_is : (record_no : ℕ) (greatest : Option ℤ) (found : Result (Option (List Field)) RecordFault) (behind : ℕ → Option ℤ → Rows)
      → ((row : List Field) → found ≡ Ok (Some row) → IsRow row) → ((next : ℕ) (time : Option ℤ) → Each IsRow (behind next time).rows) → Each IsRow (put_row record_no greatest found behind).rows
  put_row_is record_no greatest (Err found) behind h k = tt
  put_row_is record_no greatest (Ok None) behind h k = k record_no greatest
  put_row_is record_no greatest (Ok (Some row)) behind h k = (h row refl, k (record_no + 1) (Some (with_time greatest (time_of row))))

  each_from : (slack record_no : ℕ) (greatest : Option ℤ) (pieces : List (List ℕ)) (ending : PiecesEnd) → Each IsRow (rows_from columns slack record_no greatest pieces ending).rows
  each_from slack record_no greatest [] ending = tt
  each_from slack record_no greatest (piece ∷ pieces) ending =
      put_row_is record_no greatest (row_at columns slack greatest piece) (λ next time. rows_from columns slack next time pieces ending)
      (λ row e. record_is slack greatest (record_of piece) row e) (λ next time. each_from slack next time pieces ending)

  each-put_in : (row : List Field) (rows : List (List Field)) → IsRow row → Each IsRow rows → Each IsRow (put_in row rows)
  each-put_in row [] h k = (h, tt)
  each-put_in row (other ∷ others) h k = by_test (int_lt (time_of row) (time_of other)) (each-put_in row others h k.1)
    where
      by_test : (earlier : Bool) → Each IsRow (put_in row others) → Each IsRow (cond earlier (row ∷ other ∷ others) (other ∷ put_in row others))
      by_test true behind = (h, k)
      by_test false behind = (k.0, behind)

  each-put_all : (waiting rows : List (List Field)) → Each IsRow waiting → Each IsRow rows → Each IsRow (put_all waiting rows)
  each-put_all waiting [] h k = h
  each-put_all waiting (row ∷ rows) h k = each-put_all (put_in row waiting) rows (each-put_in row waiting k.0 h) k.1

  each-staying : (ending : RowsEnd) (slack : ℕ) (greatest : Option ℤ) (rows : List (List Field)) → Each IsRow rows → Each IsRow (staying ending slack greatest rows)
  each-staying clean slack greatest rows h = h
  each-staying (bad record_no found) slack greatest rows h = h
  each-staying unread slack greatest rows h = each-filter IsRow (is_sure slack greatest) rows h

  each_row : (slack : ℕ) (stream : Stream) → Each IsRow (rows_of columns slack stream).rows
  each_row slack stream =
      let read = read_of columns slack stream in
      let cut = pieces_of most_in_stream stream in
      each-staying read.ending slack (greatest_of None read.rows) (put_all [] read.rows) (each-put_all [] read.rows tt (each_from slack 1 None cut.pieces cut.ending))

-- ---- times

-- a time that isn't below this one
abbrev pub IsNotBefore : Option ℤ → ℤ → Type 0
IsNotBefore None time = Unit {0}
IsNotBefore (Some earlier) time = int_lt time earlier ≡ false

-- Rows that are so, and whose times never fall, from this one on.
abbrev pub AreTimely : (List Field → Type 0) → Option ℤ → List (List Field) → Type 0
AreTimely P from [] = Unit {0}
AreTimely P from (row ∷ rows) = P row × IsNotBefore from (time_of row) × AreTimely P (Some (time_of row)) rows

first_after : (row : List Field) (rows : List (List Field)) (P : List Field → Type 0) → NoneBefore row rows → AreInOrder rows → Each P rows → AreTimely P (Some (time_of row)) rows
first_after row [] P none ordered each = tt
first_after row (other ∷ others) P none ordered each = (each.0, none.0, first_after other others P ordered.0 ordered.1 each.1)

timely_rows : (P : List Field → Type 0) (rows : List (List Field)) → AreInOrder rows → Each P rows → AreTimely P None rows
timely_rows P [] ordered each = tt
timely_rows P (row ∷ rows) ordered each = (each.0, tt, first_after row rows P ordered.0 ordered.1 each.1)

-- The rows of a stream.
pub rows_are_timely : (columns : List Column) (slack : ℕ) (stream : Stream) → AreTimely (AreOfKinds (kinds columns)) None (rows_of columns slack stream).rows
rows_are_timely columns slack stream =
    timely_rows (AreOfKinds (kinds columns)) (rows_of columns slack stream).rows (rows_in_order columns slack stream) (each_row columns slack stream)

-- a later time isn't before an earlier one, in any way
pub not_before-past : (from : Option ℤ) (one other : ℤ) → IsNotBefore from one → IsNotBefore (Some one) other → IsNotBefore from other
not_before-past None one other h k = tt
not_before-past (Some earlier) one other h k = grind (arith, ints)

pub never_before_itself : (time : ℤ) → IsNotBefore (Some time) time
never_before_itself time = grind (arith, ints)
