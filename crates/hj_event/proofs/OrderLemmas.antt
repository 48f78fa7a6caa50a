-- Rows in order: a row that is sure comes first, and without a slack each row is.
use Rattle.std.proofs.Common.{◌≡◌, ℕ, ◌+◌, Bool, true, false, cond, List, [], ◌∷◌, ◌++◌, ℤ, pos, ◌+ℤ◌, ◌-ℤ◌, int_lt, int_le, Ok, Err, None, Some, refl, ap, subst, ◌∙◌, arith}
use Rattle.std.specs.declared.option.Option.{Option}
use Rattle.std.specs.declared.result.Result.{Result}
use Rattle.std.specs.List.{filter}
use Rattle.std.proofs.lemmas.Int.{ints}
use Rattle.hj_value.specs.declared.column.Column.{Column}
use Rattle.hj_value.specs.declared.field.Field.{Field}
use Rattle.hj_value.specs.Row.{time_of}
use Rattle.hj_record.specs.declared.fault.PieceFault.{PieceFault}
use Rattle.hj_record.specs.Pieces.{Pieces, PiecesEnd, clean as pieces_clean, bad as pieces_bad, unread as pieces_unread}
use Rattle.hj_record.specs.Records.{record_of}
use Rattle.hj_event.specs.declared.schema.fault.RowFault.{RowFault}
use Rattle.hj_event.specs.declared.fault.RecordFault.{RecordFault}
use Rattle.hj_event.specs.declared.fault.RecordFault.TheVariants as fault
use Rattle.hj_event.specs.SchemaRows.{row_of}
use Rattle.hj_event.specs.Rows.{Rows, then_rows, in_time, row_in_time, record_row, row_at, with_time, put_row, rows_from, rows_in, greatest_of, put_in, put_all, is_sure, in_order, unread}
use Rattle.hj_event.specs.Waiting.{NoneBefore, AreInOrder}

-- ---- times

-- a row behind one that is sure isn't before it
not_before : (slack : ℕ) (time greatest other : ℤ) → int_le time (greatest -ℤ pos slack) ≡ true → int_lt other (greatest -ℤ pos slack) ≡ false → int_lt other time ≡ false
not_before slack time greatest other sure late = grind (arith, ints)

le_with : (bound greatest time : ℤ) (test : Bool) → int_lt time greatest ≡ test → int_le bound greatest ≡ true → int_le bound (cond test greatest time) ≡ true
le_with bound greatest time true is le = le
le_with bound greatest time false is le = grind (arith, ints)

moved : (slack : ℕ) (time greatest : ℤ) → int_le time (greatest -ℤ pos slack) ≡ true → int_le (time +ℤ pos slack) greatest ≡ true
moved slack time greatest sure = grind (arith, ints)

moved_back : (slack : ℕ) (time greatest : ℤ) → int_le (time +ℤ pos slack) greatest ≡ true → int_le time (greatest -ℤ pos slack) ≡ true
moved_back slack time greatest sure = grind (arith, ints)

-- what is sure stays so
still_sure : (slack : ℕ) (greatest time : ℤ) (row : List Field) → is_sure slack (Some greatest) row ≡ true → is_sure slack (Some (with_time (Some greatest) time)) row ≡ true
still_sure slack greatest time row sure =
    moved_back slack (time_of row) (with_time (Some greatest) time) (le_with (time_of row +ℤ pos slack) greatest time (int_lt time greatest) refl (moved slack (time_of row) greatest sure))

-- a row behind one that isn't sure isn't sure
later_unsure : (slack : ℕ) (greatest : Option ℤ) (row other : List Field) → is_sure slack greatest row ≡ false → int_lt (time_of other) (time_of row) ≡ false → is_sure slack greatest other ≡ false
later_unsure slack None row other unsure later = refl
later_unsure slack (Some greatest) row other unsure later = by_times (time_of row) (time_of other) (greatest -ℤ pos slack) unsure later
  where
    by_times : (one two bound : ℤ) → int_le one bound ≡ false → int_lt two one ≡ false → int_le two bound ≡ false
    by_times one two bound unsure later = grind (arith, ints)

-- what isn't sure wasn't before
unsure_before : (slack : ℕ) (greatest : Option ℤ) (time : ℤ) (row : List Field) → is_sure slack (Some (with_time greatest time)) row ≡ false → is_sure slack greatest row ≡ false
unsure_before slack None time row unsure = refl
unsure_before slack (Some greatest) time row unsure = by_test (is_sure slack (Some greatest) row) refl
  where
    by_test : (test : Bool) → is_sure slack (Some greatest) row ≡ test → is_sure slack (Some greatest) row ≡ false
    by_test true is = let sure = still_sure slack greatest time row is in cc
    by_test false is = is

-- ---- a row in time

at_test : (slack : ℕ) (greatest : ℤ) (row other : List Field) (test : Bool) → int_lt (time_of row) (greatest -ℤ pos slack) ≡ test → cond {A = Result (Option (List Field)) RecordFault} test (Err (fault.TimeBack greatest (time_of row))) (Ok (Some row)) ≡ Ok (Some other) → (row ≡ other) × (int_lt (time_of row) (greatest -ℤ pos slack) ≡ false)
at_test slack greatest row other true is e = cc
at_test slack greatest row other false is e = let same : row ≡ other = cc in (same, is)

pub in_time_at : (slack : ℕ) (greatest : ℤ) (row : List Field) → in_time slack (Some greatest) row ≡ Ok (Some row) → int_lt (time_of row) (greatest -ℤ pos slack) ≡ false
in_time_at slack greatest row e = (at_test slack greatest row row (int_lt (time_of row) (greatest -ℤ pos slack)) refl e).1

in_time_same : (slack : ℕ) (greatest : Option ℤ) (row other : List Field) → in_time slack greatest row ≡ Ok (Some other) → in_time slack greatest other ≡ Ok (Some other)
in_time_same slack None row other e = refl
in_time_same slack (Some greatest) row other e =
    let at = at_test slack greatest row other (int_lt (time_of row) (greatest -ℤ pos slack)) refl e in
    subst (λ (r : List Field). in_time slack (Some greatest) r ≡ Ok (Some r)) at.0
    (ap (λ (t : Bool). cond {A = Result (Option (List Field)) RecordFault} t (Err (fault.TimeBack greatest (time_of row))) (Ok (Some row))) at.1)

row_in_time_is : (slack : ℕ) (greatest : Option ℤ) (read : Result (List Field) RowFault) (row : List Field) → row_in_time slack greatest read ≡ Ok (Some row) → in_time slack greatest row ≡ Ok (Some row)
row_in_time_is slack greatest (Err found) row e = cc
row_in_time_is slack greatest (Ok other) row e = in_time_same slack greatest other row e

record_in_time : (columns : List Column) (slack : ℕ) (greatest : Option ℤ) (read : Result (Option (List (List ℕ))) PieceFault) (row : List Field) → record_row columns slack greatest read ≡ Ok (Some row) → in_time slack greatest row ≡ Ok (Some row)
record_in_time columns slack greatest (Err found) row e = cc
record_in_time columns slack greatest (Ok None) row e = cc
record_in_time columns slack greatest (Ok (Some fields)) row e = row_in_time_is slack greatest (row_of columns fields) row e

-- A row that a piece holds is in time.
pub row_at_in_time : (columns : List Column) (slack : ℕ) (greatest : Option ℤ) (piece : List ℕ) (row : List Field) → row_at columns slack greatest piece ≡ Ok (Some row) → in_time slack greatest row ≡ Ok (Some row)
row_at_in_time columns slack greatest piece row e = record_in_time columns slack greatest (record_of piece) row e

-- ---- a row that is sure comes first

pub put_in-behind : (row other : List Field) (others : List (List Field)) → int_lt (time_of row) (time_of other) ≡ false → put_in row (other ∷ others) ≡ other ∷ put_in row others
put_in-behind row other others e = ap (λ (t : Bool). cond t (row ∷ other ∷ others) (other ∷ put_in row others)) e

sure_put : (slack : ℕ) (row : List Field) (record_no : ℕ) (greatest : ℤ) (waiting : List (List Field)) (found : Result (Option (List Field)) RecordFault) (behind : ℕ → Option ℤ → Rows)
    → is_sure slack (Some greatest) row ≡ true → ((other : List Field) → found ≡ Ok (Some other) → in_time slack (Some greatest) other ≡ Ok (Some other))
    → ((next : ℕ) (at : ℤ) (others : List (List Field)) → is_sure slack (Some at) row ≡ true → in_order slack (Some at) (row ∷ others) (behind next (Some at)) ≡ then_rows row (in_order slack (Some at) others (behind next (Some at))))
    → in_order slack (Some greatest) (row ∷ waiting) (put_row record_no (Some greatest) found behind) ≡ then_rows row (in_order slack (Some greatest) waiting (put_row record_no (Some greatest) found behind))
sure_put slack row record_no greatest waiting (Err found) behind sure timed h = refl
sure_put slack row record_no greatest waiting (Ok None) behind sure timed h = h record_no greatest waiting sure
sure_put slack row record_no greatest waiting (Ok (Some other)) behind sure timed h =
    let at = with_time (Some greatest) (time_of other) in
    let late = in_time_at slack greatest other (timed other refl) in
    ap (λ (rows : List (List Field)). in_order slack (Some at) rows (behind (record_no + 1) (Some at))) (put_in-behind other row waiting (not_before slack (time_of row) greatest (time_of other) sure late))
    ∙ h (record_no + 1) at (put_in other waiting) (still_sure slack greatest (time_of other) row sure)

sure_first : (columns : List Column) (slack : ℕ) (row : List Field) (record_no : ℕ) (greatest : ℤ) (waiting : List (List Field)) (pieces : List (List ℕ)) (ending : PiecesEnd) → is_sure slack (Some greatest) row ≡ true
    → in_order slack (Some greatest) (row ∷ waiting) (rows_from columns slack record_no (Some greatest) pieces ending) ≡ then_rows row (in_order slack (Some greatest) waiting (rows_from columns slack record_no (Some greatest) pieces ending))
sure_first columns slack row record_no greatest waiting [] pieces_clean sure = refl
sure_first columns slack row record_no greatest waiting [] (pieces_bad found) sure = refl
sure_first columns slack row record_no greatest waiting [] pieces_unread sure =
    let others = filter (is_sure slack (Some greatest)) waiting in
    ap (λ (t : Bool). record { rows = cond t (row ∷ others) others; ending = unread }) sure
sure_first columns slack row record_no greatest waiting (piece ∷ pieces) ending sure =
    sure_put slack row record_no greatest waiting (row_at columns slack (Some greatest) piece) (λ next at. rows_from columns slack next at pieces ending) sure
    (λ other e. row_at_in_time columns slack (Some greatest) piece other e)
    (λ next at others still. sure_first columns slack row next at others pieces ending still)

-- A row that is sure comes before all others, whatever is read behind it.
pub sure_ahead : (columns : List Column) (slack : ℕ) (row : List Field) (record_no : ℕ) (greatest : Option ℤ) (waiting : List (List Field)) (cut : Pieces) → is_sure slack greatest row ≡ true
    → in_order slack greatest (row ∷ waiting) (rows_in columns slack record_no greatest cut) ≡ then_rows row (in_order slack greatest waiting (rows_in columns slack record_no greatest cut))
sure_ahead columns slack row record_no None waiting cut sure = cc
sure_ahead columns slack row record_no (Some greatest) waiting cut sure = sure_first columns slack row record_no greatest waiting cut.pieces cut.ending sure

-- ---- without a slack

same_time : (time : ℤ) → int_le time (time -ℤ pos 0) ≡ true
same_time time = grind (arith, ints)

at_once : (greatest time : ℤ) (test : Bool) → int_lt time greatest ≡ test → int_lt time (greatest -ℤ pos 0) ≡ false → int_le time (cond test greatest time -ℤ pos 0) ≡ true
at_once greatest time true is late = absurd (grind (arith, ints))
at_once greatest time false is late = same_time time

-- A row in time is sure at once.
pub sure_now : (greatest : Option ℤ) (row : List Field) → in_time 0 greatest row ≡ Ok (Some row) → is_sure 0 (Some (with_time greatest (time_of row))) row ≡ true
sure_now None row e = same_time (time_of row)
sure_now (Some greatest) row e = at_once greatest (time_of row) (int_lt (time_of row) greatest) refl (in_time_at 0 greatest row e)

as_read-put : (columns : List Column) (record_no : ℕ) (greatest : Option ℤ) (pieces : List (List ℕ)) (ending : PiecesEnd) (found : Result (Option (List Field)) RecordFault)
    → ((row : List Field) → found ≡ Ok (Some row) → in_time 0 greatest row ≡ Ok (Some row))
    → ((next : ℕ) (at : Option ℤ) → in_order 0 at [] (rows_from columns 0 next at pieces ending) ≡ rows_from columns 0 next at pieces ending)
    → in_order 0 greatest [] (put_row record_no greatest found (λ next at. rows_from columns 0 next at pieces ending)) ≡ put_row record_no greatest found (λ next at. rows_from columns 0 next at pieces ending)
as_read-put columns record_no greatest pieces ending (Err found) timed h = refl
as_read-put columns record_no greatest pieces ending (Ok None) timed h = h record_no greatest
as_read-put columns record_no greatest pieces ending (Ok (Some row)) timed h =
    let at = with_time greatest (time_of row) in
    sure_first columns 0 row (record_no + 1) at [] pieces ending (sure_now greatest row (timed row refl))
    ∙ ap (λ (rows : Rows). then_rows row rows) (h (record_no + 1) (Some at))

as_read-from : (columns : List Column) (record_no : ℕ) (greatest : Option ℤ) (pieces : List (List ℕ)) (ending : PiecesEnd) → in_order 0 greatest [] (rows_from columns 0 record_no greatest pieces ending) ≡ rows_from columns 0 record_no greatest pieces ending
as_read-from columns record_no greatest [] pieces_clean = refl
as_read-from columns record_no greatest [] (pieces_bad found) = refl
as_read-from columns record_no greatest [] pieces_unread = refl
as_read-from columns record_no greatest (piece ∷ pieces) ending =
    as_read-put columns record_no greatest pieces ending (row_at columns 0 greatest piece) (λ row e. row_at_in_time columns 0 greatest piece row e) (λ next at. as_read-from columns next at pieces ending)

-- Without a slack the rows are in order as they are read.
pub as_read : (columns : List Column) (record_no : ℕ) (greatest : Option ℤ) (cut : Pieces) → in_order 0 greatest [] (rows_in columns 0 record_no greatest cut) ≡ rows_in columns 0 record_no greatest cut
as_read columns record_no greatest cut = as_read-from columns record_no greatest cut.pieces cut.ending

-- ---- rows that wait in order

-- Where one row isn't sure, none behind it is.
pub none_sure : (slack : ℕ) (greatest : Option ℤ) (row : List Field) (others : List (List Field)) → is_sure slack greatest row ≡ false → NoneBefore row others → filter (is_sure slack greatest) others ≡ []
none_sure slack greatest row [] unsure later = refl
none_sure slack greatest row (other ∷ others) unsure later =
    ap (λ (t : Bool). cond t (other ∷ filter (is_sure slack greatest) others) (filter (is_sure slack greatest) others)) (later_unsure slack greatest row other unsure later.0)
    ∙ none_sure slack greatest row others unsure later.1

none_before-past : (row other : List Field) (others : List (List Field)) → int_lt (time_of row) (time_of other) ≡ true → NoneBefore other others → NoneBefore row others
none_before-past row other [] lt later = tt
none_before-past row other (third ∷ others) lt later = (by_times (time_of row) (time_of other) (time_of third) lt later.0, none_before-past row other others lt later.1)
  where
    by_times : (one two three : ℤ) → int_lt one two ≡ true → int_lt three two ≡ false → int_lt three one ≡ false
    by_times one two three lt later = grind (arith, ints)

none_before-put : (row other : List Field) (others : List (List Field)) → int_lt (time_of row) (time_of other) ≡ false → NoneBefore other others → NoneBefore other (put_in row others)
none_before-put row other [] ge later = (ge, tt)
none_before-put row other (third ∷ others) ge later = by_test (int_lt (time_of row) (time_of third)) (none_before-put row other others ge later.1)
  where
    by_test : (test : Bool) → NoneBefore other (put_in row others) → NoneBefore other (cond test (row ∷ third ∷ others) (third ∷ put_in row others))
    by_test true behind = (ge, later)
    by_test false behind = (later.0, behind)

pub swapped : (one two : ℤ) → int_lt one two ≡ true → int_lt two one ≡ false
swapped one two lt = grind (arith, ints)

pub put_in-in_order : (row : List Field) (rows : List (List Field)) → AreInOrder rows → AreInOrder (put_in row rows)
put_in-in_order row [] ordered = (tt, tt)
put_in-in_order row (other ∷ others) ordered = by_test (int_lt (time_of row) (time_of other)) refl (put_in-in_order row others ordered.1)
  where
    by_test : (test : Bool) → int_lt (time_of row) (time_of other) ≡ test → AreInOrder (put_in row others) → AreInOrder (cond test (row ∷ other ∷ others) (other ∷ put_in row others))
    by_test true lt behind = ((swapped (time_of row) (time_of other) lt, none_before-past row other others lt ordered.0), ordered)
    by_test false ge behind = (none_before-put row other others ge ordered.0, behind)

pub put_all-in_order : (waiting rows : List (List Field)) → AreInOrder waiting → AreInOrder (put_all waiting rows)
put_all-in_order waiting [] ordered = ordered
put_all-in_order waiting (row ∷ rows) ordered = put_all-in_order (put_in row waiting) rows (put_in-in_order row waiting ordered)

-- ---- some rows behind others

pub greatest_of-behind : (greatest : Option ℤ) (rows others : List (List Field)) → greatest_of greatest (rows ++ others) ≡ greatest_of (greatest_of greatest rows) others
greatest_of-behind greatest [] others = refl
greatest_of-behind greatest (row ∷ rows) others = greatest_of-behind (Some (with_time greatest (time_of row))) rows others

pub put_all-behind : (waiting rows others : List (List Field)) → put_all waiting (rows ++ others) ≡ put_all (put_all waiting rows) others
put_all-behind waiting [] others = refl
put_all-behind waiting (row ∷ rows) others = put_all-behind (put_in row waiting) rows others

-- where no row is sure with one more put among them, none is without it
none_without : (slack : ℕ) (greatest : Option ℤ) (row : List Field) (rows : List (List Field)) → filter (is_sure slack greatest) (put_in row rows) ≡ [] → filter (is_sure slack greatest) rows ≡ []
none_without slack greatest row [] none = refl
none_without slack greatest row (other ∷ others) none = by_test (int_lt (time_of row) (time_of other)) (none_without slack greatest row others) none
  where
    past : (first : List Field) (rows : List (List Field)) (sure : Bool) → is_sure slack greatest first ≡ sure → cond sure (first ∷ filter (is_sure slack greatest) rows) (filter (is_sure slack greatest) rows) ≡ [] → (is_sure slack greatest first ≡ false) × (filter (is_sure slack greatest) rows ≡ [])
    past first rows true is none = cc
    past first rows false is none = (is, none)

    by_test : (test : Bool) → (filter (is_sure slack greatest) (put_in row others) ≡ [] → filter (is_sure slack greatest) others ≡ []) → filter (is_sure slack greatest) (cond test (row ∷ other ∷ others) (other ∷ put_in row others)) ≡ [] → filter (is_sure slack greatest) (other ∷ others) ≡ []
    by_test true behind none = (past row (other ∷ others) (is_sure slack greatest row) refl none).1
    by_test false behind none =
        let both = past other (put_in row others) (is_sure slack greatest other) refl none in
        ap (λ (t : Bool). cond t (other ∷ filter (is_sure slack greatest) others) (filter (is_sure slack greatest) others)) both.0 ∙ behind both.1

-- where no row is sure by a later time, none is by an earlier one
none_before : (slack : ℕ) (greatest : Option ℤ) (time : ℤ) (rows : List (List Field)) → filter (is_sure slack (Some (with_time greatest time))) rows ≡ [] → filter (is_sure slack greatest) rows ≡ []
none_before slack greatest time [] none = refl
none_before slack greatest time (row ∷ rows) none = by_test (is_sure slack (Some (with_time greatest time)) row) refl (none_before slack greatest time rows) none
  where
    by_test : (sure : Bool) → is_sure slack (Some (with_time greatest time)) row ≡ sure → (filter (is_sure slack (Some (with_time greatest time))) rows ≡ [] → filter (is_sure slack greatest) rows ≡ []) → cond sure (row ∷ filter (is_sure slack (Some (with_time greatest time))) rows) (filter (is_sure slack (Some (with_time greatest time))) rows) ≡ [] → filter (is_sure slack greatest) (row ∷ rows) ≡ []
    by_test true is behind none = cc
    by_test false is behind none =
        ap (λ (t : Bool). cond t (row ∷ filter (is_sure slack greatest) rows) (filter (is_sure slack greatest) rows)) (unsure_before slack greatest time row is) ∙ behind none

-- Where no row is sure once others were read, none was before.
pub unsure_earlier : (slack : ℕ) (greatest : Option ℤ) (waiting rows : List (List Field)) → filter (is_sure slack (greatest_of greatest rows)) (put_all waiting rows) ≡ [] → filter (is_sure slack greatest) waiting ≡ []
unsure_earlier slack greatest waiting [] none = none
unsure_earlier slack greatest waiting (row ∷ rows) none =
    none_without slack greatest row waiting (none_before slack greatest (time_of row) (put_in row waiting) (unsure_earlier slack (Some (with_time greatest (time_of row))) (put_in row waiting) rows none))
