-- What the order of rows is: their times never fall, and rows of equal time stay as they were read.
use Rattle.std.proofs.Common.{◌≡◌, ℕ, Bool, true, false, cond, List, [], ◌∷◌, ◌++◌, ℤ, int_lt, None, refl, sym, ap, subst, ◌∙◌, append-nil, append_assoc, arith}
use Rattle.std.specs.declared.option.Option.{Option}
use Rattle.std.specs.declared.cmp.Ordering.{Ordering}
use Rattle.std.specs.declared.cmp.Ordering.TheVariants.{Less, Equal, Greater}
use Rattle.std.specs.List.{filter}
use Rattle.std.specs.Ordering.{int_cmp, is_eq}
use Rattle.std.proofs.lemmas.Int.{ints}
use Rattle.std.proofs.lemmas.Map.Lookups.{exact_signed}
use Rattle.hj_value.specs.declared.column.Column.{Column}
use Rattle.hj_value.specs.declared.field.Field.{Field}
use Rattle.hj_value.specs.Row.{time_of}
use Rattle.hj_record.specs.Pieces.{Stream, pieces_of}
use Rattle.hj_event.specs.Rows.{RowsEnd, put_in, put_all, greatest_of, is_sure, staying, most_in_stream, read_of, rows_of, clean, bad, unread}
use Rattle.hj_event.specs.Waiting.{NoneBefore, AreInOrder, is_of_time}
use Rattle.hj_event.proofs.OrderLemmas.{as_read, put_all-in_order, put_in-in_order, swapped}

-- ---- times never fall

filter-none_before : (test : List Field → Bool) (row : List Field) (rows : List (List Field)) → NoneBefore row rows → NoneBefore row (filter test rows)
filter-none_before test row [] later = tt
filter-none_before test row (other ∷ others) later = by_test (test other) (filter-none_before test row others later.1)
  where
    by_test : (keep : Bool) → NoneBefore row (filter test others) → NoneBefore row (cond keep (other ∷ filter test others) (filter test others))
    by_test true behind = (later.0, behind)
    by_test false behind = behind

filter-in_order : (test : List Field → Bool) (rows : List (List Field)) → AreInOrder rows → AreInOrder (filter test rows)
filter-in_order test [] ordered = tt
filter-in_order test (row ∷ rows) ordered = by_test (test row) (filter-in_order test rows ordered.1)
  where
    by_test : (keep : Bool) → AreInOrder (filter test rows) → AreInOrder (cond keep (row ∷ filter test rows) (filter test rows))
    by_test true behind = (filter-none_before test row rows ordered.0, behind)
    by_test false behind = behind

staying-in_order : (ending : RowsEnd) (slack : ℕ) (greatest : Option ℤ) (rows : List (List Field)) → AreInOrder rows → AreInOrder (staying ending slack greatest rows)
staying-in_order clean slack greatest rows ordered = ordered
staying-in_order (bad record_no found) slack greatest rows ordered = ordered
staying-in_order unread slack greatest rows ordered = filter-in_order (is_sure slack greatest) rows ordered

pub rows_in_order : (columns : List Column) (slack : ℕ) (stream : Stream) → AreInOrder (rows_of columns slack stream).rows
rows_in_order columns slack stream =
    let read = read_of columns slack stream in
    staying-in_order read.ending slack (greatest_of None read.rows) (put_all [] read.rows) (put_all-in_order [] read.rows tt)

-- ---- rows of equal time

is_equal : (order : Ordering) → is_eq order ≡ true → order ≡ Equal
is_equal Less e = cc
is_equal Equal e = refl
is_equal Greater e = cc

-- a later row isn't of the time of one that is
of_another : (time : ℤ) (row other : List Field) → is_of_time time row ≡ true → int_lt (time_of row) (time_of other) ≡ true → is_of_time time other ≡ false
of_another time row other at lt =
    let same : time_of row ≡ time = exact_signed (time_of row) time (is_equal (int_cmp (time_of row) time) at) in
    let later : int_lt time (time_of other) ≡ true = subst (λ (t : ℤ). int_lt t (time_of other) ≡ true) same lt in
    ap (λ (t : Bool). is_eq (cond t Less (cond (int_lt time (time_of other)) Greater Equal))) (swapped time (time_of other) later) ∙ ap (λ (t : Bool). is_eq (cond t Greater Equal)) later

none_of_time : (time : ℤ) (row : List Field) (rows : List (List Field)) (other : List Field) → is_of_time time row ≡ true → int_lt (time_of row) (time_of other) ≡ true → NoneBefore other rows → filter (is_of_time time) rows ≡ []
none_of_time time row [] other at lt later = refl
none_of_time time row (third ∷ rows) other at lt later =
    ap (λ (t : Bool). cond t (third ∷ filter (is_of_time time) rows) (filter (is_of_time time) rows)) (of_another time row third at (past (time_of row) (time_of other) (time_of third) lt later.0))
    ∙ none_of_time time row rows other at lt later.1
  where
    past : (one two three : ℤ) → int_lt one two ≡ true → int_lt three two ≡ false → int_lt one three ≡ true
    past one two three lt later = grind (arith, ints)

ties-put : (time : ℤ) (row : List Field) (rows : List (List Field)) → AreInOrder rows → filter (is_of_time time) (put_in row rows) ≡ filter (is_of_time time) rows ++ filter (is_of_time time) (row ∷ [])
ties-put time row [] ordered = refl
ties-put time row (other ∷ others) ordered = by_order (int_lt (time_of row) (time_of other)) refl (ties-put time row others ordered.1)
  where
    in_front : (at : Bool) → is_of_time time row ≡ at → int_lt (time_of row) (time_of other) ≡ true
        → cond at (row ∷ filter (is_of_time time) (other ∷ others)) (filter (is_of_time time) (other ∷ others)) ≡ filter (is_of_time time) (other ∷ others) ++ cond at (row ∷ []) []
    in_front true is lt =
        let none : filter (is_of_time time) (other ∷ others) ≡ [] =
        ap (λ (t : Bool). cond t (other ∷ filter (is_of_time time) others) (filter (is_of_time time) others)) (of_another time row other is lt) ∙ none_of_time time row others other is lt ordered.0 in
        ap (λ (rows : List (List Field)). row ∷ rows) none ∙ ap (λ (rows : List (List Field)). rows ++ row ∷ []) (sym none)
    in_front false is lt = sym (append-nil (filter (is_of_time time) (other ∷ others)))

    behind : (at : Bool) → filter (is_of_time time) (put_in row others) ≡ filter (is_of_time time) others ++ filter (is_of_time time) (row ∷ [])
        → cond at (other ∷ filter (is_of_time time) (put_in row others)) (filter (is_of_time time) (put_in row others)) ≡ cond at (other ∷ filter (is_of_time time) others) (filter (is_of_time time) others) ++ filter (is_of_time time) (row ∷ [])
    behind true h = ap (λ (rows : List (List Field)). other ∷ rows) h
    behind false h = h

    by_order : (lt : Bool) → int_lt (time_of row) (time_of other) ≡ lt → filter (is_of_time time) (put_in row others) ≡ filter (is_of_time time) others ++ filter (is_of_time time) (row ∷ [])
        → filter (is_of_time time) (cond lt (row ∷ other ∷ others) (other ∷ put_in row others)) ≡ filter (is_of_time time) (other ∷ others) ++ filter (is_of_time time) (row ∷ [])
    by_order true is h = in_front (is_of_time time row) refl is
    by_order false is h = behind (is_of_time time other) h

ties-all : (time : ℤ) (waiting rows : List (List Field)) → AreInOrder waiting → filter (is_of_time time) (put_all waiting rows) ≡ filter (is_of_time time) waiting ++ filter (is_of_time time) rows
ties-all time waiting [] ordered = sym (append-nil (filter (is_of_time time) waiting))
ties-all time waiting (row ∷ rows) ordered =
    ties-all time (put_in row waiting) rows (put_in-in_order row waiting ordered)
    ∙ (ap (λ (front : List (List Field)). front ++ filter (is_of_time time) rows) (ties-put time row waiting ordered)
    ∙ (append_assoc (filter (is_of_time time) waiting) (filter (is_of_time time) (row ∷ [])) (filter (is_of_time time) rows)
    ∙ ap (λ (behind : List (List Field)). filter (is_of_time time) waiting ++ behind) (by_test (is_of_time time row))))
  where
    by_test : (at : Bool) → cond at (row ∷ []) [] ++ filter (is_of_time time) rows ≡ cond at (row ∷ filter (is_of_time time) rows) (filter (is_of_time time) rows)
    by_test true = refl
    by_test false = refl

pub ties_stay : (time : ℤ) (rows : List (List Field)) → filter (is_of_time time) (put_all [] rows) ≡ filter (is_of_time time) rows
ties_stay time rows = ties-all time [] rows tt

pub rows_as_read : (columns : List Column) (stream : Stream) → rows_of columns 0 stream ≡ read_of columns 0 stream
rows_as_read columns stream = as_read columns 1 None (pieces_of most_in_stream stream)
