-- The rows, the arrivals and the events of streams that were cut off, beside those of the whole ones.
use Rattle.std.proofs.Common.{◌≡◌, ℕ, ◌+◌, ◌-◌, ◌≤◌, ◌⊎◌, inl, inr, Bool, true, false, cond, ltb, ℤ, int_le, List, [], ◌∷◌, ◌++◌, take, length, length-append, arith, append_assoc, append-nil, Option, Result, None, Some, Ok, Err, refl, sym, ap, subst, ◌∙◌}
use Rattle.std.specs.List.{filter}
use Rattle.std.proofs.Math.Seq.{take-append-add}
use Rattle.std.proofs.lemmas.List.{take-append-le}
use Rattle.std.proofs.lemmas.Bool.{lt-ltb, le-ltb, cases_lt}
use Rattle.hj_value.specs.declared.column.Column.{Column}
use Rattle.hj_value.specs.declared.field.Field.{Field}
use Rattle.hj_value.specs.Row.{time_of}
use Rattle.hj_base.specs.declared.numbers.Side.{Side}
use Rattle.hj_base.specs.declared.numbers.Side.TheVariants.{Left, Right}
use Rattle.hj_base.specs.Journals.{IsPrefix}
use Rattle.hj_msg.specs.declared.event.Event.{Event}
use Rattle.hj_record.specs.Pieces.{Stream, Pieces, PiecesEnd, pieces_of, unread as pieces_unread}
use Rattle.hj_query.specs.QueryParts.{QueryParts}
use Rattle.hj_window.specs.LiveRows.{LiveRows, arrive}
use Rattle.hj_event.specs.declared.fault.RecordFault.{RecordFault}
use Rattle.hj_event.specs.Rows.{Rows, RowsEnd, then_rows, put_row, row_at, rows_from, rows_in, rows_of, with_time, put_in, is_sure, in_order, most_in_stream, clean as rows_clean, bad as rows_bad, unread as rows_unread}
use Rattle.hj_event.specs.Waiting.{AreInOrder}
use Rattle.hj_event.specs.Arrivals.{Arrival, Arrivals, Ending, unread, too_many, no_arrival, then_arrivals, stop_or, right_only, left_among, merge, arrivals_of}
use Rattle.hj_event.specs.Events.{Silence, no_silence, silence_at, quiet_side, silence_behind, events_at, number_from, none_live, NumberedEvents, numbered, up_to, all_events_of, events_of}
use Rattle.hj_event.specs.Cut.{IsCutOf}
use Rattle.hj_event.proofs.CutPieces.{IsPrefix-cons, IsPrefix-nil, PiecesCut, pieces_of-cut}
use Rattle.hj_event.proofs.OrderLemmas.{none_sure, put_in-in_order, sure_ahead}

-- The same rows with the same ending, or the first of them, up to where the stream was cut off.
abbrev pub RowsCut : Rows → Rows → Type 0
RowsCut cut all = (cut ≡ all) ⊎ ((cut.ending ≡ rows_unread) × IsPrefix cut.rows all.rows)

then_rows-cut : (row : List Field) (cut all : Rows) → RowsCut cut all → RowsCut (then_rows row cut) (then_rows row all)
then_rows-cut row cut all (inl e) = inl (ap (λ others. then_rows row others) e)
then_rows-cut row cut all (inr e) = inr (e.0, IsPrefix-cons row cut.rows all.rows e.1)

put_row-cut : (record_no : ℕ) (before : Option ℤ) (found : Result (Option (List Field)) RecordFault) (cut all : ℕ → Option ℤ → Rows) → ((next : ℕ) (time : Option ℤ) → RowsCut (cut next time) (all next time)) → RowsCut (put_row record_no before found cut) (put_row record_no before found all)
put_row-cut record_no before (Err found) cut all h = inl refl
put_row-cut record_no before (Ok None) cut all h = h record_no before
put_row-cut record_no before (Ok (Some row)) cut all h =
    let at = Some (with_time before (time_of row)) in
    then_rows-cut row (cut (record_no + 1) at) (all (record_no + 1) at) (h (record_no + 1) at)

rows_from-front : (columns : List Column) (slack record_no : ℕ) (before : Option ℤ) (pieces others : List (List ℕ)) (ending : PiecesEnd) → RowsCut (rows_from columns slack record_no before pieces pieces_unread) (rows_from columns slack record_no before (pieces ++ others) ending)
rows_from-front columns slack record_no before [] others ending = inr (refl, IsPrefix-nil (rows_from columns slack record_no before others ending).rows)
rows_from-front columns slack record_no before (piece ∷ pieces) others ending = put_row-cut record_no before (row_at columns slack before piece) (λ next time. rows_from columns slack next time pieces pieces_unread) (λ next time. rows_from columns slack next time (pieces ++ others) ending)
    (λ next time. rows_from-front columns slack next time pieces others ending)

-- the rows as they are read
pub rows_from-cut : (columns : List Column) (slack record_no : ℕ) (before : Option ℤ) (cut all : Pieces) → PiecesCut cut all → RowsCut (rows_from columns slack record_no before cut.pieces cut.ending) (rows_from columns slack record_no before all.pieces all.ending)
rows_from-cut columns slack record_no before cut all (inl e) = inl (ap (λ pieces. rows_from columns slack record_no before pieces.pieces pieces.ending) e)
rows_from-cut columns slack record_no before cut all (inr e) = rw (e.0) (rw (e.1.is) (rows_from-front columns slack record_no before cut.pieces e.1.rest all.ending))

-- ---- the rows in order

-- Of the rows that wait those that are sure come first, whatever is read behind them.
sure_front : (columns : List Column) (slack record_no : ℕ) (greatest : Option ℤ) (waiting : List (List Field)) (pieces : List (List ℕ)) (ending : PiecesEnd) → AreInOrder waiting
    → IsPrefix (filter (is_sure slack greatest) waiting) (in_order slack greatest waiting (rows_from columns slack record_no greatest pieces ending)).rows
sure_front columns slack record_no greatest [] pieces ending ordered = IsPrefix-nil (in_order slack greatest [] (rows_from columns slack record_no greatest pieces ending)).rows
sure_front columns slack record_no greatest (row ∷ waiting) pieces ending ordered =
    by_test (is_sure slack greatest row) refl (sure_front columns slack record_no greatest waiting pieces ending ordered.1)
  where
    by_test : (test : Bool) → is_sure slack greatest row ≡ test → IsPrefix (filter (is_sure slack greatest) waiting) (in_order slack greatest waiting (rows_from columns slack record_no greatest pieces ending)).rows
        → IsPrefix (cond test (row ∷ filter (is_sure slack greatest) waiting) (filter (is_sure slack greatest) waiting)) (in_order slack greatest (row ∷ waiting) (rows_from columns slack record_no greatest pieces ending)).rows
    by_test true sure behind =
        let others = in_order slack greatest waiting (rows_from columns slack record_no greatest pieces ending) in
        subst (λ (rows : List (List Field)). IsPrefix (row ∷ filter (is_sure slack greatest) waiting) rows)
        (sym (ap (λ (rows : Rows). rows.rows) (sure_ahead columns slack row record_no greatest waiting (record { pieces = pieces; ending = ending }) sure)))
        (IsPrefix-cons row (filter (is_sure slack greatest) waiting) others.rows behind)
    by_test false unsure behind =
        subst (λ (rows : List (List Field)). IsPrefix rows (in_order slack greatest (row ∷ waiting) (rows_from columns slack record_no greatest pieces ending)).rows) (sym (none_sure slack greatest row waiting unsure ordered.0))
        (IsPrefix-nil (in_order slack greatest (row ∷ waiting) (rows_from columns slack record_no greatest pieces ending)).rows)

in_order-put : (slack record_no : ℕ) (greatest : Option ℤ) (waiting : List (List Field)) (found : Result (Option (List Field)) RecordFault) (cut all : ℕ → Option ℤ → Rows) → AreInOrder waiting
    → ((next : ℕ) (time : Option ℤ) (rows : List (List Field)) → AreInOrder rows → RowsCut (in_order slack time rows (cut next time)) (in_order slack time rows (all next time)))
    → RowsCut (in_order slack greatest waiting (put_row record_no greatest found cut)) (in_order slack greatest waiting (put_row record_no greatest found all))
in_order-put slack record_no greatest waiting (Err found) cut all ordered h = inl refl
in_order-put slack record_no greatest waiting (Ok None) cut all ordered h = h record_no greatest waiting ordered
in_order-put slack record_no greatest waiting (Ok (Some row)) cut all ordered h = h (record_no + 1) (Some (with_time greatest (time_of row))) (put_in row waiting) (put_in-in_order row waiting ordered)

in_order-front : (columns : List Column) (slack record_no : ℕ) (greatest : Option ℤ) (waiting : List (List Field)) (pieces others : List (List ℕ)) (ending : PiecesEnd) → AreInOrder waiting
    → RowsCut (in_order slack greatest waiting (rows_from columns slack record_no greatest pieces pieces_unread)) (in_order slack greatest waiting (rows_from columns slack record_no greatest (pieces ++ others) ending))
in_order-front columns slack record_no greatest waiting [] others ending ordered = inr (refl, sure_front columns slack record_no greatest waiting others ending ordered)
in_order-front columns slack record_no greatest waiting (piece ∷ pieces) others ending ordered =
    in_order-put slack record_no greatest waiting (row_at columns slack greatest piece) (λ next time. rows_from columns slack next time pieces pieces_unread) (λ next time. rows_from columns slack next time (pieces ++ others) ending) ordered
    (λ next time rows still. in_order-front columns slack next time rows pieces others ending still)

in_order-cut : (columns : List Column) (slack : ℕ) (cut all : Pieces) → PiecesCut cut all → RowsCut (in_order slack None [] (rows_in columns slack 1 None cut)) (in_order slack None [] (rows_in columns slack 1 None all))
in_order-cut columns slack cut all (inl e) = inl (ap (λ (pieces : Pieces). in_order slack None [] (rows_in columns slack 1 None pieces)) e)
in_order-cut columns slack cut all (inr e) = rw (e.0) (rw (e.1.is) (in_order-front columns slack 1 None [] cut.pieces e.1.rest all.ending tt))

abbrev rows_within : List Column → ℕ → ℕ → Stream → Rows
rows_within columns slack limit stream = in_order slack None [] (rows_in columns slack 1 None (pieces_of limit stream))

rows_within-cut : (columns : List Column) (slack limit : ℕ) (cut all : Stream) → IsCutOf cut all → RowsCut (rows_within columns slack limit cut) (rows_within columns slack limit all)
rows_within-cut columns slack limit cut all (inl e) = inl (ap (λ stream. rows_within columns slack limit stream) e)
rows_within-cut columns slack limit cut all (inr e) =
    subst (λ stream. RowsCut (rows_within columns slack limit stream) (rows_within columns slack limit all)) (ap (λ whole. record { bytes = cut.bytes; whole = whole }) (sym e.0))
    (subst (λ bytes. RowsCut (rows_within columns slack limit (record { bytes = cut.bytes; whole = false })) (rows_within columns slack limit (record { bytes = bytes; whole = all.whole }))) (sym e.1.is)
    (in_order-cut columns slack (pieces_of limit (record { bytes = cut.bytes; whole = false })) (pieces_of limit (record { bytes = cut.bytes ++ e.1.rest; whole = all.whole })) (pieces_of-cut limit cut.bytes e.1.rest all.whole)))

rows_of-cut : (columns : List Column) (slack : ℕ) (cut all : Stream) → IsCutOf cut all → RowsCut (rows_of columns slack cut) (rows_of columns slack all)
rows_of-cut columns slack cut all h = rows_within-cut columns slack most_in_stream cut all h

-- The same arrivals with the same ending, or the first of them, up to where a stream was cut off.
abbrev ArrivalsCut : Arrivals → Arrivals → Type 0
ArrivalsCut cut all = (cut ≡ all) ⊎ (((side : Side) × (cut.ending ≡ unread side)) × IsPrefix cut.rows all.rows)

ArrivalsCut-trans : (one two three : Arrivals) → ArrivalsCut one two → ArrivalsCut two three → ArrivalsCut one three
ArrivalsCut-trans one two three (inl e) k = subst (λ arrivals. ArrivalsCut arrivals three) (sym e) k
ArrivalsCut-trans one two three (inr h) (inl e) = subst (λ arrivals. ArrivalsCut one arrivals) e (inr h)
ArrivalsCut-trans one two three (inr h) (inr k) = inr (h.0, record { rest = h.1.rest ++ k.1.rest; is = k.1.is ∙ (ap (λ rows. rows ++ k.1.rest) h.1.is ∙ append_assoc one.rows h.1.rest k.1.rest) })

stopped : (side : Side) (all : Arrivals) → ArrivalsCut (no_arrival (unread side)) all
stopped side all = inr ((side, refl), IsPrefix-nil all.rows)

then_arrivals-cut : (side : Side) (row : List Field) (cut all : Arrivals) → ArrivalsCut cut all → ArrivalsCut (then_arrivals side row cut) (then_arrivals side row all)
then_arrivals-cut side row cut all (inl e) = inl (ap (λ others. then_arrivals side row others) e)
then_arrivals-cut side row cut all (inr e) = inr (e.0, IsPrefix-cons (record { side = side; row = row }) cut.rows all.rows e.1)

stop_or-cut : (side : Side) (ending : RowsEnd) (cut all : Arrivals) → ArrivalsCut cut all → ArrivalsCut (stop_or side ending cut) (stop_or side ending all)
stop_or-cut side rows_clean cut all h = h
stop_or-cut side (rows_bad record_no found) cut all h = inl refl
stop_or-cut side rows_unread cut all h = inl refl

choice-cut : (test : Bool) (cut all cut' all' : Arrivals) → ArrivalsCut cut all → ArrivalsCut cut' all' → ArrivalsCut (cond test cut cut') (cond test all all')
choice-cut true cut all cut' all' h k = h
choice-cut false cut all cut' all' h k = k

right_only-cut : (rows others : List (List Field)) (ending : RowsEnd) → ArrivalsCut (right_only rows rows_unread) (right_only (rows ++ others) ending)
right_only-cut [] others ending = stopped Right (right_only others ending)
right_only-cut (row ∷ rows) others ending = then_arrivals-cut Right row (right_only rows rows_unread) (right_only (rows ++ others) ending) (right_only-cut rows others ending)

left_among-front : (row : List Field) (cut all : List (List Field) → Arrivals) (rows others : List (List Field)) (ending : RowsEnd) → ((rest : List (List Field)) → ArrivalsCut (cut rest) (all (rest ++ others))) → ArrivalsCut (left_among row cut rows rows_unread) (left_among row all (rows ++ others) ending)
left_among-front row cut all [] others ending h = stopped Right (left_among row all others ending)
left_among-front row cut all (other ∷ rows) others ending h =
    choice-cut (int_le (time_of row) (time_of other)) (then_arrivals Left row (cut (other ∷ rows))) (then_arrivals Left row (all (other ∷ (rows ++ others))))
    (then_arrivals Right other (left_among row cut rows rows_unread)) (then_arrivals Right other (left_among row all (rows ++ others) ending))
    (then_arrivals-cut Left row (cut (other ∷ rows)) (all (other ∷ (rows ++ others))) (h (other ∷ rows)))
    (then_arrivals-cut Right other (left_among row cut rows rows_unread) (left_among row all (rows ++ others) ending) (left_among-front row cut all rows others ending h))

-- the right stream was cut off
merge-right_front : (left : List (List Field)) (left_end : RowsEnd) (rows others : List (List Field)) (ending : RowsEnd) → ArrivalsCut (merge left left_end rows rows_unread) (merge left left_end (rows ++ others) ending)
merge-right_front [] left_end rows others ending = stop_or-cut Left left_end (right_only rows rows_unread) (right_only (rows ++ others) ending) (right_only-cut rows others ending)
merge-right_front (row ∷ left) left_end rows others ending = left_among-front row (λ rest. merge left left_end rest rows_unread) (λ rest. merge left left_end rest ending) rows others ending
    (λ rest. merge-right_front left left_end rest others ending)

left_among-behind : (row : List Field) (cut all : List (List Field) → Arrivals) (rows : List (List Field)) (ending : RowsEnd) → ((rest : List (List Field)) → ArrivalsCut (cut rest) (all rest)) → ArrivalsCut (left_among row cut rows ending) (left_among row all rows ending)
left_among-behind row cut all [] ending h = stop_or-cut Right ending (then_arrivals Left row (cut [])) (then_arrivals Left row (all [])) (then_arrivals-cut Left row (cut []) (all []) (h []))
left_among-behind row cut all (other ∷ rows) ending h =
    choice-cut (int_le (time_of row) (time_of other)) (then_arrivals Left row (cut (other ∷ rows))) (then_arrivals Left row (all (other ∷ rows)))
    (then_arrivals Right other (left_among row cut rows ending)) (then_arrivals Right other (left_among row all rows ending))
    (then_arrivals-cut Left row (cut (other ∷ rows)) (all (other ∷ rows)) (h (other ∷ rows)))
    (then_arrivals-cut Right other (left_among row cut rows ending) (left_among row all rows ending) (left_among-behind row cut all rows ending h))

-- the left stream was cut off
merge-left_front : (rows others : List (List Field)) (ending : RowsEnd) (right : List (List Field)) (right_end : RowsEnd) → ArrivalsCut (merge rows rows_unread right right_end) (merge (rows ++ others) ending right right_end)
merge-left_front [] others ending right right_end = stopped Left (merge others ending right right_end)
merge-left_front (row ∷ rows) others ending right right_end = left_among-behind row (λ rest. merge rows rows_unread rest right_end) (λ rest. merge (rows ++ others) ending rest right_end) right right_end
    (λ rest. merge-left_front rows others ending rest right_end)

merge-right_cut : (left cut all : Rows) → RowsCut cut all → ArrivalsCut (arrivals_of left cut) (arrivals_of left all)
merge-right_cut left cut all (inl e) = inl (ap (λ rows. arrivals_of left rows) e)
merge-right_cut left cut all (inr e) = rw (e.0) (rw (e.1.is) (merge-right_front left.rows left.ending cut.rows e.1.rest all.ending))

merge-left_cut : (cut all right : Rows) → RowsCut cut all → ArrivalsCut (arrivals_of cut right) (arrivals_of all right)
merge-left_cut cut all right (inl e) = inl (ap (λ rows. arrivals_of rows right) e)
merge-left_cut cut all right (inr e) = rw (e.0) (rw (e.1.is) (merge-left_front cut.rows e.1.rest all.ending right.rows right.ending))

arrivals_of-cut : (cut_left cut_right left right : Rows) → RowsCut cut_left left → RowsCut cut_right right → ArrivalsCut (arrivals_of cut_left cut_right) (arrivals_of left right)
arrivals_of-cut cut_left cut_right left right h k = ArrivalsCut-trans (arrivals_of cut_left cut_right) (arrivals_of cut_left right) (arrivals_of left right) (merge-right_cut cut_left cut_right right k) (merge-left_cut cut_left left right h)

IsPrefix-front : {X : Type 0} (front cut all : List X) → IsPrefix cut all → IsPrefix (front ++ cut) (front ++ all)
IsPrefix-front [] cut all h = h
IsPrefix-front (x ∷ front) cut all h = IsPrefix-cons x (front ++ cut) (front ++ all) (IsPrefix-front front cut all h)

number_from-prefix : (quiet at : ℕ) (live : LiveRows) (silence : Silence) (arrivals others : List Arrival) → IsPrefix (number_from quiet at live silence arrivals) (number_from quiet at live silence (arrivals ++ others))
number_from-prefix quiet at live silence [] others = IsPrefix-nil (number_from quiet at live silence others)
number_from-prefix quiet at live silence (arrival ∷ arrivals) others =
    let came = arrive live arrival.side (time_of arrival.row) at in
    let told = quiet_side quiet (silence_at silence arrival.side) in
    let silent = silence_behind told (silence_at silence arrival.side) in
    let events = events_at at arrival came told in
    IsPrefix-front events (number_from quiet (at + length events) came.live silent arrivals) (number_from quiet (at + length events) came.live silent (arrivals ++ others)) (number_from-prefix quiet (at + length events) came.live silent arrivals others)

-- The same events with the same ending, or the first of them, up to where a stream was cut off.
abbrev pub NumberedCut : NumberedEvents → NumberedEvents → Type 0
NumberedCut cut all = (cut ≡ all) ⊎ (((side : Side) × (cut.ending ≡ unread side)) × IsPrefix cut.events all.events)

numbered-cut : (quiet : ℕ) (live : LiveRows) (silence : Silence) (cut all : Arrivals) → ArrivalsCut cut all → NumberedCut (numbered quiet 0 live silence cut) (numbered quiet 0 live silence all)
numbered-cut quiet live silence cut all (inl e) = inl (ap (λ arrivals. numbered quiet 0 live silence arrivals) e)
numbered-cut quiet live silence cut all (inr e) = inr (e.0, rw (e.1.is) (number_from-prefix quiet 0 live silence cut.rows e.1.rest))

-- the events within a limit
limited : (limit : ℕ) (events rest : List (Event (List Field))) (cut_ending ending : Ending) (side : Side) → cut_ending ≡ unread side → NumberedCut (up_to limit (record { events = events; ending = cut_ending })) (up_to limit (record { events = events ++ rest; ending = ending }))
limited limit events rest cut_ending ending side is = elim (cases_lt limit (length events)) [
  | inl over ↦ rw (lt-ltb limit (length events) over) (rw (lt-ltb limit (length (events ++ rest)) (omega (arith, length-append events rest)))
      (inl (ap (λ (es : List (Event (List Field))). record { events = es; ending = too_many }) (sym (take-append-le limit events rest (omega arith))))))
  | inr fits ↦ rw (le-ltb limit (length events) fits) (inr ((side, is), within (ltb limit (length (events ++ rest))) fits))
]
  where
    within : (test : Bool) → length events ≤ limit → IsPrefix events (cond {A = NumberedEvents} test (record { events = take limit (events ++ rest); ending = too_many }) (record { events = events ++ rest; ending = ending })).events
    within true fits = record { rest = take (limit - length events) rest; is = ap (λ (n : ℕ). take n (events ++ rest)) (omega arith) ∙ take-append-add events rest (limit - length events) }
    within false fits = record { rest = rest; is = refl }

up_to-cut : (limit : ℕ) (cut all : NumberedEvents) → NumberedCut cut all → NumberedCut (up_to limit cut) (up_to limit all)
up_to-cut limit cut all (inl e) = inl (ap (up_to limit) e)
up_to-cut limit cut all (inr e) =
    subst (λ (events : List (Event (List Field))). NumberedCut (up_to limit cut) (up_to limit (record { events = events; ending = all.ending }))) (sym e.1.is)
    (limited limit cut.events e.1.rest cut.ending all.ending e.0.0 e.0.1)

pub events_of-cut : (query : QueryParts) (limit : ℕ) (cut_left cut_right left right : Stream) → IsCutOf cut_left left → IsCutOf cut_right right → NumberedCut (events_of query cut_left cut_right limit) (events_of query left right limit)
events_of-cut query limit cut_left cut_right left right h k =
    let one = rows_of query.left.columns query.slack in
    let other = rows_of query.right.columns query.slack in
    up_to-cut limit (all_events_of query cut_left cut_right) (all_events_of query left right)
    (numbered-cut query.quiet (none_live query) no_silence (arrivals_of (one cut_left) (other cut_right)) (arrivals_of (one left) (other right))
    (arrivals_of-cut (one cut_left) (other cut_right) (one left) (other right) (rows_of-cut query.left.columns query.slack cut_left left h) (rows_of-cut query.right.columns query.slack cut_right right k)))

pub events-begin : (cut all : NumberedEvents) → NumberedCut cut all → IsPrefix cut.events all.events
events-begin cut all (inl e) = record { rest = []; is = sym (ap (λ numbered. numbered.events) e) ∙ sym (append-nil cut.events) }
events-begin cut all (inr e) = e.1

pub ends_as : (cut all : NumberedEvents) → NumberedCut cut all → (cut ≡ all) ⊎ ((side : Side) × (cut.ending ≡ unread side))
ends_as cut all (inl e) = inl e
ends_as cut all (inr e) = inr e.0
