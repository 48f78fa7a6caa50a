-- What was read of a side tells its next row where the end of a line that isn't empty is in it.
use Rattle.std.proofs.Common.{◌≡◌, ◌≢◌, ℕ, zero, suc, ◌+◌, ◌<◌, ◌≤◌, ◌==◌, Bool, true, false, cond, List, [], ◌∷◌, ◌++◌, length, get_or, take, ℤ, pos, ◌-ℤ◌, int_lt, Ok, Err, None, Some, refl, sym, ap, subst, ◌∙◌, arith, length-append, append-nil}
use Rattle.std.specs.declared.option.Option.{Option}
use Rattle.std.specs.declared.result.Result.{Result}
use Rattle.std.proofs.Math.Seq.{take-append-add}
use Rattle.std.proofs.lemmas.List.{take-take, length-take-le, get_or-take, get_or-append-add}
use Rattle.std.proofs.lemmas.List.Sums.{fold-append}
use Rattle.std.proofs.lemmas.Bool.{ne_eqb, false≢true}
use Rattle.hj_value.specs.declared.column.Column.{Column}
use Rattle.hj_value.specs.declared.field.Field.{Field}
use Rattle.hj_value.specs.Row.{time_of}
use Rattle.hj_record.specs.declared.fault.PieceFault.{PieceFault}
use Rattle.hj_record.specs.Blank.{is_blank}
use Rattle.hj_record.specs.LineEnd.{inside_after, EndsWithin}
use Rattle.hj_record.specs.Pieces.{PiecesEnd, Stream, pieces_of, bad as pieces_bad, clean as pieces_clean, unread as pieces_unread}
use Rattle.hj_record.proofs.Splits.{inside_next}
use Rattle.hj_record.proofs.Blanks.{HaveNoRecord, blank_unread}
use Rattle.hj_event.specs.declared.schema.fault.RowFault.{RowFault}
use Rattle.hj_event.specs.declared.fault.RecordFault.{RecordFault}
use Rattle.hj_event.specs.declared.fault.RecordFault.TheVariants as fault
use Rattle.hj_event.specs.SchemaRows.{row_of}
use Rattle.hj_event.specs.Rows.{Rows, in_time, row_in_time, record_row, row_at, no_row, end_at, put_row, rows_from, rows_in, unread}
use Rattle.hj_event.specs.Sides.{ReaderState, unless_refused}
use Rattle.hj_event.specs.Taking.{TellsRow}

-- ---- the end of a line

-- A line's end in the first of these bytes is one behind others too.
pub ends_behind : (inside : Bool) (front bytes : List ℕ) (n at : ℕ) → n ≤ length bytes → inside ≡ inside_after false front → EndsWithin inside (take n bytes) at → EndsWithin false (front ++ bytes) (length front + at)
ends_behind inside front bytes n at le is ends =
    let size = length-take-le n bytes le in
    let early : at < n = omega (arith, size, ends.0) in (
      omega (arith, early, le, length-append front bytes),
      get_or-append-add front bytes at 0 ∙ sym (get_or-take n bytes at 0 early) ∙ ends.1,
      ap (inside_after false) (take-append-add front bytes at) ∙ fold-append inside_next false front (take at bytes) ∙ ap (λ i. inside_after i (take at bytes)) (sym is) ∙ ap (inside_after inside) (sym (take-take at n bytes (omega arith))) ∙ ends.2,
    )

-- Bytes without a quote end outside quotes.
pub outside_through : (bytes : List ℕ) (n : ℕ) → ((k : ℕ) → k < n → get_or bytes k 0 ≢ 34) → inside_after false (take n bytes) ≡ false
outside_through bytes zero none = refl
outside_through [] (suc n) none = refl
outside_through (b ∷ bytes) (suc n) none =
    let bare : (b == 34) ≡ false = ne_eqb b 34 (none 0 (omega arith)) in
    ap (λ t. inside_after (cond t true false) (take n bytes)) bare ∙ outside_through bytes n (λ k lt. none (suc k) (omega arith))

-- ---- rows where none is told

timed : (slack : ℕ) (before : Option ℤ) (row : List Field) → in_time slack before row ≡ Ok None → ⊥
timed slack None row e = cc
timed slack (Some time) row e =
    let by_test : (test : Bool) → cond test (Err (fault.TimeBack time (time_of row))) (Ok (Some row)) ≡ Ok None → ⊥ =
    λ test. elim test as (λ t. cond t (Err (fault.TimeBack time (time_of row))) (Ok (Some row)) ≡ Ok None → ⊥) [ true ↦ λ f. cc | false ↦ λ f. cc ] in
    by_test (int_lt (time_of row) (time -ℤ pos slack)) e

some_row : (slack : ℕ) (before : Option ℤ) (row : Result (List Field) RowFault) → row_in_time slack before row ≡ Ok None → ⊥
some_row slack before (Err found) e = cc
some_row slack before (Ok row) e = timed slack before row e

no_record : (columns : List Column) (slack : ℕ) (before : Option ℤ) (read : Result (Option (List (List ℕ))) PieceFault) → record_row columns slack before read ≡ Ok None → read ≡ Ok None
no_record columns slack before (Err found) e = cc
no_record columns slack before (Ok None) e = refl
no_record columns slack before (Ok (Some fields)) e = absurd (some_row slack before (row_of columns fields) e)

put_none : (record_no : ℕ) (before : Option ℤ) (found : Result (Option (List Field)) RecordFault) (behind : ℕ → Option ℤ → Rows) → put_row record_no before found behind ≡ no_row unread → (found ≡ Ok None) × (behind record_no before ≡ no_row unread)
put_none record_no before (Err found) behind e = let ends = ap (λ (rows : Rows). rows.ending) e in cc
put_none record_no before (Ok None) behind e = (refl, e)
put_none record_no before (Ok (Some row)) behind e = let some = ap (λ (rows : Rows). rows.rows) e in cc

no_ending : (record_no : ℕ) (ending : PiecesEnd) → end_at record_no ending ≡ unread → ending ≡ pieces_unread
no_ending record_no pieces_clean e = cc
no_ending record_no (pieces_bad found) e = cc
no_ending record_no pieces_unread e = refl

-- Pieces that tell no row hold no record, and are cut off.
none_told : (columns : List Column) (slack : ℕ) (record_no : ℕ) (before : Option ℤ) (pieces : List (List ℕ)) (ending : PiecesEnd) → rows_from columns slack record_no before pieces ending ≡ no_row unread → HaveNoRecord pieces × (ending ≡ pieces_unread)
none_told columns slack record_no before [] ending e = (tt, no_ending record_no ending (ap (λ (rows : Rows). rows.ending) e))
none_told columns slack record_no before (piece ∷ pieces) ending e =
    let first = put_none record_no before (row_at columns slack before piece) (λ next time. rows_from columns slack next time pieces ending) e in
    let others = none_told columns slack record_no before pieces ending first.1 in
    ((no_record columns slack before _ first.0, others.0), others.1)

-- ---- a side

written_told : (side : ReaderState) (stream : Stream) (at k : ℕ) → EndsWithin false stream.bytes at → k ≤ at → is_blank (get_or stream.bytes k 0) ≡ false → (found : Option PieceFault) → rows_in side.columns side.slack side.record_no side.time (unless_refused found (pieces_of side.room stream)) ≡ no_row unread → ⊥
written_told side stream at k ends le written None e =
    let pieces = pieces_of side.room stream in
    let none = none_told side.columns side.slack side.record_no side.time pieces.pieces pieces.ending e in
    false≢true (sym written ∙ blank_unread side.room stream at k none.1 none.0 ends le)
written_told side stream at k ends le written (Some found) e = let ends = ap (λ (rows : Rows). rows.ending) e in cc

-- Where a line with a byte that no empty line has ends in what was read, a row is told.
pub tells_row : (side : ReaderState) (at k : ℕ) → EndsWithin false (side.part ++ side.rest) at → k ≤ at → is_blank (get_or (side.part ++ side.rest) k 0) ≡ false → TellsRow side
tells_row side at k ends le written e =
    let same : side.part ++ (side.rest ++ []) ≡ side.part ++ side.rest = ap (λ rest. side.part ++ rest) (append-nil side.rest) in
    let stream : Stream = record { bytes = side.part ++ (side.rest ++ []); whole = false } in
    written_told side stream at k (subst (λ bytes. EndsWithin false bytes at) (sym same) ends) le (subst (λ bytes. is_blank (get_or bytes k 0) ≡ false) (sym same) written) side.fault e
