-- A row that was read straight from the bytes of its line: that the piece reads so, and what taking it says.
use Rattle.std.proofs.Common.{◌≡◌, ℕ, ◌+◌, ◌-◌, ◌≤◌, min, Bool, false, List, length, take, drop, slice_range, ℤ, Ok, Some, None, inr, sym, refl, ap, subst, ◌∙◌, arith}
use Rattle.std.proofs.lemmas.List.{length-take, length-take-le, take-take}
use Rattle.std.specs.declared.option.Option.{Option}
use Rattle.hj_value.specs.declared.column.Column.{Column}
use Rattle.hj_value.specs.declared.field.Field.{Field}
use Rattle.hj_value.specs.Row.{time_of}
use Rattle.hj_record.specs.declared.cutter.Cut.TheVariants as cut
use Rattle.hj_record.specs.Cutter.{Cutting}
use Rattle.hj_record.specs.Cuts.{Cuts, LeadsBy}
use Rattle.hj_record.specs.Line.{most_in_next}
use Rattle.hj_record.specs.Pieces.{IsPiece}
use Rattle.hj_event.specs.declared.stop.ReadStep.TheVariants as read_step
use Rattle.hj_event.specs.Lines.{IsLineOf}
use Rattle.hj_event.specs.Rows.{in_time, record_row, row_at, row_in_time, with_time}
use Rattle.hj_event.specs.Reads.{reading, IsReadable}
use Rattle.hj_event.specs.Taking.{Advances, IsNextLine, is_late}
use Rattle.hj_event.proofs.LineLemmas.{lent_lines}
use Rattle.hj_event.proofs.Pieces.{range_front}
use Rattle.hj_event.proofs.ReaderLemmas.{lent_advances}

not_late : (slack : ℕ) (greatest : Option ℤ) (row : List Field) → is_late slack greatest (time_of row) ≡ false → in_time slack greatest row ≡ Ok (Some row)
not_late slack None row none = refl
not_late slack (Some greatest) row none = rw none refl

row_of_line : (columns : List Column) (slack : ℕ) (greatest : Option ℤ) (row : List Field) (used : ℕ) (bytes piece : List ℕ) → (line : IsLineOf columns row used bytes) → take used bytes ≡ piece → is_late slack greatest (time_of row) ≡ false → row_at columns slack greatest piece ≡ Ok (Some row)
row_of_line columns slack greatest row used bytes piece line same none =
    ap (row_at columns slack greatest) (sym same)
    ∙ ap (record_row columns slack greatest) line.reads
    ∙ ap (row_in_time slack greatest) line.row_is
    ∙ not_late slack greatest row none

module _ (columns : List Column) (slack record_no : ℕ) (time : Option ℤ) (ended : Bool) (portion : List ℕ) (taken filled : ℕ) (old new : Cutting) where
  pub straight_advances : (row : List Field) (used : ℕ)
      → IsNextLine row used (reading columns slack old portion taken filled ended record_no time)
      → is_late slack time (time_of row) ≡ false
      → ((bytes : List ℕ) → used ≤ length bytes → IsPiece (take used bytes) → Cuts (cut.Lent used) bytes old new)
      → ((bytes : List ℕ) → used ≤ length bytes → IsPiece (take used bytes) → LeadsBy (cut.Lent used) bytes old new)
      → Advances (Ok (read_step.Row row)) (reading columns slack old portion taken filled ended record_no time) (reading columns slack new portion (taken + used) filled ended (record_no + 1) (Some (with_time time (time_of row))))
  straight_advances row used line none cuts leads =
      let rest = slice_range portion taken filled in
      let most = min (most_in_next old) (length rest) in
      let long = length-take-le most rest (omega arith) in
      let enough : used ≤ length rest = omega (arith, line.within) in
      let same : take used (take most rest) ≡ take used rest = take-take used most rest (omega (arith, line.within)) in
      let is_piece : IsPiece (take used rest) = subst IsPiece same line.piece in
      let piece : take used rest ≡ slice_range portion taken (taken + used) = sym (range_front portion taken filled used (omega (arith, enough, length-take (filled - taken) (drop taken portion)))) in
      lent_advances columns slack record_no time ended portion taken filled old new used (Ok (Some row)) (Ok (read_step.Row row)) _ (cuts rest enough is_piece) (λ _. leads rest enough is_piece)
      (row_of_line columns slack time row used (take most rest) (slice_range portion taken (taken + used)) line (same ∙ piece) none)
      (inr (refl, refl))

  -- Behind it the lines of the portion end where they did.
  pub straight_lines : (row : List Field) (used lines_end : ℕ)
      → IsNextLine row used (reading columns slack old portion taken filled ended record_no time)
      → IsReadable old portion taken filled lines_end
      → ((bytes : List ℕ) → used ≤ length bytes → IsPiece (take used bytes) → Cuts (cut.Lent used) bytes old new)
      → IsReadable new portion (taken + used) filled lines_end
  straight_lines row used lines_end line readable cuts =
      let rest = slice_range portion taken filled in
      let most = min (most_in_next old) (length rest) in
      let long = length-take-le most rest (omega arith) in
      let same : take used (take most rest) ≡ take used rest = take-take used most rest (omega (arith, line.within)) in
      lent_lines old new portion taken filled used lines_end readable (cuts rest (omega (arith, line.within)) (subst IsPiece same line.piece))
