-- The rows of a side as they are read, by what its bytes give and what a read brings.
use Rattle.std.proofs.Common.{◌≡◌, ℕ, ◌+◌, ◌-◌, ◌≤◌, inl, inr, Bool, true, false, List, [], ◌++◌, length, drop, ℤ, Ok, Err, None, sym, refl, ap, subst, ◌∙◌, arith}
use Rattle.std.specs.List.{slice_range}
use Rattle.std.proofs.lemmas.List.{length-take, length-drop, nil_from_length}
use Rattle.std.specs.declared.option.Option.{Option}
use Rattle.std.specs.declared.result.Result.{Result}
use Rattle.hj_value.specs.declared.column.Column.{Column}
use Rattle.hj_value.specs.declared.field.Field.{Field}
use Rattle.hj_base.specs.declared.outside.Got.TheVariants as got
use Rattle.hj_base.specs.Outside.{RoleState, Reads}
use Rattle.hj_record.specs.declared.fault.PieceFault.{PieceFault}
use Rattle.hj_record.specs.declared.cutter.Cut.TheVariants as cut
use Rattle.hj_record.specs.declared.cutter.Fed.TheVariants as fed
use Rattle.hj_record.specs.Cutter.{Cutting, cleared, EndsStream, LeadsAtEnd}
use Rattle.hj_record.specs.Cuts.{Cuts, LeadsBy}
use Rattle.hj_record.specs.Pieces.{Pieces, Stream, then_pieces}
use Rattle.hj_event.specs.declared.fault.RecordFault.{RecordFault}
use Rattle.hj_event.specs.declared.fault.RecordFault.TheVariants as fault
use Rattle.hj_event.specs.declared.stop.SideStop.{SideStop}
use Rattle.hj_event.specs.declared.stop.SideStop.TheVariants as stop
use Rattle.hj_event.specs.declared.stop.ReadStep.{ReadStep}
use Rattle.hj_event.specs.declared.stop.ReadStep.TheVariants as read_step
use Rattle.hj_event.specs.Rows.{Rows, rows_in}
use Rattle.hj_event.specs.Sides.{ReaderState, at_its_end, MayFollow, pieces_ahead, read_ahead}
use Rattle.hj_event.specs.Reads.{reading, Fills}
use Rattle.hj_event.specs.Roles.{IsReadOn, IsInStep}
use Rattle.hj_event.specs.Taking.{ReadsPiece, Holds, StepLeads, Advances, TimeGoes, stop_of}
use Rattle.hj_event.proofs.Pieces.{range_rest, range_front, range_none, ahead_of, lent_within, piece_within, lent_ahead, piece_ahead, more_ahead, bad_ahead, last_ahead}
use Rattle.hj_event.proofs.RowLemmas.{holds_leads, bad_leads, at_end_follows, holds_ended, holds_slack, holds_time, holds_wants, stop_time}
use Rattle.hj_event.proofs.RoleLemmas.{reads_end, reads_failed}

-- ---- one piece

part_within : (portion : List ℕ) (taken filled used : ℕ) → used ≤ length (slice_range portion taken filled) → used ≤ filled - taken
part_within portion taken filled used le = omega (arith, le, length-take (filled - taken) (drop taken portion))

holds_advances : (row : Result (Option (List Field)) RecordFault) (answer : Result ReadStep SideStop) (old mid new : ReaderState) (piece : List ℕ) → ReadsPiece row mid.columns mid.slack mid.time piece → Holds row answer mid new → mid.ended ≡ old.ended → mid.slack ≡ old.slack → mid.time ≡ old.time
    → ((stream : Stream) → MayFollow mid.ended stream → read_ahead old stream ≡ rows_in mid.columns mid.slack mid.record_no mid.time (then_pieces piece (pieces_ahead mid stream)))
    → Advances answer old new
holds_advances row answer old mid new piece reads holds same as_late as_great is =
    let ends = holds_ended row answer mid new holds in
    record {
      ended = ends ∙ same;
      slack = holds_slack row answer mid new holds ∙ as_late;
      time = subst (λ (slack : ℕ). TimeGoes answer slack old.time new.time) as_late
          (subst (λ (time : Option ℤ). TimeGoes answer mid.slack time new.time) as_great (holds_time row answer mid new piece reads holds));
      leads = λ stream follows. holds_leads row answer mid new piece stream (read_ahead old stream) reads holds (is stream (subst (λ (e : Bool). MayFollow e stream) ends follows));
      wants = holds_wants row answer mid new (read_ahead new) holds;
    }

advances_behind : (answer : Result ReadStep SideStop) (old mid new : ReaderState) → ((stream : Stream) → read_ahead old stream ≡ read_ahead mid stream) → mid.ended ≡ old.ended → mid.slack ≡ old.slack → mid.time ≡ old.time → Advances answer mid new → Advances answer old new
advances_behind answer old mid new is same as_late as_great advances = record {
  ended = advances.ended ∙ same;
  slack = advances.slack ∙ as_late;
  time = subst (λ (slack : ℕ). TimeGoes answer slack old.time new.time) as_late (subst (λ (time : Option ℤ). TimeGoes answer mid.slack time new.time) as_great advances.time);
  leads = λ stream follows. subst (λ (ahead : Rows). StepLeads answer ahead (read_ahead new stream)) (sym (is stream)) (advances.leads stream follows);
  wants = advances.wants;
}

module _ (columns : List Column) (slack : ℕ) (record_no : ℕ) (time : Option ℤ) (ended : Bool) (portion : List ℕ) (taken filled : ℕ) (old new : Cutting) where
  pub lent_advances : (used : ℕ) (row : Result (Option (List Field)) RecordFault) (answer : Result ReadStep SideStop) (behind : ReaderState)
      → Cuts (cut.Lent used) (slice_range portion taken filled) old new → (old.fault ≡ None → LeadsBy (cut.Lent used) (slice_range portion taken filled) old new)
      → ReadsPiece row columns slack time (slice_range portion taken (taken + used))
      → Holds row answer (reading columns slack new portion (taken + used) filled ended record_no time) behind
      → Advances answer (reading columns slack old portion taken filled ended record_no time) behind
  lent_advances used row answer behind cuts leads reads holds =
      let within : used ≤ filled - taken = part_within portion taken filled used (lent_within old new (slice_range portion taken filled) used cuts) in
      let mid = reading columns slack new portion (taken + used) filled ended record_no time in
      holds_advances row answer (reading columns slack old portion taken filled ended record_no time) mid behind (slice_range portion taken (taken + used)) reads holds refl refl refl
      (λ stream follows. ap (rows_in columns slack record_no time) (
      lent_ahead old new (slice_range portion taken filled) used cuts leads stream.bytes stream.whole
      ∙ ap (λ (piece : List ℕ). then_pieces piece (ahead_of new (drop used (slice_range portion taken filled) ++ stream.bytes) stream.whole)) (sym (range_front portion taken filled used within))
      ∙ ap (λ (rest : List ℕ). then_pieces (slice_range portion taken (taken + used)) (ahead_of new (rest ++ stream.bytes) stream.whole)) (sym (range_rest portion taken filled used within))))

  pub piece_advances : (used : ℕ) (row : Result (Option (List Field)) RecordFault) (answer : Result ReadStep SideStop) (behind : ReaderState)
      → Cuts (cut.Piece used) (slice_range portion taken filled) old new → (old.fault ≡ None → LeadsBy (cut.Piece used) (slice_range portion taken filled) old new)
      → ReadsPiece row columns slack time new.piece
      → Holds row answer (reading columns slack (cleared new) portion (taken + used) filled ended record_no time) behind
      → Advances answer (reading columns slack old portion taken filled ended record_no time) behind
  piece_advances used row answer behind cuts leads reads holds =
      let within : used ≤ filled - taken = part_within portion taken filled used (piece_within old new (slice_range portion taken filled) used cuts) in
      let mid = reading columns slack (cleared new) portion (taken + used) filled ended record_no time in
      holds_advances row answer (reading columns slack old portion taken filled ended record_no time) mid behind new.piece reads holds refl refl refl
      (λ stream follows. ap (rows_in columns slack record_no time) (
      piece_ahead old new (slice_range portion taken filled) used cuts leads stream.bytes stream.whole
      ∙ ap (λ (rest : List ℕ). then_pieces new.piece (ahead_of (cleared new) (rest ++ stream.bytes) stream.whole)) (sym (range_rest portion taken filled used within))))

  -- all bytes were looked at
  all_taken : Cuts cut.More (slice_range portion taken filled) old new → (old.fault ≡ None → LeadsBy cut.More (slice_range portion taken filled) old new)
      → (stream : Stream) → read_ahead (reading columns slack old portion taken filled ended record_no time) stream ≡ read_ahead (reading columns slack new portion filled filled ended record_no time) stream
  all_taken cuts leads stream =
      let goes = more_ahead old new (slice_range portion taken filled) cuts leads in
      ap (rows_in columns slack record_no time) (
      goes.ahead stream.bytes stream.whole
      ∙ ap (λ (rest : List ℕ). ahead_of new (rest ++ stream.bytes) stream.whole) (sym (range_none portion filled)))

  pub more_advances : ended ≡ false → Cuts cut.More (slice_range portion taken filled) old new → (old.fault ≡ None → LeadsBy cut.More (slice_range portion taken filled) old new)
      → Advances (Ok read_step.More) (reading columns slack old portion taken filled ended record_no time) (reading columns slack new portion filled filled ended record_no time)
  more_advances going cuts leads =
      let goes = more_ahead old new (slice_range portion taken filled) cuts leads in
      record {
        ended = refl;
        slack = refl;
        time = refl;
        leads = λ stream follows. all_taken cuts leads stream;
        wants = (
          going,
          range_none portion filled,
          ap (rows_in columns slack record_no time) (ap (λ (rest : List ℕ). ahead_of new (rest ++ []) false) (range_none portion filled) ∙ goes.cut_off),
        );
      }

  pub close_advances : (answer : Result ReadStep SideStop) (behind : ReaderState) → Cuts cut.More (slice_range portion taken filled) old new → (old.fault ≡ None → LeadsBy cut.More (slice_range portion taken filled) old new)
      → Advances answer (reading columns slack new portion filled filled ended record_no time) behind
      → Advances answer (reading columns slack old portion taken filled ended record_no time) behind
  close_advances answer behind cuts leads advances =
      advances_behind answer (reading columns slack old portion taken filled ended record_no time) (reading columns slack new portion filled filled ended record_no time) behind (all_taken cuts leads) refl refl refl advances

  pub bad_advances : (why : PieceFault) → Cuts (cut.Bad why) (slice_range portion taken filled) old new → (old.fault ≡ None → LeadsBy (cut.Bad why) (slice_range portion taken filled) old new)
      → Advances (Err (stop_of record_no (fault.Piece why))) (reading columns slack old portion taken filled ended record_no time) (reading columns slack new portion taken filled ended record_no time)
  bad_advances why cuts leads =
      record {
        ended = refl;
        slack = refl;
        time = stop_time record_no (fault.Piece why) slack time time refl;
        leads = λ stream follows. bad_leads record_no why (read_ahead (reading columns slack old portion taken filled ended record_no time) stream) (read_ahead (reading columns slack new portion taken filled ended record_no time) stream)
            (elim (bad_ahead old new (slice_range portion taken filled) why cuts leads) [ inl memory ↦ inl memory | inr is ↦ inr (ap (rows_in columns slack record_no time) (is stream.bytes stream.whole)) ]);
        wants = tt;
      }

-- ---- the last piece

-- at its end a side has the pieces that its cutter says
ahead_at_end : (old : ReaderState) (cutting : Cutting) → old.room ≡ cutting.room → old.part ≡ cutting.piece → old.fault ≡ cutting.fault → old.rest ≡ [] → pieces_ahead old at_its_end ≡ ahead_of cutting [] true
ahead_at_end old cutting room part fault rest =
    ap (λ (r : List ℕ). pieces_ahead (record old { rest = r }) at_its_end) rest
    ∙ ap (λ (k : ℕ). pieces_ahead (record old { rest = []; room = k }) at_its_end) room
    ∙ ap (λ (p : List ℕ). pieces_ahead (record old { rest = []; room = cutting.room; part = p }) at_its_end) part
    ∙ ap (λ (f : Option PieceFault). pieces_ahead (record old { rest = []; room = cutting.room; part = cutting.piece; fault = f }) at_its_end) fault

rows_at_end : (old mid : ReaderState) (pieces : Pieces) (stream : Stream) → old.ended ≡ true → MayFollow old.ended stream → pieces_ahead old at_its_end ≡ pieces → read_ahead old stream ≡ rows_in old.columns old.slack old.record_no old.time pieces
rows_at_end old mid pieces stream ends follows is =
    ap (read_ahead old) (at_end_follows old.ended stream ends follows) ∙ ap (rows_in old.columns old.slack old.record_no old.time) is

module _ (columns : List Column) (slack : ℕ) (record_no : ℕ) (time : Option ℤ) (ended : Bool) (portion : List ℕ) (taken filled : ℕ) (old new : Cutting) (ends : ended ≡ true) (none : slice_range portion taken filled ≡ []) where
  at_end : (cutting : Cutting) → pieces_ahead (reading columns slack cutting portion taken filled ended record_no time) at_its_end ≡ ahead_of cutting [] true
  at_end cutting = ahead_at_end (reading columns slack cutting portion taken filled ended record_no time) cutting refl refl refl none

  pub last_advances : (used : ℕ) (row : Result (Option (List Field)) RecordFault) (answer : Result ReadStep SideStop) (behind : ReaderState)
      → EndsStream (fed.Piece used) old new → (old.fault ≡ None → LeadsAtEnd (fed.Piece used) old new)
      → ReadsPiece row columns slack time new.piece
      → Holds row answer (reading columns slack (cleared new) portion taken filled ended record_no time) behind
      → Advances answer (reading columns slack old portion taken filled ended record_no time) behind
  last_advances used row answer behind closes leads reads holds =
      let before = reading columns slack old portion taken filled ended record_no time in
      let mid = reading columns slack (cleared new) portion taken filled ended record_no time in
      holds_advances row answer before mid behind new.piece reads holds refl refl refl
      (λ stream follows. rows_at_end before mid (then_pieces new.piece (pieces_ahead mid stream)) stream ends follows
      (at_end old ∙ (last_ahead old new used closes leads).0
      ∙ ap (then_pieces new.piece) (sym (at_end (cleared new)) ∙ ap (pieces_ahead mid) (sym (at_end_follows ended stream ends follows)))))

-- ---- a read

-- A read that answered the end.
pub fills_end : (old new : ReaderState) (before after : RoleState) (buf : List ℕ) → IsInStep false before → Reads got.End buf before after → old.rest ≡ [] → new ≡ record old { ended = true } → Fills {T = Unit {0}} (Ok (tt {0})) old new before after
fills_end old new before after buf step reads none same =
    let ends : new.ended ≡ true = ap (λ (r : ReaderState). r.ended) same in
    record {
      bytes = [];
      reads = subst (λ (e : Bool). IsReadOn false [] false e before after) (sym ends) (reads_end before after buf step reads);
      same = same ∙ (ap (λ (rest : List ℕ). record old { rest = rest; ended = true }) none ∙ ap (λ (e : Bool). record old { rest = []; ended = e }) (sym ends));
      within = omega arith;
      failed = tt;
    }

-- A read that failed.
pub fills_failed : (old new : ReaderState) (before after : RoleState) (buf : List ℕ) → IsInStep false before → Reads got.Failed buf before after → old.ended ≡ false → old.rest ≡ [] → new ≡ old → Fills {T = Unit {0}} (Err stop.Failed) old new before after
fills_failed old new before after buf step reads going none same =
    let goes : new.ended ≡ false = ap (λ (r : ReaderState). r.ended) same ∙ going in
    record {
      bytes = [];
      reads = subst (λ (e : Bool). IsReadOn true [] false e before after) (sym goes) (reads_failed before after buf step reads);
      same = same ∙ (ap (λ (rest : List ℕ). record old { rest = rest }) none ∙ ap (λ (e : Bool). record old { rest = []; ended = e }) (ap (λ (r : ReaderState). r.ended) (sym same)));
      within = omega arith;
      failed = (refl, refl);
    }

range_empty : (xs ys : List ℕ) (taken filled : ℕ) → length ys ≡ length xs → slice_range xs taken filled ≡ [] → slice_range ys taken filled ≡ []
range_empty xs ys taken filled same none =
    nil_from_length (slice_range ys taken filled)
    (omega (arith, same, ap length none, length-take (filled - taken) (drop taken xs), length-take (filled - taken) (drop taken ys), length-drop taken xs, length-drop taken ys))

-- Where all bytes of a portion were looked at, the bytes of the next one aren't seen before they are counted.
pub still_same : (columns : List Column) (slack : ℕ) (cutting : Cutting) (portion buf : List ℕ) (taken filled : ℕ) (ended : Bool) (record_no : ℕ) (time : Option ℤ) (old : ReaderState) → reading columns slack cutting portion taken filled ended record_no time ≡ old → old.rest ≡ [] → length buf ≡ length portion
    → reading columns slack cutting buf taken filled ended record_no time ≡ old
still_same columns slack cutting portion buf taken filled ended record_no time old is rest same =
    let none : slice_range portion taken filled ≡ [] = ap (λ (r : ReaderState). r.rest) is ∙ rest in
    let still : slice_range buf taken filled ≡ slice_range portion taken filled = range_empty portion buf taken filled same none ∙ sym none in
    ap (λ (bytes : List ℕ). record (reading columns slack cutting portion taken filled ended record_no time) { rest = bytes }) still ∙ is

pub end_same : (columns : List Column) (slack : ℕ) (cutting : Cutting) (portion buf : List ℕ) (taken filled : ℕ) (ended : Bool) (record_no : ℕ) (time : Option ℤ) (old : ReaderState) → reading columns slack cutting portion taken filled ended record_no time ≡ old → old.rest ≡ [] → length buf ≡ length portion
    → reading columns slack cutting buf taken filled true record_no time ≡ record old { ended = true }
end_same columns slack cutting portion buf taken filled ended record_no time old is rest same =
    ap (λ (r : ReaderState). record r { ended = true }) (still_same columns slack cutting portion buf taken filled ended record_no time old is rest same)
