-- The rows that are still to be read of a side, by what a piece of it holds.
use Rattle.std.proofs.Common.{◌≡◌, ℕ, ◌⊎◌, inl, inr, Bool, true, false, List, ℤ, Ok, Err, None, Some, sym, ap, subst, ◌∙◌}
use Rattle.std.specs.declared.option.Option.{Option}
use Rattle.std.specs.declared.result.Result.{Result}
use Rattle.hj_value.specs.declared.column.Column.{Column}
use Rattle.hj_value.specs.declared.field.Field.{Field}
use Rattle.hj_record.specs.declared.fault.PieceFault.{PieceFault}
use Rattle.hj_record.specs.declared.fault.PieceFault.TheVariants as piece_fault
use Rattle.hj_record.specs.Pieces.{Pieces, Stream, then_pieces}
use Rattle.hj_event.specs.declared.schema.fault.RowFault.TheVariants as row_fault
use Rattle.hj_event.specs.declared.fault.RecordFault.{RecordFault}
use Rattle.hj_event.specs.declared.fault.RecordFault.TheVariants as fault
use Rattle.hj_event.specs.declared.stop.SideStop.{SideStop}
use Rattle.hj_event.specs.declared.stop.ReadStep.{ReadStep}
use Rattle.hj_event.specs.Rows.{Rows, no_row, then_rows, put_row, row_at, rows_in, bad}
use Rattle.hj_event.specs.Sides.{ReaderState, pieces_ahead, read_ahead, at_its_end, MayFollow}
use Rattle.hj_event.specs.Taking.{ReadsPiece, Holds, StepLeads, Wants, TimeGoes, stop_of}
use Rattle.hj_event.proofs.OrderLemmas.{row_at_in_time}

-- a piece in front of the others
piece_first : (columns : List Column) (slack : ℕ) (number : ℕ) (time : Option ℤ) (piece : List ℕ) (others : Pieces) (row : Result (Option (List Field)) RecordFault) → row_at columns slack time piece ≡ row → rows_in columns slack number time (then_pieces piece others) ≡ put_row number time row (λ next at. rows_in columns slack next at others)
piece_first columns slack number time piece others row is = ap (λ (r : Result (Option (List Field)) RecordFault). put_row number time r (λ next at. rows_in columns slack next at others)) is

err_leads : (number : ℕ) (why : RecordFault) (columns : List Column) (slack : ℕ) (time : Option ℤ) (piece : List ℕ) (ahead behind : Rows) → ReadsPiece (Err why) columns slack time piece → (row_at columns slack time piece ≡ Err why → ahead ≡ no_row (bad number why)) → StepLeads (Err (stop_of number why)) ahead behind
err_leads number (fault.Piece piece_fault.Memory) columns slack time piece ahead behind reads is = tt
err_leads number (fault.Row row_fault.Memory) columns slack time piece ahead behind reads is = tt
err_leads number why columns slack time piece ahead behind reads is = is reads

-- What a piece holds leads from the rows with it to the rows behind it.
pub holds_leads : (row : Result (Option (List Field)) RecordFault) (answer : Result ReadStep SideStop) (mid new : ReaderState) (piece : List ℕ) (stream : Stream) (ahead : Rows)
    → ReadsPiece row mid.columns mid.slack mid.time piece → Holds row answer mid new
    → ahead ≡ rows_in mid.columns mid.slack mid.record_no mid.time (then_pieces piece (pieces_ahead mid stream))
    → StepLeads answer ahead (read_ahead new stream)
holds_leads (Ok None) answer mid new piece stream ahead reads holds is =
    subst (λ (a : Result ReadStep SideStop). StepLeads a ahead (read_ahead new stream)) (sym holds.0)
    (is ∙ piece_first mid.columns mid.slack mid.record_no mid.time piece (pieces_ahead mid stream) (Ok None) reads ∙ ap (λ (r : ReaderState). read_ahead r stream) (sym holds.1))
holds_leads (Ok (Some row)) answer mid new piece stream ahead reads (inl memory) is =
    subst (λ (a : Result ReadStep SideStop). StepLeads a ahead (read_ahead new stream)) (sym memory.0) tt
holds_leads (Ok (Some row)) answer mid new piece stream ahead reads (inr gives) is =
    subst (λ (a : Result ReadStep SideStop). StepLeads a ahead (read_ahead new stream)) (sym gives.0)
    (is ∙ piece_first mid.columns mid.slack mid.record_no mid.time piece (pieces_ahead mid stream) (Ok (Some row)) reads ∙ ap (λ (r : ReaderState). then_rows row (read_ahead r stream)) (sym gives.1))
holds_leads (Err why) answer mid new piece stream ahead reads holds is =
    subst (λ (a : Result ReadStep SideStop). StepLeads a ahead (read_ahead new stream)) (sym holds.0)
    (err_leads mid.record_no why mid.columns mid.slack mid.time piece ahead (read_ahead new stream) reads
    (λ e. is ∙ piece_first mid.columns mid.slack mid.record_no mid.time piece (pieces_ahead mid stream) (Err why) e))

-- The pieces end in a fault.
pub bad_leads : (number : ℕ) (why : PieceFault) (ahead behind : Rows) → (why ≡ piece_fault.Memory) ⊎ (ahead ≡ no_row (bad number (fault.Piece why))) → StepLeads (Err (stop_of number (fault.Piece why))) ahead behind
bad_leads number piece_fault.Memory ahead behind is = tt
bad_leads number why ahead behind (inl memory) = cc
bad_leads number why ahead behind (inr is) = is

pub at_end_follows : (ended : Bool) (stream : Stream) → ended ≡ true → MayFollow ended stream → stream ≡ at_its_end
at_end_follows true stream e follows = follows
at_end_follows false stream e follows = cc

pub holds_ended : (row : Result (Option (List Field)) RecordFault) (answer : Result ReadStep SideStop) (old new : ReaderState) → Holds row answer old new → new.ended ≡ old.ended
holds_ended (Ok None) answer old new holds = ap (λ (r : ReaderState). r.ended) holds.1
holds_ended (Ok (Some row)) answer old new (inl memory) = ap (λ (r : ReaderState). r.ended) memory.1
holds_ended (Ok (Some row)) answer old new (inr gives) = ap (λ (r : ReaderState). r.ended) gives.1
holds_ended (Err why) answer old new holds = ap (λ (r : ReaderState). r.ended) holds.1

stops_wanting : (number : ℕ) (why : RecordFault) (side : ReaderState) (ahead : Stream → Rows) → Wants (Err (stop_of number why)) side ahead
stops_wanting number why side ahead = tt

pub holds_slack : (row : Result (Option (List Field)) RecordFault) (answer : Result ReadStep SideStop) (old new : ReaderState) → Holds row answer old new → new.slack ≡ old.slack
holds_slack (Ok None) answer old new holds = ap (λ (r : ReaderState). r.slack) holds.1
holds_slack (Ok (Some row)) answer old new (inl memory) = ap (λ (r : ReaderState). r.slack) memory.1
holds_slack (Ok (Some row)) answer old new (inr gives) = ap (λ (r : ReaderState). r.slack) gives.1
holds_slack (Err why) answer old new holds = ap (λ (r : ReaderState). r.slack) holds.1

pub stop_time : (number : ℕ) (why : RecordFault) (slack : ℕ) (before after : Option ℤ) → after ≡ before → TimeGoes (Err (stop_of number why)) slack before after
stop_time number why slack before after same = same

pub holds_time : (row : Result (Option (List Field)) RecordFault) (answer : Result ReadStep SideStop) (old new : ReaderState) (piece : List ℕ) → ReadsPiece row old.columns old.slack old.time piece → Holds row answer old new → TimeGoes answer old.slack old.time new.time
holds_time (Ok None) answer old new piece reads holds = subst (λ (a : Result ReadStep SideStop). TimeGoes a old.slack old.time new.time) (sym holds.0) (ap (λ (r : ReaderState). r.time) holds.1)
holds_time (Ok (Some row)) answer old new piece reads (inl memory) = subst (λ (a : Result ReadStep SideStop). TimeGoes a old.slack old.time new.time) (sym memory.0) (ap (λ (r : ReaderState). r.time) memory.1)
holds_time (Ok (Some row)) answer old new piece reads (inr gives) =
    subst (λ (a : Result ReadStep SideStop). TimeGoes a old.slack old.time new.time) (sym gives.0) (row_at_in_time old.columns old.slack old.time piece row reads, ap (λ (r : ReaderState). r.time) gives.1)
holds_time (Err why) answer old new piece reads holds =
    subst (λ (a : Result ReadStep SideStop). TimeGoes a old.slack old.time new.time) (sym holds.0) (stop_time old.record_no why old.slack old.time new.time (ap (λ (r : ReaderState). r.time) holds.1))

pub holds_wants : (row : Result (Option (List Field)) RecordFault) (answer : Result ReadStep SideStop) (old new : ReaderState) (ahead : Stream → Rows) → Holds row answer old new → Wants answer new ahead
holds_wants (Ok None) answer old new ahead holds = subst (λ (a : Result ReadStep SideStop). Wants a new ahead) (sym holds.0) tt
holds_wants (Ok (Some row)) answer old new ahead (inl memory) = subst (λ (a : Result ReadStep SideStop). Wants a new ahead) (sym memory.0) tt
holds_wants (Ok (Some row)) answer old new ahead (inr gives) = subst (λ (a : Result ReadStep SideStop). Wants a new ahead) (sym gives.0) tt
holds_wants (Err why) answer old new ahead holds = subst (λ (a : Result ReadStep SideStop). Wants a new ahead) (sym holds.0) (stops_wanting old.record_no why new ahead)
