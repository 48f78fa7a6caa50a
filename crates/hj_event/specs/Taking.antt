-- What taking the next row of a side says of the rows to come, and of its role.
use Rattle.std.specs.Prelude.{◌≡◌, ◌⊎◌, ℕ, ◌+◌, ◌≤◌, Bool, true, false, ℤ, pos, ◌-ℤ◌, int_lt, List, [], ◌++◌, length, take, min, IsSome, option_to_list, Ok, Err, None, Some}
use Rattle.std.specs.declared.option.Option.{Option}
use Rattle.std.specs.declared.result.Result.{Result}
use Rattle.hj_value.specs.declared.column.Column.{Column}
use Rattle.hj_value.specs.declared.field.Field.{Field}
use Rattle.hj_value.specs.Row.{time_of}
use Rattle.hj_base.specs.declared.numbers.Memory.{Memory}
use Rattle.hj_base.specs.Outside.{RoleState}
use Rattle.hj_record.specs.declared.fault.PieceFault.TheVariants as piece_fault
use Rattle.hj_record.specs.Line.{most_from}
use Rattle.hj_record.specs.Pieces.{Stream}
use Rattle.hj_event.specs.declared.schema.fault.RowFault.TheVariants as row_fault
use Rattle.hj_event.specs.declared.fault.RecordFault.{RecordFault}
use Rattle.hj_event.specs.declared.fault.RecordFault.TheVariants as fault
use Rattle.hj_event.specs.declared.stop.SideStop.{SideStop}
use Rattle.hj_event.specs.declared.stop.SideStop.TheVariants as stop
use Rattle.hj_event.specs.declared.row_source.Ahead.{Ahead}
use Rattle.hj_event.specs.declared.row_source.Ahead.TheVariants as ahead
use Rattle.hj_event.specs.declared.row_source.LineStep.{LineStep}
use Rattle.hj_event.specs.declared.row_source.LineStep.TheVariants as line_step
use Rattle.hj_event.specs.declared.stop.ReadStep.{ReadStep}
use Rattle.hj_event.specs.declared.stop.ReadStep.TheVariants as read_step
use Rattle.hj_event.specs.Lines.{IsLineOf}
use Rattle.hj_event.specs.Rows.{Rows, no_row, then_rows, row_at, in_time, with_time, is_sure, clean, bad, unread}
use Rattle.hj_event.specs.Sides.{ReaderState, SideState, in_front, at_its_end, cut_off, MayFollow, Follows, read_ahead, rows_ahead, side_ahead}
use Rattle.hj_event.specs.Roles.{IsReadOn, IsUnread}
use Rattle.hj_event.specs.Waiting.{has_sure}

-- The row of a piece, behind rows of which the greatest time is this, unless memory ran out.
abbrev pub ReadsPiece : Result (Option (List Field)) RecordFault → List Column → ℕ → Option ℤ → List ℕ → Type 0
ReadsPiece (Ok row) columns slack greatest piece = row_at columns slack greatest piece ≡ Ok row
ReadsPiece (Err (fault.Piece piece_fault.Memory)) columns slack greatest piece = Unit {0}
ReadsPiece (Err (fault.Row row_fault.Memory)) columns slack greatest piece = Unit {0}
ReadsPiece (Err why) columns slack greatest piece = row_at columns slack greatest piece ≡ Err why

-- A row behind rows of which the greatest time is this.
abbrev pub InTime : Result (List Field) RecordFault → ℕ → Option ℤ → List Field → Type 0
InTime (Ok same) slack greatest row = (same ≡ row) × (in_time slack greatest row ≡ Ok (Some row))
InTime (Err (fault.TimeBack above below)) slack greatest row = in_time slack greatest row ≡ Err (fault.TimeBack above below)
InTime (Err why) slack greatest row = ⊥

-- whether a row of this time comes too late behind rows of which the greatest time is this
abbrev pub is_late : ℕ → Option ℤ → ℤ → Bool
is_late slack None time = false
is_late slack (Some greatest) time = int_lt time (greatest -ℤ pos slack)

-- how many of the bytes that were read the next piece may have
abbrev pub most_in_line : ReaderState → ℕ
most_in_line side = min (most_from side.fault side.part side.room) (length side.rest)

-- The next bytes of those, so many, are a line, and this is the row of its record.
abbrev pub IsNextLine : List Field → ℕ → ReaderState → Type 0
IsNextLine row used side = IsLineOf side.columns row used (take (most_in_line side) side.rest)

-- why the stream stops at the record of this number
abbrev pub stop_of : ℕ → RecordFault → SideStop
stop_of at (fault.Piece piece_fault.Memory) = stop.Memory
stop_of at (fault.Row row_fault.Memory) = stop.Memory
stop_of at why = stop.Bad at why

-- the side behind a row
abbrev pub counted : List Field → ReaderState → ReaderState
counted row side = record side { record_no = side.record_no + 1; time = Some (with_time side.time (time_of row)) }

-- What a piece that was read holds.
abbrev pub Holds : Result (Option (List Field)) RecordFault → Result ReadStep SideStop → ReaderState → ReaderState → Type 0
Holds (Ok None) answer old new = (answer ≡ Ok read_step.NoRecord) × (new ≡ old)
Holds (Ok (Some row)) answer old new = ((answer ≡ Err stop.Memory) × (new ≡ old)) ⊎ ((answer ≡ Ok (read_step.Row row)) × (new ≡ counted row old))
Holds (Err why) answer old new = (answer ≡ Err (stop_of old.record_no why)) × (new ≡ old)

-- Looking at the bytes that were read, up to the end of a piece: of the rows to come before and after. After a stop nothing
-- is said of those after.
abbrev pub StepLeads : Result ReadStep SideStop → Rows → Rows → Type 0
StepLeads (Ok (read_step.Row row)) ahead behind = ahead ≡ then_rows row behind
StepLeads (Ok read_step.NoRecord) ahead behind = ahead ≡ behind
StepLeads (Ok read_step.More) ahead behind = ahead ≡ behind
StepLeads (Ok read_step.End) ahead behind = (ahead ≡ no_row clean) × (behind ≡ no_row clean)
StepLeads (Err (stop.Bad at why)) ahead behind = ahead ≡ no_row (bad at why)
StepLeads (Err stop.Failed) ahead behind = ⊥
StepLeads (Err stop.Memory) ahead behind = Unit {0}

-- More bytes are wanted only before the end: nothing is left to look at, and a stream that is cut off here has no more rows.
abbrev pub Wants : Result ReadStep SideStop → ReaderState → (Stream → Rows) → Type 0
Wants (Ok read_step.More) side ahead = (side.ended ≡ false) × (side.rest ≡ []) × (ahead cut_off ≡ no_row unread)
Wants (Ok read_step.End) side ahead = side.ended ≡ true
Wants answer side ahead = Unit {0}

-- The greatest time goes on with a row, which is in time.
abbrev pub TimeGoes : Result ReadStep SideStop → ℕ → Option ℤ → Option ℤ → Type 0
TimeGoes (Ok (read_step.Row row)) slack before after = (in_time slack before row ≡ Ok (Some row)) × (after ≡ Some (with_time before (time_of row)))
TimeGoes answer slack before after = after ≡ before

-- The bytes of a side are looked at up to the end of a piece.
pub record Advances (answer : Result ReadStep SideStop) (old new : ReaderState) : Type 0 where
  pub ended : new.ended ≡ old.ended
  pub slack : new.slack ≡ old.slack
  pub time : TimeGoes answer old.slack old.time new.time
  pub leads : (stream : Stream) → MayFollow new.ended stream → StepLeads answer (read_ahead old stream) (read_ahead new stream)
  pub wants : Wants answer new (read_ahead new)

-- The row of the next line is taken, or nothing changes.
abbrev pub TakesNextLine : Result (Option (List Field)) Memory → ReaderState → ReaderState → Type 0
TakesNextLine (Ok (Some row)) old new = Advances (Ok (read_step.Row row)) old new
TakesNextLine (Ok None) old new = new ≡ old
TakesNextLine (Err why) old new = new ≡ old

-- A side goes on by a piece, or by a row that waited.
pub record SideGoesOn (answer : Result ReadStep SideStop) (old new : SideState) : Type 0 where
  pub ended : new.reading.ended ≡ old.reading.ended
  pub leads : (stream : Stream) → MayFollow new.reading.ended stream → StepLeads answer (rows_ahead old stream) (rows_ahead new stream)
  pub wants : Wants answer new.reading (rows_ahead new)

-- Taking the next row, or coming to the end.
abbrev pub RowLeads : Result (Option (List Field)) SideStop → Rows → Rows → Type 0
RowLeads (Ok (Some row)) ahead behind = ahead ≡ then_rows row behind
RowLeads (Ok None) ahead behind = (ahead ≡ no_row clean) × (behind ≡ no_row clean)
RowLeads (Err (stop.Bad at why)) ahead behind = ahead ≡ no_row (bad at why)
RowLeads (Err stop.Failed) ahead behind = ahead ≡ no_row unread
RowLeads (Err stop.Memory) ahead behind = Unit {0}

abbrev pub has_failed : {T : Type 0} → Result T SideStop → Bool
has_failed (Ok x) = false
has_failed (Err (stop.Bad at why)) = false
has_failed (Err stop.Failed) = true
has_failed (Err stop.Memory) = false

abbrev pub EndsSide : Result (Option (List Field)) SideStop → Bool → Type 0
EndsSide (Ok None) ended = ended ≡ true
EndsSide answer ended = Unit {0}

-- A side has ended, and no row is still to be read.
abbrev pub IsSideOver : ReaderState → Type 0
IsSideOver side = (side.ended ≡ true) × (read_ahead side at_its_end ≡ no_row clean)

-- the record that is refused, where it is known
abbrev pub refused_in : Ahead → Option (ℕ × RecordFault)
refused_in ahead.Unknown = None
refused_in ahead.Over = None
refused_in (ahead.Refused at why) = Some (at, why)

-- What is known of what comes after the rows that wait is so.
abbrev pub IsKnown : Ahead → ReaderState → Type 0
IsKnown ahead.Unknown side = Unit {0}
IsKnown ahead.Over side = IsSideOver side
IsKnown (ahead.Refused at why) side = Unit {0}

-- The next row is sure, where it is known.
abbrev pub IsNextRow : Option (List Field) → ReaderState → Ahead → Type 0
IsNextRow None side known = Unit {0}
IsNextRow (Some row) side known = (known ≡ ahead.Unknown) × (is_sure side.slack side.time row ≡ true)

-- What a side keeps behind its reader. Without a slack no row waits, and nothing is known of what comes behind those that do.
pub record KeepsBehind (side : ReaderState) (next : Option (List Field)) (waiting : List (List Field)) (known : Ahead) : Type 0 where
  pub without : side.slack ≡ 0 → (option_to_list next ++ waiting ≡ []) × (known ≡ ahead.Unknown)
  pub is_known : IsKnown known side
  pub is_next : IsNextRow next side known

-- what was found where rows wait: more bytes are wanted, or what was read is kept
abbrev pub step_by : Result Bool Memory → Result ReadStep SideStop
step_by (Ok true) = Ok read_step.More
step_by (Ok false) = Ok read_step.NoRecord
step_by (Err why) = Err stop.Memory

-- what was found where the row of a piece was read, or memory ran out
abbrev pub read_by : {T : Type 0} → Result T Memory → Result ReadStep SideStop
read_by (Ok found) = Ok read_step.NoRecord
read_by (Err why) = Err stop.Memory

-- a side with these rows that wait, whose next row isn't known
abbrev pub late_side : ReaderState → List (List Field) → SideState
late_side reading waiting = record { head = None; reading = reading; waiting = waiting; stop = None }

-- Lines were read, and the first row that waits then is taken as the next one, if it is sure.
pub record ReadsLines (next : Option (List Field)) (old : ReaderState) (before : List (List Field)) (new : ReaderState) (after : List (List Field)) : Type 0 where
  pub goes_on : SideGoesOn (Ok read_step.NoRecord) (late_side old before) (late_side new (option_to_list next ++ after))
  pub is_next : IsNextRow next new ahead.Unknown

-- A line was read, whose row waits then.
abbrev pub ReadsLine : LineStep → ReaderState → List (List Field) → ReaderState → List (List Field) → Type 0
ReadsLine (line_step.Next row) old before new after = ReadsLines (Some row) old before new after
ReadsLine line_step.NoneSure old before new after = ReadsLines None old before new after × (has_sure new.slack new.time after ≡ false)
ReadsLine line_step.NoLine old before new after = (new ≡ old) × (after ≡ before)

-- These bytes were needed: the side hadn't ended, and without the last ones, of at most one read, what was read of it gives no row.
pub record IsNeeded (side : SideState) (bytes : List ℕ) : Type 0 where
  pub going : side.reading.ended ≡ false
  pub earlier : List ℕ
  pub last : List ℕ
  pub is : bytes ≡ earlier ++ last
  pub one_read : length last ≤ 4096
  pub missing : rows_ahead side (in_front earlier cut_off) ≡ no_row unread

-- A side whose head is known isn't read. Else it is read only as far as the next row needs it.
abbrev pub IsReadAsNeeded : Option (List Field) → SideState → List ℕ → RoleState → RoleState → Type 0
IsReadAsNeeded (Some row) side bytes before now = IsUnread bytes before now
IsReadAsNeeded None side bytes before now = IsUnread bytes before now ⊎ IsNeeded side bytes

-- What was read of a side tells a row, or the fault in place of it.
abbrev pub TellsRow : ReaderState → Type 0
TellsRow side = ¬ (read_ahead side cut_off ≡ no_row unread)

-- What was read of a side tells its next row, or the fault in place of it.
abbrev pub TellsNext : SideState → Type 0
TellsNext side = ¬ (rows_ahead side cut_off ≡ no_row unread)

-- What comes next of a side is told without a read: its head is known, or its end, or what was read tells it.
abbrev pub IsTold : SideState → Type 0
IsTold side = IsSome side.head ⊎ (side.reading.ended ≡ true) ⊎ TellsNext side

pub record TakesRow (answer : Result (Option (List Field)) SideStop) (old new : SideState) (before now : RoleState) : Type 0 where
  pub bytes : List ℕ
  pub reads : IsReadOn (has_failed answer) bytes old.reading.ended new.reading.ended before now
  pub leads : (stream : Stream) → Follows (has_failed answer) new.reading.ended stream → RowLeads answer (side_ahead old (in_front bytes stream)) (side_ahead new stream)
  pub ended : EndsSide answer new.reading.ended
  pub needed : IsReadAsNeeded old.head old bytes before now

-- The first row of a side is looked at: it is the head then. Without a head the side has no more rows.
abbrev pub LooksAt : {T : Type 0} → Result T SideStop → SideState → SideState → RoleState → RoleState → Type 0
LooksAt (Ok done) old new before now = TakesRow (Ok new.head) old (record new { head = None }) before now
LooksAt (Err why) old new before now = TakesRow (Err why) old new before now

-- The next row is taken, where it is known, or its line is read straight. Else nothing changes.
abbrev pub TakesStraight : Result (Option (List Field)) Memory → SideState → SideState → Type 0
TakesStraight (Ok (Some row)) old new = SideGoesOn (Ok (read_step.Row row)) old new
TakesStraight (Ok None) old new = new ≡ old
TakesStraight (Err why) old new = SideGoesOn (Err stop.Memory) old new

-- a side whose next row wasn't looked at
abbrev pub unseen : SideState → SideState
unseen side = record side { head = None }
