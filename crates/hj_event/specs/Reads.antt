-- What is seen of a source of rows, and what its reads do.
use Rattle.std.specs.Prelude.{◌≡◌, ℕ, ◌-◌, ◌<◌, ◌≤◌, ◌%◌, ◌==◌, Bool, false, ℤ, List, [], length, IfErr, slice_index, slice_range}
use Rattle.std.specs.declared.option.Option.{Option}
use Rattle.std.specs.declared.result.Result.{Result}
use Rattle.hj_value.specs.declared.column.Column.{Column}
use Rattle.hj_base.specs.Outside.{RoleState}
use Rattle.hj_record.specs.Cutter.{Cutting}
use Rattle.hj_record.specs.LineEnd.{inside_after}
use Rattle.hj_record.specs.Pieces.{quotes}
use Rattle.hj_event.specs.declared.stop.SideStop.{SideStop}
use Rattle.hj_event.specs.declared.stop.SideStop.TheVariants as stop
use Rattle.hj_event.specs.Sides.{ReaderState}
use Rattle.hj_event.specs.Roles.{IsReadOn}
use Rattle.hj_event.specs.Taking.{has_failed}

abbrev pub reading : List Column → ℕ → Cutting → List ℕ → ℕ → ℕ → Bool → ℕ → Option ℤ → ReaderState
reading columns slack cutting portion taken filled ended record_no time = record {
  columns = columns;
  slack = slack;
  room = cutting.room;
  part = cutting.piece;
  rest = slice_range portion taken filled;
  fault = cutting.fault;
  ended = ended;
  record_no = record_no;
  time = time;
}

-- Of the first bytes of a portion some were looked at. The last of their lines ends in a line feed that is outside quotes, as
-- seen from the piece that has begun.
pub record IsReadable (cutting : Cutting) (portion : List ℕ) (taken filled lines_end : ℕ) : Type 0 where
  pub within : taken ≤ filled
  pub room : filled ≤ 4096
  pub going : cutting.whole ≡ false
  pub lines : lines_end ≤ filled
  pub line_feed : taken < lines_end → slice_index portion (lines_end - 1) ≡ 10
  pub outside : taken < lines_end → inside_after (quotes cutting.piece % 2 == 1) (slice_range portion taken (lines_end - 1)) ≡ false

-- A read: these bytes came, or the end, or it failed.
pub record Fills {T : Type 0} (answer : Result T SideStop) (old new : ReaderState) (before now : RoleState) : Type 0 where
  pub bytes : List ℕ
  pub reads : IsReadOn (has_failed answer) bytes false new.ended before now
  pub same : new ≡ record old { rest = bytes; ended = new.ended }
  pub within : length bytes ≤ 4096
  pub failed : IfErr answer (λ why. (why ≡ stop.Failed) × (bytes ≡ []))
