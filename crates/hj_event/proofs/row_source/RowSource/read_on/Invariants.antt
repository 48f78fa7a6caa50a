use Rattle.std.proofs.Common.{◌≡◌, ◌≢◌}
use Rattle.hj_record.specs.Pieces.{Stream}
use Rattle.hj_event.specs.Sides.{rows_ahead, MayFollow}
use Rattle.hj_event.proofs.row_source.RowSource.read_on.Given as goal

abbrev pub invariant-loop : goal.invariant-loop
invariant-loop l = record {
  late : l.self.reading.slack ≢ 0;
  slack : l.self.reading.slack ≡ l.initial.self.reading.slack;
  ended : l.self.reading.ended ≡ l.initial.self.reading.ended;
  same : (stream : Stream) → MayFollow l.self.reading.ended stream → rows_ahead l.initial.self stream ≡ rows_ahead l.self stream;
}
