use Rattle.std.proofs.Common.{◌≡◌, length}
use Rattle.hj_record.specs.Records.{without_marks}
use Rattle.hj_record.proofs.piece.without_marks.Given as goal

abbrev pub invariant-loop-piece : goal.invariant-loop-piece
invariant-loop-piece l = without_marks l.piece ≡ without_marks l.initial.piece

abbrev pub decreases-loop-piece : goal.decreases-loop-piece
decreases-loop-piece l = length l.piece
