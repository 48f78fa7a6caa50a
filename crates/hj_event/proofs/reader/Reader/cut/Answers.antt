use Rattle.std.proofs.Common.{◌+◌, subst}
use Rattle.hj_record.specs.Cutter.{Cutting}
use Rattle.hj_event.specs.Reads.{reading}
use Rattle.hj_event.specs.Taking.{Holds}
use Rattle.hj_event.proofs.LineLemmas.{kept_lines, lent_lines}
use Rattle.hj_event.proofs.ReaderLemmas.{lent_advances, piece_advances, more_advances, close_advances, bad_advances}
use Rattle.hj_event.proofs.reader.Reader.cut.Goals as goal

pub returns-in-Lent : goal.returns-in-Lent
returns-in-Lent c =
    rw (← c.self.view_is)
    (lent_advances c.self.inside.schema.columns c.self.inside.slack c.self.inside.record_no c.self.inside.greatest c.self.inside.ended c.self.inside.portion c.self.inside.taken c.self.inside.filled c.self.inside.cutter c.cut.new.self c.in-Lent.used c.read_record-row.result c.hold.result c.hold.new.self c.in-Lent.ensures.takes c.in-Lent.ensures.leads c.read_record-row.ensures c.hold.ensures)

pub returns-in-Piece : goal.returns-in-Piece
returns-in-Piece c =
    rw (← c.self.view_is)
    (piece_advances c.self.inside.schema.columns c.self.inside.slack c.self.inside.record_no c.self.inside.greatest c.self.inside.ended c.self.inside.portion c.self.inside.taken c.self.inside.filled c.self.inside.cutter c.cut.new.self c.in-Piece.used c.read_kept-row.result c.hold-in-Piece.result c.hold-in-Piece.new.self c.in-Piece.ensures.takes c.in-Piece.ensures.leads c.read_kept-row.ensures.row
    (subst (λ (k : Cutting). Holds c.read_kept-row.result c.hold-in-Piece.result (reading c.self.inside.schema.columns c.self.inside.slack k c.self.inside.portion (c.self.inside.taken + c.in-Piece.used) c.self.inside.filled c.self.inside.ended c.self.inside.record_no c.self.inside.greatest) c.hold-in-Piece.new.self) c.read_kept-row.ensures.cleared c.hold-in-Piece.ensures))

pub returns-then-self : goal.returns-then-self
returns-then-self c =
    rw (← c.self.view_is) (close_advances c.self.inside.schema.columns c.self.inside.slack c.self.inside.record_no c.self.inside.greatest c.self.inside.ended c.self.inside.portion c.self.inside.taken c.self.inside.filled c.self.inside.cutter c.cut.new.self c.close.result c.close.new.self c.in-More.ensures.takes c.in-More.ensures.leads c.close.ensures)

pub returns-else-self : goal.returns-else-self
returns-else-self c =
    rw (← c.self.view_is) (more_advances c.self.inside.schema.columns c.self.inside.slack c.self.inside.record_no c.self.inside.greatest c.self.inside.ended c.self.inside.portion c.self.inside.taken c.self.inside.filled c.self.inside.cutter c.cut.new.self c.if-self.false c.in-More.ensures.takes c.in-More.ensures.leads)

pub returns-in-Bad : goal.returns-in-Bad
returns-in-Bad c =
    rw (c.stop.ensures, ← c.self.view_is) (bad_advances c.self.inside.schema.columns c.self.inside.slack c.self.inside.record_no c.self.inside.greatest c.self.inside.ended c.self.inside.portion c.self.inside.taken c.self.inside.filled c.self.inside.cutter c.cut.new.self c.in-Bad.fault c.in-Bad.ensures.takes c.in-Bad.ensures.leads)

pub invariant_of-self : goal.invariant_of-self
invariant_of-self c =
    lent_lines c.self.inside.cutter c.cut.new.self c.self.inside.portion c.self.inside.taken c.self.inside.filled c.in-Lent.used c.self.inside.lines_end c.self.invariant c.in-Lent.ensures.takes

pub invariant_of-self-in-Piece : goal.invariant_of-self-in-Piece
invariant_of-self-in-Piece c =
    kept_lines c.self.inside.cutter c.cut.new.self c.read_kept-row.new.cutter c.self.inside.portion c.self.inside.taken c.self.inside.filled c.in-Piece.used c.self.inside.lines_end c.self.invariant c.in-Piece.ensures.takes c.read_kept-row.ensures.cleared
