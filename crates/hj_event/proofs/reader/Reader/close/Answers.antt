use Rattle.std.proofs.Common.{ap, subst, ◌∙◌}
use Rattle.hj_record.specs.Cutter.{Cutting}
use Rattle.hj_event.specs.Sides.{ReaderState}
use Rattle.hj_event.specs.Reads.{reading}
use Rattle.hj_event.specs.Taking.{Holds}
use Rattle.hj_event.proofs.ReaderLemmas.{last_advances}
use Rattle.hj_event.proofs.reader.Reader.close.Goals as goal

pub returns-in-Piece : goal.returns-in-Piece
returns-in-Piece c =
    rw (← c.self.view_is)
    (last_advances c.self.inside.schema.columns c.self.inside.slack c.self.inside.record_no c.self.inside.greatest c.self.inside.ended c.self.inside.portion c.self.inside.taken c.self.inside.filled c.self.inside.cutter c.end.new.self
    (ap (λ (r : ReaderState). r.ended) c.self.view_is ∙ c.requires.ended) (ap (λ (r : ReaderState). r.rest) c.self.view_is ∙ c.requires.rest)
    c.in-Piece.field-0 c.read_kept-row.result c.hold.result c.hold.new.self c.in-Piece.ensures.ends c.in-Piece.ensures.leads c.read_kept-row.ensures.row
    (subst (λ (k : Cutting). Holds c.read_kept-row.result c.hold.result (reading c.self.inside.schema.columns c.self.inside.slack k c.self.inside.portion c.self.inside.taken c.self.inside.filled c.self.inside.ended c.self.inside.record_no c.self.inside.greatest) c.hold.new.self) c.read_kept-row.ensures.cleared c.hold.ensures))
