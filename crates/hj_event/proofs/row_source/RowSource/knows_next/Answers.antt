use Rattle.hj_event.proofs.SourceLemmas.{tells_either}
use Rattle.hj_event.proofs.row_source.RowSource.knows_next.Goals as goal

pub returns-clause-known : goal.returns-clause-known
returns-clause-known c =
    rw (← c.self.view_is) (λ has. tells_either c.self.inside.reader c.self.inside.next c.self.inside.waiting c.self.inside.ahead (c.is_known.ensures.known has) c.self.invariant.is_known c.self.invariant.is_next)
