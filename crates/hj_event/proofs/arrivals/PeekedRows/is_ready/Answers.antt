use Rattle.hj_event.proofs.ToldLemmas.{told_behind}
use Rattle.hj_event.proofs.arrivals.PeekedRows.is_ready.Goals as goal

pub returns-else-is_some : goal.returns-else-is_some
returns-else-is_some c = rw (← c.self.view_is) (λ ready. told_behind c.self.inside.head c.self.inside.source (c.is_ready.ensures ready))
