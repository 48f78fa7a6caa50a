use Rattle.std.proofs.Common.{inr}
use Rattle.hj_event.proofs.ToldLemmas.{reads_nothing}
use Rattle.hj_event.specs.contracts.merger.Merger.{the_view}
use Rattle.hj_event.proofs.merger.Merger.is_ready.Goals as goal

pub returns-else-has_due : goal.returns-else-has_due
returns-else-has_due c = rw (← c.self.view_is) (λ ready. reads_nothing (the_view c.self.inside) (inr (inr (c.is_ready.ensures ready))))
