use Rattle.std.proofs.Common.{refl, sym, subst₂}
use Rattle.hj_query.specs.QueryParts.{QueryParts}
use Rattle.hj_stores.specs.declared.stores.PlannedStores.{PlannedStores}
use Rattle.hj_stores.specs.Stores.{AreReadyFor}
use Rattle.hj_replay.proofs.writing.trace_planned.Goals as goal

pub trace_over-requires : goal.trace_over-requires
trace_over-requires g c κs = (
  (refl, tt),
  (c.requires.fresh, subst₂ (λ (query : QueryParts) (stores : PlannedStores). AreReadyFor query c.args.plan.size.cores stores) (sym c.requires.ready) c.in-Hash.is c.in_ok-stores.ensures),
)

pub trace_over-requires-in-Ordered : goal.trace_over-requires-in-Ordered
trace_over-requires-in-Ordered g c κs = (
  (refl, tt),
  (c.requires.fresh, subst₂ (λ (query : QueryParts) (stores : PlannedStores). AreReadyFor query c.args.plan.size.cores stores) (sym c.requires.ready) c.in-Ordered.is c.in_ok-stores.ensures),
)
