use Rattle.std.proofs.Common.{refl, subst}
use Rattle.hj_stores.specs.declared.stores.PlannedStores.{PlannedStores}
use Rattle.hj_stores.specs.Stores.{AreReadyFor}
use Rattle.hj_engine.proofs.run.run_kind.Goals as goal

pub run_over-requires : goal.run_over-requires
run_over-requires g c κs = (
  (refl, tt),
  (c.requires.fresh, subst (λ (stores : PlannedStores). AreReadyFor c.args.query.now c.args.plan.now.size.cores stores) c.in-Hash.is c.requires.stores),
)

pub run_over-requires-in-Ordered : goal.run_over-requires-in-Ordered
run_over-requires-in-Ordered g c κs = (
  (refl, tt),
  (c.requires.fresh, subst (λ (stores : PlannedStores). AreReadyFor c.args.query.now c.args.plan.now.size.cores stores) c.in-Ordered.is c.requires.stores),
)
