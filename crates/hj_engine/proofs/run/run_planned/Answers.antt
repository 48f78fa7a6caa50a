use Rattle.std.proofs.Common.{subst, sym}
use Rattle.hj_query.specs.QueryParts.{QueryParts}
use Rattle.hj_stores.specs.Stores.{AreReadyFor}
use Rattle.hj_engine.proofs.run.run_planned.Goals as goal

pub run_kind-requires-clause-stores : goal.run_kind-requires-clause-stores
run_kind-requires-clause-stores g c = subst (λ (query : QueryParts). AreReadyFor query c.args.plan.now.size.cores c.in_ok-stores.stores) (sym c.in_ok-ready.ensures) c.in_ok-stores.ensures
