use Rattle.std.proofs.Common.{refl, sym, subst, subst₂}
use Rattle.hj_query.specs.QueryParts.{QueryParts}
use Rattle.hj_stores.specs.declared.stores.PlannedStores.{PlannedStores}
use Rattle.hj_stores.specs.Stores.{AreReadyFor}
use Rattle.hj_stream.specs.Ends.{IsUnasked}
use Rattle.hj_verify.proofs.Beginning.{no_run}
use Rattle.hj_verify.proofs.checker.check_planned.Goals as goal

pub returns-in-Err-clause-checks : goal.returns-in-Err-clause-checks
returns-in-Err-clause-checks g c = no_run {O = g.row.O.Denot} {outside = g.O.Outside} c.args.query.now c.args.size.cores c.args.size.flight c.requires.unasked.0 c.args.feed.now c.requires.unasked.1

pub check_over-requires : goal.check_over-requires
check_over-requires g c κs = (
  (refl, tt),
  (
    (c.requires.unasked.0, subst (λ (query : QueryParts). IsUnasked query c.requires.unasked.0 c.args.feed.now.feed) (sym c.requires.ready) c.requires.unasked.1),
    (c.requires.trace, (c.requires.output, subst₂ (λ (query : QueryParts) (stores : PlannedStores). AreReadyFor query c.args.size.cores stores) (sym c.requires.ready) c.in-Ok-Hash.field-0-is c.in-Ok-Hash.ensures)),
  ),
)

pub check_over-requires-in-Ok-Ordered : goal.check_over-requires-in-Ok-Ordered
check_over-requires-in-Ok-Ordered g c κs = (
  (refl, tt),
  (
    (c.requires.unasked.0, subst (λ (query : QueryParts). IsUnasked query c.requires.unasked.0 c.args.feed.now.feed) (sym c.requires.ready) c.requires.unasked.1),
    (c.requires.trace, (c.requires.output, subst₂ (λ (query : QueryParts) (stores : PlannedStores). AreReadyFor query c.args.size.cores stores) (sym c.requires.ready) c.in-Ok-Ordered.field-0-is c.in-Ok-Ordered.ensures)),
  ),
)
