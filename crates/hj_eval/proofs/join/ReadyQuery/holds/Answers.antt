use Rattle.std.proofs.Common.{ap, ◌∙◌}
use Rattle.hj_query.specs.QueryParts.{QueryParts}
use Rattle.hj_eval.specs.Holds.{holds}
use Rattle.hj_eval.proofs.join.ReadyQuery.holds.Goals as goal

pub returns : goal.returns
returns c =
    c.hold.ensures
    ∙ c.self.invariant c.args.left.now c.args.right.now
    ∙ ap (λ (query : QueryParts). holds query c.args.left.now c.args.right.now) c.self.view_is
