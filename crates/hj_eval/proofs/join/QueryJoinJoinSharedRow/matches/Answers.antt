use Rattle.std.proofs.Common.{ap, ◌∙◌}
use Rattle.std.specs.Prelude.{List}
use Rattle.hj_value.specs.declared.field.Field.{Field}
use Rattle.hj_query.specs.QueryParts.{QueryParts}
use Rattle.hj_eval.specs.Holds.{holds}
use Rattle.hj_eval.proofs.join.QueryJoinJoinSharedRow.matches.Goals as goal

pub returns : goal.returns
returns c =
    c.holds.ensures
    ∙ ap (λ (query : QueryParts). holds query c.row.result.now c.row-2.result.now) c.self.view_is
    ∙ ap (λ (left : List Field). holds c.args.self.now left c.row-2.result.now) c.row.ensures
    ∙ ap (λ (right : List Field). holds c.args.self.now c.args.left.now right) c.row-2.ensures
