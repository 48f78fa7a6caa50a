use Rattle.std.proofs.Common.{◌||◌, ap₂, ◌∙◌}
use Rattle.hj_emit.proofs.Lanes.{any_of_four}
use Rattle.hj_emit.proofs.marks.marks_of_8.Goals as goal

pub returns-clause-special : goal.returns-clause-special
returns-clause-special c =
    ap₂ (λ a b. a || b) (ap₂ (λ a b. a || b) (ap₂ (λ a b. a || b) c.has_8.ensures c.has_8-quote.ensures) c.has_8-2.ensures) c.has_8-3.ensures
    ∙ any_of_four c.args.lanes
