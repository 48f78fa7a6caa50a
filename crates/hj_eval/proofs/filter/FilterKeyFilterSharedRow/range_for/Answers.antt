use Rattle.std.proofs.Common.{List, ap, ◌∙◌}
use Rattle.hj_value.specs.declared.field.Field.{Field}
use Rattle.hj_eval.specs.Filter.{range_of}
use Rattle.hj_eval.proofs.filter.FilterKeyFilterSharedRow.range_for.Goals as goal

pub returns : goal.returns
returns c = c.range.ensures ∙ ap (λ (row : List Field). range_of c.args.self.now c.args.side row) c.row.ensures
