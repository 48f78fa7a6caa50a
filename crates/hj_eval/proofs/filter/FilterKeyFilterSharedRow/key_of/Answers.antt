use Rattle.std.proofs.Common.{List, ap, ◌∙◌}
use Rattle.hj_value.specs.declared.field.Field.{Field}
use Rattle.hj_eval.specs.Filter.{own_key}
use Rattle.hj_eval.proofs.filter.FilterKeyFilterSharedRow.key_of.Goals as goal

pub returns : goal.returns
returns c = c.own.ensures ∙ ap (λ (row : List Field). own_key c.args.self.now c.args.side row) c.row.ensures
