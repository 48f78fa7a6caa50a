use Rattle.std.proofs.Common.{ap, ◌∙◌}
use Rattle.std.specs.Prelude.{is_some}
use Rattle.std.specs.Str.{bytes_eq}
use Rattle.hj_query.proofs.Columns.{any_from}
use Rattle.hj_query.proofs.schema.has_column.Goals as goal

pub returns : goal.returns
returns c = c.is_some.ensures ∙ ap is_some c.place_of_name.ensures ∙ any_from (λ column. bytes_eq column.name c.args.name.now) c.args.columns.now 0
