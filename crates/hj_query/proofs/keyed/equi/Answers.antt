use Rattle.hj_query.proofs.KeyedText.{keyed_readable}
use Rattle.hj_query.proofs.keyed.equi.Goals as goal

pub new-requires-3 : goal.new-requires-3
new-requires-3 c =
    keyed_readable _ _ c.args.rows _ _ c.requires.some c.requires.few c.in_ok-keyed_schema.ensures c.in_ok-keyed_schema-2.ensures c.new.ensures c.new-2.ensures
