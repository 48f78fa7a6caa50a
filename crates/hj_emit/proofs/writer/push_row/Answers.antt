use Rattle.hj_emit.proofs.Steps.{fields_step}
use Rattle.csv.specs.Records.{fields_of}
use Rattle.hj_emit.proofs.writer.push_row.Goals as goal

pub loop-at-preserved : goal.loop-at-preserved
loop-at-preserved c =
    (fields_step c.args.row.now c.loop-at.at c.in-Some.field (fields_of c.args.fields.now) (fields_of c.loop-at.fields) (fields_of c.push_field.new.fields) c.in-Some.ensures c.loop-at.invariant.0 c.in_ok-push_field.ensures.added, c.in_ok-push_field.ensures.whole)
