use Rattle.hj_emit.proofs.Steps.{cells_step}
use Rattle.hj_emit.proofs.fill.push_row.Goals as goal

pub loop-at-preserved : goal.loop-at-preserved
loop-at-preserved c =
    cells_step c.args.row.now c.loop-at.at c.in-Some.field _ c.loop-at.text.items c.push_field.new.text.items c.in-Some.ensures c.loop-at.invariant c.in_ok-push_field.ensures
