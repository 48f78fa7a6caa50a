use Rattle.std.proofs.Common.{sym, ◌∙◌}
use Rattle.hj_event.proofs.ReadRows.{ReadsRow-at, values_from-step}
use Rattle.hj_event.proofs.schema.read.read_row.Goals as goal

pub returns-in-Err : goal.returns-in-Err
returns-in-Err c =
    ReadsRow-at c.args.schema.now.columns c.args.fields.now c.loop-at.at c.in-Some-Some.column.now c.in-Some-Some.bytes.now c.loop-at.row c.in-Err.fault (sym c.len.ensures ∙ (c.if-len-columns.false ∙ c.len-columns.ensures)) c.in-Some-Some.ensures c.in-Some-Some.ensures' c.in-Err.ensures c.loop-at.invariant

pub loop-at-preserved : goal.loop-at-preserved
loop-at-preserved c =
    values_from-step c.args.schema.now.columns c.args.fields.now c.loop-at.at c.in-Some-Some.column.now c.in-Some-Some.bytes.now c.loop-at.row c.push.new.self c.in-Ok.field c.in_ok-push-in-Ok.ensures.ok c.in-Some-Some.ensures c.in-Some-Some.ensures' c.in-Ok.ensures c.loop-at.invariant
