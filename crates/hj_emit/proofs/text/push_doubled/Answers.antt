use Rattle.hj_emit.proofs.Steps.{escaped_none, escaped_step}
use Rattle.hj_emit.proofs.text.push_doubled.Goals as goal

pub loop-byte-init : goal.loop-byte-init
loop-byte-init c = escaped_none c.args.text.now.items

pub loop-byte-preserved : goal.loop-byte-preserved
loop-byte-preserved c =
    escaped_step c.args.bytes.now c.loop-byte.byte-index _ c.loop-byte.text.items c.push_escaped.new.text.items c.loop-byte-test.true c.loop-byte.invariant c.in_ok-push_escaped.ensures
