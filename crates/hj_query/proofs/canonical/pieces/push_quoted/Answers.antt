use Rattle.std.proofs.Common.{◌≡◌, subst}
use Rattle.std.specs.Result.{OnOk}
use Rattle.hj_query.proofs.Appending.{doubled_last, doubled_next}
use Rattle.hj_query.proofs.canonical.pieces.push_quoted.Goals as goal

pub loop-byte-preserved : goal.loop-byte-preserved
loop-byte-preserved c =
    doubled_next c.args.value.now c.loop-byte.byte-index c.loop-byte.text.items _ _ c.loop-byte-test.true c.in_ok-push_doubled.ensures c.loop-byte.invariant

pub returns : goal.returns
returns c =
    subst (λ whole. OnOk c.push_bytes-2.result (c.push_bytes-2.new.text.items ≡ whole))
    (doubled_last c.args.value.now c.loop-byte.byte-index c.args.text.now.items c.loop-byte.text.items c.loop-byte-test.false c.loop-byte.auto.byte-index-end c.loop-byte.invariant)
    c.push_bytes-2.ensures
