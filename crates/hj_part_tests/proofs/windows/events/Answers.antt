use Rattle.std.proofs.Common.{arith}
use Rattle.hj_window.proofs.Order.{live_below}
use Rattle.hj_part_tests.proofs.windows.events.Goals as goal

pub loop-side-preserved : goal.loop-side-preserved
loop-side-preserved g c =
    let before = rw c.expect-expired.ensures at c.arrive-expired.ensures.before in
    let live = rw c.expect-expired.ensures at c.arrive-expired.ensures.live in
    live_below c.loop-side.live c.arrive-expired.new.self _ _ c.loop-side.next c.push_events-next.result _ c.loop-side.invariant before live (omega arith)
