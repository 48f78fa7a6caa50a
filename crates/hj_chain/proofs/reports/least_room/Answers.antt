use Rattle.std.proofs.Common.{◌≡◌, ◌+◌, ◌≤◌, sym, All, List, length, take, subst, arith}
use Rattle.std.proofs.lemmas.List.{take_all}
use Rattle.std.proofs.lemmas.List.Elements.{All-more, All-weaker}
use Rattle.circular_buffer.specs.Buffer.{Buffer}
use Rattle.hj_msg.specs.declared.message.Report.{Report}
use Rattle.hj_chain.proofs.reports.least_room.Goals as goal

pub loop-queue-preserved : goal.loop-queue-preserved
loop-queue-preserved g c =
    let fits : c.queue-item.result.capacity ≡ c.args.capacity = subst (λ (q : Buffer (Report g.row.P.Denot)). q.capacity ≡ c.args.capacity) (sym c.queue-item.is) (c.requires c.loop-queue.queue-index c.queue-item.result c.loop-queue-test.true) in
    All-more (λ (q : Buffer (Report g.row.P.Denot)). length q.items + c.min-room.result ≤ c.args.capacity) c.args.queues.now c.loop-queue.queue-index c.queue-item.result c.loop-queue-test.true
    (All-weaker (λ (q : Buffer (Report g.row.P.Denot)). length q.items + c.loop-queue.room ≤ c.args.capacity) (λ (q : Buffer (Report g.row.P.Denot)). length q.items + c.min-room.result ≤ c.args.capacity)
    (λ q e. omega (arith, e, c.min-room.ensures)) (take c.loop-queue.queue-index c.args.queues.now) c.loop-queue.invariant)
    (subst (λ (q : Buffer (Report g.row.P.Denot)). length q.items + c.min-room.result ≤ c.args.capacity) c.queue-item.is (omega (arith, c.min-room.ensures, c.len.ensures.len, c.len.ensures.within, fits)))

pub returns : goal.returns
returns g c =
    subst (λ (queues : List (Buffer (Report g.row.P.Denot))). All (λ (q : Buffer (Report g.row.P.Denot)). length q.items + c.loop-queue.room ≤ c.args.capacity) queues)
    (take_all c.loop-queue.queue-index c.args.queues.now (omega (arith, c.loop-queue-test.false))) c.loop-queue.invariant
