use Rattle.std.proofs.Common.{◌≡◌, ◌+◌, ◌≤◌, refl, ap, drop, length, arith}
use Rattle.std.proofs.lemmas.List.{length-drop}
use Rattle.circular_buffer.specs.Buffer.{Buffer, buffer}
use Rattle.hj_msg.specs.declared.message.Report.{Report}
use Rattle.hj_chain.proofs.ReportQueues.{queue-changed, capacity-changed, room-changed}
use Rattle.hj_chain.proofs.reports.Reports.take_first.Goals as goal

pub returns-clause-rest : goal.returns-clause-rest
returns-clause-rest g c =
    queue-changed c.self.inside.capacity _ c.args.self.now c.args.core c.index_mut.result.now _ (λ b. buffer (drop 1 b.items) b.capacity) (drop 1)
    c.self.view_is c.requires c.index_mut.ensures.value c.pop_front.ensures.items (λ b. refl)

pub invariant_of-self : goal.invariant_of-self
invariant_of-self g c =
    let is = c.pop_front.ensures.items in
    let fewer : length c.pop_front.new.self.items ≡ length (drop 1 c.index_mut.result.now.items) = ap (λ (b : Buffer (Report g.row.P.Denot)). length b.items) is in
    let less : length c.pop_front.new.self.items ≤ length c.index_mut.result.now.items = omega (arith, fewer, length-drop 1 c.index_mut.result.now.items) in
    record {
      capacity = capacity-changed c.self.inside.capacity c.self.inside.queues.items c.args.self.now c.args.core c.index_mut.result.now c.pop_front.new.self
          c.self.view_is c.requires c.index_mut.ensures.value (ap (λ (b : Buffer (Report g.row.P.Denot)). b.capacity) is) c.self.invariant.capacity;
      room = room-changed c.self.inside.capacity c.self.inside.room c.self.inside.room c.self.inside.queues.items c.args.self.now c.args.core c.index_mut.result.now c.pop_front.new.self
          c.self.view_is c.requires c.index_mut.ensures.value (omega (arith, less)) (omega arith) c.self.invariant.room;
    }
