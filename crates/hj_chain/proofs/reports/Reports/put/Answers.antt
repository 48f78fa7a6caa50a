use Rattle.std.proofs.Common.{◌≡◌, ℕ, ◌+◌, ◌≤◌, All, List, length, set, refl, ◌++◌, ◌∷◌, [], sym, ap, ◌∙◌, subst, arith}
use Rattle.std.proofs.lemmas.List.{length-append}
use Rattle.std.specs.Option.{option_to_list}
use Rattle.circular_buffer.specs.Buffer.{Buffer, buffer}
use Rattle.hj_msg.specs.declared.message.Report.{Report}
use Rattle.hj_chain.specs.Links.{changed_at}
use Rattle.hj_chain.proofs.ReportQueues.{queue-changed, capacity-changed, room-changed}
use Rattle.hj_chain.proofs.Putting.{no_report}
use Rattle.hj_chain.proofs.reports.Reports.put.Goals as goal
use Rattle.hj_chain.proofs.reports.Reports.put.Goals.{then-self-eq0, else-self-eq0}

pub returns-in_default : goal.returns-in_default
returns-in_default g c = no_report c.args.self.now c.args.core c.args.report c.in_default.not-Some

pub least_room-self-inside-requires : goal.least_room-self-inside-requires
least_room-self-inside-requires g c =
    subst (λ (queues : List (Buffer (Report g.row.P.Denot))). All (λ q. q.capacity ≡ c.self.inside.capacity) queues) (sym c.deref.ensures.value)
    (capacity-changed c.self.inside.capacity c.self.inside.queues.items c.args.self.now c.args.core c.index_mut.result.now c.push_back.new.self
    c.self.view_is c.requires.in_range c.index_mut.ensures.value (ap (λ (b : Buffer (Report g.row.P.Denot)). b.capacity) c.push_back.ensures) c.self.invariant.capacity)

pub invariant_of-self : goal.invariant_of-self
invariant_of-self g c =
    let queues = c.self.inside.queues.items in
    let capacity : ℕ = c.self.inside.capacity in
    let longer : length c.push_back.new.self.items ≡ length (c.index_mut.result.now.items ++ c.in-Some.report ∷ []) = ap (λ (b : Buffer (Report g.row.P.Denot)). length b.items) c.push_back.ensures in
    record {
      capacity = capacity-changed capacity queues c.args.self.now c.args.core c.index_mut.result.now c.push_back.new.self
          c.self.view_is c.requires.in_range c.index_mut.ensures.value (ap (λ (b : Buffer (Report g.row.P.Denot)). b.capacity) c.push_back.ensures) c.self.invariant.capacity;
      room = elim c.if-self-eq0.branch [
        | then-self-eq0 w ↦ subst (λ (left : ℕ). All (λ (q : Buffer (Report g.row.P.Denot)). length q.items + left ≤ capacity) (set queues c.args.core c.push_back.new.self)) (sym w.self-is)
            (subst (λ (now : List (Buffer (Report g.row.P.Denot))). All (λ q. length q.items + w.least_room-self-inside.result ≤ capacity) now) w.deref.ensures.value w.least_room-self-inside.ensures)
        | else-self-eq0 w ↦ room-changed capacity c.self.inside.room c.if-self-eq0.self queues c.args.self.now c.args.core c.index_mut.result.now c.push_back.new.self
            c.self.view_is c.requires.in_range c.index_mut.ensures.value
            (omega (arith, longer, length-append c.index_mut.result.now.items (c.in-Some.report ∷ []), w.self-is, w.if-self-eq0.false)) (omega (arith, w.self-is)) c.self.invariant.room
      ];
    }

pub returns : goal.returns
returns g c =
    queue-changed c.self.inside.capacity _ c.args.self.now c.args.core c.index_mut.result.now _ (λ b. buffer (b.items ++ c.in-Some.report ∷ []) b.capacity) (λ queue. queue ++ c.in-Some.report ∷ [])
    c.self.view_is c.requires.in_range c.index_mut.ensures.value c.push_back.ensures (λ b. refl)
    ∙ ap (λ o. record c.args.self.now { queues = changed_at c.args.core (λ queue. queue ++ option_to_list o) c.args.self.now.queues }) (sym c.in-Some.is)
