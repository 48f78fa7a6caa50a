use Rattle.std.proofs.Common.{sym, ◌∙◌, arith, ne_eqb}
use Rattle.hj_chain.proofs.ReportQueues.{none_full}
use Rattle.hj_chain.proofs.reports.Reports.is_queue_full.Goals as goal

pub returns-else-self-eq0 : goal.returns-else-self-eq0
returns-else-self-eq0 g c =
    ne_eqb c.self.inside.room 0 c.if-self-eq0.false ∙ sym (none_full c.self.inside.capacity c.self.inside.room c.self.inside.queues.items c.args.self.now c.args.core c.self.view_is c.requires c.self.invariant.room (omega (arith, c.if-self-eq0.false)))
