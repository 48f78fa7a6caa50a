use Rattle.std.proofs.Common.{sym, ap, ◌∙◌, ◌&&◌}
use Rattle.hj_collect.specs.Collector.{has_ended}
use Rattle.hj_chain.proofs.Finishing.{done-is}
use Rattle.hj_chain.proofs.chain.Chain.done.Goals as goal

pub returns-then-finished : goal.returns-then-finished
returns-then-finished g c =
    done-is g.J.Join.predicate _ _ c.self.view_is c.requires c.ended.result (c.ended.ensures ∙ ap (λ b. b && has_ended c.self.inside.collector) (sym c.if-finished.true ∙ c.finished.ensures))

pub returns-else-finished : goal.returns-else-finished
returns-else-finished g c =
    done-is g.J.Join.predicate _ _ c.self.view_is c.requires c.finished.result
    (c.if-finished.false ∙ ap (λ b. b && has_ended c.self.inside.collector) (sym c.if-finished.false ∙ c.finished.ensures))
