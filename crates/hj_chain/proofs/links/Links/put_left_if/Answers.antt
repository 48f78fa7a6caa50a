use Rattle.std.proofs.Common.{sym, ap, ◌∙◌}
use Rattle.hj_msg.specs.Core.{only_if}
use Rattle.hj_chain.specs.Links.{changed_at, put_leftwards}
use Rattle.hj_chain.proofs.Putting.{nothing_left}
use Rattle.hj_chain.proofs.links.Links.put_left_if.Goals as goal

pub returns-then-holds : goal.returns-then-holds
returns-then-holds g c = c.put_left.ensures ∙ ap (λ holds. changed_at c.args.at (put_leftwards (only_if holds c.args.msg)) c.args.self.now) (sym c.if-holds.true)

pub returns-else-holds : goal.returns-else-holds
returns-else-holds g c = nothing_left c.args.self.now c.args.at ∙ ap (λ holds. changed_at c.args.at (put_leftwards (only_if holds c.args.msg)) c.args.self.now) (sym c.if-holds.false)
