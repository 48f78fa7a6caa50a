use Rattle.std.proofs.Common.{sym, ap, ◌∙◌}
use Rattle.hj_msg.specs.Core.{only_if}
use Rattle.hj_chain.specs.Links.{changed_at, put_rightwards}
use Rattle.hj_chain.proofs.Putting.{nothing_right}
use Rattle.hj_chain.proofs.links.Links.put_right_if.Goals as goal

pub returns-then-holds : goal.returns-then-holds
returns-then-holds g c = c.put_right.ensures ∙ ap (λ holds. changed_at c.args.at (put_rightwards (only_if holds c.args.msg)) c.args.self.now) (sym c.if-holds.true)

pub returns-else-holds : goal.returns-else-holds
returns-else-holds g c = nothing_right c.args.self.now c.args.at ∙ ap (λ holds. changed_at c.args.at (put_rightwards (only_if holds c.args.msg)) c.args.self.now) (sym c.if-holds.false)
