use Rattle.std.proofs.Common.{false, true, refl}
use Rattle.hj_msg.specs.declared.feed.Given.TheVariants as given
use Rattle.hj_chain.proofs.chain.next_if_there.Goals as goal

pub returns-then-is_ready : goal.returns-then-is_ready
returns-then-is_ready g c = (
  record { ready = true; given = c.next.result },
  refl,
  record { ready = c.if-is_ready.ensures {u = tt}; gave = c.next.ensures.gives; says = c.next.ensures.answers },
)

pub returns-else-is_ready : goal.returns-else-is_ready
returns-else-is_ready g c = (record { ready = false; given = given.Stop }, refl, record { ready = c.if-is_ready.ensures {u = tt}; gave = refl; says = refl })
