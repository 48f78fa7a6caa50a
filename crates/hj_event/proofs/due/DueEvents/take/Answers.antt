use Rattle.std.proofs.Common.{rules}
use Rattle.hj_event.proofs.NumberLemmas.{takes-before}
use Rattle.hj_event.proofs.due.DueEvents.take.Goals as goal

pub returns-then-self-len : goal.returns-then-self-len
returns-then-self-len c =
    rw (← c.self.view_is) (takes-before c.self.inside.before c.self.inside.given c.self.inside.arrival c.self.inside.after c.self.inside.quiet c.args.no.0 c.in-Some.field-0.now (search rules) (search rules))
