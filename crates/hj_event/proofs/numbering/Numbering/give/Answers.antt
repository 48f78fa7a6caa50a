use Rattle.std.proofs.Common.{rules}
use Rattle.hj_event.proofs.NumberLemmas.{gives-too_many}
use Rattle.hj_event.proofs.numbering.Numbering.give.Goals as goal

pub returns-then-self : goal.returns-then-self
returns-then-self c = λ arrivals. gives-too_many c.args.self.now arrivals c.requires (search rules)
