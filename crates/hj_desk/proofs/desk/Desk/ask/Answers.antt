use Rattle.hj_desk.proofs.Asking.{asks}
use Rattle.hj_desk.proofs.desk.Desk.ask.Goals as goal

pub returns-clause-stands : goal.returns-clause-stands
returns-clause-stands g c = λ history stood. asks c.args.self.now c.next.result (g.F.Feed.state c.args.feed.now) (g.F.Feed.state c.next.new.self) c.requires c.next.ensures.answers history stood
