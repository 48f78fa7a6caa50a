use Rattle.std.proofs.Common.{rules}
use Rattle.hj_event.proofs.NumberLemmas.{arrives-due, counted_after}
use Rattle.hj_event.proofs.numbering.Numbering.arrive.Goals as goal

pub invariant_of-self-2 : goal.invariant_of-self-2
invariant_of-self-2 c =
    counted_after c.self.inside.live c.arrive.new.self c.self.inside.silence c.arrive-quiet.new.self c.self.inside.quiet c.self.inside.due c.of_arrival.result c.args.side c.args.row c.time-time.result c.self.inside.next c.self.inside.limit c.in_ok-expired.expired.before c.in_ok-expired.expired.after c.arrive-quiet.result c.self.invariant (search rules) (search rules) (search rules) c.arrive-quiet.ensures.behind c.of_arrival.ensures

pub returns-clause-ok : goal.returns-clause-ok
returns-clause-ok c = λ arrivals. arrives-due c.args.self.now _ c.args.side c.args.row arrivals c.requires (search rules) (search rules) (search rules) (search rules) (search rules) (search rules)
