use Rattle.std.specs.Option.{option_to_list}
use Rattle.hj_collect.specs.Collector.{least_mark}
use Rattle.hj_chain.proofs.Giving.{goes-after, pair-kept, pair-next, pair-unchanged, released-out, stands-after}
use Rattle.hj_chain.proofs.chain.Chain.pair.Goals as goal

pub returns-clause-pair : goal.returns-clause-pair
returns-clause-pair g c = pair-next g.J.Join.predicate _ _ c.self.view_is c.requires c.next_due.new.self c.next_due.result c.next_due.ensures c.if-self.false

pub returns-clause-stands : goal.returns-clause-stands
returns-clause-stands g c =
    stands-after g.J.Join.predicate _ _ c.self.view_is c.requires (option_to_list c.next_due.result) c.next_due.new.self (released-out (least_mark c.self.inside.collector) c.self.inside.kept c.next_due.new.self c.next_due.result c.next_due.ensures)

pub returns-clause-goes : goal.returns-clause-goes
returns-clause-goes g c =
    goes-after g.J.Join.predicate _ _ c.self.view_is c.requires (option_to_list c.next_due.result) c.next_due.new.self (released-out (least_mark c.self.inside.collector) c.self.inside.kept c.next_due.new.self c.next_due.result c.next_due.ensures)

pub returns-clause-kept : goal.returns-clause-kept
returns-clause-kept g c = pair-kept g.J.Join.predicate _ _ c.self.view_is c.requires c.next_due.new.self c.next_due.result c.next_due.ensures

pub returns-clause-unchanged : goal.returns-clause-unchanged
returns-clause-unchanged g c = pair-unchanged g.J.Join.predicate _ _ c.self.view_is c.requires c.next_due.new.self c.next_due.result c.next_due.ensures
