use Rattle.hj_sequential.proofs.Listing.{left_expires, right_expires}
use Rattle.hj_sequential.proofs.sequential.SequentialJoin.expires.Goals as goal

pub returns-in-Left-clause-holds : goal.returns-in-Left-clause-holds
returns-in-Left-clause-holds g c = λ windows at holds.
    left_expires g.S.Store.entries windows c.args.self.now.left c.args.self.now.right holds at c.args.of c.args.side c.remove.new.self c.in-Left.is c.remove.ensures.entries

pub returns-in-Right-clause-holds : goal.returns-in-Right-clause-holds
returns-in-Right-clause-holds g c = λ windows at holds.
    right_expires g.S.Store.entries windows c.args.self.now.left c.args.self.now.right holds at c.args.of c.args.side c.remove-in-Right.new.self c.in-Right.is c.remove-in-Right.ensures.entries
