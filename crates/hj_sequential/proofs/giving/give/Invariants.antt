use Rattle.hj_sequential.proofs.GivenPairs.{GaveFirst}
use Rattle.hj_sequential.proofs.giving.give.Given as goal

-- the pairs with the partners so far were given, and kept
abbrev pub invariant-loop-at : goal.invariant-loop-at
invariant-loop-at g l = GaveFirst g.D.Drain.takes l.side l.no l.row l.partners l.fn.drain l.at l.drain
