use Rattle.std.proofs.Common.{◌≡◌}
use Rattle.std.proofs.lemmas.Result.{IfOk-at_ok}
use Rattle.hj_sequential.proofs.GivenPairs.{arrived}
use Rattle.hj_sequential.proofs.sequential.arrives.Goals as goal

pub returns-in-Done-clause-gives : goal.returns-in-Done-clause-gives
returns-in-Done-clause-gives g c = λ partners found.
    arrived g.D.Drain.takes c.args.side c.args.no c.args.row c.in-Ok.partners partners c.give.result c.keep.result c.args.drain.now c.give.new.drain (IfOk-at_ok (λ given. given ≡ partners) c.in-Ok.is found) c.in-Done.is c.keep.ensures.ended c.give.ensures
