use Rattle.std.proofs.Common.{◌≤◌}
use Rattle.hj_query.specs.declared.pred.Pred.{size-Pred}
use Rattle.hj_query.proofs.pred.Pred.+drop.Given as goal

abbrev pub invariant-loop-self : goal.invariant-loop-self
invariant-loop-self l = size-Pred l.self ≤ size-Pred l.initial.self
