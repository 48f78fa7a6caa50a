use Rattle.std.proofs.Common.{◌≡◌, true, take}
use Rattle.std.specs.List.{list_all}
use Rattle.hj_eval.specs.Filter.{pred_on}
use Rattle.hj_eval.proofs.conjuncts.Conjuncts.others_hold.Given as goal

abbrev pub invariant-loop-pred : goal.invariant-loop-pred
invariant-loop-pred l = list_all (λ pred. pred_on l.query pred.now l.left l.right) (take l.pred-index l.pred-items) ≡ true
