use Rattle.std.proofs.Common.{◌≡◌, true, take}
use Rattle.std.specs.List.{list_all}
use Rattle.hj_eval.specs.Tests.{texts_meet}
use Rattle.hj_eval.proofs.conjuncts.Conjuncts.texts_hold.Given as goal

abbrev pub invariant-loop-test : goal.invariant-loop-test
invariant-loop-test l = list_all (λ test. texts_meet test.op test.columns l.left l.right) (take l.test-index l.test-items) ≡ true
