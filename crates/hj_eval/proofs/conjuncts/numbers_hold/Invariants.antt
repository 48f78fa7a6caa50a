use Rattle.std.proofs.Common.{◌≡◌, true, take}
use Rattle.std.specs.List.{list_all}
use Rattle.hj_eval.specs.Tests.{number_holds}
use Rattle.hj_eval.proofs.conjuncts.numbers_hold.Given as goal

abbrev pub invariant-loop-test : goal.invariant-loop-test
invariant-loop-test l = list_all (λ test. number_holds test l.left l.right) (take l.test-index l.tests) ≡ true
