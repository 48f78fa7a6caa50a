use Rattle.std.proofs.Common.{◌≡◌, rules, refl}
use Rattle.hj_base.specs.declared.numbers.Side.TheVariants.{Left}
use Rattle.hj_eval.specs.Plan.{plan_of}
use Rattle.hj_index.proofs.Ready.{hash_suits}
use Rattle.hj_index.specs.HashStore.{equal_plan}
use Rattle.hj_chain_tests.proofs.stores.run_hash.Goals as goal

pub run-requires : goal.run-requires
run-requires g c κs =
    let plan : plan_of c.new-join.result.pred ≡ equal_plan c.in-Equal.left c.in-Equal.right Left = search rules in
    ((refl, tt), hash_suits _ _ c.in-Equal.left c.in-Equal.right Left c.new-join.result (search rules) (search rules) plan (search rules))
