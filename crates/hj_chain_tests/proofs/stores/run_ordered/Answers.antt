use Rattle.std.proofs.Common.{◌≡◌, rules, refl}
use Rattle.hj_base.specs.declared.numbers.Side.TheVariants.{Left}
use Rattle.hj_eval.specs.Plan.{plan_of}
use Rattle.hj_index.proofs.Ready.{ordered_suits}
use Rattle.hj_index.specs.OrderedStore.{band_plan}
use Rattle.hj_chain_tests.proofs.stores.run_ordered.Goals as goal

pub run-requires : goal.run-requires
run-requires g c κs =
    let plan : plan_of c.new-join.result.pred ≡ band_plan c.in-Band.left c.in-Band.right c.in-Band.within Left = search rules in
    ((refl, tt), ordered_suits _ _ _ c.in-Band.left c.in-Band.right c.in-Band.within Left c.new-join.result (search rules) (search rules) (search rules) plan (search rules))
