use Rattle.std.proofs.Common.{◌≡◌, ◌≤◌, ℕ, subst, sym}
use Rattle.hj_base.specs.declared.numbers.Side.{Side}
use Rattle.hj_base.specs.declared.numbers.Side.TheVariants.{Left, Right}
use Rattle.hj_eval.specs.declared.store_plan.StorePlan.{StorePlan}
use Rattle.hj_eval.specs.Holds.{holds}
use Rattle.hj_eval.specs.Plan.{plan_of, MeetsPlan}
use Rattle.hj_eval.proofs.Planning.{abs-turned, plan_met}
use Rattle.hj_query.specs.Grammar.{columns_of}
use Rattle.hj_query.specs.QueryParts.{QueryParts}
use Rattle.hj_index.specs.OrderedStore.{band_plan, JoinsNear}
use Rattle.hj_index.proofs.ordered_store.OrderedStore.new.Goals as goal

pub returns-clause-suits : goal.returns-clause-suits
returns-clause-suits c = λ side query is. by c.args.own c.args.other c.args.within query side is
  where
    by : (own other within : ℕ) (query : QueryParts) (side : Side) → plan_of query.pred ≡ band_plan own other within side → JoinsNear own other within (holds query) side
    by own other within query Left is row against e = subst (λ (plan : StorePlan). MeetsPlan plan row against) is (plan_met (columns_of query) row against query.pred e)
    by own other within query Right is row against e =
        let near = subst (λ (plan : StorePlan). MeetsPlan plan against row) is (plan_met (columns_of query) against row query.pred e) in
        (near.1, near.0, near.3, near.2, subst (λ n. n ≤ within) (sym (abs-turned near.0 near.1)) near.4)
