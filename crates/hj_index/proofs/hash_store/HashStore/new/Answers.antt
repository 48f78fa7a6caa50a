use Rattle.std.proofs.Common.{◌≡◌, ℕ, subst}
use Rattle.hj_base.specs.declared.numbers.Side.{Side}
use Rattle.hj_base.specs.declared.numbers.Side.TheVariants.{Left, Right}
use Rattle.hj_eval.specs.declared.store_plan.StorePlan.{StorePlan}
use Rattle.hj_eval.specs.Holds.{holds}
use Rattle.hj_eval.specs.Plan.{plan_of, MeetsPlan}
use Rattle.hj_eval.proofs.Planning.{plan_met}
use Rattle.hj_query.specs.Grammar.{columns_of}
use Rattle.hj_query.specs.QueryParts.{QueryParts}
use Rattle.hj_index.specs.HashStore.{equal_plan, JoinsEqual}
use Rattle.hj_index.proofs.hash_store.HashStore.new.Goals as goal

pub returns-clause-suits : goal.returns-clause-suits
returns-clause-suits c = λ side query is. by c.args.own c.args.other query side is
  where
    by : (own other : ℕ) (query : QueryParts) (side : Side) → plan_of query.pred ≡ equal_plan own other side → JoinsEqual own other (holds query) side
    by own other query Left is row against e = subst (λ (plan : StorePlan). MeetsPlan plan row against) is (plan_met (columns_of query) row against query.pred e)
    by own other query Right is row against e =
        let v = subst (λ (plan : StorePlan). MeetsPlan plan against row) is (plan_met (columns_of query) against row query.pred e) in
        (v.0, v.2, v.1)
