-- What a new store that was made for a query's plan promises of its own columns: the query's join may probe by them.
use Rattle.std.proofs.Common.{◌≡◌, ℕ, sym, subst, subst₂}
use Rattle.hj_base.specs.declared.numbers.Side.{Side}
use Rattle.hj_query.specs.QueryParts.{QueryParts}
use Rattle.hj_eval.specs.Holds.{holds}
use Rattle.hj_eval.specs.Plan.{plan_of}
use Rattle.hj_index.specs.HashStore.{equal_plan, JoinsEqual}
use Rattle.hj_index.specs.OrderedStore.{band_plan, JoinsNear}

pub hash_suits : (rests probes own other : ℕ) (side : Side) (query : QueryParts) → rests ≡ own → probes ≡ other → plan_of query.pred ≡ equal_plan own other side
    → ((side : Side) (query : QueryParts) → plan_of query.pred ≡ equal_plan own other side → JoinsEqual own other (holds query) side)
    → JoinsEqual rests probes (holds query) side
hash_suits rests probes own other side query is_own is_other plan suits =
    subst₂ (λ (own other : ℕ). JoinsEqual own other (holds query) side) (sym is_own) (sym is_other) (suits side query plan)

pub ordered_suits : (rests probes near own other within : ℕ) (side : Side) (query : QueryParts) → rests ≡ own → probes ≡ other
    → near ≡ within
    → plan_of query.pred ≡ band_plan own other within side
    → ((side : Side) (query : QueryParts) → plan_of query.pred ≡ band_plan own other within side → JoinsNear own other within (holds query) side)
    → JoinsNear rests probes near (holds query) side
ordered_suits rests probes near own other within side query is_own is_other is_within plan suits =
    subst₂ (λ (own other : ℕ). JoinsNear own other near (holds query) side) (sym is_own) (sym is_other)
    (subst (λ (within : ℕ). JoinsNear own other within (holds query) side) (sym is_within) (suits side query plan))
