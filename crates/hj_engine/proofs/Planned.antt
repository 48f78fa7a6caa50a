-- Stores that are planned for a query, and a run over them, under a plan of the same size and an equal query.
use Rattle.std.proofs.Common.{◌≡◌, ℕ, Bool, List, Result, subst, subst₂, sym}
use Rattle.std.specs.Prelude.{IfOk}
use Rattle.hj_base.specs.declared.numbers.ChainSize.{ChainSize}
use Rattle.hj_value.specs.declared.field.Field.{Field}
use Rattle.hj_msg.specs.declared.drain.Drained.{Drained}
use Rattle.hj_msg.specs.declared.feed.Given.{Given}
use Rattle.hj_msg.specs.Feed.{FeedState}
use Rattle.hj_collect.specs.Collector.{CollectorState}
use Rattle.hj_raw.specs.Items.{TakenReport}
use Rattle.hj_query.specs.QueryParts.{QueryParts}
use Rattle.hj_eval.specs.Holds.{holds}
use Rattle.hj_crew.specs.Ran.{RanSeen}
use Rattle.hj_crew.specs.RunsCrew.{RunsCrew}
use Rattle.hj_stores.specs.declared.stores.PlannedStores.{PlannedStores}
use Rattle.hj_stores.specs.Stores.{AreReadyFor}

module _ {query other : QueryParts} {chain size : ChainSize} (same_query : other ≡ query) (same_size : size ≡ chain) where
  pub ready-for : {planned stores : PlannedStores} → planned ≡ stores → AreReadyFor query chain.cores planned → AreReadyFor other size.cores stores
  ready-for {planned} {stores} is ready =
      subst₂ (λ (q : QueryParts) (s : ChainSize). AreReadyFor q s.cores stores) (sym same_query) (sym same_size) (subst (λ (p : PlannedStores). AreReadyFor query chain.cores p) is ready)

  pub runs-for : {F O E : Type 0} (gives : F → Given (List Field) → F → Type 0) (state : F → FeedState) (gave : O → ℕ → List (TakenReport (List Field)) → Bool → Drained → O → Type 0) (rests : O → CollectorState → Type 0) (from to : F) (begun now : O) (ran : Result (RanSeen (List Field)) E)
      → IfOk ran (RunsCrew gives state gave rests (holds other) size.cores size.flight from to begun now) → IfOk ran (RunsCrew gives state gave rests (holds query) chain.cores chain.flight from to begun now)
  runs-for gives state gave rests from to begun now ran runs =
      subst₂ (λ (q : QueryParts) (s : ChainSize). IfOk ran (RunsCrew gives state gave rests (holds q) s.cores s.flight from to begun now)) same_query same_size runs
