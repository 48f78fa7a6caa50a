-- What a join on threads made, and what its run shows, by the writing that was asked for.
use Rattle.std.proofs.Common.{◌≡◌, ℕ, List, sym, subst}
use Rattle.std.specs.Prelude.{IfNone, IfSome}
use Rattle.std.specs.declared.option.Option.{Option}
use Rattle.hj_query.specs.QueryParts.{QueryParts}
use Rattle.hj_stream.specs.declared.outcome.Outcome.{Outcome}
use Rattle.hj_stream.specs.declared.outcome.Outcome.TheVariants as outcome
use Rattle.hj_stream.specs.Joining.{Joins}
use Rattle.hj_stream.specs.RawJoining.{JoinsRaw}
use Rattle.hj_engine.specs.Showing.{ShowsJoin}
use Rattle.hj_engine.specs.ShowingRaw.{ShowsRaw}
use Rattle.hj_opening.specs.Joining.{JoinsKind}
use Rattle.hj_opening.specs.Words.{ChainShape, TextKind}
use Rattle.hj_opening.proofs.Joined.{joins_lines}
use Rattle.hj_opening.proofs.Phases.{Roles}
use Rattle.hj_serve.specs.declared.plan.Writing.{Writing}
use Rattle.hj_serve.specs.declared.plan.Writing.TheVariants as writing
use Rattle.hj_serve.specs.Crew.{ShowsKind}
use Rattle.hj_serve.specs.OrderPlan.{kind_of}
use Rattle.hj_serve.proofs.Crewed.{Shown, shows_items, shows_lines}
use Rattle.hj_serve.proofs.RawJoined.{joins_items}

-- a join of this kind was made, and its run, where there is one, shows it
abbrev Made : ChainShape → Outcome → QueryParts → ℕ → Roles → Roles → Option (List ℕ) → Option (List ℕ) → Shown → TextKind → Type 0
Made crew ended query limit before now old new ran kind =
    JoinsKind kind ended query limit before now old new × IfSome ran (ShowsKind kind crew ended query limit before now old new)

module _ (asked : Writing) (crew : ChainShape) {ended : Outcome} {query : QueryParts} {limit : ℕ} {before now : Roles}
    {old new : Option (List ℕ)} where
  pub in_order : asked ≡ writing.InOrder → (joins : Joins ended query limit before now old new) (ran : Shown)
      → IfSome ran (ShowsJoin joins crew.cores crew.flight) → Made crew ended query limit before now old new ran (kind_of asked)
  in_order is joins ran shows =
      subst (λ (w : Writing). Made crew ended query limit before now old new ran (kind_of w)) (sym is)
      (joins_lines joins, shows_lines crew joins ran shows)

  pub as_met : asked ≡ writing.AsMet → (joins : JoinsRaw ended query limit before now old new) (ran : Shown)
      → IfSome ran (ShowsRaw joins crew.cores crew.flight) → IfNone ran (ended ≡ outcome.Memory) → IfNone ran (new ≡ old)
      → Made crew ended query limit before now old new ran (kind_of asked)
  as_met is joins ran shows memory same =
      subst (λ (w : Writing). Made crew ended query limit before now old new ran (kind_of w)) (sym is)
      (joins_items joins crew.cores crew.flight ran shows memory same, shows_items crew joins ran shows)
