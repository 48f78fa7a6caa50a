-- A feed that gave no event yet read neither of its streams.
use Rattle.std.proofs.Common.{◌≡◌, ℕ, false, length, ap, sym, subst, ◌∙◌}
use Rattle.hj_base.specs.declared.outside.Outside.{Ghosts as OutsideGhosts}
use Rattle.hj_base.specs.declared.outside.Role.TheVariants as role
use Rattle.hj_query.specs.QueryParts.{QueryParts}
use Rattle.hj_event.specs.Roles.{IsInStep}
use Rattle.hj_stream.specs.declared.feed.EventFeed.{EventFeed}
use Rattle.hj_stream.specs.Ends.{IsUnasked}

module _ {O : Type 0} {outside : OutsideGhosts O} where
  pub record IsUnread (feed : EventFeed O outside) : Type 0 where
    pub left : IsInStep false (outside.state feed.outside.now role.Left)
    pub right : IsInStep false (outside.state feed.outside.now role.Right)
    pub none : feed.events ≡ 0

  pub reads_none : (query : QueryParts) (limit : ℕ) (feed : EventFeed O outside) → IsUnasked query limit feed → IsUnread feed
  reads_none query limit feed unasked = record {
    left = subst (λ ended. IsInStep ended (outside.state feed.outside.now role.Left)) unasked.merger.left feed.left;
    right = subst (λ ended. IsInStep ended (outside.state feed.outside.now role.Right)) unasked.merger.right feed.right;
    none = sym feed.counted ∙ ap length unasked.given;
  }
