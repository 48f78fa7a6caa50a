-- Queries that say the same.
use Rattle.std.specs.Prelude.{◌≡◌}
use Rattle.hj_query.specs.declared.pred.Pred.{Pred, Or', And', Not', Compare, Within}
use Rattle.hj_query.specs.QueryParts.{QueryParts}

-- the same condition, wherever its operands lie
abbrev pub IsSame : Pred → Pred → Type 0
IsSame (Or' p left q right) (Or' r other s more) = IsSame left other × IsSame right more
IsSame (And' p left q right) (And' r other s more) = IsSame left other × IsSame right more
IsSame (Not' p inner) (Not' r other) = IsSame inner other
IsSame (Compare op left right) (Compare sign other more) = (sign ≡ op) × (other ≡ left) × (more ≡ right)
IsSame (Within distance left right) (Within span other more) = (span ≡ distance) × (other ≡ left) × (more ≡ right)
IsSame _ _ = ⊥

-- the same columns, windows, settings and condition
pub record IsSameQuery (query other : QueryParts) : Type 0 where
  pub left : other.left.columns ≡ query.left.columns
  pub right : other.right.columns ≡ query.right.columns
  pub left_window : other.left_window ≡ query.left_window
  pub right_window : other.right_window ≡ query.right_window
  pub slack : other.slack ≡ query.slack
  pub quiet : other.quiet ≡ query.quiet
  pub pred : IsSame query.pred other.pred
