-- The trees of conditions without the places of their operands.
use Rattle.std.proofs.Common.{◌≡◌, ℕ, refl, ap, ◌∙◌, Box, Global}
use denote.RawPtr.{null_ptr}
use Rattle.hj_query.specs.declared.pred.Op.{Op}
use Rattle.hj_query.specs.declared.pred.Pred.{Pred, Or', And', Not', Compare, Within}
use Rattle.hj_query.specs.declared.sum.Sum.{Sum}
use Rattle.hj_query.specs.Grammar.{IsAnd, IsNot, IsOr}
use Rattle.hj_query.specs.Same.{IsSame}

pub data Shape : Type 0 where
  either : Shape → Shape → Shape
  both : Shape → Shape → Shape
  negated : Shape → Shape
  compared : Op → Sum → Sum → Shape
  distant : ℕ → Sum → Sum → Shape

abbrev pub shape : Pred → Shape
shape (Or' p left q right) = either (shape left) (shape right)
shape (And' p left q right) = both (shape left) (shape right)
shape (Not' p inner) = negated (shape inner)
shape (Compare op left right) = compared op left right
shape (Within distance left right) = distant distance left right

-- two conditions of one shape are the same
pub same_shape : (pred other : Pred) → shape pred ≡ shape other → IsSame pred other
same_shape (Or' p left q right) (Or' r other s more) e = (same_shape left other (cc), same_shape right more (cc))
same_shape (Or' p left q right) (And' r other s more) e = absurd (cc)
same_shape (Or' p left q right) (Not' r other) e = absurd (cc)
same_shape (Or' p left q right) (Compare op other more) e = absurd (cc)
same_shape (Or' p left q right) (Within distance other more) e = absurd (cc)
same_shape (And' p left q right) (Or' r other s more) e = absurd (cc)
same_shape (And' p left q right) (And' r other s more) e = (same_shape left other (cc), same_shape right more (cc))
same_shape (And' p left q right) (Not' r other) e = absurd (cc)
same_shape (And' p left q right) (Compare op other more) e = absurd (cc)
same_shape (And' p left q right) (Within distance other more) e = absurd (cc)
same_shape (Not' p inner) (Or' r other s more) e = absurd (cc)
same_shape (Not' p inner) (And' r other s more) e = absurd (cc)
same_shape (Not' p inner) (Not' r other) e = same_shape inner other (cc)
same_shape (Not' p inner) (Compare op other more) e = absurd (cc)
same_shape (Not' p inner) (Within distance other more) e = absurd (cc)
same_shape (Compare op left right) (Or' r other s more) e = absurd (cc)
same_shape (Compare op left right) (And' r other s more) e = absurd (cc)
same_shape (Compare op left right) (Not' r other) e = absurd (cc)
same_shape (Compare op left right) (Compare sign other more) e = (cc, cc, cc)
same_shape (Compare op left right) (Within distance other more) e = absurd (cc)
same_shape (Within distance left right) (Or' r other s more) e = absurd (cc)
same_shape (Within distance left right) (And' r other s more) e = absurd (cc)
same_shape (Within distance left right) (Not' r other) e = absurd (cc)
same_shape (Within distance left right) (Compare op other more) e = absurd (cc)
same_shape (Within distance left right) (Within span other more) e = (cc, cc, cc)

-- Nodes, wherever their operands lie.

somewhere : Box (Unit {0}) Global
somewhere = record { ptr = null_ptr; alloc = record { memory = record { seal = tt } }; value = tt }

pub or_node : (left right : Pred) → (pred : Pred) × IsOr left right pred
or_node left right = (Or' somewhere left somewhere right, (refl, refl))

pub and_node : (left right : Pred) → (pred : Pred) × IsAnd left right pred
and_node left right = (And' somewhere left somewhere right, (refl, refl))

pub not_node : (inner : Pred) → (pred : Pred) × IsNot inner pred
not_node inner = (Not' somewhere inner, refl)

pub or_shape : (left right pred : Pred) → IsOr left right pred → shape pred ≡ either (shape left) (shape right)
or_shape left right (Or' p first q second) h = ap (λ a. either (shape a) (shape second)) h.0 ∙ ap (λ b. either (shape left) (shape b)) h.1
or_shape left right (And' p first q second) h = absurd h
or_shape left right (Not' p inner) h = absurd h
or_shape left right (Compare op first second) h = absurd h
or_shape left right (Within distance first second) h = absurd h

pub and_shape : (left right pred : Pred) → IsAnd left right pred → shape pred ≡ both (shape left) (shape right)
and_shape left right (Or' p first q second) h = absurd h
and_shape left right (And' p first q second) h = ap (λ a. both (shape a) (shape second)) h.0 ∙ ap (λ b. both (shape left) (shape b)) h.1
and_shape left right (Not' p inner) h = absurd h
and_shape left right (Compare op first second) h = absurd h
and_shape left right (Within distance first second) h = absurd h

pub not_shape : (inner pred : Pred) → IsNot inner pred → shape pred ≡ negated (shape inner)
not_shape inner (Or' p first q second) h = absurd h
not_shape inner (And' p first q second) h = absurd h
not_shape inner (Not' p operand) h = ap (λ a. negated (shape a)) h
not_shape inner (Compare op first second) h = absurd h
not_shape inner (Within distance first second) h = absurd h
