-- The journal of an end of a link: its puts and takes in its own order, each with its message and its turn.
use Rattle.std.specs.Prelude.{◌≡◌, ℕ, Bool, true, false, not, List, ◌++◌, filter, map}
use Rattle.std.specs.List.Sorted.{IsNonDecreasing}

pub record Entry (M : Type 0) : Type 0 where
  -- a put, or else a take
  pub is_put : Bool
  pub turn : ℕ
  pub message : M

abbrev pub put : {M : Type 0} → ℕ → M → Entry M
put turn message = record { is_put = true; turn = turn; message = message }

abbrev pub taken : {M : Type 0} → ℕ → M → Entry M
taken turn message = record { is_put = false; turn = turn; message = message }

-- the messages that the end put, and those that it took
abbrev pub puts : {M : Type 0} → List (Entry M) → List M
puts journal = map (λ entry. entry.message) (filter (λ entry. entry.is_put) journal)

abbrev pub takes : {M : Type 0} → List (Entry M) → List M
takes journal = map (λ entry. entry.message) (filter (λ entry. not entry.is_put) journal)

-- The turns never fall.
abbrev pub IsInTurn : {M : Type 0} → List (Entry M) → Type 0
IsInTurn journal = IsNonDecreasing (map (λ entry. entry.turn) journal)

-- The first list is the beginning of the second one, and the second one goes on with `rest`.
pub record IsPrefix {X : Type 0} (xs ys : List X) : Type 0 where
  pub rest : List X
  pub is : ys ≡ xs ++ rest
