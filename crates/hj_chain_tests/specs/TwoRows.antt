-- A join of every two rows, and a feed of two rows, to try a chain on.
use Rattle.std.specs.Prelude.{ℕ, ◌-◌, Bool, true, [], ◌∷◌, zero, suc}
use Rattle.hj_base.specs.declared.numbers.Side.{Side}
use Rattle.hj_base.specs.declared.numbers.Side.TheVariants.{Left, Right}
use Rattle.hj_msg.specs.Feed.{FeedState, Numbering, first_numbering}

-- every two rows match
abbrev pub all_match : {J P : Type 0} → J → P → P → Bool
all_match join left right = true

abbrev pub other_side : Side → Side
other_side Left = Right
other_side Right = Left

-- the side of the next row, where the first one is of this side and so many were given
abbrev pub next_side : Side → ℕ → Side
next_side first zero = first
next_side first (suc given) = other_side first

-- the numbering of such a feed, whose first row is of this side, when so many rows were given
abbrev pub two_rows : Side → ℕ → Numbering
two_rows side zero = first_numbering
two_rows Left (suc zero) = record { next = 1; live_left = 0 ∷ []; live_right = [] }
two_rows Right (suc zero) = record { next = 1; live_left = []; live_right = 0 ∷ [] }
two_rows Left (suc (suc more)) = record { next = 2; live_left = 0 ∷ []; live_right = 1 ∷ [] }
two_rows Right (suc (suc more)) = record { next = 2; live_left = 1 ∷ []; live_right = 0 ∷ [] }

-- what stands of the feed
abbrev pub rows_given : Side → ℕ → Bool → FeedState
rows_given first given stopped = record { numbering = two_rows first given; remaining = 2 - given; stopped = stopped }
