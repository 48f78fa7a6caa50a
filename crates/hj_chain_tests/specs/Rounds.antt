-- A feed of rounds, to try runs on threads on: a left row and a right row come, and then both expire.
use Rattle.std.specs.Prelude.{ℕ, ◌-◌, Bool, List, [], ◌∷◌, None, Some}
use Rattle.std.specs.declared.option.Option.{Option}
use Rattle.hj_base.specs.declared.numbers.EventNo.{EventNo}
use Rattle.hj_msg.specs.Feed.{FeedState}

-- the numbers of the rows of a side that are live: one at most
abbrev pub live : Option EventNo → List ℕ
live None = []
live (Some number) = number.0 ∷ []

-- What stands of such a feed, which gives so many events at most: the live row of each side, and how many events were given.
abbrev pub rounds_given : Option EventNo → Option EventNo → ℕ → ℕ → Bool → FeedState
rounds_given left right given most stopped = record {
  numbering = record { next = given; live_left = live left; live_right = live right };
  remaining = most - given;
  stopped = stopped;
}
