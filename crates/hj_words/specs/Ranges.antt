-- The ranges of the numbers that an order has.
use Rattle.std.specs.Prelude.{ℕ, ◌≤◌}
use Rattle.hj_base.specs.declared.numbers.Setup.{Setup}
use Rattle.hj_words.specs.Orders.{most_events, most_rows}
use Rattle.hj_words.specs.declared.order.Order.{Order}
use Rattle.hj_words.specs.declared.order.Order.TheVariants.{Equi, Join, Check, Gen, Raw, Trace, Verify, Twice}

pub record IsFrom (low high value : ℕ) : Type 0 where
  pub least : low ≤ value
  pub most : value ≤ high

-- the numbers of a join's options, on at least this many threads
pub record AreOptions (fewest : ℕ) (setup : Setup) (most : ℕ) : Type 0 where
  pub cores : IsFrom 1 64 setup.cores
  pub threads : IsFrom fewest 64 setup.threads
  pub flight : IsFrom 1 256 setup.flight
  pub limit : IsFrom 1 most_events most

-- the numbers of `gen`
pub record AreNumbers (rows different window : ℕ) : Type 0 where
  pub n : IsFrom 0 100000 rows
  pub keys : IsFrom 1 1000000000 different
  pub w : IsFrom 1 most_rows window

-- the setup of a join on no threads
abbrev pub alone : ℕ → ℕ → Setup
alone cores flight = record { cores = cores; threads = 0; flight = flight }

abbrev pub IsInRange : Order → Type 0
IsInRange (Equi w left right) = IsFrom 1 most_rows w
IsInRange (Join setup limit schedule query left right) = AreOptions 0 setup limit
IsInRange (Check query) = Unit {0}
IsInRange (Gen n keys seed w) = AreNumbers n keys w
IsInRange (Raw setup limit query left right) = AreOptions 1 setup limit
IsInRange (Trace cores flight limit schedule query left right) = AreOptions 0 (alone cores flight) limit
IsInRange (Verify cores flight limit query left right trace output) = AreOptions 0 (alone cores flight) limit
IsInRange (Twice setup limit schedule query left right second third) = AreOptions 0 setup limit
