-- The chains that the calling thread turns alone, and in which order.
use Rattle.std.specs.Prelude.{ℕ, ◌==◌, None, Some, if◌then◌else◌}
use Rattle.std.specs.declared.option.Option.{Option}
use Rattle.hj_base.specs.declared.numbers.Setup.{Setup}
use Rattle.hj_chain.specs.declared.serial.Chooser.{Chooser}
use Rattle.hj_words.specs.declared.order.Order as spelled
use Rattle.hj_words.specs.declared.order.Order.TheVariants as spells
use Rattle.hj_opening.specs.Words.{chooser_of}

-- How many cores such a chain has, how many events are under way in it at most, and the order of its steps.
pub record SerialChain : Type 0 where
  pub cores : ℕ
  pub flight : ℕ
  pub chooser : Chooser

-- the one of these numbers, where there are no threads
abbrev pub serial_with : Setup → Option ℕ → Option SerialChain
serial_with setup schedule =
    if setup.threads == 0 then Some (record { cores = setup.cores; flight = setup.flight; chooser = chooser_of schedule }) else None

-- the one of an order: that of a join with no threads
abbrev pub serial_of : spelled.Order → Option SerialChain
serial_of (spells.Equi w left right) = None
serial_of (spells.Join setup limit schedule query left right) = serial_with setup schedule
serial_of (spells.Raw setup limit query left right) = None
serial_of (spells.Trace cores flight limit schedule query left right) = None
serial_of (spells.Verify cores flight limit query left right trace output) = None
serial_of (spells.Check query) = None
serial_of (spells.Gen n keys seed w) = None
serial_of (spells.Twice setup limit schedule query left right second third) = None
