-- What a collector keeps of the reports that were taken.
use Rattle.std.specs.Prelude.{ℕ, Bool, List, replicate, None, Some}
use Rattle.std.specs.declared.option.Option.{Option}
use Rattle.std.specs.Option.{option_or}
use Rattle.hj_base.specs.declared.numbers.CoreNo.{CoreNo}
use Rattle.hj_base.specs.declared.numbers.Side.TheVariants.{Left, Right}
use Rattle.hj_msg.specs.declared.message.Report.{Report}
use Rattle.hj_msg.specs.declared.message.Report.TheVariants.{Handled, Quiet, Ended, NoMemory}
use Rattle.hj_msg.specs.Punctuation.{Mark, all, lesser}
use Rattle.hj_collect.specs.Marks.{is_same, least_of, with_raised, with_end}

-- each core's mark for each side, and the first core that reported that memory ran out
pub record CollectorState : Type 0 where
  pub left : List (Option Mark)
  pub right : List (Option Mark)
  pub stopped : Option CoreNo

abbrev pub nothing_taken : ℕ → CollectorState
nothing_taken cores = record { left = replicate cores None; right = replicate cores None; stopped = None }

-- the least mark of all cores and both sides
abbrev pub least_mark : CollectorState → Option Mark
least_mark collector = lesser (least_of collector.left) (least_of collector.right)

-- that is past every number
abbrev pub has_ended : CollectorState → Bool
has_ended collector = is_same (least_mark collector) (Some all)

-- The first core that reported that memory ran out, where this core's report is the next one.
abbrev pub first_stopped : {P : Type 0} → Option CoreNo → CoreNo → Report P → Option CoreNo
first_stopped (Some first) core report = Some first
first_stopped None core NoMemory = Some core
first_stopped None core (Quiet at side) = None
first_stopped None core Ended = None
first_stopped None core (Handled at side row partners) = None

-- the collector after this report of a core
abbrev pub after_report : {P : Type 0} → CoreNo → Report P → CollectorState → CollectorState
after_report core (Handled at Left row partners) collector = record collector { left = with_raised core.0 at.0 collector.left }
after_report core (Handled at Right row partners) collector = record collector { right = with_raised core.0 at.0 collector.right }
after_report core (Quiet at Left) collector = record collector { left = with_raised core.0 at.0 collector.left }
after_report core (Quiet at Right) collector = record collector { right = with_raised core.0 at.0 collector.right }
after_report core Ended collector = record collector { left = with_end core.0 collector.left; right = with_end core.0 collector.right }
after_report core NoMemory collector = record collector { stopped = option_or collector.stopped (Some core) }
