-- The lines of pairs, as a drain sends them one after another.
use Rattle.std.specs.Prelude.{◌≡◌, ℕ, List}
use Rattle.std.specs.declared.option.Option.{Option}
use Rattle.hj_msg.specs.declared.drain.Drained.{Drained}
use Rattle.hj_msg.specs.declared.drain.Drained.TheVariants.{Kept, Refused}
use Rattle.hj_stream.specs.declared.outcome.Outcome.{Outcome}
use Rattle.hj_stream.specs.declared.outcome.Outcome.TheVariants as outcome
use Rattle.hj_base.specs.declared.output.Sent.{Sent}
use Rattle.hj_base.specs.declared.output.Sent.TheVariants as sent
use Rattle.hj_base.specs.Output.{CountsFaults, SendsPiece}

-- A pair is kept exactly where its whole line was sent.
abbrev pub answer_by : Sent → Drained
answer_by sent.Whole = Kept
answer_by sent.Failed = Refused
answer_by sent.Memory = Refused

-- The outcome of a join whose last line was sent so.
abbrev pub refusal_of : Sent → Outcome
refusal_of sent.Whole = outcome.Memory
refusal_of sent.Failed = outcome.SinkFault
refusal_of sent.Memory = outcome.Memory

-- A drain took a pair with this answer: its line was sent so to a sink that tells its bytes, and counts its faults.
pub record SendsLine (line : List ℕ) (answer : Drained) (last : Sent) (old new : Option (List ℕ)) (before now : ℕ) : Type 0 where
  pub answered : answer ≡ answer_by last
  pub sends : SendsPiece last line old new
  pub faults : CountsFaults last before now
