-- How the end of a run makes the outcome of a join.
use Rattle.std.specs.Prelude.{◌≡◌, Some}
use Rattle.std.specs.declared.option.Option.{Option}
use Rattle.hj_msg.specs.declared.fin.Fin.{Fin}
use Rattle.hj_msg.specs.declared.fin.Fin.TheVariants as fin
use Rattle.hj_stream.specs.declared.outcome.Outcome.{Outcome}
use Rattle.hj_stream.specs.declared.outcome.Outcome.TheVariants as outcome
use Rattle.hj_base.specs.declared.output.Sent.{Sent}
use Rattle.hj_stream.specs.Draining.{refusal_of}

-- The outcome of a run that ended so: that of the feed's end, or that of the last line, or that memory ran out.
abbrev pub EndsAs : Fin → Option Outcome → Sent → Outcome → Type 0
EndsAs fin.Done ended last made = ended ≡ Some made
EndsAs fin.Refused ended last made = made ≡ refusal_of last
EndsAs fin.Memory ended last made = made ≡ outcome.Memory
