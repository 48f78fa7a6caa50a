-- The verdict on a trace and an output with which nothing is wrong.
use Rattle.hj_stream.specs.declared.outcome.Outcome.{Outcome}
use Rattle.hj_stream.specs.declared.outcome.Outcome.TheVariants as outcome
use Rattle.hj_verify.specs.declared.verdict.Verdict.{Verdict}
use Rattle.hj_verify.specs.declared.verdict.Verdict.TheVariants as verdict

-- It says how the events have ended.
abbrev pub verdict_by : Outcome → Verdict
verdict_by (outcome.Done events) = verdict.Accepted events
verdict_by (outcome.Bad side at found) = verdict.Ended (outcome.Bad side at found)
verdict_by (outcome.SourceFault of) = verdict.Ended (outcome.SourceFault of)
verdict_by outcome.SinkFault = verdict.Ended outcome.SinkFault
verdict_by outcome.TooMany = verdict.Ended outcome.TooMany
verdict_by outcome.Memory = verdict.Ended outcome.Memory
