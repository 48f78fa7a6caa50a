-- The step of a line of a trace, as it is made.
use Rattle.std.specs.Prelude.{◌≡◌, ◌≢◌, ℕ, true, false, List, None, Ok, Err, MatchBool}
use Rattle.std.specs.declared.option.Option.{Option}
use Rattle.std.specs.declared.result.Result.{Result}
use Rattle.hj_value.specs.declared.field.Field.{Field}
use Rattle.hj_base.specs.declared.outside.Outside.{Ghosts as OutsideGhosts}
use Rattle.hj_query.specs.QueryParts.{QueryParts}
use Rattle.hj_eval.specs.Holds.{holds}
use Rattle.hj_chain.specs.declared.actor.Actor.{Actor}
use Rattle.hj_chain.specs.declared.actor.Stepped.TheVariants as stepped
use Rattle.hj_chain.specs.Chain.{Contents, cause}
use Rattle.hj_chain.specs.Steps.{Gathers, Steps}
use Rattle.hj_stream.specs.declared.outcome.Outcome.{Outcome}
use Rattle.hj_trace.specs.declared.fault.TraceFault.TheVariants as fault
use Rattle.hj_replay.specs.declared.ready.AlwaysReady.{AlwaysReady}
use Rattle.hj_trace.specs.Line.{said}
use Rattle.hj_replay.specs.Feeds.{gives}
use Rattle.hj_verify.specs.declared.verdict.Verdict.{Verdict}
use Rattle.hj_verify.specs.declared.verdict.Verdict.TheVariants as verdict
use Rattle.hj_verify.specs.Checked.{FailsSo, has_failed}
use Rattle.hj_verify.specs.Reading.{no_memory}

-- A check goes on as long as no read of the events failed, and memory didn't run out for them.
abbrev pub GoesOnOver : Option Outcome → Result (Unit {0}) Verdict → Type 0
GoesOnOver ended (Ok went) = has_failed ended ≡ false
GoesOnOver ended (Err judged) = FailsSo ended judged

-- A check is given up where memory ran out: the verdict is that, or how the events failed before.
abbrev pub IsGivenUp : Option Outcome → Verdict → Type 0
IsGivenUp ended judged = MatchBool (has_failed ended) (FailsSo ended judged) (judged ≡ no_memory)

module _ {O : Type 0} {outside : OutsideGhosts O} where
  -- A step was made, and the line says what it did behind its actor.
  pub record Made (actor : Actor) (old new : Contents (List Field) QueryParts) (from to : AlwaysReady O outside)
      (line : List ℕ) : Type 0 where
    pub step : Steps (gives {O = O} {outside = outside}) (λ _. true) (holds old.join) actor old.state from stepped.Did new.state to
    pub gathers : Gathers actor old stepped.Did new
    pub line_is : line ≡ said (holds old.join) old.state actor
    pub going : has_failed to.feed.ended ≡ false

  -- The actor of the line of this number isn't enabled, and nothing was done.
  pub record IsDisabled (at number : ℕ) (actor : Actor) (old new : Contents (List Field) QueryParts)
      (from to : AlwaysReady O outside) : Type 0 where
    pub at_is : at ≡ number
    pub disabled : cause old.state actor ≢ None
    pub chain : new ≡ old
    pub feed : to ≡ from

  abbrev pub MakesStep : Result (Unit {0}) Verdict → ℕ → Actor → Contents (List Field) QueryParts → Contents (List Field) QueryParts
      → AlwaysReady O outside → AlwaysReady O outside → List ℕ → Type 0
  MakesStep (Ok went) number actor old new from to line = Made actor old new from to line
  MakesStep (Err (verdict.Refused (fault.NotEnabled at))) number actor old new from to line = IsDisabled at number actor old new from to
  MakesStep (Err judged) number actor old new from to line = IsGivenUp to.feed.ended judged
