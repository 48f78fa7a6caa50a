-- The step of a line, by how it went.
use Rattle.std.proofs.Common.{◌≡◌, ◌≢◌, Bool, true, false, List, ℕ, Some, refl, sym, ap, subst, ◌∙◌}
use Rattle.std.specs.Prelude.{IfOk, MatchBool, Ok, Err}
use Rattle.std.specs.declared.option.Option.{Option}
use Rattle.std.specs.declared.result.Result.{Result}
use Rattle.hj_value.specs.declared.field.Field.{Field}
use Rattle.hj_base.specs.declared.outside.Outside.{Ghosts as OutsideGhosts}
use Rattle.hj_base.specs.declared.outside.Role.{Role}
use Rattle.hj_query.specs.QueryParts.{QueryParts}
use Rattle.hj_eval.specs.Holds.{holds}
use Rattle.hj_chain.specs.declared.actor.Actor.{Actor}
use Rattle.hj_chain.specs.declared.actor.Stepped.TheVariants as stepped
use Rattle.hj_chain.specs.Chain.{Contents}
use Rattle.hj_chain.specs.Steps.{Gathers, Steps}
use Rattle.hj_stream.specs.declared.outcome.Outcome.{Outcome}
use Rattle.hj_stream.specs.declared.outcome.Outcome.TheVariants as outcome
use Rattle.hj_trace.specs.declared.fault.TraceFault.{TraceFault}
use Rattle.hj_trace.specs.Line.{said}
use Rattle.hj_replay.specs.declared.ready.AlwaysReady.{AlwaysReady}
use Rattle.hj_replay.specs.Feeds.{gives}
use Rattle.hj_verify.specs.declared.verdict.Verdict.{Verdict}
use Rattle.hj_verify.specs.declared.verdict.Verdict.TheVariants as verdict
use Rattle.hj_verify.specs.Checked.{FailsSo, has_failed}
use Rattle.hj_verify.specs.Making.{GoesOnOver, IsGivenUp, MakesStep}
use Rattle.hj_verify.specs.Reading.{no_memory}

abbrev Row : Type 0
Row = List Field

-- ---- a check that goes on, or is given up

-- how the events failed is no fault of the trace
not_refused : (ended : Option Outcome) (found : TraceFault) → FailsSo ended (verdict.Refused found) → ⊥
not_refused ended found fails = let wrong : verdict.Refused found ≡ verdict.Ended fails.made = fails.judged_is in cc

not_accepted : (ended : Option Outcome) (events : ℕ) → FailsSo ended (verdict.Accepted events) → ⊥
not_accepted ended events fails = let wrong : verdict.Accepted events ≡ verdict.Ended fails.made = fails.judged_is in cc

memory_refused : (found : TraceFault) → verdict.Refused found ≡ no_memory → ⊥
memory_refused found e = let wrong : verdict.Refused found ≡ verdict.Ended outcome.Memory = e in cc

given_up_so : (ended : Option Outcome) (found : TraceFault) (b : Bool) → MatchBool b (FailsSo ended (verdict.Refused found)) (verdict.Refused found ≡ no_memory) → ⊥
given_up_so ended found true so = not_refused ended found so
given_up_so ended found false so = memory_refused found so

pub fails_given_up : (ended : Option Outcome) (judged : Verdict) → FailsSo ended judged → IsGivenUp ended judged
fails_given_up ended judged fails = subst (λ (b : Bool). MatchBool b (FailsSo ended judged) (judged ≡ no_memory)) (sym fails.failed) fails

pub given_up_going : (ended : Option Outcome) → has_failed ended ≡ false → IsGivenUp ended no_memory
given_up_going ended going = subst (λ (b : Bool). MatchBool b (FailsSo ended no_memory) (no_memory ≡ no_memory)) (sym going) refl

pub fails_with : (ended : Option Outcome) (made : Outcome) → ended ≡ Some made → has_failed (Some made) ≡ true → FailsSo ended (verdict.Ended made)
fails_with ended made is failed = record { made = made; ended_is = is; failed = ap has_failed is ∙ failed; judged_is = refl }

pub goes_on_else : (ended : Outcome) → ((of : Role) → ended ≢ outcome.SourceFault of) → ended ≢ outcome.Memory → has_failed (Some ended) ≡ false
goes_on_else (outcome.Done events) read some = refl
goes_on_else (outcome.Bad side at found) read some = refl
goes_on_else (outcome.SourceFault of) read some = absurd (read of refl)
goes_on_else outcome.SinkFault read some = refl
goes_on_else outcome.TooMany read some = refl
goes_on_else outcome.Memory read some = absurd (some refl)

-- a call that went well promises this, where it is so anyhow
pub if_ok : {A : Type 0} (result : Result (Unit {0}) Verdict) → A → IfOk result (λ _. A)
if_ok (Ok went) so = so
if_ok (Err judged) so = tt

-- ---- what the step of a line did

module _ {O : Type 0} {outside : OutsideGhosts O} (number : ℕ) (actor : Actor) (old new : Contents Row QueryParts) (from to : AlwaysReady O outside) (line : List ℕ) where
  -- it was made
  pub makes_on : (result : Result (Unit {0}) Verdict) → GoesOnOver to.feed.ended result → Steps (gives {O = O} {outside = outside}) (λ _. true) (holds old.join) actor old.state from stepped.Did new.state to → Gathers actor old stepped.Did new
      → line ≡ said (holds old.join) old.state actor → MakesStep {O = O} {outside = outside} result number actor old new from to line
  makes_on (Ok went) going step gathers is = record { step = step; gathers = gathers; line_is = is; going = going }
  makes_on (Err (verdict.Accepted events)) fails step gathers is = absurd (not_accepted to.feed.ended events fails)
  makes_on (Err (verdict.Refused found)) fails step gathers is = absurd (not_refused to.feed.ended found fails)
  makes_on (Err (verdict.Ended made)) fails step gathers is = fails_given_up to.feed.ended (verdict.Ended made) fails

  -- memory ran out
  pub makes_none : (judged : Verdict) → IsGivenUp to.feed.ended judged → MakesStep {O = O} {outside = outside} (Err judged) number actor old new from to line
  makes_none (verdict.Accepted events) so = so
  makes_none (verdict.Refused found) so = absurd (given_up_so to.feed.ended found (has_failed to.feed.ended) so)
  makes_none (verdict.Ended made) so = so
