-- The pairs that are due of a chain, whose lines an output is compared with.
use Rattle.std.specs.Prelude.{◌≡◌, ℕ, List, None, Ok, Err, take}
use Rattle.std.specs.declared.result.Result.{Result}
use Rattle.hj_base.specs.declared.outside.Role.TheVariants as role
use Rattle.hj_base.specs.Outside.{RoleState}
use Rattle.hj_value.specs.declared.field.Field.{Field}
use Rattle.hj_msg.specs.declared.event.Event.{Event}
use Rattle.hj_msg.specs.declared.event.Pair.{Pair}
use Rattle.hj_msg.specs.Emission.{emitted}
use Rattle.hj_query.specs.QueryParts.{QueryParts}
use Rattle.hj_eval.specs.Holds.{holds}
use Rattle.hj_chain.specs.declared.actor.Actor.{Actor}
use Rattle.hj_chain.specs.Chain.{Contents}
use Rattle.hj_chain.specs.Reached.{StandsFor, collected_of, next_pair}
use Rattle.hj_stream.specs.JoinText.{text}
use Rattle.hj_trace.specs.Stream.{TextStreamState}
use Rattle.hj_verify.specs.declared.output.OutputCheck.{OutputCheck}
use Rattle.hj_verify.specs.declared.verdict.Verdict.{Verdict}
use Rattle.hj_verify.specs.Output.{OutputAgrees}
use Rattle.hj_verify.specs.Reading.{GivesUp}

-- A chain stands for this schedule and these events, emits these pairs, and gave so many of them.
pub record ChainHasGiven (chain : Contents (List Field) QueryParts) (schedule : List Actor) (events : List (Event (List Field))) (given : ℕ)
    (pairs : List (Pair (List Field))) : Type 0 where
  pub stands : StandsFor holds chain schedule events given
  pub emits : emitted (collected_of stands.reached) ≡ pairs

-- All pairs that are due were given, and the output was compared with their lines.
pub record GaveDue (chain : Contents (List Field) QueryParts) (schedule : List Actor) (events : List (Event (List Field)))
    (pairs : List (Pair (List Field)))
    (start : TextStreamState) (before : RoleState) (output : OutputCheck) (now : RoleState) : Type 0 where
  pub given : ℕ
  pub has : ChainHasGiven chain schedule events given pairs
  pub none_due : next_pair has.stands ≡ None
  pub agrees : OutputAgrees (text (take given pairs)) start before output now

-- That was done, or given up.
abbrev pub ChecksDue : Result (Unit {0}) Verdict → Contents (List Field) QueryParts → List Actor → List (Event (List Field))
    → List (Pair (List Field)) → TextStreamState → RoleState → OutputCheck → RoleState → Type 0
ChecksDue (Ok went) chain schedule events pairs start before output now = GaveDue chain schedule events pairs start before output now
ChecksDue (Err judged) chain schedule events pairs start before output now = GivesUp judged role.Output start before output.stream now
