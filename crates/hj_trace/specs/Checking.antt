-- What is wrong with a trace and an output of a join over these events: lines are counted from 1, and bytes of the output from 0.
use Rattle.std.specs.Prelude.{◌≡◌, ◌≢◌, ℕ, ◌+◌, Bool, List, [], ◌∷◌, ◌++◌, length, None}
use Rattle.hj_base.specs.Journals.{IsPrefix}
use Rattle.hj_msg.specs.declared.event.Event.{Event}
use Rattle.hj_chain.specs.declared.actor.Actor.{Actor}
use Rattle.hj_chain.specs.Chain.{cause}
use Rattle.hj_chain.specs.Progress.{IsDone}
use Rattle.hj_trace.specs.declared.fault.TraceFault.{TraceFault}
use Rattle.hj_trace.specs.declared.fault.TraceFault.TheVariants as fault
use Rattle.hj_trace.specs.Actors.{IsNumbered, actor_text}
use Rattle.hj_trace.specs.Line.{line_text}
use Rattle.hj_trace.specs.Play.{Playing, at_start, played, trace_text, AreEnabled}
use Rattle.hj_trace.specs.Stream.{BeginsWithNoActor}

-- the bytes begin with this actor's text and a comma
pub record BeginsWith (actor : Actor) (bytes : List ℕ) : Type 0 where
  pub numbered : IsNumbered actor
  pub rest : List ℕ
  pub is : bytes ≡ actor_text actor ++ 44 ∷ rest

-- The bytes begin with an actor's text and a comma, where this holds of the actor.
pub record BeginsWhere (so : Actor → Type 0) (bytes : List ℕ) : Type 0 where
  pub actor : Actor
  pub begins : BeginsWith actor bytes
  pub is_so : so actor

-- Two texts part: one has ended, or they go on with different bytes.
abbrev pub Part : List ℕ → List ℕ → Type 0
Part [] [] = ⊥
Part [] (byte ∷ later) = Unit {0}
Part (byte ∷ later) [] = Unit {0}
Part (one ∷ later) (other ∷ behind) = one ≢ other

-- The first byte at which two texts differ, or where one of them has ended.
pub record DifferAt (at : ℕ) (one other : List ℕ) : Type 0 where
  pub same : List ℕ
  pub left : List ℕ
  pub right : List ℕ
  pub one_is : one ≡ same ++ left
  pub other_is : other ≡ same ++ right
  pub at_is : at ≡ length same
  pub part : Part left right

module _ {P : Type 0} (matches : P → P → Bool) where
  -- What is wrong at the line of this number, where the chain stands so and these bytes are left of the trace; or, behind the whole
  -- trace, with the output, which is to be this text. A chain that is done ends its trace.
  abbrev pub Breaks : TraceFault → ℕ → Playing P → List ℕ → (output text : List ℕ) → Type 0
  Breaks (fault.Form line) number now rest output text = (line ≡ number) × (IsDone now.chain → ⊥) × (rest ≢ []) × BeginsWithNoActor rest
  Breaks (fault.NotEnabled line) number now rest output text = (line ≡ number) × (IsDone now.chain → ⊥) × BeginsWhere (λ actor. cause now.chain actor ≢ None) rest
  Breaks (fault.Text line) number now rest output text =
      (line ≡ number) × (IsDone now.chain → ⊥) × BeginsWhere (λ actor. (cause now.chain actor ≡ None) × (IsPrefix (line_text matches now.chain actor) rest → ⊥)) rest
  Breaks (fault.Early line) number now rest output text = (line ≡ number) × (IsDone now.chain → ⊥) × (rest ≡ [])
  Breaks (fault.Late line) number now rest output text = (line ≡ number) × IsDone now.chain × (rest ≢ [])
  Breaks (fault.Output at) number now rest output text = IsDone now.chain × (rest ≡ []) × DifferAt at output text

  -- The trace begins with the lines of the steps of a schedule, and then this is wrong.
  pub record Stands (found : TraceFault) (n flight : ℕ) (events : List (Event P)) (trace output text : List ℕ) : Type 0 where
    pub schedule : List Actor
    pub enabled : AreEnabled matches schedule (at_start n flight events)
    pub rest : List ℕ
    pub trace_is : trace ≡ trace_text matches schedule (at_start n flight events) ++ rest
    pub breaks : Breaks found (length schedule + 1) (played matches schedule (at_start n flight events)) rest output text

  -- The trace is that of a schedule behind which the chain is done, and the output is this text.
  pub record IsRight (n flight : ℕ) (events : List (Event P)) (trace output text : List ℕ) : Type 0 where
    pub schedule : List Actor
    pub enabled : AreEnabled matches schedule (at_start n flight events)
    pub trace_is : trace ≡ trace_text matches schedule (at_start n flight events)
    pub done : IsDone (played matches schedule (at_start n flight events)).chain
    pub output_is : output ≡ text
