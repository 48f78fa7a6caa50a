-- What the lines of steps are that were written one after another.
use Rattle.std.specs.Prelude.{◌≡◌, ◌≢◌, ℕ, Bool, List, [], ◌++◌, None, Some}
use Rattle.std.specs.Io.KnownBytes.{Appends}
use Rattle.std.specs.declared.option.Option.{Option}
use Rattle.hj_value.specs.declared.field.Field.{Field}
use Rattle.hj_base.specs.declared.output.Sent.{Sent}
use Rattle.hj_base.specs.declared.output.Sent.TheVariants as sent
use Rattle.hj_base.specs.declared.outside.Outside.{Ghosts as OutsideGhosts}
use Rattle.hj_msg.specs.declared.event.Event.{Event}
use Rattle.hj_msg.specs.Feed.{events_in}
use Rattle.hj_chain.specs.declared.serial.Chooser.{Chooser}
use Rattle.hj_stream.specs.declared.outcome.Outcome.{Outcome}
use Rattle.hj_stream.specs.declared.outcome.Outcome.TheVariants as outcome
use Rattle.hj_trace.specs.Play.{BeginsTrace, IsTrace}
use Rattle.hj_replay.specs.declared.ready.AlwaysReady.{AlwaysReady}
use Rattle.hj_replay.specs.Feeds.{Fed, MayCome}

-- The whole trace was written, and the events have ended; or what begins one.
abbrev pub Wrote : Sent → Option Outcome → (whole begun : Type 0) → Type 0
Wrote sent.Whole ended whole begun = (ended ≢ None) × (ended ≢ Some outcome.Memory) × whole
Wrote sent.Failed ended whole begun = begun
Wrote sent.Memory ended whole begun = begun

-- The outcome that the sending of the lines makes: how the events ended, where all were sent.
abbrev pub Makes : Sent → Option Outcome → Outcome → Type 0
Makes sent.Whole ended made = ended ≡ Some made
Makes sent.Failed ended made = made ≡ outcome.SinkFault
Makes sent.Memory ended made = made ≡ outcome.Memory

module _ {O : Type 0} {outside : OutsideGhosts O} where
  -- The lines of steps were written, in the order of a rule, over the events that the feed gave; `first` are those that it gave before.
  pub record WritesLines (matches : List Field → List Field → Bool) (rule : Chooser) (n flight : ℕ) (first : List (Event (List Field))) (answer : Sent) (from to : AlwaysReady O outside) (old new : Option (List ℕ)) : Type 0 where
    pub feed : Fed from to
    pub grown : List ℕ
    pub written : Appends old new grown
    pub text : (more : List (Event (List Field))) → MayCome to.feed.ended more
        → Wrote answer to.feed.ended (IsTrace matches rule n flight (first ++ (events_in feed.answers ++ more)) grown) (BeginsTrace matches rule n flight (first ++ (events_in feed.answers ++ more)) grown)

module _ {O : Type 0} {outside : OutsideGhosts O} where
  -- The lines of a run were written from its beginning, over the events that the feed gave.
  abbrev pub WritesRun : (List Field → List Field → Bool) → Chooser → (n flight : ℕ) → Sent → AlwaysReady O outside → AlwaysReady O outside → Option (List ℕ) → Option (List ℕ) → Type 0
  WritesRun matches rule n flight answer from to old new = WritesLines matches rule n flight [] answer from to old new
