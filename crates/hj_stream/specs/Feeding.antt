-- The events of two streams as a feed gives them, one after another, and how they end.
use Rattle.std.specs.Prelude.{◌≡◌, ℕ, ◌+◌, List, None, Some}
use Rattle.std.specs.declared.option.Option.{Option}
use Rattle.hj_value.specs.declared.field.Field.{Field}
use Rattle.hj_base.specs.declared.outside.Role.{Role}
use Rattle.hj_base.specs.Outside.{RoleState, role_of}
use Rattle.hj_msg.specs.declared.feed.Given.{Given}
use Rattle.hj_msg.specs.declared.feed.Given.TheVariants.{Event, Stop}
use Rattle.hj_event.specs.declared.merger.Next.{Next}
use Rattle.hj_event.specs.declared.merger.Next.TheVariants as next
use Rattle.hj_event.specs.Merger.{Merging, TakesNext}
use Rattle.hj_stream.specs.declared.outcome.Outcome.{Outcome}
use Rattle.hj_stream.specs.declared.outcome.Outcome.TheVariants as outcome

-- What is seen of a feed: its merger and the roles that this reads, how many events were given, and once they have ended the
-- outcome of a join of them.
pub record Feeding : Type 0 where
  pub merger : Merging
  pub roles : Role → RoleState
  pub events : ℕ
  pub ended : Option Outcome

-- The outcome of a join of this many events, where the merger says this after them and every line is written.
abbrev pub outcome_by : ℕ → Next → Option Outcome
outcome_by count (next.Event event) = None
outcome_by count next.Done = Some (outcome.Done count)
outcome_by count (next.Bad side at why) = Some (outcome.Bad side at why)
outcome_by count (next.Failed side) = Some (outcome.SourceFault (role_of side))
outcome_by count next.TooMany = Some outcome.TooMany
outcome_by count next.Memory = Some outcome.Memory

-- The merger gives an event, and the feed gives it.
pub record FeedGoesOn (answer : Next) (old new : Feeding) : Type 0 where
  pub takes : TakesNext answer old.merger new.merger old.roles new.roles
  pub counted : new.events ≡ old.events + 1
  pub going : new.ended ≡ None

-- The merger gives no event, and the outcome that this makes is kept.
pub record EndsFeed (old new : Feeding) : Type 0 where
  pub last : Next
  pub takes : TakesNext last old.merger new.merger old.roles new.roles
  pub outcome : Outcome
  pub made : outcome_by old.events last ≡ Some outcome
  pub counted : new.events ≡ old.events
  pub kept : new.ended ≡ Some outcome

-- An answer of a feed: that of the merger, as long as the events haven't ended; then nothing is read any more.
abbrev pub GivesFrom : Option Outcome → Given (List Field) → Feeding → Feeding → Type 0
GivesFrom None (Event event) old new = FeedGoesOn (next.Event event) old new
GivesFrom None Stop old new = EndsFeed old new
GivesFrom (Some ended) (Event event) old new = ⊥
GivesFrom (Some ended) Stop old new = new ≡ old

abbrev pub Gives : Given (List Field) → Feeding → Feeding → Type 0
Gives answer old new = GivesFrom old.ended answer old new
