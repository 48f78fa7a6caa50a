-- What is seen of a feed of two streams' events, and what steps of a chain do to it.
use Rattle.std.specs.Prelude.{◌≡◌, ◌-◌, List, [], None, Some, is_some}
use Rattle.std.specs.declared.option.Option.{Option}
use Rattle.hj_value.specs.declared.field.Field.{Field}
use Rattle.hj_base.specs.declared.outside.Outside.{Ghosts as OutsideGhosts}
use Rattle.hj_base.specs.declared.outside.Role.{Role}
use Rattle.hj_base.specs.declared.outside.Role.TheVariants as role
use Rattle.hj_base.specs.Outside.{RoleState, ChangesOnlyStreams, NamesStay}
use Rattle.hj_msg.specs.declared.event.Event.{Event}
use Rattle.hj_msg.specs.declared.feed.Given.{Given}
use Rattle.hj_msg.specs.Feed.{Answers, FeedState, GoesOverAnswers, numbering_of}
use Rattle.hj_stream.specs.declared.outcome.Outcome.{Outcome}
use Rattle.hj_stream.specs.declared.outcome.Outcome.TheVariants as outcome
use Rattle.hj_stream.specs.Feeding.{Feeding, Gives}
use Rattle.hj_replay.specs.declared.ready.AlwaysReady.{AlwaysReady}

-- the roles with these states of the two streams
abbrev pub with_streams : (Role → RoleState) → RoleState → RoleState → Role → RoleState
with_streams roles left right role.Query = roles role.Query
with_streams roles left right role.SecondQuery = roles role.SecondQuery
with_streams roles left right role.Left = left
with_streams roles left right role.Right = right
with_streams roles left right role.Third = roles role.Third
with_streams roles left right role.Trace = roles role.Trace
with_streams roles left right role.Output = roles role.Output

-- A feed that is seen so gave these answers, one after another.
abbrev pub Gave : Feeding → List (Given (List Field)) → Feeding → Type 0
Gave old answers new = GoesOverAnswers (λ from answer to. Gives answer from to) old answers new

module _ {O : Type 0} {outside : OutsideGhosts O} where
  -- a feed, of whose roles the two of its streams are seen alone
  abbrev pub seen : (Role → RoleState) → AlwaysReady O outside → Feeding
  seen roles feed = record {
    merger = feed.feed.merger.now;
    roles = with_streams roles (outside.state feed.feed.outside.now role.Left) (outside.state feed.feed.outside.now role.Right);
    events = feed.feed.events;
    ended = feed.feed.ended;
  }

  -- what a chain sees of it
  abbrev pub state_of : AlwaysReady O outside → FeedState
  state_of feed = record { numbering = numbering_of feed.feed.given.items; remaining = feed.feed.limit - feed.feed.events; stopped = is_some feed.feed.ended }

  -- what the roles of its outside are
  abbrev pub roles_of : AlwaysReady O outside → Role → RoleState
  roles_of feed = outside.state feed.feed.outside.now

  -- an answer of the feed
  abbrev pub gives : AlwaysReady O outside → Given (List Field) → AlwaysReady O outside → Type 0
  gives old answer new = (new.feed.outside.ghost_name ≡ old.feed.outside.ghost_name)
      × NamesStay (outside.under old.feed.outside.now) (outside.under new.feed.outside.now)
      × Gives answer (record { merger = old.feed.merger.now; roles = roles_of old; events = old.feed.events; ended = old.feed.ended })
      (record { merger = new.feed.merger.now; roles = roles_of new; events = new.feed.events; ended = new.feed.ended })
      × Answers answer (state_of old) (state_of new)

  -- The outside of a feed is the same one, and so are its names.
  pub record SameOutside (old new : AlwaysReady O outside) : Type 0 where
    pub same : new.feed.outside.ghost_name ≡ old.feed.outside.ghost_name
    pub names : NamesStay (outside.under old.feed.outside.now) (outside.under new.feed.outside.now)

  -- The feed gave answers, and nothing else was read.
  pub record Fed (old new : AlwaysReady O outside) : Type 0 where
    pub answers : List (Given (List Field))
    pub gave : (roles : Role → RoleState) → Gave (seen roles old) answers (seen roles new)
    pub outside_is : SameOutside old new
    pub others : ChangesOnlyStreams (roles_of old) (roles_of new)

-- Events that may come behind those that a feed gave: none where the events have ended; any where memory ran out before.
abbrev pub MayCome : Option Outcome → List (Event (List Field)) → Type 0
MayCome None more = Unit {0}
MayCome (Some (outcome.Done events)) more = more ≡ []
MayCome (Some (outcome.Bad side at found)) more = more ≡ []
MayCome (Some (outcome.SourceFault of)) more = more ≡ []
MayCome (Some outcome.SinkFault) more = more ≡ []
MayCome (Some outcome.TooMany) more = more ≡ []
MayCome (Some outcome.Memory) more = Unit {0}
