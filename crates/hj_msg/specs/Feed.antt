-- Where the events of a chain come from: what is seen of a feed, and what its answers mean.
use Rattle.std.specs.Prelude.{◌≡◌, ℕ, ◌+◌, ◌<◌, ◌≤◌, Bool, true, false, not, ◌==◌, List, [], ◌∷◌, ◌++◌, filter, map, fold, replicate, None, Some}
use Rattle.std.specs.declared.option.Option.{Option}
use Rattle.std.specs.List.{Contains, flat_map}
use Rattle.hj_base.specs.declared.numbers.Side.TheVariants.{Left, Right}
use Rattle.hj_msg.specs.declared.event.Event as event
use Rattle.hj_msg.specs.declared.event.Event.TheVariants.{Arrive, Expire, Quiet}
use Rattle.hj_msg.specs.declared.feed.Given.{Given}
use Rattle.hj_msg.specs.declared.feed.Given.TheVariants.{Event, Stop}
use Rattle.hj_msg.specs.Event.{number}

-- the number of the next event, and the numbers of the live rows of each side
pub record Numbering : Type 0 where
  pub next : ℕ
  pub live_left : List ℕ
  pub live_right : List ℕ

-- no event has been given
abbrev pub first_numbering : Numbering
first_numbering = record { next = 0; live_left = []; live_right = [] }

abbrev pub without_number : ℕ → List ℕ → List ℕ
without_number of numbers = filter (λ at. not (at == of)) numbers

-- the numbering behind an event
abbrev pub numbering_after : {P : Type 0} → Numbering → event.Event P → Numbering
numbering_after old (Arrive at Left row) = record old { next = old.next + 1; live_left = old.live_left ++ at.0 ∷ [] }
numbering_after old (Arrive at Right row) = record old { next = old.next + 1; live_right = old.live_right ++ at.0 ∷ [] }
numbering_after old (Expire at Left of) = record old { next = old.next + 1; live_left = without_number of.0 old.live_left }
numbering_after old (Expire at Right of) = record old { next = old.next + 1; live_right = without_number of.0 old.live_right }
numbering_after old (Quiet at side) = record old { next = old.next + 1 }

-- the numbering behind a list of events
abbrev pub numbering_of : {P : Type 0} → List (event.Event P) → Numbering
numbering_of events = fold numbering_after first_numbering events

-- an expiry names a live row of its side
abbrev pub NamesLiveNumber : {P : Type 0} → Numbering → event.Event P → Type 0
NamesLiveNumber numbering (Arrive at side row) = Unit {0}
NamesLiveNumber numbering (Expire at Left of) = Contains numbering.live_left of.0
NamesLiveNumber numbering (Expire at Right of) = Contains numbering.live_right of.0
NamesLiveNumber numbering (Quiet at side) = Unit {0}

-- what is seen of a feed
pub record FeedState : Type 0 where
  pub numbering : Numbering
  -- how many events it still gives at most
  pub remaining : ℕ
  -- whether it has answered Stop
  pub stopped : Bool

-- No event was given yet.
abbrev pub IsFresh : FeedState → Type 0
IsFresh feed = feed.numbering ≡ first_numbering

-- The next event carries the next number, and is one of those that remained.
pub record GivesEvent {P : Type 0} (event : event.Event P) (old new : FeedState) : Type 0 where
  pub going : old.stopped ≡ false
  pub numbered : number event ≡ old.numbering.next
  pub live : NamesLiveNumber old.numbering event
  pub numbering : new.numbering ≡ numbering_after old.numbering event
  pub remaining : new.remaining < old.remaining
  pub goes_on : new.stopped ≡ false

pub record GivesStop (old new : FeedState) : Type 0 where
  pub numbering : new.numbering ≡ old.numbering
  pub remaining : new.remaining ≤ old.remaining
  pub stopped : new.stopped ≡ true

-- What an answer says of a feed. A feed that has stopped answers Stop again.
abbrev pub Answers : {P : Type 0} → Given P → FeedState → FeedState → Type 0
Answers (Event event) old new = GivesEvent event old new
Answers Stop old new = GivesStop old new

-- The feed went over these answers, one after another.
abbrev pub GoesOverAnswers : {F P : Type 0} → (F → Given P → F → Type 0) → F → List (Given P) → F → Type 0
GoesOverAnswers gives old [] new = new ≡ old
GoesOverAnswers {F} gives old (answer ∷ later) new = (mid : F) × gives old answer mid × GoesOverAnswers gives mid later new

-- The feed went over these events, with Stops behind them, as many as it was asked for.
pub record GoesOver {F P : Type 0} (gives : F → Given P → F → Type 0) (old : F) (events : List (event.Event P)) (new : F) : Type 0 where
  pub stops : ℕ
  pub answers : GoesOverAnswers gives old (map Event events ++ replicate stops Stop) new

-- The event that is known to come next, where one is; and whether it is known that none comes any more.
abbrev pub event_in : {P : Type 0} → Option (Given P) → List (event.Event P)
event_in None = []
event_in (Some (Event event)) = event ∷ []
event_in (Some Stop) = []

abbrev pub is_stop : {P : Type 0} → Option (Given P) → Bool
is_stop None = false
is_stop (Some (Event event)) = false
is_stop (Some Stop) = true

-- the events among these answers of a feed
abbrev pub events_in : {P : Type 0} → List (Given P) → List (event.Event P)
events_in answers = flat_map (λ answer. event_in (Some answer)) answers
