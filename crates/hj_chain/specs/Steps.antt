-- What a step of an actor answers and does, and what a schedule of them does, as callers see it.
use Rattle.std.specs.Prelude.{◌≡◌, ◌≢◌, ◌≤◌, ℕ, ◌+◌, ◌*◌, Bool, true, false, List, [], ◌∷◌, ◌++◌, length, None, Some, MatchBool, IfSome, IsPermutation}
use Rattle.std.specs.declared.option.Option.{Option}
use Rattle.hj_base.specs.declared.numbers.Side.{Side}
use Rattle.hj_base.specs.declared.numbers.Side.TheVariants.{Left, Right}
use Rattle.hj_msg.specs.declared.event.Event.{Event}
use Rattle.hj_msg.specs.declared.feed.Given.{Given}
use Rattle.hj_msg.specs.declared.feed.Given.TheVariants as given
use Rattle.hj_msg.specs.Event.{IsWellFormed}
use Rattle.hj_msg.specs.Met.{pairs_of}
use Rattle.hj_msg.specs.Feed.{FeedState, GoesOver, numbering_of, Answers, is_stop}
use Rattle.hj_chain.specs.declared.actor.Actor.{Actor}
use Rattle.hj_chain.specs.declared.actor.Actor.TheVariants.{Admit, PortLeft, PortRight, Core, Collect}
use Rattle.hj_chain.specs.declared.actor.NotNow.{NotNow}
use Rattle.hj_chain.specs.declared.actor.Stepped.{Stepped}
use Rattle.hj_chain.specs.declared.actor.Stepped.TheVariants.{Did, NotEnabled, Memory}
use Rattle.hj_chain.specs.Links.{link_at}
use Rattle.hj_collect.specs.Collector.{after_report}
use Rattle.hj_chain.specs.Reports.{queue_at}
use Rattle.hj_chain.specs.Chain.{ChainState, Contents, FeedAnswer, after, cause, first}
use Rattle.hj_chain.specs.Reached.{StandsFor}

-- A feed goes with a chain: the chain stands for well-formed events, with which the feed's numbering goes on, and the feed has
-- stopped where no event is to come.
pub record GoesWith {P J : Type 0} (predicate : J → P → P → Bool) (chain : Contents P J) (feed : FeedState) : Type 0 where
  pub schedule : List Actor
  pub events : List (Event P)
  pub given : ℕ
  pub stands : StandsFor predicate chain schedule events given
  pub well_formed : IsWellFormed events
  pub numbering : feed.numbering ≡ numbering_of events
  pub stopped : is_stop chain.state.next ≡ true → feed.stopped ≡ true

-- The chain goes on: it stands for well-formed events, and memory didn't run out.
pub record IsGoing {P J : Type 0} (predicate : J → P → P → Bool) (chain : Contents P J) : Type 0 where
  pub schedule : List Actor
  pub events : List (Event P)
  pub given : ℕ
  pub stands : StandsFor predicate chain schedule events given
  pub well_formed : IsWellFormed events
  pub going : chain.state.over ≡ false

-- The feed is asked for the next event where the driver knows none, and where it puts one in and the next one is there (`ready`).
abbrev pub asks : {P : Type 0} → Actor → Option (Given P) → Bool → Bool
asks Admit None ready = true
asks Admit (Some (given.Event event)) ready = ready
asks Admit (Some given.Stop) ready = false
asks PortLeft next ready = false
asks PortRight next ready = false
asks (Core place end) next ready = false
asks (Collect place) next ready = false

-- who takes messages at a port
abbrev pub at_port : Side → Actor
at_port Left = PortLeft
at_port Right = PortRight

-- Steps that need memory: a core's, for what it keeps, and the collection of a report.
abbrev pub needs_memory : Actor → Bool
needs_memory Admit = false
needs_memory PortLeft = false
needs_memory PortRight = false
needs_memory (Core place end) = true
needs_memory (Collect place) = true

-- What a feed says that is asked where its next answer is there: whether it is (`ready`), and the answer that it then gave (`gave`,
-- `says`). Else the feed is as it was.
pub record Tells {P F : Type 0} (gives : F → Given P → F → Type 0) (is_ready : F → Bool) (state : F → FeedState) (from : F) (answer : FeedAnswer P) (to : F) : Type 0 where
  pub ready : answer.ready ≡ is_ready from
  pub gave : MatchBool answer.ready (gives from answer.given to) (to ≡ from)
  pub says : MatchBool answer.ready (Answers answer.given (state from) (state to)) (state to ≡ state from)

-- What a step of an actor answers, and what it leaves of the chain. `answer` is what the feed says.
abbrev pub StepsTo : {P : Type 0} → (P → P → Bool) → Actor → FeedAnswer P → ChainState P → Stepped → ChainState P → Type 0
StepsTo matches actor answer old Did new = (cause old actor ≡ None) × (new ≡ after matches old actor answer)
StepsTo matches actor answer old (NotEnabled why) new = (cause old actor ≡ Some why) × (new ≡ old)
StepsTo matches actor answer old Memory new = (cause old actor ≡ None) × (needs_memory actor ≡ true) × (new ≡ record old { over = true })

-- What a step of an actor does to the collector and to the kept pairs: where a report was collected, the collector took note of
-- it, and its pairs are kept too.
abbrev pub Gathers : {P J : Type 0} → Actor → Contents P J → Stepped → Contents P J → Type 0
Gathers (Collect core) old Did new =
    IfSome (first (queue_at old.state.reports core.0)) (λ report. (new.collector ≡ after_report core report old.collector) × IsPermutation (old.kept ++ pairs_of report) new.kept)
Gathers actor old result new = (new.collector ≡ old.collector) × (new.kept ≡ old.kept)

-- whether the feed was asked in a step
abbrev pub was_asked : {P : Type 0} → Actor → Option (Given P) → Bool → Stepped → Bool
was_asked actor next ready Did = asks actor next ready
was_asked actor next ready (NotEnabled why) = false
was_asked actor next ready Memory = false

-- The same with the feed, before and after.
pub record Steps {P F : Type 0} (gives : F → Given P → F → Type 0) (is_ready : F → Bool) (matches : P → P → Bool) (actor : Actor) (old : ChainState P) (from : F) (result : Stepped) (new : ChainState P) (to : F) : Type 0 where
  pub answer : FeedAnswer P
  pub ready : answer.ready ≡ is_ready from
  pub chain : StepsTo matches actor answer old result new
  pub feed : MatchBool (was_asked actor old.next answer.ready result) (gives from answer.given to) (to ≡ from)

-- What a schedule does: the steps of its actors in order, up to one for which there is no memory. `done` are the actors that
-- made a step; those that weren't enabled then are passed over.
pub data RunsOver {P F : Type 0} (gives : F → Given P → F → Type 0) (is_ready : F → Bool) (matches : P → P → Bool) : List Actor → ChainState P → F → List Actor → Stepped → ChainState P → F → Type 0 where
  ended : (chain : ChainState P) (feed : F) → RunsOver gives is_ready matches [] chain feed [] Did chain feed
  did : (actor : Actor) (later : List Actor) (old mid : ChainState P) (from between : F) (done : List Actor) (result : Stepped) (new : ChainState P) (to : F)
      → Steps gives is_ready matches actor old from Did mid between → RunsOver gives is_ready matches later mid between done result new to
      → RunsOver gives is_ready matches (actor ∷ later) old from (actor ∷ done) result new to
  passed_over : (actor : Actor) (later : List Actor) (why : NotNow) (old mid : ChainState P) (from between : F) (done : List Actor) (result : Stepped) (new : ChainState P) (to : F)
      → Steps gives is_ready matches actor old from (NotEnabled why) mid between → RunsOver gives is_ready matches later mid between done result new to
      → RunsOver gives is_ready matches (actor ∷ later) old from done result new to
  stopped : (actor : Actor) (later : List Actor) (old new : ChainState P) (from to : F)
      → Steps gives is_ready matches actor old from Memory new to → RunsOver gives is_ready matches (actor ∷ later) old from [] Memory new to

-- The chain stands for this schedule and these events, of which the last ones were taken from the feed on the way, and for so
-- many pairs given.
pub record StandsFurther {P J F : Type 0} (gives : F → Given P → F → Type 0) (predicate : J → P → P → Bool) (schedule : List Actor) (events : List (Event P)) (given : ℕ) (from : F)
    (chain : Contents P J) (to : F) : Type 0 where
  pub taken : List (Event P)
  pub feed : GoesOver gives from taken to
  pub stands : StandsFor predicate chain schedule (events ++ taken) given
  -- there are at most 4n + 4 steps for each event and for the closes
  pub few : length schedule ≤ (4 * length chain.state.cores + 4) * (length (events ++ taken) + 1)

-- What a schedule did: its steps, and whatever the chain stood for before, it stands for that with these steps behind it.
pub record RunsSchedule {P J F : Type 0} (gives : F → Given P → F → Type 0) (is_ready : F → Bool) (predicate : J → P → P → Bool) (schedule : List Actor) (old : Contents P J) (from : F) (result : Stepped) (new : Contents P J) (to : F) : Type 0 where
  pub done : List Actor
  pub steps : RunsOver gives is_ready (predicate old.join) schedule old.state from done result new.state to
  pub stands : (before : List Actor) (events : List (Event P)) (given : ℕ) → StandsFor predicate old before events given → StandsFurther gives predicate (before ++ done) events given from new to

-- Each right-going queue holds at most 2 * flight + 1 messages, and each left-going one at most flight + 1. So no put ever finds
-- a full queue.
pub record HasRoom {P : Type 0} (chain : ChainState P) : Type 0 where
  pub rightwards : (k : ℕ) → k ≤ length chain.cores → length (link_at chain.links k).rightwards ≤ 2 * chain.driver.flight + 1
  pub leftwards : (k : ℕ) → k ≤ length chain.cores → length (link_at chain.links k).leftwards ≤ chain.driver.flight + 1

-- What a step of an actor makes of a chain that goes with its feed: which step it is, and what the chain stands for behind it.
pub record MakesStep {P J F : Type 0} (gives : F → Given P → F → Type 0) (is_ready : F → Bool) (state : F → FeedState) (predicate : J → P → P → Bool) (actor : Actor) (old : Contents P J) (from : F) (result : Stepped) (new : Contents P J) (to : F) : Type 0 where
  pub step : Steps gives is_ready (predicate old.join) actor old.state from result new.state to
  pub answers : was_asked actor old.state.next (is_ready from) result ≡ true → IfSome new.state.next (λ given. Answers given (state from) (state to))
  pub join : new.join ≡ old.join
  pub gathers : Gathers actor old result new
  pub room : HasRoom new.state
  pub goes : GoesWith predicate new (state to)
  pub stands : (schedule : List Actor) (events : List (Event P)) (given : ℕ) → StandsFor predicate old schedule events given → result ≡ Did → StandsFurther gives predicate (schedule ++ actor ∷ []) events given from new to
  pub stays : (schedule : List Actor) (events : List (Event P)) (given : ℕ) → StandsFor predicate old schedule events given → result ≢ Did → StandsFor predicate new schedule events given
