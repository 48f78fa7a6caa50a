-- A sweep over the actors: each is tried at its place, one after another.
use Rattle.std.specs.Prelude.{◌≡◌, ◌⊎◌, ℕ, ◌+◌, IfSome, Bool, true, false, List, length, slice_get, Some}
use Rattle.hj_base.specs.declared.numbers.CoreNo.{CoreNo}
use Rattle.hj_msg.specs.declared.drain.Drained.{Drained}
use Rattle.hj_msg.specs.declared.drain.Drained.TheVariants.{Kept, Refused}
use Rattle.hj_msg.specs.declared.event.Event.{Event}
use Rattle.hj_msg.specs.declared.event.Pair.{Pair}
use Rattle.hj_msg.specs.declared.fin.Fin.{Fin}
use Rattle.hj_msg.specs.declared.fin.Fin.TheVariants as fin
use Rattle.hj_msg.specs.declared.feed.Given.{Given}
use Rattle.hj_msg.specs.Feed.{Answers, FeedState}
use Rattle.hj_chain.specs.declared.actor.Actor.{Actor}
use Rattle.hj_chain.specs.declared.actor.Actor.TheVariants.{Admit, PortLeft, PortRight, Core, Collect}
use Rattle.hj_chain.specs.declared.actor.Stepped.{Stepped}
use Rattle.hj_chain.specs.declared.actor.Stepped.TheVariants.{Did, Memory}
use Rattle.hj_chain.specs.Chain.{FeedAnswer, Contents}
use Rattle.hj_chain.specs.Reached.{StandsFor}
use Rattle.hj_chain.specs.Serial.{actors, is_enabled, place_behind, would_wait, Releases}
use Rattle.hj_chain.specs.Steps.{Gathers, GoesWith, Steps, StepsTo, was_asked}

-- actors that ask no feed and collect nothing
abbrev pub is_inner : Actor → Bool
is_inner Admit = false
is_inner PortLeft = true
is_inner PortRight = true
is_inner (Core place end) = true
is_inner (Collect place) = false

-- this actor stands at this place
pub record StandsThere {P J : Type 0} (chain : Contents P J) (at : ℕ) (actor : Actor) : Type 0 where
  pub stands : slice_get (actors (length chain.state.cores)) at ≡ Some actor
  pub behind : place_behind (length chain.state.cores) actor ≡ at + 1

-- What a step of an actor that asks no feed answers, and what it leaves of the chain.
pub record Tried {P J : Type 0} (predicate : J → P → P → Bool) (actor : Actor) (old : Contents P J) (result : Stepped) (new : Contents P J) : Type 0 where
  pub step : (answer : FeedAnswer P) → StepsTo (predicate old.join) actor answer old.state result new.state
  pub join : new.join ≡ old.join
  pub gathers : Gathers actor old result new

-- The actors from the place `first` on were tried, up to this place. The truth value tells whether one has made a step; it was `before`
-- at the beginning.
pub data Sweeps {P J : Type 0} (predicate : J → P → P → Bool) (first : ℕ) (before : Bool) (begun : Contents P J) : ℕ → Bool → Contents P J → Type 0 where
  starts : Sweeps predicate first before begun first before begun
  passes : (at : ℕ) (moved : Bool) (now : Contents P J) (actor : Actor) → Sweeps predicate first before begun at moved now → StandsThere now at actor → is_enabled now.state actor ≡ false → Sweeps predicate first before begun (at + 1) moved now
  steps : (at : ℕ) (moved : Bool) (now : Contents P J) (actor : Actor) (new : Contents P J) → Sweeps predicate first before begun at moved now → StandsThere now at actor → is_inner actor ≡ true → Tried predicate actor now Did new
      → Sweeps predicate first before begun (at + 1) true new

-- One more actor was tried, at its place: a sweep that came to it goes on behind it.
abbrev pub SweepsPast : {P J : Type 0} → (J → P → P → Bool) → Actor → Bool → Contents P J → Bool → Contents P J → Type 0
SweepsPast {P} {J} predicate actor before old moved new =
    (first at : ℕ) (was : Bool) (begun : Contents P J) → StandsThere old at actor → Sweeps predicate first was begun at before old
    → Sweeps predicate first was begun (at + 1) moved new

-- Such a sweep, and behind it an actor for whose step there is no memory.
pub record RunsOut {P J : Type 0} (predicate : J → P → P → Bool) (first : ℕ) (before : Bool) (begun new : Contents P J) : Type 0 where
  pub at : ℕ
  pub moved : Bool
  pub now : Contents P J
  pub sweeps : Sweeps predicate first before begun at moved now
  pub actor : Actor
  pub there : StandsThere now at actor
  pub inner : is_inner actor ≡ true
  pub tried : Tried predicate actor now Memory new

-- Pairs that were due went to the drain.
pub record Drains {P J D : Type 0} (takes : D → Pair P → Drained → D → Type 0) (predicate : J → P → P → Bool) (old : Contents P J) (unfilled : D) (answer : Drained) (new : Contents P J) (filled : D) : Type 0 where
  pub releases : (schedule : List Actor) (events : List (Event P)) (given : ℕ) (stood : StandsFor predicate old schedule events given) → Releases takes stood unfilled answer new filled
  pub others : new ≡ record old { kept = new.kept }
  pub goes : (feed : FeedState) → GoesWith predicate old feed → GoesWith predicate new feed

-- The collections from the place `first` on were tried, up to this place; behind each step the pairs that were due went to the drain.
pub data Collects {P J D : Type 0} (takes : D → Pair P → Drained → D → Type 0) (predicate : J → P → P → Bool) (first : ℕ) (before : Bool) (begun : Contents P J) (unfilled : D) : ℕ → Bool → Contents P J → D → Type 0 where
  starts : Collects takes predicate first before begun unfilled first before begun unfilled
  passes : (at : ℕ) (moved : Bool) (now : Contents P J) (filled : D) (actor : Actor) → Collects takes predicate first before begun unfilled at moved now filled → StandsThere now at actor → is_enabled now.state actor ≡ false
      → Collects takes predicate first before begun unfilled (at + 1) moved now filled
  collects : (at : ℕ) (moved : Bool) (now : Contents P J) (filled : D) (core : CoreNo) (mid new : Contents P J) (more : D) → Collects takes predicate first before begun unfilled at moved now filled → StandsThere now at (Collect core)
      → Tried predicate (Collect core) now Did mid → Drains takes predicate mid filled Kept new more → Collects takes predicate first before begun unfilled (at + 1) true new more

-- Such collections, and how the run ends behind them: there is no memory for the next one, or the drain refused a pair.
pub data EndsCollecting {P J D : Type 0} (takes : D → Pair P → Drained → D → Type 0) (predicate : J → P → P → Bool) (first : ℕ) (before : Bool) (begun : Contents P J) (unfilled : D) : Fin → Contents P J → D → Type 0 where
  runs_out : (at : ℕ) (moved : Bool) (now : Contents P J) (filled : D) (core : CoreNo) (new : Contents P J) → Collects takes predicate first before begun unfilled at moved now filled → StandsThere now at (Collect core) → Tried predicate (Collect core) now Memory new
      → EndsCollecting takes predicate first before begun unfilled fin.Memory new filled
  refuses : (at : ℕ) (moved : Bool) (now : Contents P J) (filled : D) (core : CoreNo) (mid new : Contents P J) (more : D) → Collects takes predicate first before begun unfilled at moved now filled → StandsThere now at (Collect core) → Tried predicate (Collect core) now Did mid
      → Drains takes predicate mid filled Refused new more → EndsCollecting takes predicate first before begun unfilled fin.Refused new more

-- The driver's put where a round begins, after one in which a step was made or none (`moved`): it is passed over where it would wait, if
-- one was made; it isn't enabled; or it makes its step. The truth values tell whether something was done in the round before or
-- now, and whether the put made its step.
pub data Puts {P J F : Type 0} (gives : F → Given P → F → Type 0) (is_ready : F → Bool) (state : F → FeedState) (predicate : J → P → P → Bool) (moved : Bool) (old : Contents P J) (from : F) : Bool → Bool → Contents P J → F → Type 0 where
  waits : moved ≡ true → would_wait (is_ready from) old.state ≡ true → Puts gives is_ready state predicate moved old from true false old from
  idles : (would_wait (is_ready from) old.state ≡ false) ⊎ (moved ≡ false) → is_enabled old.state Admit ≡ false → Puts gives is_ready state predicate moved old from moved false old from
  puts : (would_wait (is_ready from) old.state ≡ false) ⊎ (moved ≡ false) → (new : Contents P J) (to : F) → Steps gives is_ready (predicate old.join) Admit old.state from Did new.state to → new ≡ record old { state = new.state } → GoesWith predicate new (state to)
      → (was_asked Admit old.state.next (is_ready from) Did ≡ true → IfSome new.state.next (λ given. Answers given (state from) (state to))) → Puts gives is_ready state predicate moved old from true true new to
