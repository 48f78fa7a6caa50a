-- A serial run: one enabled actor after the other makes its step, each chosen by a rule.
use Rattle.std.specs.Prelude.{◌≡◌, ◌⊎◌, ℕ, ◌+◌, ◌-◌, ◌*◌, ◌<◌, ◌≤◌, ◌%◌, ◌&&◌, not, nat_lt, if◌then◌else◌, Bool, true, false, List, [], ◌∷◌, ◌++◌, drop, filter, is_none, length, map, replicate, slice_get, take, None, Some}
use Rattle.std.specs.declared.option.Option.{Option}
use Rattle.std.specs.List.{flat_map, range_with_len}
use Rattle.hj_base.specs.declared.numbers.CoreNo.{CoreNo}
use Rattle.hj_base.specs.declared.numbers.Side.TheVariants.{Left, Right}
use Rattle.hj_base.specs.Lcg as lcg
use Rattle.hj_msg.specs.declared.drain.Drained.{Drained}
use Rattle.hj_msg.specs.declared.drain.Drained.TheVariants.{Kept, Refused}
use Rattle.hj_msg.specs.declared.event.Event.{Event}
use Rattle.hj_msg.specs.declared.event.Pair.{Pair}
use Rattle.hj_msg.specs.declared.feed.Given.{Given}
use Rattle.hj_msg.specs.Drain.{Drainage, TakesAll}
use Rattle.hj_msg.specs.Emission.{emitted}
use Rattle.hj_msg.specs.Feed.{FeedState, GoesOver, is_stop}
use Rattle.hj_chain.specs.declared.actor.Actor.{Actor}
use Rattle.hj_chain.specs.declared.actor.Actor.TheVariants.{Admit, PortLeft, PortRight, Core, Collect}
use Rattle.hj_chain.specs.declared.actor.Stepped.TheVariants as stepped
use Rattle.hj_chain.specs.declared.serial.Chooser.{Chooser}
use Rattle.hj_chain.specs.declared.serial.Chooser.TheVariants as chooser
use Rattle.hj_msg.specs.declared.fin.Fin.{Fin}
use Rattle.hj_msg.specs.declared.fin.Fin.TheVariants as fin
use Rattle.hj_chain.specs.Chain.{ChainState, Contents, cause}
use Rattle.hj_chain.specs.Progress.{IsDone}
use Rattle.hj_chain.specs.Reached.{StandsFor, collected_of, next_pair}
use Rattle.hj_chain.specs.Steps.{GoesWith, Steps}

abbrev pub core_no : ℕ → CoreNo
core_no place = record { 0 = place }

-- The actors of a chain of n cores but the driver's put, in their order: the driver's ports, the ends of each core, and the
-- collection of each core's reports.
abbrev pub others : ℕ → List Actor
others n = PortLeft ∷ PortRight
    ∷ (flat_map (λ place. Core (core_no place) Left ∷ Core (core_no place) Right ∷ []) (range_with_len 0 n) ++ map (λ place. Collect (core_no place)) (range_with_len 0 n))

-- all actors: the driver's put comes first
abbrev pub actors : ℕ → List Actor
actors n = Admit ∷ others n

-- the actors that are enabled, in that order
abbrev pub is_enabled : {P : Type 0} → ChainState P → Actor → Bool
is_enabled chain actor = is_none (cause chain actor)

abbrev pub enabled : {P : Type 0} → ChainState P → List Actor
enabled chain = filter (is_enabled chain) (actors (length chain.cores))

-- Where a rule stands: the actors are looked over from this place on, all the way round; or the generator holds this number.
pub data Choosing : Type 0 where
  from_place : (place : ℕ) → Choosing
  by_draw : (held : ℕ) → Choosing

abbrev pub first_choosing : Chooser → Choosing
first_choosing chooser.InTurn = from_place 0
first_choosing (chooser.Seeded seed) = by_draw seed

-- the driver's put would wait: the feed's next answer isn't known, and isn't there
abbrev pub would_wait : {P : Type 0} → Bool → ChainState P → Bool
would_wait ready chain = is_none chain.next && not ready

-- a list from this place on, all the way round
abbrev pub from_there_on : {X : Type 0} → ℕ → List X → List X
from_there_on place all = drop place all ++ take place all

-- The actors of a chain of n cores as they are looked over from a place on: the driver's put comes last where it would wait.
abbrev pub in_turn : ℕ → Bool → ℕ → List Actor
in_turn n false place = from_there_on place (actors n)
in_turn n true place = from_there_on (place - 1) (others n) ++ Admit ∷ []

-- The enabled actors of which one is drawn: without the driver's put where it would wait, if there is another.
abbrev pub drawn_from : {P : Type 0} → Bool → ChainState P → List Actor
drawn_from ready chain = if would_wait ready chain && nat_lt 1 (length (enabled chain)) then drop 1 (enabled chain) else enabled chain

-- The enabled actor that the rule names, if one is enabled; `ready` tells whether the feed's next answer is there.
abbrev pub chosen : {P : Type 0} → Choosing → Bool → ChainState P → Option Actor
chosen (from_place place) ready chain = slice_get (filter (is_enabled chain) (in_turn (length chain.cores) (would_wait ready chain) place)) 0
chosen (by_draw held) ready chain = slice_get (drawn_from ready chain) (lcg.drawn (lcg.next held) % length (drawn_from ready chain))

-- the place behind an actor, among those of n cores
abbrev pub place_behind : ℕ → Actor → ℕ
place_behind n Admit = 1
place_behind n PortLeft = 2
place_behind n PortRight = 3
place_behind n (Core core Left) = 2 * core.0 + 4
place_behind n (Core core Right) = 2 * core.0 + 5
place_behind n (Collect core) = 2 * n + core.0 + 4

-- where the rule stands behind a step of this actor
abbrev pub choosing_after : ℕ → Actor → Choosing → Choosing
choosing_after n actor (from_place place) = from_place (place_behind n actor)
choosing_after n actor (by_draw held) = by_draw (lcg.next held)

-- the place is one of those of n cores, or the one behind them all
abbrev pub IsPlaceWithin : ℕ → Choosing → Type 0
IsPlaceWithin n (from_place place) = place ≤ length (actors n)
IsPlaceWithin n (by_draw held) = Unit {0}

-- A place that may be tried next where a rule stands at this one: the rule names the actor there if it is enabled; else it names
-- the same one from the next place on.
pub record MayBeTried {P : Type 0} (place : ℕ) (ready : Bool) (chain : ChainState P) (at : ℕ) : Type 0 where
  pub within : at < length (actors (length chain.cores))
  pub named : (actor : Actor) → slice_get (actors (length chain.cores)) at ≡ Some actor → is_enabled chain actor ≡ true → chosen (from_place place) ready chain ≡ Some actor
  pub passed : (actor : Actor) → slice_get (actors (length chain.cores)) at ≡ Some actor → is_enabled chain actor ≡ false → chosen (from_place place) ready chain ≡ chosen (from_place (at + 1)) ready chain

-- Steps that are made one after another, each of the actor that the rule names then. Where memory runs out in one, none comes
-- behind it.
pub data MakesSteps {P F : Type 0} (gives : F → Given P → F → Type 0) (is_ready : F → Bool) (matches : P → P → Bool) (first : Choosing) (old : ChainState P) (from : F)
    : List Actor → Choosing → ChainState P → F → Type 0 where
  begins : MakesSteps gives is_ready matches first old from [] first old from
  goes_on : (made : List Actor) (choosing : Choosing) (mid : ChainState P) (between : F) (actor : Actor) (new : ChainState P) (to : F)
      → MakesSteps gives is_ready matches first old from made choosing mid between → chosen choosing (is_ready between) mid ≡ Some actor → Steps gives is_ready matches actor mid between stepped.Did new to
      → MakesSteps gives is_ready matches first old from (made ++ actor ∷ []) (choosing_after (length old.cores) actor choosing) new to
  runs_out : (made : List Actor) (choosing : Choosing) (mid : ChainState P) (between : F) (actor : Actor) (new : ChainState P) (to : F)
      → MakesSteps gives is_ready matches first old from made choosing mid between → chosen choosing (is_ready between) mid ≡ Some actor → Steps gives is_ready matches actor mid between stepped.Memory new to
      → MakesSteps gives is_ready matches first old from made choosing new to

-- How pairs were given: each one kept, and no further pair due; or the last one refused, and each other one kept.
abbrev pub GivesPairs : {P J : Type 0} {predicate : J → P → P → Bool} {chain : Contents P J} {schedule : List Actor} {events : List (Event P)} {given : ℕ}
    → Drained → List (Drainage P) → StandsFor predicate chain schedule events given → Type 0
GivesPairs Kept pairs stands = (map (λ one. one.answer) pairs ≡ replicate (length pairs) Kept) × (next_pair stands ≡ None)
GivesPairs Refused pairs stands = (kept : ℕ) × (map (λ one. one.answer) pairs ≡ replicate kept Kept ++ Refused ∷ [])

-- Pairs that were given to a drain: the next ones of the emission of what the chain stood for. It stands for the same, with so
-- many pairs more.
pub record Releases {P J D : Type 0} (takes : D → Pair P → Drained → D → Type 0) {predicate : J → P → P → Bool} {old : Contents P J} {schedule : List Actor} {events : List (Event P)} {given : ℕ}
    (stood : StandsFor predicate old schedule events given) (unfilled : D) (answer : Drained) (new : Contents P J) (filled : D) : Type 0 where
  pub pairs : List (Drainage P)
  pub drain : TakesAll takes unfilled pairs filled
  pub stands : StandsFor predicate new schedule events (given + length pairs)
  pub collected : collected_of stands.reached ≡ collected_of stood.reached
  pub in_order : map (λ one. one.pair) pairs ≡ take (length pairs) (drop given (emitted (collected_of stands.reached)))
  pub gives : GivesPairs answer pairs stands

-- The last one of these steps let out a pair that was to be given: before it the chain had given fewer than so many, and no further
-- one was due.
pub record LetsOut {P J : Type 0} (predicate : J → P → P → Bool) (schedule : List Actor) (events : List (Event P)) (given : ℕ) (made : List Actor) (taken : List (Event P)) (count : ℕ) : Type 0 where
  pub earlier : List Actor
  pub actor : Actor
  pub steps : made ≡ earlier ++ actor ∷ []
  pub before : List (Event P)
  pub behind : List (Event P)
  pub events_are : taken ≡ before ++ behind
  pub gave : ℕ
  pub fewer : gave < count
  pub chain : Contents P J
  pub stands : StandsFor predicate chain (schedule ++ earlier) (events ++ before) (given + gave)
  pub none_due : next_pair stands ≡ None

-- How the run ended: with each pair kept, no further pair due, and the chain done, in which memory never ran out and the feed has
-- stopped; with the last pair refused, and each other one kept; or with memory run out, and each pair kept.
abbrev pub EndsSerial : {P J : Type 0} {predicate : J → P → P → Bool} {chain : Contents P J} {schedule : List Actor} {events : List (Event P)} {given : ℕ}
    → Fin → List (Drainage P) → StandsFor predicate chain schedule events given → Type 0
EndsSerial {chain = chain} fin.Done pairs stands =
    (map (λ one. one.answer) pairs ≡ replicate (length pairs) Kept) × (next_pair stands ≡ None) × (chain.state.over ≡ false) × (is_stop chain.state.next ≡ true) × IsDone chain.state
EndsSerial fin.Refused pairs stands = (kept : ℕ) × (map (λ one. one.answer) pairs ≡ replicate kept Kept ++ Refused ∷ [])
EndsSerial {chain = chain} fin.Memory pairs stands = (map (λ one. one.answer) pairs ≡ replicate (length pairs) Kept) × (chain.state.over ≡ true)

-- A serial run of a chain that stood for a schedule and events, and had given so many pairs: its steps are those that the rule
-- names; the chain stands for that schedule with them behind it, for the events with those that the feed gave on the way, and
-- for so many pairs more as the drain took. These are the next ones of the emission.
pub record RunsSerially {P J F D : Type 0} (gives : F → Given P → F → Type 0) (is_ready : F → Bool) (takes : D → Pair P → Drained → D → Type 0) (predicate : J → P → P → Bool) (rule : Chooser)
    (schedule : List Actor) (events : List (Event P)) (given : ℕ) (old : Contents P J) (from : F) (unfilled : D) (ended : Fin) (new : Contents P J) (to : F) (filled : D) : Type 0 where
  pub made : List Actor
  pub choosing : Choosing
  pub steps : MakesSteps gives is_ready (predicate old.join) (first_choosing rule) old.state from made choosing new.state to
  pub taken : List (Event P)
  pub feed : GoesOver gives from taken to
  pub pairs : List (Drainage P)
  pub drain : TakesAll takes unfilled pairs filled
  pub stands : StandsFor predicate new (schedule ++ made) (events ++ taken) (given + length pairs)
  -- there are at most 4n + 4 steps for each event and for the closes
  pub few : length (schedule ++ made) ≤ (4 * length new.state.cores + 4) * (length (events ++ taken) + 1)
  pub in_order : map (λ one. one.pair) pairs ≡ take (length pairs) (drop given (emitted (collected_of stands.reached)))
  pub ends : EndsSerial ended pairs stands
  -- no step is made behind a pair that is refused
  pub last : ended ≡ fin.Refused → (made ≡ []) ⊎ LetsOut predicate schedule events given made taken (length pairs)

-- A serial run ended so, for each schedule and the events that the chain stood for before it.
pub record RunsAll {P J F D : Type 0} (gives : F → Given P → F → Type 0) (is_ready : F → Bool) (takes : D → Pair P → Drained → D → Type 0) (state : F → FeedState) (predicate : J → P → P → Bool) (rule : Chooser)
    (old : Contents P J) (from : F) (unfilled : D) (ended : Fin) (new : Contents P J) (to : F) (filled : D) : Type 0 where
  pub runs : (schedule : List Actor) (events : List (Event P)) (given : ℕ) → StandsFor predicate old schedule events given → RunsSerially gives is_ready takes predicate rule schedule events given old from unfilled ended new to filled
  pub join : new.join ≡ old.join
  pub goes : GoesWith predicate new (state to)
