-- What a chain has given where it waits for the next event: a pair is held back only while a side may still tell of a row that comes
-- before it (punctuation: Roy, Teubner and Gemulla, PVLDB 2014). Quiet events are this project's own profile.
use Rattle.std.specs.Prelude.{◌≡◌, ◌⊎◌, ℕ, Bool, List, map}
use Rattle.std.specs.List.{All, Contains}
use Rattle.hj_msg.specs.declared.event.Event.{Event}
use Rattle.hj_msg.specs.declared.event.Pair.{Pair}
use Rattle.hj_msg.specs.Driver.{admitted}
use Rattle.hj_msg.specs.Kang.{kang}
use Rattle.hj_msg.specs.Quiet.{IsAmongLast}
use Rattle.hj_msg.specs.Valid.{later}
use Rattle.hj_chain.specs.declared.actor.Actor.{Actor}
use Rattle.hj_chain.specs.declared.actor.Actor.TheVariants.{Admit}
use Rattle.hj_chain.specs.Chain.{ChainState, Contents}
use Rattle.hj_chain.specs.Reached.{StandsFor, history_of, pairs_given}
use Rattle.hj_chain.specs.Serial.{enabled}

-- No actor is enabled but, perhaps, the driver's put.
abbrev pub WaitsForEvents : {P : Type 0} → ChainState P → Type 0
WaitsForEvents chain = All (λ actor. actor ≡ Admit) (enabled chain)

-- the events that were put into the chain
abbrev pub events_put : {P J : Type 0} {predicate : J → P → P → Bool} {chain : Contents P J} {schedule : List Actor} {events : List (Event P)} {given : ℕ}
    → StandsFor predicate chain schedule events given → List (Event P)
events_put stands = admitted (map (λ entry. entry.turn) (history_of stands.reached).log)

-- Each pair of the join of the events that were put was given, or its later row is among the last so many arrivals of these events.
abbrev pub GaveAllButLast : {P J : Type 0} {predicate : J → P → P → Bool} {chain : Contents P J} {schedule : List Actor} {events : List (Event P)} {given : ℕ}
    → ℕ → StandsFor predicate chain schedule events given → Type 0
GaveAllButLast {P} {predicate = predicate} {chain = chain} most stands =
    (pair : Pair P) → Contains (kang (predicate chain.join) (events_put stands)) pair → Contains (pairs_given stands) pair ⊎ IsAmongLast most (later pair) (events_put stands)
