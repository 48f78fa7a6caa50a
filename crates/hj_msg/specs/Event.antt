-- Events: arrivals and expiries of rows, and sides that were quiet, numbered in one order over both streams.
use Rattle.std.specs.Prelude.{◌≡◌, ℕ, ◌+◌, List, [], ◌∷◌, ◌++◌}
use Rattle.std.specs.List.{Contains}
use Rattle.hj_base.specs.declared.numbers.Side.{Side}
use Rattle.hj_msg.specs.declared.event.Event.{Event}
use Rattle.hj_msg.specs.declared.event.Event.TheVariants.{Arrive, Expire, Quiet}

abbrev pub number : {P : Type 0} → Event P → ℕ
number (Arrive at side row) = at.0
number (Expire at side of) = at.0
number (Quiet at side) = at.0

-- The numbers run upwards from this one, one after another.
abbrev pub NumbersFrom : {P : Type 0} → ℕ → List (Event P) → Type 0
NumbersFrom first [] = Unit {0}
NumbersFrom first (event ∷ events) = (number event ≡ first) × NumbersFrom (first + 1) events

-- a row of this side arrives under this number
abbrev pub Arrives : {P : Type 0} → List (Event P) → Side → ℕ → P → Type 0
Arrives events side at row = Contains events (Arrive (record { 0 = at }) side row)

-- the row that arrived under this number expires, under that one
abbrev pub Expires : {P : Type 0} → List (Event P) → ℕ → ℕ → Type 0
Expires events of at = (side : Side) × Contains events (Expire (record { 0 = at }) side (record { 0 = of }))

-- An expiry names an arrival of its side that came earlier, and no expiry before it names the same.
abbrev pub NamesLive : {P : Type 0} → List (Event P) → Event P → Type 0
NamesLive earlier (Arrive at side row) = Unit {0}
NamesLive {P} earlier (Expire at side of) = ((row : P) × Arrives earlier side of.0 row) × ((before : ℕ) → ¬ (Expires earlier of.0 before))
NamesLive earlier (Quiet at side) = Unit {0}

-- The events are numbered from 0, and each expiry names a live row of its side.
pub record IsWellFormed {P : Type 0} (events : List (Event P)) : Type 0 where
  pub numbered : NumbersFrom 0 events
  pub live : (earlier later : List (Event P)) (event : Event P) → events ≡ earlier ++ event ∷ later → NamesLive earlier event
