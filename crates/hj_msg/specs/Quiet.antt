-- How long a side may be silent, and what is emitted meanwhile (punctuation: Roy, Teubner and Gemulla, PVLDB 2014). Quiet events
-- are this project's own profile.
use Rattle.std.specs.Prelude.{◌≡◌, ◌⊎◌, ℕ, ◌<◌, ◌≤◌, Bool, true, false, ◌&&◌, ◌||◌, nat_lt, List, [], ◌++◌, map, count_by, slice_index_or}
use Rattle.std.specs.List.{list_any, Contains}
use Rattle.hj_base.specs.declared.numbers.Side.{Side}
use Rattle.hj_base.specs.declared.numbers.Side.TheVariants.{Left, Right}
use Rattle.hj_msg.specs.declared.event.Event.{Event}
use Rattle.hj_msg.specs.declared.event.Event.TheVariants.{Arrive, Quiet}
use Rattle.hj_msg.specs.declared.event.Pair.{Pair}
use Rattle.hj_msg.specs.declared.message.Report.{Report}
use Rattle.hj_msg.specs.Event.{number}
use Rattle.hj_msg.specs.Kang.{kang}
use Rattle.hj_msg.specs.Valid.{later}
use Rattle.hj_msg.specs.Driver.{admitted}
use Rattle.hj_msg.specs.Run.{Run, IsRun}
use Rattle.hj_msg.specs.Met.{AreReportsOf}
use Rattle.hj_msg.specs.Punctuation.{tells}
use Rattle.hj_msg.specs.Emission.{emitted}

abbrev pub other_side : Side → Side
other_side Left = Right
other_side Right = Left

-- whether an event is an arrival on a side
abbrev pub arrives_on : {P : Type 0} → Side → Event P → Bool
arrives_on Left (Arrive at Left row) = true
arrives_on Right (Arrive at Right row) = true
arrives_on side event = false

-- whether it is an arrival or a quiet event of a side
abbrev pub tells_of : {P : Type 0} → Side → Event P → Bool
tells_of Left (Arrive at Left row) = true
tells_of Right (Arrive at Right row) = true
tells_of Left (Quiet at Left) = true
tells_of Right (Quiet at Right) = true
tells_of side event = false

-- In every stretch of the events in which nothing tells of the other side, at most so many rows of a side arrive.
abbrev pub IsQuietWithin : {P : Type 0} → ℕ → List (Event P) → Type 0
IsQuietWithin {P} most events =
    (side : Side) (before stretch behind : List (Event P)) → events ≡ before ++ (stretch ++ behind) → count_by (tells_of (other_side side)) stretch ≡ 0 → count_by (arrives_on side) stretch ≤ most

-- how many arrivals are numbered above this
abbrev pub is_arrival_behind : {P : Type 0} → ℕ → Event P → Bool
is_arrival_behind at event = (arrives_on Left event || arrives_on Right event) && nat_lt at (number event)

abbrev pub arrivals_behind : {P : Type 0} → ℕ → List (Event P) → ℕ
arrivals_behind at events = count_by (is_arrival_behind at) events

-- An arrival is among the last so many of the events' arrivals.
abbrev pub IsAmongLast : {P : Type 0} → ℕ → ℕ → List (Event P) → Type 0
IsAmongLast most at events = arrivals_behind at events < most

-- the events that were put
abbrev pub events_put : {P : Type 0} {run : Run P} → IsRun run → List (Event P)
events_put is = admitted (map (λ entry. entry.turn) is.log)

-- Each core reported each arrival and each quiet event that was put.
abbrev pub AllTold : {P : Type 0} {run : Run P} → IsRun run → List (List (Report P)) → Type 0
AllTold {P} {run = run} is lists = (event : Event P) → Contains (events_put is) event → (side : Side) → tells_of side event ≡ true → (k : ℕ) → k < run.cores → list_any (tells side (number event)) (slice_index_or lists k []) ≡ true

-- Where the events that were put are quiet within so many arrivals, and each core reported all that was put, each pair of
-- their join is emitted, or its later row is among their last so many arrivals.
abbrev pub EmitsAllButLast : {P : Type 0} {run : Run P} → IsRun run → Type 0
EmitsAllButLast {P} {run = run} is =
    (most : ℕ) → IsQuietWithin most (events_put is) → (lists : List (List (Report P))) → AreReportsOf run lists → AllTold is lists
    → (pair : Pair P) → Contains (kang run.matches (events_put is)) pair → Contains (emitted lists) pair ⊎ IsAmongLast most (later pair) (events_put is)
