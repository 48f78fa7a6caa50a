-- What windows mean, in words of the events alone: how many rows of a side are live at each moment, how old they are, and which one expires.
use Rattle.std.specs.Prelude.{◌≡◌, ℕ, ◌+◌, ◌≤◌, Bool, true, false, not, ◌==◌, pos, ◌-ℤ◌, int_le, List, [], ◌∷◌, ◌++◌, length, filter, filter_map, Some, None}
use Rattle.std.specs.List.{list_any}
use Rattle.std.specs.declared.option.Option.{Option}
use Rattle.hj_value.specs.declared.field.Field.{Field}
use Rattle.hj_value.specs.Row.{time_of}
use Rattle.hj_base.specs.declared.numbers.EventNo.{EventNo}
use Rattle.hj_base.specs.declared.numbers.Side.{Side}
use Rattle.hj_base.specs.declared.numbers.Side.TheVariants.{Left, Right}
use Rattle.hj_base.specs.declared.numbers.Window.{Window}
use Rattle.hj_base.specs.declared.numbers.Window.TheVariants.{Rows, Time}
use Rattle.hj_msg.specs.declared.event.Event.{Event}
use Rattle.hj_msg.specs.declared.event.Event.TheVariants.{Arrive, Expire, Quiet}
use Rattle.hj_msg.specs.Event.{Arrives, Expires}
use Rattle.hj_query.specs.QueryParts.{QueryParts}

-- the number of an event by which a row of this side arrives
abbrev pub arrival_no : {P : Type 0} → Side → Event P → Option ℕ
arrival_no Left (Arrive at Left row) = Some at.0
arrival_no Right (Arrive at Right row) = Some at.0
arrival_no side event = None

-- by this event the row that arrived under this number expires
abbrev pub is_expiry_of : {P : Type 0} → ℕ → Event P → Bool
is_expiry_of number (Arrive at side row) = false
is_expiry_of number (Expire at side of) = of.0 == number
is_expiry_of number (Quiet at side) = false

-- The numbers of a side's live rows, the oldest first: those of the rows that arrived and haven't expired.
abbrev pub live_rows : {P : Type 0} → Side → List (Event P) → List ℕ
live_rows side events = filter (λ number. not (list_any (is_expiry_of number) events)) (filter_map (arrival_no side) events)

-- The next event is an expiry of this side.
abbrev pub ExpiresNext : {P : Type 0} → Side → List (Event P) → Type 0
ExpiresNext side [] = ⊥
ExpiresNext side (Arrive at other row ∷ events) = ⊥
ExpiresNext side (Expire at other of ∷ events) = other ≡ side
ExpiresNext side (Quiet at other ∷ events) = ⊥

-- This row arrives next, and nothing but expiries comes before it.
abbrev pub ArrivesNext : {P : Type 0} → List (Event P) → P → Type 0
ArrivesNext [] row = ⊥
ArrivesNext (Arrive at side next ∷ events) row = next ≡ row
ArrivesNext (Expire at side of ∷ events) row = ArrivesNext events row
ArrivesNext (Quiet at side ∷ events) row = ⊥

-- the window of a side
abbrev pub window_at : QueryParts → Side → Window
window_at query Left = query.left_window
window_at query Right = query.right_window

-- where the later row arrives, this one is at least so old
abbrev pub is_aged : ℕ → List Field → List Field → Bool
is_aged span row later = int_le (pos span) (time_of later -ℤ time_of row)

-- A side whose window is of so many rows. At each moment, when the events before it have come and those behind it haven't:
pub record ExpiresByCount (side : Side) (count : ℕ) (events : List (Event (List Field))) : Type 0 where
  -- It has at most one live row more than its window holds.
  pub most : (before behind : List (Event (List Field))) → events ≡ before ++ behind → length (live_rows side before) ≤ count + 1
  -- It has no more than its window holds, unless one of its rows expires next.
  pub within : (before behind : List (Event (List Field))) → events ≡ before ++ behind → ¬ (ExpiresNext side behind) → length (live_rows side before) ≤ count
  -- A row expires only where it has one live row too many.
  pub full : (before behind : List (Event (List Field))) (at of : EventNo) → events ≡ before ++ Expire at side of ∷ behind → length (live_rows side before) ≡ count + 1
  -- It is its oldest live row.
  pub oldest : (before behind : List (Event (List Field))) (at of : EventNo) → events ≡ before ++ Expire at side of ∷ behind → (others : List ℕ) × (live_rows side before ≡ of.0 ∷ others)

-- A side whose window is of so much time.
pub record ExpiresByTime (side : Side) (span : ℕ) (events : List (Event (List Field))) : Type 0 where
  -- Before a row of either side arrives, each row of this side that is as old as the window is long has expired.
  pub gone : (before behind : List (Event (List Field))) (at : EventNo) (of_arrival : Side) (later : List Field) → events ≡ before ++ Arrive at of_arrival later ∷ behind
      → (number : ℕ) (row : List Field) → Arrives before side number row → is_aged span row later ≡ true → (when : ℕ) × Expires before number when
  -- A row expires only where it is so old when the next row arrives.
  pub only_then : (before behind : List (Event (List Field))) (at of : EventNo) → events ≡ before ++ Expire at side of ∷ behind
      → (row : List Field) → Arrives before side of.0 row → (later : List Field) × ArrivesNext behind later × (is_aged span row later ≡ true)

abbrev pub ExpiresBy : Window → Side → List (Event (List Field)) → Type 0
ExpiresBy (Rows count) side events = ExpiresByCount side count events
ExpiresBy (Time span) side events = ExpiresByTime side span events

-- The rows of each side expire by its window.
abbrev pub RowsExpireInTurn : QueryParts → List (Event (List Field)) → Type 0
RowsExpireInTurn query events = (side : Side) → ExpiresBy (window_at query side) side events
