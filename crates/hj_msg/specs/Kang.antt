-- The sequential sliding-window join (Kang, Naughton and Viglas, ICDE 2003): an arriving row is compared with the
-- rows in the window of the other stream, and is inserted into its own; an expiring row leaves its window.
use Rattle.std.specs.Prelude.{ℕ, Bool, not, ◌==◌, List, [], ◌∷◌, ◌++◌, filter, map}
use Rattle.hj_base.specs.declared.numbers.Side.TheVariants.{Left, Right}
use Rattle.hj_msg.specs.declared.event.Event.{Event}
use Rattle.hj_msg.specs.declared.event.Event.TheVariants.{Arrive, Expire, Quiet}
use Rattle.hj_msg.specs.declared.event.Pair.{Pair}

-- a row in a window, with the number of its arrival
pub record Held (P : Type 0) : Type 0 where
  pub no : ℕ
  pub row : P

-- both windows, each with its oldest row first
pub record Windows (P : Type 0) : Type 0 where
  pub left : List (Held P)
  pub right : List (Held P)

abbrev pub no_rows : {P : Type 0} → Windows P
no_rows = record { left = []; right = [] }

abbrev pub pair : {P : Type 0} → Held P → Held P → Pair P
pair left right = record { left_no = record { 0 = left.no }; right_no = record { 0 = right.no }; left = left.row; right = right.row }

-- the rows of a window but the one of this number
abbrev pub without : {P : Type 0} → ℕ → List (Held P) → List (Held P)
without at window = filter (λ held. not (held.no == at)) window

-- The pairs that an event lists, oldest partner first.
abbrev pub listed : {P : Type 0} → (P → P → Bool) → Windows P → Event P → List (Pair P)
listed matches windows (Arrive at Left row) = map (λ held. pair (record { no = at.0; row = row }) held) (filter (λ held. matches row held.row) windows.right)
listed matches windows (Arrive at Right row) = map (λ held. pair held (record { no = at.0; row = row })) (filter (λ held. matches held.row row) windows.left)
listed matches windows (Expire at side of) = []
listed matches windows (Quiet at side) = []

-- The windows after an event.
abbrev pub after : {P : Type 0} → Windows P → Event P → Windows P
after windows (Arrive at Left row) = record { left = windows.left ++ record { no = at.0; row = row } ∷ []; right = windows.right }
after windows (Arrive at Right row) = record { left = windows.left; right = windows.right ++ record { no = at.0; row = row } ∷ [] }
after windows (Expire at Left of) = record { left = without of.0 windows.left; right = windows.right }
after windows (Expire at Right of) = record { left = windows.left; right = without of.0 windows.right }
after windows (Quiet at side) = windows

-- The pairs that events list one after another, from these windows on.
abbrev pub kang_from : {P : Type 0} → (P → P → Bool) → Windows P → List (Event P) → List (Pair P)
kang_from matches windows [] = []
kang_from matches windows (event ∷ events) = listed matches windows event ++ kang_from matches (after windows event) events

-- The join of the events.
abbrev pub kang : {P : Type 0} → (P → P → Bool) → List (Event P) → List (Pair P)
kang matches events = kang_from matches no_rows events

-- The windows after events, from these windows on.
abbrev pub windows_from : {P : Type 0} → Windows P → List (Event P) → Windows P
windows_from windows [] = windows
windows_from windows (event ∷ events) = windows_from (after windows event) events

-- The windows after the events.
abbrev pub windows_after : {P : Type 0} → List (Event P) → Windows P
windows_after events = windows_from no_rows events
