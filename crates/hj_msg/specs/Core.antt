-- One core of the chain: what it keeps, sends and reports for each message. Rows of the left stream (R) go right and rows
-- of the right stream (S) go left; each core compares a row with what it keeps of the other stream, and keeps a right row
-- that it sent on until its neighbour acknowledges it (handshake join: Teubner and Mueller, SIGMOD 2011). A row is sent
-- through all cores at once and rests at one home core; until it has been everywhere it is unsettled (low-latency handshake
-- join: Roy, Teubner and Gemulla, PVLDB 2014). The exact messages, homes and sends are this project's own profile.
use Rattle.std.specs.Prelude.{ℕ, ◌+◌, ◌%◌, Bool, true, false, not, ◌&&◌, ◌==◌, nat_lt, List, [], ◌∷◌, ◌++◌, filter, map, fold, if◌then◌else◌, None, Some}
use Rattle.std.specs.declared.option.Option.{Option}
use Rattle.hj_base.specs.declared.numbers.Side.TheVariants.{Left, Right}
use Rattle.hj_msg.specs.declared.message.Msg.{Msg}
use Rattle.hj_msg.specs.declared.message.Msg.TheVariants.{R, AckS, EndS, ExpS, QuietL, CloseL, S, EndR, ExpR, QuietR, CloseR}
use Rattle.hj_msg.specs.declared.message.Report.{Report}
use Rattle.hj_msg.specs.declared.message.Report.TheVariants.{Handled, Quiet, Ended}
use Rattle.hj_msg.specs.declared.partner.Partner.{Partner}
use Rattle.hj_msg.specs.Store.{Resting, with_element, with_entry, with_settled, without_entry, settled_partners, by_number}

-- a right row that is on its way to the left neighbour, until that acknowledges it
pub record InFlight (P : Type 0) : Type 0 where
  pub no : ℕ
  pub row : P

pub record State (P : Type 0) : Type 0 where
  -- the rows of each stream that rest here
  pub left : List (Resting P)
  pub right : List (Resting P)
  pub in_flight : List (InFlight P)
  -- which closes were handled
  pub closed_left : Bool
  pub closed_right : Bool

abbrev pub empty_state : {P : Type 0} → State P
empty_state = record { left = []; right = []; in_flight = []; closed_left = false; closed_right = false }

-- whether this core of `n` is the home of an event
abbrev pub is_home : ℕ → ℕ → ℕ → Bool
is_home place n at = at % n == place

abbrev pub is_last : ℕ → ℕ → Bool
is_last place n = place + 1 == n

-- the resting rows with one more, at its home
abbrev pub with_home_row : {P : Type 0} → Bool → Resting P → List (Resting P) → List (Resting P)
with_home_row home row rows = if home then with_entry row rows else rows

-- The state after a message, at the core of this place among `n`.
abbrev pub after : {P : Type 0} → ℕ → ℕ → State P → Msg P → State P
after place n state (R at row) =
    record state { left = with_home_row (is_home place n at.0) (record { no = at.0; row = row; settled = is_last place n }) state.left }
after place n state (S at row) =
    record state {
      right = with_home_row (is_home place n at.0) (record { no = at.0; row = row; settled = place == 0 }) state.right;
      in_flight = if place == 0 then state.in_flight else with_element (λ flying. flying.no) (record { no = at.0; row = row }) state.in_flight;
    }
after place n state (EndR at) = record state { left = with_settled at.0 state.left }
after place n state (EndS at) = record state { right = with_settled at.0 state.right }
after place n state (ExpR at) = record state { left = without_entry at.0 state.left }
after place n state (ExpS at) = record state { right = without_entry at.0 state.right }
after place n state (AckS at) = record state { in_flight = filter (λ flying. not (flying.no == at.0)) state.in_flight }
after place n state (QuietL at) = state
after place n state (QuietR at) = state
after place n state CloseL = record state { closed_left = true }
after place n state CloseR = record state { closed_right = true }

-- what a core sends to each of its sides, in order
pub record Sends (P : Type 0) : Type 0 where
  pub left : List (Msg P)
  pub right : List (Msg P)

abbrev pub only_if : {P : Type 0} → Bool → Msg P → List (Msg P)
only_if holds message = if holds then message ∷ [] else []

-- What the core of this place among `n` sends for a message.
abbrev pub sends : {P : Type 0} → ℕ → ℕ → Msg P → Sends P
sends place n (R at row) = record { left = only_if (is_last place n) (EndR at); right = R at row ∷ [] }
sends place n (S at row) = record { left = S at row ∷ []; right = only_if (nat_lt (place + 1) n) (AckS at) ++ only_if (place == 0) (EndS at) }
sends place n (EndR at) = record { left = EndR at ∷ []; right = [] }
sends place n (EndS at) = record { left = []; right = EndS at ∷ [] }
sends place n (ExpR at) = record { left = ExpR at ∷ []; right = [] }
sends place n (ExpS at) = record { left = []; right = ExpS at ∷ [] }
sends place n (AckS at) = record { left = []; right = [] }
sends place n (QuietL at) = record { left = []; right = QuietL at ∷ [] }
sends place n (QuietR at) = record { left = QuietR at ∷ []; right = [] }
sends place n CloseL = record { left = []; right = CloseL ∷ [] }
sends place n CloseR = record { left = CloseR ∷ []; right = [] }

-- the rows in flight that pass a test, as partners
abbrev pub flying_partners : {P : Type 0} → (P → Bool) → List (InFlight P) → List (Partner P)
flying_partners joins rows = map (λ flying. record { no = record { 0 = flying.no }; row = flying.row }) (filter (λ flying. joins flying.row) rows)

-- The partners of a left row: settled rows at rest and rows in flight. Of one number the row at rest comes first.
abbrev pub partners_of_left : {P : Type 0} → (P → P → Bool) → State P → P → List (Partner P)
partners_of_left matches state row = by_number (settled_partners (matches row) state.right ++ flying_partners (matches row) state.in_flight)

-- The partners of a right row: settled rows at rest.
abbrev pub partners_of_right : {P : Type 0} → (P → P → Bool) → State P → P → List (Partner P)
partners_of_right matches state row = by_number (settled_partners (λ other. matches other row) state.left)

-- What a core reports of a message: an arrival with its partners, a side that was quiet, and its end at the second of the two closes.
abbrev pub report : {P : Type 0} → (P → P → Bool) → State P → Msg P → Option (Report P)
report matches state (R at row) = Some (Handled at Left row (partners_of_left matches state row))
report matches state (S at row) = Some (Handled at Right row (partners_of_right matches state row))
report matches state (EndR at) = None
report matches state (EndS at) = None
report matches state (ExpR at) = None
report matches state (ExpS at) = None
report matches state (AckS at) = None
report matches state (QuietL at) = Some (Quiet at Left)
report matches state (QuietR at) = Some (Quiet at Right)
report matches state CloseL = if not state.closed_left && state.closed_right then Some Ended else None
report matches state CloseR = if not state.closed_right && state.closed_left then Some Ended else None

-- The state of a core that handled these messages.
abbrev pub state_after : {P : Type 0} → ℕ → ℕ → List (Msg P) → State P
state_after place n messages = fold (after place n) empty_state messages
