-- The numbering of arrivals as far as it came, and what taking the next event does to it.
use Rattle.std.specs.Prelude.{◌≡◌, ℕ, ◌+◌, ◌-◌, ◌≤◌, Bool, not, ◌==◌, List, [], ◌∷◌, ◌++◌, length, option_to_list, option_map, Ok, Err, None, Some}
use Rattle.std.specs.declared.option.Option.{Option}
use Rattle.std.specs.declared.result.Result.{Result}
use Rattle.hj_value.specs.declared.field.Field.{Field}
use Rattle.hj_base.specs.declared.numbers.EventNo.{EventNo}
use Rattle.hj_base.specs.declared.numbers.Side.{Side}
use Rattle.hj_msg.specs.declared.event.Event.{Event}
use Rattle.hj_msg.specs.declared.event.Event.TheVariants.{Arrive, Expire}
use Rattle.hj_window.specs.LiveRows.{LiveRows, AllBelow}
use Rattle.hj_event.specs.declared.stop.MergeEnd.{MergeEnd}
use Rattle.hj_event.specs.declared.stop.MergeEnd.TheVariants as last
use Rattle.hj_event.specs.Arrivals.{Arrivals, Ending, too_many}
use Rattle.hj_event.specs.Events.{NumberedEvents, Silence, quiet_event, numbered, up_to}

-- What came of an arrival and wasn't given yet: the rows that expire before it, itself, the row that expires after it, and
-- the side that has a quiet event behind these.
pub record DueState : Type 0 where
  pub before : List (Side × EventNo)
  pub arrival : Option (Side × List Field)
  pub after : Option (Side × EventNo)
  pub quiet : Option Side

abbrev pub nothing_due : DueState
nothing_due = record { before = []; arrival = None; after = None; quiet = None }

abbrev pub expiries_of : ℕ → List (Side × EventNo) → List (Event (List Field))
expiries_of at [] = []
expiries_of at (row ∷ rows) = Expire (record { 0 = at }) row.0 row.1 ∷ expiries_of (at + 1) rows

abbrev pub arrival_at : ℕ → Option (Side × List Field) → List (Event (List Field))
arrival_at at None = []
arrival_at at (Some arrival) = Arrive (record { 0 = at }) arrival.0 arrival.1 ∷ []

-- how many events are due
abbrev pub due_count : DueState → ℕ
due_count due = length due.before + length (option_to_list due.arrival) + length (option_to_list due.after) + length (option_to_list due.quiet)

-- the events that are due, numbered from this number on
abbrev pub due_events : ℕ → DueState → List (Event (List Field))
due_events at due =
    let no = at + length due.before in
    let next = no + length (option_to_list due.arrival) in
    let after = option_to_list due.after in
    expiries_of at due.before ++ (arrival_at no due.arrival ++ (expiries_of next after ++ quiet_event (next + length after) due.quiet))

-- anything is due
abbrev pub has_due : DueState → Bool
has_due due = not (due_count due == 0)

-- what is due where a row of a side arrives by which these rows expire, and this side has a quiet event
abbrev pub due_of : Side → List Field → List (Side × EventNo) → Option EventNo → Option Side → DueState
due_of side row before after quiet = record { before = before; arrival = Some (side, row); after = option_map (λ of. (side, of)) after; quiet = quiet }

-- Taking the first event that is due, under this number.
abbrev pub TakesDue : Option (Event (List Field)) → ℕ → DueState → DueState → Type 0
TakesDue None at old new = (due_count old ≡ 0) × (new ≡ old)
TakesDue (Some event) at old new = (due_events at old ≡ event ∷ due_events (at + 1) new) × (due_count old ≡ due_count new + 1)

pub record NumberingState : Type 0 where
  pub live : LiveRows
  pub silence : Silence
  -- after how many rows of one side the other one, where it is silent, has a quiet event; 0: never
  pub quiet : ℕ
  pub due : DueState
  -- the number of the next event
  pub next : ℕ
  -- how many events there may be
  pub limit : ℕ

-- The events to come, where these arrivals come.
abbrev pub numbered_ahead : NumberingState → Arrivals → NumberedEvents
numbered_ahead state arrivals =
    let behind = numbered state.quiet (state.next + due_count state.due) state.live state.silence arrivals in
    up_to (state.limit - state.next) (record { events = due_events state.next state.due ++ behind.events; ending = behind.ending })

abbrev pub no_event : Ending → NumberedEvents
no_event ending = record { events = []; ending = ending }

abbrev pub then_event : Event (List Field) → NumberedEvents → NumberedEvents
then_event event others = record { events = event ∷ others.events; ending = others.ending }

-- Giving an event that is due: it, or there are too many.
abbrev pub GivesDueEvent : Result (Event (List Field)) MergeEnd → NumberedEvents → NumberedEvents → Type 0
GivesDueEvent (Ok event) ahead behind = ahead ≡ then_event event behind
GivesDueEvent (Err last.TooMany) ahead behind = ahead ≡ no_event too_many
GivesDueEvent (Err why) ahead behind = ⊥

-- Each live row has a number below those of the events to come, as many rows as arrived in a silence do, and the events given
-- are within the limit.
pub record IsCounted (live : LiveRows) (silence : Silence) (due : DueState) (next limit : ℕ) : Type 0 where
  pub below : AllBelow (next + due_count due) live.rows
  pub silent : silence.rows ≤ next + due_count due
  pub within : next ≤ limit
