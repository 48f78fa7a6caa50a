-- The numbered events of two streams. Before an arrival the rows that are gone by their age expire, in the order of their
-- arrival; after it a row of its side expires where its window has one too many. Then the other side has a quiet event, where
-- so many rows of this side have arrived since it was heard of. Each event takes the next number.
use Rattle.std.specs.Prelude.{ℕ, ◌+◌, ◌==◌, List, [], ◌∷◌, ◌++◌, length, take, nat_lt, None, Some, if◌then◌else◌, option_to_list}
use Rattle.std.specs.declared.option.Option.{Option}
use Rattle.hj_value.specs.declared.field.Field.{Field}
use Rattle.hj_value.specs.Row.{time_of}
use Rattle.hj_base.specs.declared.numbers.Side.{Side}
use Rattle.hj_base.specs.declared.numbers.Side.TheVariants.{Left}
use Rattle.hj_msg.specs.declared.event.Event.{Event}
use Rattle.hj_msg.specs.declared.event.Event.TheVariants.{Arrive, Expire, Quiet}
use Rattle.hj_msg.specs.Quiet.{other_side}
use Rattle.hj_query.specs.QueryParts.{QueryParts}
use Rattle.hj_record.specs.Pieces.{Stream}
use Rattle.hj_window.specs.LiveRows.{LiveRow, LiveRows, Arrived, arrive, is_same_side}
use Rattle.hj_event.specs.Rows.{rows_of}
use Rattle.hj_event.specs.Arrivals.{Arrival, Arrivals, Ending, arrivals_of, too_many}

-- the expiries of these rows, numbered from this number on
abbrev pub expiries : ℕ → List LiveRow → List (Event (List Field))
expiries at [] = []
expiries at (row ∷ rows) = Expire (record { 0 = at }) row.side (record { 0 = row.no }) ∷ expiries (at + 1) rows

-- The side that is silent, and how many rows of the other side have arrived since an arrival or a quiet event of it.
pub record Silence : Type 0 where
  pub side : Side
  pub rows : ℕ

-- no row has arrived yet
abbrev pub no_silence : Silence
no_silence = record { side = Left; rows = 0 }

-- how many rows of this side have arrived in the silence of the other one
abbrev pub rows_in_silence : Silence → Side → ℕ
rows_in_silence silence side = if is_same_side silence.side side then 0 else silence.rows

-- A row of this side arrives: the other one is silent.
abbrev pub silence_at : Silence → Side → Silence
silence_at silence side = record { side = other_side side; rows = rows_in_silence silence side + 1 }

-- The silent side, where it has a quiet event: this many rows have arrived in its silence. A quiet number of 0 is never met.
abbrev pub quiet_side : ℕ → Silence → Option Side
quiet_side quiet silence = if silence.rows == quiet then Some silence.side else None

-- By a quiet event a side is heard of.
abbrev pub silence_behind : Option Side → Silence → Silence
silence_behind None silence = silence
silence_behind (Some side) silence = record { side = side; rows = 0 }

-- the quiet event of a side, under this number
abbrev pub quiet_event : ℕ → Option Side → List (Event (List Field))
quiet_event at None = []
quiet_event at (Some side) = Quiet (record { 0 = at }) side ∷ []

-- The events that come of an arrival, numbered from this number on.
abbrev pub events_at : ℕ → Arrival → Arrived → Option Side → List (Event (List Field))
events_at at arrival came quiet =
    let no = at + length came.before in
    let after = option_to_list came.after in
    expiries at came.before ++ Arrive (record { 0 = no }) arrival.side arrival.row ∷ (expiries (no + 1) after ++ quiet_event (no + 1 + length after) quiet)

-- The events of these arrivals, numbered from this number on, where these rows are live and a side is silent.
abbrev pub number_from : ℕ → ℕ → LiveRows → Silence → List Arrival → List (Event (List Field))
number_from quiet at live silence [] = []
number_from quiet at live silence (arrival ∷ arrivals) =
    let came = arrive live arrival.side (time_of arrival.row) at in
    let silent = silence_at silence arrival.side in
    let told = quiet_side quiet silent in
    let events = events_at at arrival came told in
    events ++ number_from quiet (at + length events) came.live (silence_behind told silent) arrivals

-- Events, and how the merge ends behind them.
pub record NumberedEvents : Type 0 where
  pub events : List (Event (List Field))
  pub ending : Ending

-- All of them, or the first ones, where they are more than this number.
abbrev pub up_to : ℕ → NumberedEvents → NumberedEvents
up_to limit all = if nat_lt limit (length all.events) then record { events = take limit all.events; ending = too_many } else all

-- no row is live before the first arrival
abbrev pub none_live : QueryParts → LiveRows
none_live query = record { left = query.left_window; right = query.right_window; rows = [] }

abbrev pub numbered : ℕ → ℕ → LiveRows → Silence → Arrivals → NumberedEvents
numbered quiet at live silence arrivals = record { events = number_from quiet at live silence arrivals.rows; ending = arrivals.ending }

-- The events of two streams under a query's schemas, windows and quiet number.
abbrev pub all_events_of : QueryParts → Stream → Stream → NumberedEvents
all_events_of query left right =
    numbered query.quiet 0 (none_live query) no_silence (arrivals_of (rows_of query.left.columns query.slack left) (rows_of query.right.columns query.slack right))

-- The first of them, up to a limit.
abbrev pub events_of : QueryParts → Stream → Stream → ℕ → NumberedEvents
events_of query left right limit = up_to limit (all_events_of query left right)
