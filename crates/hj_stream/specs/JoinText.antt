-- The text that a join writes: one line for each pair of the sequential sliding-window join (Kang, Naughton and Viglas,
-- ICDE 2003), in its order.
use Rattle.std.specs.Prelude.{ℕ, List, length}
use Rattle.std.specs.List.{flat_map}
use Rattle.hj_value.specs.declared.field.Field.{Field}
use Rattle.hj_record.specs.Pieces.{Stream}
use Rattle.hj_msg.specs.declared.event.Event.{Event}
use Rattle.hj_msg.specs.declared.event.Pair.{Pair}
use Rattle.hj_msg.specs.Kang.{kang}
use Rattle.hj_query.specs.QueryParts.{QueryParts}
use Rattle.hj_eval.specs.Holds.{holds}
use Rattle.hj_emit.specs.Line.{line_of}
use Rattle.hj_event.specs.Arrivals.{Ending}
use Rattle.hj_event.specs.Events.{events_of}

-- what is written for a pair
abbrev pub Line : Type 0
Line = Pair (List Field) → List ℕ

-- the lines of pairs, one after another
abbrev pub text_by : Line → List (Pair (List Field)) → List ℕ
text_by line pairs = flat_map line pairs

-- What a query's join of events writes, a line for each pair.
abbrev pub joined_text : Line → QueryParts → List (Event (List Field)) → List ℕ
joined_text line query events = text_by line (kang (holds query) events)

-- What a join of two streams writes, how their events end, and how many they are.
pub record JoinResult : Type 0 where
  pub text : List ℕ
  pub ending : Ending
  pub events : ℕ

-- The join of two streams under a query, with this limit of events and a line for each pair.
abbrev pub joined_by : Line → QueryParts → Stream → Stream → ℕ → JoinResult
joined_by line query left right limit =
    let all = events_of query left right limit in
    record { text = joined_text line query all.events; ending = all.ending; events = length all.events }

-- the line of a pair in the output of a join: the fields of both rows
abbrev pub pair_line : Line
pair_line pair = line_of pair.left pair.right

-- the text of pairs in the output of a join
abbrev pub text : List (Pair (List Field)) → List ℕ
text pairs = text_by pair_line pairs

-- What a query's join of events writes to its output.
abbrev pub text_of : QueryParts → List (Event (List Field)) → List ℕ
text_of query events = joined_text pair_line query events

-- The join of two streams under a query, with this limit of events, as its output has it.
abbrev pub join_result : QueryParts → Stream → Stream → ℕ → JoinResult
join_result query left right limit = joined_by pair_line query left right limit
