-- The relay: what a first join hands on to a second one, a line for each of its pairs.
use Rattle.std.specs.Prelude.{ℕ, List, ◌∷◌, ◌++◌, nat_lt, true, if◌then◌else◌}
use Rattle.std.specs.Fmt.{signed_decimal}
use Rattle.csv.specs.Writing.{comma}
use Rattle.hj_value.specs.declared.field.Field.{Field}
use Rattle.hj_value.specs.Row.{time_of}
use Rattle.hj_msg.specs.declared.event.Pair.{Pair}
use Rattle.hj_msg.specs.Kang.{kang}
use Rattle.hj_query.specs.QueryParts.{QueryParts}
use Rattle.hj_record.specs.Pieces.{Stream}
use Rattle.hj_eval.specs.Holds.{holds}
use Rattle.hj_event.specs.Events.{events_of}
use Rattle.hj_stream.specs.JoinText.{JoinResult, Line, joined_by, pair_line}

-- the row of a pair that arrived under the greater number
abbrev pub later_row : Pair (List Field) → List Field
later_row pair = if nat_lt pair.left_no.0 pair.right_no.0 then pair.right else pair.left

-- the line of a pair: the time of its later row, a comma, and the line of both rows in the output of a join
abbrev pub relay_line : Line
relay_line pair = signed_decimal (time_of (later_row pair)) ++ comma ∷ pair_line pair

-- the join of two streams under a query, with the relay as its text
abbrev pub relay_result : QueryParts → Stream → Stream → ℕ → JoinResult
relay_result query left right limit = joined_by relay_line query left right limit

-- The relay of two streams.
abbrev pub relay : QueryParts → Stream → Stream → ℕ → List ℕ
relay query left right limit = (relay_result query left right limit).text

-- the pairs that it has a line for
abbrev pub relay_pairs : QueryParts → Stream → Stream → ℕ → List (Pair (List Field))
relay_pairs query left right limit = kang (holds query) (events_of query left right limit).events

-- a stream of these bytes, to its end
abbrev pub whole : List ℕ → Stream
whole bytes = record { bytes = bytes; whole = true }
