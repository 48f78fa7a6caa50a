-- The text that a command writes of the join of two streams under a query, with at most so many events.
use Rattle.std.specs.Prelude.{◌≡◌, ℕ, List}
use Rattle.hj_base.specs.declared.outside.Role.TheVariants as role
use Rattle.hj_base.specs.declared.numbers.Side.TheVariants.{Left, Right}
use Rattle.hj_base.specs.Journals.{IsPrefix}
use Rattle.hj_value.specs.declared.field.Field.{Field}
use Rattle.hj_msg.specs.declared.event.Event.{Event}
use Rattle.hj_eval.specs.Holds.{holds}
use Rattle.hj_event.specs.Arrivals.{bad, clean, unread, too_many}
use Rattle.hj_event.specs.Events.{events_of}
use Rattle.hj_query.specs.QueryParts.{QueryParts}
use Rattle.hj_record.specs.Pieces.{Stream}
use Rattle.hj_stream.specs.declared.outcome.Outcome.{Outcome}
use Rattle.hj_stream.specs.declared.outcome.Outcome.TheVariants as outcome
use Rattle.hj_stream.specs.JoinText.{join_result}
use Rattle.hj_raw.specs.Items.{Item}
use Rattle.hj_raw.specs.Telling.{TellsAll, TellsMatches}
use Rattle.hj_raw.specs.Text.{raw_text}
use Rattle.hj_trace.specs.Play.{BeginsTrace, IsTrace}
use Rattle.hj_opening.specs.Words.{TextKind, pair_lines, raw_items, step_lines}

-- The raw text of a join of these events: each matching pair once, before a mark all within it and behind it none, and the mark of
-- all at its end.
pub record IsRawText (query : QueryParts) (events : List (Event (List Field))) (text : List ℕ) : Type 0 where
  pub items : List (Item (List Field))
  pub is : text ≡ raw_text items
  pub tells : TellsMatches (holds query) events items
  pub whole : TellsAll (holds query) events items

-- These bytes begin the raw text of a join of the first of these events.
pub record BeginsRawText (query : QueryParts) (events : List (Event (List Field))) (front : List ℕ) : Type 0 where
  pub first : List (Event (List Field))
  pub are_first : IsPrefix first events
  pub items : List (Item (List Field))
  pub tells : TellsMatches (holds query) first items
  pub begins : IsPrefix front (raw_text items)

-- a whole text
abbrev pub IsWholeText : TextKind → QueryParts → Stream → Stream → ℕ → List ℕ → Type 0
IsWholeText pair_lines query left right limit text = text ≡ (join_result query left right limit).text
IsWholeText raw_items query left right limit text = IsRawText query (events_of query left right limit).events text
IsWholeText (step_lines chain rule) query left right limit text =
    IsTrace (holds query) rule chain.cores chain.flight (events_of query left right limit).events text

-- a front of one
abbrev pub IsTextFront : TextKind → QueryParts → Stream → Stream → ℕ → List ℕ → Type 0
IsTextFront pair_lines query left right limit front = IsPrefix front (join_result query left right limit).text
IsTextFront raw_items query left right limit front = BeginsRawText query (events_of query left right limit).events front
IsTextFront (step_lines chain rule) query left right limit front =
    BeginsTrace (holds query) rule chain.cores chain.flight (events_of query left right limit).events front

-- What was written, by the outcome: a whole text of events that end so; a front of one where the sink failed or memory ran out.
abbrev pub WritesKind : TextKind → Outcome → QueryParts → Stream → Stream → ℕ → List ℕ → Type 0
WritesKind kind (outcome.Done events) query left right limit written =
    IsWholeText kind query left right limit written × ((join_result query left right limit).ending ≡ clean)
WritesKind kind (outcome.Bad side at found) query left right limit written =
    IsWholeText kind query left right limit written × ((join_result query left right limit).ending ≡ bad side at found)
WritesKind kind (outcome.SourceFault role.Left) query left right limit written =
    IsWholeText kind query left right limit written × ((join_result query left right limit).ending ≡ unread Left)
WritesKind kind (outcome.SourceFault role.Right) query left right limit written =
    IsWholeText kind query left right limit written × ((join_result query left right limit).ending ≡ unread Right)
WritesKind kind (outcome.SourceFault other) query left right limit written = ⊥
WritesKind kind outcome.SinkFault query left right limit written = IsTextFront kind query left right limit written
WritesKind kind outcome.TooMany query left right limit written =
    IsWholeText kind query left right limit written × ((join_result query left right limit).ending ≡ too_many)
WritesKind kind outcome.Memory query left right limit written = IsTextFront kind query left right limit written
