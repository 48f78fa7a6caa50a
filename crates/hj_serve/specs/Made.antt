-- The join of two streams that stand in memory, into a text that stands in memory.
use Rattle.std.specs.Prelude.{◌≡◌, ℕ, List, [], Some, false, IfSome, IfNone}
use Rattle.std.specs.declared.option.Option.{Option}
use Rattle.hj_value.specs.declared.field.Field.{Field}
use Rattle.hj_query.specs.QueryParts.{QueryParts}
use Rattle.hj_held.specs.Held.{HeldState, TwoHeld, held_role}
use Rattle.hj_crew.specs.Ran.{RanSeen}
use Rattle.hj_stream.specs.declared.outcome.Outcome.{Outcome}
use Rattle.hj_stream.specs.declared.outcome.Outcome.TheVariants as outcome
use Rattle.hj_stream.specs.Joining.{CountsSinkFault, Joins}
use Rattle.hj_engine.specs.Showing.{ShowsJoin}
use Rattle.hj_opening.specs.Words.{ChainShape}

-- streams of which nothing was read
abbrev pub unread_stream : List ℕ → HeldState
unread_stream bytes = record { rest = bytes; ended = false }

abbrev pub unread_streams : List ℕ → List ℕ → TwoHeld
unread_streams left right = record { left = unread_stream left; right = unread_stream right }

-- The streams of these bytes were joined, and this text was written; a run of this crew made the join, unless memory ran out first.
pub record JoinsHeld (query : QueryParts) (limit : ℕ) (left right : List ℕ) (crew : ChainShape) (ended : Outcome) (text : List ℕ)
    (ran : Option (RanSeen (List Field))) : Type 0 where
  pub after : TwoHeld
  pub joins : Joins ended query limit (held_role (unread_streams left right)) (held_role after) (Some []) (Some text)
  pub shows : IfSome ran (ShowsJoin joins crew.cores crew.flight)
  pub no_run : IfNone ran (ended ≡ outcome.Memory)
  pub faults : CountsSinkFault ended 0 0
