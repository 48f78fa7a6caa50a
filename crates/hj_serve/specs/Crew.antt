-- The chains that threads turn for the orders of a call of `serve`, and what the runs show that it hands back.
use Rattle.std.specs.Prelude.{◌≡◌, ◌≢◌, ◌==◌, ℕ, List, [], None, Some, IsSome, false, if◌then◌else◌, option_and_then}
use Rattle.std.specs.declared.option.Option.{Option}
use Rattle.hj_base.specs.declared.numbers.Setup.{Setup}
use Rattle.hj_base.specs.declared.outside.Role.{Role}
use Rattle.hj_base.specs.Outside.{RoleState}
use Rattle.hj_value.specs.declared.field.Field.{Field}
use Rattle.hj_query.specs.Keyed.{IsEquiQuery}
use Rattle.hj_query.specs.QueryParts.{QueryParts}
use Rattle.hj_words.specs.declared.order.Order as spelled
use Rattle.hj_words.specs.declared.order.Order.TheVariants as spells
use Rattle.hj_words.specs.Orders as words
use Rattle.hj_crew.specs.Ran.{RanSeen}
use Rattle.hj_stream.specs.declared.outcome.Outcome.{Outcome}
use Rattle.hj_stream.specs.declared.outcome.Outcome.TheVariants as outcome
use Rattle.hj_stream.specs.Joining.{Joins}
use Rattle.hj_stream.specs.RawJoining.{JoinsRaw}
use Rattle.hj_engine.specs.Showing.{ShowsJoin}
use Rattle.hj_engine.specs.ShowingRaw.{ShowsRaw}
use Rattle.hj_opening.specs.Calls.{Call}
use Rattle.hj_opening.specs.Generating.{left_stream, right_stream}
use Rattle.hj_held.specs.Held.{held_role}
use Rattle.hj_notes.specs.NoteText.{status_of_end}
use Rattle.hj_opening.specs.Opening.{AreOpened}
use Rattle.hj_opening.specs.Run.{end_of}
use Rattle.hj_opening.specs.Serve.{AcceptsQuery, AreOpen}
use Rattle.hj_opening.specs.Words.{ChainShape, Names, Order, Recipe, QuerySource, TextKind, asked_by, most_events}
use Rattle.hj_opening.specs.Words.{check_query, check_trace, join_streams, join_twice, pair_lines, raw_items, step_lines, sum_up}

-- the chain of a join without options
abbrev pub usual_crew : ChainShape
usual_crew = record { cores = 4; flight = 32 }

-- the one of these numbers, where there are threads
abbrev pub crew_with : Setup → Option ChainShape
crew_with setup = if setup.threads == 0 then None else Some (record { cores = setup.cores; flight = setup.flight })

-- The chain that threads turn for an order, of which the run is handed back. A join with no threads has none, and neither has a
-- trace or a check, nor have two joins in a row, of which no run is handed back.
abbrev pub crew_of : spelled.Order → Option ChainShape
crew_of (spells.Equi w left right) = Some usual_crew
crew_of (spells.Join setup limit schedule query left right) = crew_with setup
crew_of (spells.Raw setup limit query left right) = Some (record { cores = setup.cores; flight = setup.flight })
crew_of (spells.Trace cores flight limit schedule query left right) = None
crew_of (spells.Verify cores flight limit query left right trace output) = None
crew_of (spells.Check query) = None
crew_of (spells.Gen n keys seed w) = Some usual_crew
crew_of (spells.Twice setup limit schedule query left right second third) = None

-- how many threads turn it
abbrev pub threads_of : spelled.Order → ℕ
threads_of (spells.Equi w left right) = 4
threads_of (spells.Join setup limit schedule query left right) = setup.threads
threads_of (spells.Raw setup limit query left right) = setup.threads
threads_of (spells.Trace cores flight limit schedule query left right) = 0
threads_of (spells.Verify cores flight limit query left right trace output) = 0
threads_of (spells.Check query) = 0
threads_of (spells.Gen n keys seed w) = 4
threads_of (spells.Twice setup limit schedule query left right second third) = 0

-- the order that the words spell, with all that it says of how it is run
abbrev pub spelled_in : List (List ℕ) → Option spelled.Order
spelled_in list = words.order_of list

abbrev pub crew_in : List (List ℕ) → Option ChainShape
crew_in list = option_and_then crew_of (spelled_in list)

-- Threads turn the order's chain, and a call that ended with this status came to the join: neither the words nor the query were
-- refused, and where a stream failed, both of them are open.
pub record CameToJoin (crew : Option ChainShape) (status : ℕ) (now : Role → RoleState) : Type 0 where
  pub threads : IsSome crew
  pub words : status ≢ 1
  pub query : status ≢ 2
  pub streams : status ≡ 4 → AreOpen now

-- A run made this join, which writes a text of a kind.
abbrev pub ShowsKind : TextKind → ChainShape → Outcome → QueryParts → ℕ → (Role → RoleState) → (Role → RoleState) → Option (List ℕ)
    → Option (List ℕ)
    → RanSeen (List Field) → Type 0
ShowsKind pair_lines crew ended query limit before now old new ran =
    (joins : Joins ended query limit before now old new) × ShowsJoin joins crew.cores crew.flight ran
ShowsKind raw_items crew ended query limit before now old new ran =
    (joins : JoinsRaw ended query limit before now old new) × ShowsRaw joins crew.cores crew.flight ran
ShowsKind (step_lines chain rule) crew ended query limit before now old new ran = ⊥

-- A run made the join of a call: under the accepted query, of the two streams from where they were opened to where they stand now,
-- into the output of the call; and the status is that of its outcome.
pub record ShowsStreams (kind : TextKind) (crew : ChainShape) (source : QuerySource) (names : Names) (limit status : ℕ) (call : Call)
    (ran : RanSeen (List Field)) : Type 0 where
  pub query : QueryParts
  pub accepted : AcceptsQuery source query call
  pub opened : Role → RoleState
  pub are_opened : AreOpened names call.under call.before opened
  pub outcome : Outcome
  pub status_of_outcome : status ≡ status_of_end (end_of limit outcome)
  pub shows : ShowsKind kind crew outcome query limit opened call.now call.old call.new ran

-- the roles of the two streams of a recipe, which stand in memory; nothing was read of them
abbrev pub made_roles : Recipe → Role → RoleState
made_roles recipe = held_role (record {
  left = record { rest = (left_stream recipe).bytes; ended = false };
  right = record { rest = (right_stream recipe).bytes; ended = false };
})

-- A run made the join of the two streams of a recipe, to their ends.
pub record ShowsMade (crew : ChainShape) (recipe : Recipe) (limit : ℕ) (ran : RanSeen (List Field)) : Type 0 where
  pub query : QueryParts
  pub keyed : IsEquiQuery recipe.window query
  pub events : ℕ
  pub now : Role → RoleState
  pub text : List ℕ
  pub joins : Joins (outcome.Done events) query limit (made_roles recipe) now (Some []) (Some text)
  pub shows : ShowsJoin joins crew.cores crew.flight ran

-- A run of this crew made the join of an order.
abbrev pub ShowsOrder : ChainShape → Order → ℕ → Call → RanSeen (List Field) → Type 0
ShowsOrder crew (join_streams kind source names limit) status call ran = ShowsStreams kind crew source names limit status call ran
ShowsOrder crew (check_trace chain name names limit) status call ran = ⊥
ShowsOrder crew (check_query name) status call ran = ⊥
ShowsOrder crew (sum_up recipe) status call ran = ShowsMade crew recipe most_events ran
ShowsOrder crew (join_twice names limit) status call ran = ⊥

-- A run of the order's crew made the join of the order.
abbrev pub ShowsRun : Option spelled.Order → ℕ → Call → RanSeen (List Field) → Type 0
ShowsRun None status call ran = ⊥
ShowsRun (Some order) status call ran = (crew : ChainShape) × (crew_of order ≡ Some crew) × ShowsOrder crew (asked_by order) status call ran
