-- What `gen` writes: the line that sums up the join of two streams that a seed determines.
use Rattle.std.specs.Prelude.{◌≡◌, ℕ, List}
use Rattle.std.specs.Io.KnownBytes.{Appends}
use Rattle.hj_base.specs.Journals.{IsPrefix}
use Rattle.hj_stream.specs.JoinText.{JoinResult, join_result}
use Rattle.hj_event.specs.Arrivals.{clean}
use Rattle.hj_gen.specs.Streams.{right_seed, stream_of}
use Rattle.hj_gen.specs.Summary.{summary_of}
use Rattle.hj_query.specs.Keyed.{IsEquiQuery}
use Rattle.hj_query.specs.QueryParts.{QueryParts}
use Rattle.hj_record.specs.Pieces.{Stream}
use Rattle.hj_relay.specs.Relay.{whole}
use Rattle.hj_opening.specs.Calls.{Call}
use Rattle.hj_opening.specs.Words.{Recipe}

abbrev pub left_stream : Recipe → Stream
left_stream recipe = whole (stream_of recipe.rows recipe.keys recipe.seed)

abbrev pub right_stream : Recipe → Stream
right_stream recipe = whole (stream_of recipe.rows recipe.keys (right_seed recipe.seed))

-- the join of both streams under a query
abbrev pub join_made : Recipe → QueryParts → ℕ → JoinResult
join_made recipe query limit = join_result query (left_stream recipe) (right_stream recipe) limit

-- A line sums up the join of both streams on equal keys, to their ends: the number of its events, and its text.
pub record IsSummary (line : List ℕ) (recipe : Recipe) (limit : ℕ) : Type 0 where
  pub query : QueryParts
  pub keyed : IsEquiQuery recipe.window query
  pub ending : (join_made recipe query limit).ending ≡ clean
  pub sums_up : line ≡ summary_of (join_made recipe query limit).events (join_made recipe query limit).text

-- The line was written.
pub record WritesSummary (recipe : Recipe) (limit : ℕ) (call : Call) : Type 0 where
  pub line : List ℕ
  pub summary : IsSummary line recipe limit
  pub written : Appends call.old call.new line

-- The bytes are a front of the line.
pub record BeginsSummary (grown : List ℕ) (recipe : Recipe) (limit : ℕ) : Type 0 where
  pub line : List ℕ
  pub summary : IsSummary line recipe limit
  pub begins : IsPrefix grown line
