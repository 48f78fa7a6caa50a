-- What the words order, apart from how a join is run.
use Rattle.std.specs.Prelude.{ℕ, List, None, Some, option_map}
use Rattle.std.specs.declared.option.Option.{Option}
use Rattle.hj_chain.specs.declared.serial.Chooser.{Chooser}
use Rattle.hj_chain.specs.declared.serial.Chooser.TheVariants as chooser
use Rattle.hj_words.specs.declared.order.Order as spelled
use Rattle.hj_words.specs.declared.order.Order.TheVariants as spells
use Rattle.hj_words.specs.Orders as words

-- how many events a join has at most, where no option says otherwise
unfoldable pub most_events : ℕ
most_events = 4294967295

-- Where the query of a join comes from: it is that of `equi W`, or it is read under a name.
pub data QuerySource : Type 0 where
  keyed : (rows : ℕ) → QuerySource
  named : (name : List ℕ) → QuerySource

-- the names of the two streams of a join
pub record Names : Type 0 where
  pub left : List ℕ
  pub right : List ℕ

-- A chain: how many cores it has, and how many events are under way in it at most.
pub record ChainShape : Type 0 where
  pub cores : ℕ
  pub flight : ℕ

-- A seed draws the order of the steps; where none is given, the actors take turns.
abbrev pub chooser_of : Option ℕ → Chooser
chooser_of None = chooser.InTurn
chooser_of (Some seed) = chooser.Seeded seed

-- the names of the streams of a join, of a trace of it and of its output
pub record CheckedNames : Type 0 where
  pub streams : Names
  pub trace : List ℕ
  pub output : List ℕ

-- the names of the two queries and of the three streams of two joins in a row
pub record TwiceNames : Type 0 where
  -- the first query
  pub query : List ℕ
  -- the streams of the first join
  pub streams : Names
  -- the second query
  pub second : List ℕ
  -- the right stream of the second join
  pub third : List ℕ

-- What a command writes of the join of two streams.
pub data TextKind : Type 0 where
  -- the line of each pair, in the order of the sequential join
  pair_lines : TextKind
  -- the pairs as the cores meet them, and marks between them that tell up to which number all have come
  raw_items : TextKind
  -- the line of each step of such a chain, in the order of this rule
  step_lines : ChainShape → Chooser → TextKind

-- the two streams that `gen N KEYS SEED W` makes and joins: so many rows each, with so many keys, by the draws of a seed,
-- over windows of so many rows
pub record Recipe : Type 0 where
  pub rows : ℕ
  pub keys : ℕ
  pub seed : ℕ
  pub window : ℕ

-- `equi W LEFT RIGHT`, `join QUERY LEFT RIGHT`, `raw QUERY LEFT RIGHT` and `trace QUERY LEFT RIGHT` join two streams under a query,
-- with so many events at most, and each writes a text of its own of that join. `verify QUERY LEFT RIGHT TRACE OUTPUT` checks a trace
-- of such a join, along such a chain, and its output. `check QUERY` writes the canonical text of the query under this name, and
-- `gen N KEYS SEED W` sums up the join of two streams that it makes. `twice QUERY LEFT RIGHT
-- QUERY THIRD` joins the pairs of a first join with a third stream, with so many events at most in each of both joins.
pub data Order : Type 0 where
  join_streams : TextKind → QuerySource → Names → (limit : ℕ) → Order
  check_trace : ChainShape → (name : List ℕ) → CheckedNames → (limit : ℕ) → Order
  check_query : (name : List ℕ) → Order
  sum_up : Recipe → Order
  join_twice : TwiceNames → (limit : ℕ) → Order

-- How many cores and threads a join has, how many events are under way, and in which order its steps come, is left out where no
-- status, text or note depends on it: everywhere but for a trace and its check.
abbrev pub asked_by : spelled.Order → Order
asked_by (spells.Equi w left right) = join_streams pair_lines (keyed w) (record { left = left; right = right }) most_events
asked_by (spells.Join setup limit schedule query left right) =
    join_streams pair_lines (named query) (record { left = left; right = right }) limit
asked_by (spells.Raw setup limit query left right) =
    join_streams raw_items (named query) (record { left = left; right = right }) limit
asked_by (spells.Trace cores flight limit schedule query left right) =
    join_streams (step_lines (record { cores = cores; flight = flight }) (chooser_of schedule)) (named query)
    (record { left = left; right = right }) limit
asked_by (spells.Verify cores flight limit query left right trace output) =
    check_trace (record { cores = cores; flight = flight }) query
    (record { streams = record { left = left; right = right }; trace = trace; output = output }) limit
asked_by (spells.Check query) = check_query query
asked_by (spells.Twice setup limit schedule query left right second third) =
    join_twice (record { query = query; streams = record { left = left; right = right }; second = second; third = third }) limit
asked_by (spells.Gen n keys seed w) = sum_up (record { rows = n; keys = keys; seed = seed; window = w })

-- What the words order, if they spell an order.
abbrev pub order_of : List (List ℕ) → Option Order
order_of list = option_map asked_by (words.order_of list)
