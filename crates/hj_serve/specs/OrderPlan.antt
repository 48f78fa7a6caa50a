-- What is asked of those who do what an order says, and the chain of each.
use Rattle.std.specs.Prelude.{ℕ, None, Some}
use Rattle.std.specs.declared.option.Option.{Option}
use Rattle.hj_crew.specs.declared.plan.CrewSize.{CrewSize}
use Rattle.hj_opening.specs.Orders.{chain_seen, check_seen, join_seen}
use Rattle.hj_opening.specs.RunTwice.{twice_names}
use Rattle.hj_opening.specs.Words.{ChainShape, Order, TextKind, check_query, join_twice, pair_lines, raw_items, step_lines, sum_up}
use Rattle.hj_serve.specs.declared.plan.AloneOrder.{AloneOrder}
use Rattle.hj_serve.specs.declared.plan.AloneOrder.TheVariants as alone
use Rattle.hj_serve.specs.declared.plan.ThreadsOrder.{ThreadsOrder}
use Rattle.hj_serve.specs.declared.plan.ThreadsOrder.TheVariants as threads
use Rattle.hj_serve.specs.declared.plan.TwicePlan.{TwicePlan}
use Rattle.hj_serve.specs.declared.plan.TwicePlan.TheVariants as plan
use Rattle.hj_serve.specs.declared.plan.OrderPlan.{OrderPlan}
use Rattle.hj_serve.specs.declared.plan.OrderPlan.TheVariants as turning
use Rattle.hj_serve.specs.declared.plan.Writing.{Writing}
use Rattle.hj_serve.specs.declared.plan.Writing.TheVariants as writing
use Rattle.hj_serve.specs.Crew.{crew_with}
use Rattle.hj_serve.specs.Orders.{recipe_seen}
use Rattle.hj_serve.specs.Serial.{SerialChain, serial_with}
use Rattle.hj_twice.specs.declared.mode.Mode.{Mode}
use Rattle.hj_twice.specs.declared.mode.Mode.TheVariants as mode
use Rattle.hj_words.specs.declared.order.Order as spelled
use Rattle.hj_words.specs.declared.order.Order.TheVariants as spells

abbrev pub asked_alone : AloneOrder → Order
asked_alone (alone.Check name) = check_query name.now
asked_alone (alone.Join join size chooser) = join_seen pair_lines join

-- the kind of the text that a join on threads writes
abbrev pub kind_of : Writing → TextKind
kind_of writing.InOrder = pair_lines
kind_of writing.AsMet = raw_items

abbrev pub asked_threads : ThreadsOrder → Order
asked_threads (threads.Join join written) = join_seen (kind_of written) join
asked_threads (threads.Gen recipe) = sum_up (recipe_seen recipe)

abbrev pub asked_plan : OrderPlan → Order
asked_plan (turning.Alone order) = asked_alone order
asked_plan (turning.Threads order size) = asked_threads order
asked_plan (turning.Trace join plan) = join_seen (step_lines (chain_seen plan.size) plan.chooser) join
asked_plan (turning.Verify check) = check_seen check
asked_plan (turning.Twice joins made) = join_twice (twice_names joins) joins.limit

abbrev pub crew_seen : CrewSize → ChainShape
crew_seen size = record { cores = size.chain.cores; flight = size.chain.flight }

-- the chain that threads turn, of which the run is handed back
abbrev pub crew_plan : OrderPlan → Option ChainShape
crew_plan (turning.Alone order) = None
crew_plan (turning.Threads order size) = Some (crew_seen size)
crew_plan (turning.Trace join plan) = None
crew_plan (turning.Verify check) = None
crew_plan (turning.Twice joins made) = None

abbrev pub threads_plan : OrderPlan → ℕ
threads_plan (turning.Alone order) = 0
threads_plan (turning.Threads order size) = size.threads
threads_plan (turning.Trace join plan) = 0
threads_plan (turning.Verify check) = 0
threads_plan (turning.Twice joins made) = 0

abbrev pub serial_alone : AloneOrder → Option SerialChain
serial_alone (alone.Check name) = None
serial_alone (alone.Join join size chooser) = Some (record { cores = size.cores; flight = size.flight; chooser = chooser })

abbrev pub serial_plan : OrderPlan → Option SerialChain
serial_plan (turning.Alone order) = serial_alone order
serial_plan (turning.Threads order size) = None
serial_plan (turning.Trace join plan) = None
serial_plan (turning.Verify check) = None
serial_plan (turning.Twice joins made) = None

-- the chain that threads turn for each of two joins in a row
abbrev pub crew_twice : TwicePlan → Option ChainShape
crew_twice (plan.Alone size chooser) = None
crew_twice (plan.Threads size) = Some (crew_seen size)

-- how many threads turn it
abbrev pub threads_twice : TwicePlan → ℕ
threads_twice (plan.Alone size chooser) = 0
threads_twice (plan.Threads size) = size.threads

-- the chain that the calling thread takes for each of two joins in a row
abbrev pub serial_twice : TwicePlan → Option SerialChain
serial_twice (plan.Alone size chooser) = Some (record { cores = size.cores; flight = size.flight; chooser = chooser })
serial_twice (plan.Threads size) = None

-- how each of two joins in a row is made
pub record TwiceShape : Type 0 where
  pub crew : Option ChainShape
  pub threads : ℕ
  pub serial : Option SerialChain

abbrev pub twice_seen : TwicePlan → TwiceShape
twice_seen made = record { crew = crew_twice made; threads = threads_twice made; serial = serial_twice made }

abbrev pub twice_plan : OrderPlan → Option TwiceShape
twice_plan (turning.Alone order) = None
twice_plan (turning.Threads order size) = None
twice_plan (turning.Trace join plan) = None
twice_plan (turning.Verify check) = None
twice_plan (turning.Twice joins made) = Some (twice_seen made)

-- the one of an order
abbrev pub twice_of : spelled.Order → Option TwiceShape
twice_of (spells.Equi w left right) = None
twice_of (spells.Join setup limit schedule query left right) = None
twice_of (spells.Raw setup limit query left right) = None
twice_of (spells.Trace cores flight limit schedule query left right) = None
twice_of (spells.Verify cores flight limit query left right trace output) = None
twice_of (spells.Check query) = None
twice_of (spells.Gen n keys seed w) = None
twice_of (spells.Twice setup limit schedule query left right second third) =
    Some (record { crew = crew_with setup; threads = setup.threads; serial = serial_with setup schedule })

-- and of the mode in which they are made
abbrev pub mode_seen : {T G : Type 0} → Mode T G → TwiceShape
mode_seen (mode.Serial plan) = record {
  crew = None;
  threads = 0;
  serial = Some (record { cores = plan.size.cores; flight = plan.size.flight; chooser = plan.chooser });
}
mode_seen (mode.Threads plan) = record { crew = Some (crew_seen plan.size); threads = plan.size.threads; serial = None }
