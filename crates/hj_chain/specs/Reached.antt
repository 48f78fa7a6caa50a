-- The chains that steps lead to, and the journals that these steps leave.
use Rattle.std.specs.Prelude.{◌≡◌, ◌≤◌, ℕ, zero, suc, ◌==◌, Bool, false, List, [], ◌∷◌, ◌++◌, length, map, take, option_to_list, slice_get, slice_index_or, None, Some, if◌then◌else◌, IsPermutation}
use Rattle.std.specs.declared.option.Option.{Option}
use Rattle.std.specs.List.{flat_map, range_with_len}
use Rattle.hj_base.specs.declared.numbers.Side.{Side}
use Rattle.hj_base.specs.declared.numbers.Side.TheVariants.{Left, Right}
use Rattle.hj_base.specs.Journals.{Entry, taken, takes}
use Rattle.hj_base.specs.Link.{Link, OneWay}
use Rattle.hj_msg.specs.declared.event.Event.{Event}
use Rattle.hj_msg.specs.declared.event.Pair.{Pair}
use Rattle.hj_msg.specs.declared.feed.Given.{Given}
use Rattle.hj_msg.specs.declared.feed.Given.TheVariants as given
use Rattle.hj_msg.specs.declared.message.Msg.{Msg}
use Rattle.hj_msg.specs.declared.message.Report.{Report}
use Rattle.hj_msg.specs.Core.{empty_state, sends, report}
use Rattle.hj_msg.specs.Feed.{event_in}
use Rattle.hj_msg.specs.Turns.{Turn, at_left, at_right, at_reports}
use Rattle.hj_msg.specs.Run.{Run, LogEntry, port_journal}
use Rattle.hj_msg.specs.Met.{met}
use Rattle.hj_msg.specs.Emission.{emitted}
use Rattle.hj_collect.specs.StandsFor as collect
use Rattle.hj_chain.specs.declared.actor.Actor.{Actor}
use Rattle.hj_chain.specs.declared.actor.Actor.TheVariants.{Admit, PortLeft, PortRight, Core, Collect}
use Rattle.hj_chain.specs.Chain.{Action, FeedAnswer, if_there, asks, drives, handles, collects, ChainState, Contents, action_of, after, cause, empty_chain}

-- the events that a step takes from the feed: the driver asks for the next one where it knows none, and where it puts one in and
-- the next one is there
abbrev pub asked : {P : Type 0} → Actor → Option (Given P) → FeedAnswer P → List (Event P)
asked Admit None answer = event_in (Some answer.given)
asked Admit (Some (given.Event event)) answer = event_in (if_there answer)
asked Admit (Some given.Stop) answer = []
asked PortLeft next answer = []
asked PortRight next answer = []
asked (Core place end) next answer = []
asked (Collect place) next answer = []

-- A schedule of steps, each of an actor that is enabled then, leads from the empty chain of n cores to this one. The events are
-- those that were taken from the feed.
pub data Reached {P : Type 0} (matches : P → P → Bool) (n flight : ℕ) : List Actor → List (Event P) → ChainState P → Type 0 where
  begins : 1 ≤ n → (first : Given P) → Reached matches n flight [] (event_in (Some first)) (empty_chain n flight first)
  steps : (schedule : List Actor) (events : List (Event P)) (chain : ChainState P) (actor : Actor) (answer : FeedAnswer P)
      → Reached matches n flight schedule events chain → cause chain actor ≡ None
      → Reached matches n flight (schedule ++ actor ∷ []) (events ++ asked actor chain.next answer) (after matches chain actor answer)

-- What steps leave in the journals: the driver's log, each core's turns, and what was taken of each core's reports. Each step is
-- a turn of its own, under its place in the schedule.
pub record StepHistory (P : Type 0) : Type 0 where
  pub log : List (LogEntry P)
  pub turns : ℕ → List (Turn P)
  pub collected : ℕ → List (Entry (Report P))

abbrev pub no_history : {P : Type 0} → StepHistory P
no_history = record { log = []; turns = λ k. []; collected = λ k. [] }

-- the turn of the core at a place that handles a message
abbrev pub turn_at : {P : Type 0} → (P → P → Bool) → ChainState P → ℕ → ℕ → Side → Msg P → Turn P
turn_at matches chain number place end message =
    let state = slice_index_or chain.cores place empty_state in
    record {
      number = number;
      end = end;
      message = message;
      to_left = (sends place (length chain.cores) message).left;
      to_right = (sends place (length chain.cores) message).right;
      reports = option_to_list (report matches state message);
    }

-- each list as it was, but the one of this place with one element more
abbrev pub with_last : {X : Type 0} → ℕ → X → (ℕ → List X) → ℕ → List X
with_last place x lists k = if k == place then lists k ++ x ∷ [] else lists k

-- the journals with one turn more
abbrev pub recorded : {P : Type 0} → (P → P → Bool) → ChainState P → ℕ → Option (Action P) → StepHistory P → StepHistory P
recorded matches chain number None history = history
recorded matches chain number (Some asks) history = history
recorded matches chain number (Some (drives turn)) history = record history { log = history.log ++ record { number = number; turn = turn } ∷ [] }
recorded matches chain number (Some (handles place end message)) history =
    record history { turns = with_last place (turn_at matches chain number place end message) history.turns }
recorded matches chain number (Some (collects place report)) history = record history { collected = with_last place (taken number report) history.collected }

abbrev pub history_of : {P : Type 0} {matches : P → P → Bool} {n flight : ℕ} {schedule : List Actor} {events : List (Event P)} {chain : ChainState P}
    → Reached matches n flight schedule events chain → StepHistory P
history_of (begins some first) = no_history
history_of {matches = matches} (steps schedule events chain actor answer before enabled) = recorded matches chain (length schedule) (action_of chain actor) (history_of before)

-- The journals of the ends of link k, and of the queue of reports of core k. The left end of link 0 and the right end of link n
-- are the driver's; of the other ends, the left one of link k + 1 and the right one of link k are those of core k.
abbrev pub left_end : {P : Type 0} → StepHistory P → ℕ → List (Entry (Msg P))
left_end history zero = port_journal Left history.log
left_end history (suc k) = flat_map at_right (history.turns k)

abbrev pub right_end : {P : Type 0} → ℕ → StepHistory P → ℕ → List (Entry (Msg P))
right_end n history k = if k == n then port_journal Right history.log else flat_map at_left (history.turns k)

abbrev pub link_of : {P : Type 0} → ℕ → StepHistory P → ℕ → Link (Msg P)
link_of n history k = record { left = left_end history k; right = right_end n history k }

abbrev pub queue_of : {P : Type 0} → StepHistory P → ℕ → OneWay (Report P)
queue_of history k = record { sender = flat_map at_reports (history.turns k); receiver = history.collected k }

-- The run that the steps give.
abbrev pub run_of : {P : Type 0} {matches : P → P → Bool} {n flight : ℕ} {schedule : List Actor} {events : List (Event P)} {chain : ChainState P}
    → Reached matches n flight schedule events chain → Run P
run_of {matches = matches} {n = n} {flight = flight} {events = events} reached =
    record { matches = matches; cores = n; flight = flight; events = events; link = link_of n (history_of reached); queue = queue_of (history_of reached) }

-- What was taken of the reports of each core.
abbrev pub collected_of : {P : Type 0} {matches : P → P → Bool} {n flight : ℕ} {schedule : List Actor} {events : List (Event P)} {chain : ChainState P}
    → Reached matches n flight schedule events chain → List (List (Report P))
collected_of {n = n} reached = map (λ k. takes ((history_of reached).collected k)) (range_with_len 0 n)

-- A chain stands for a schedule and events that lead to it, and for how many pairs it gave. One in which memory ran out stands
-- for what it stood for before.
pub record StandsFor {P J : Type 0} (predicate : J → P → P → Bool) (chain : Contents P J) (schedule : List Actor) (events : List (Event P)) (given : ℕ) : Type 0 where
  pub reached : Reached (predicate chain.join) (length chain.state.cores) chain.state.driver.flight schedule events (record chain.state { over = false })
  -- the collector took what was taken of the cores' reports
  pub collector : collect.StandsFor chain.collector (collected_of reached)
  -- the pairs given are the first ones of those that are emitted, and every other pair that was met is kept
  pub within : given ≤ length (emitted (collected_of reached))
  pub released : IsPermutation (take given (emitted (collected_of reached)) ++ chain.kept) (met (collected_of reached))

-- the pairs that a chain gave
abbrev pub pairs_given : {P J : Type 0} {predicate : J → P → P → Bool} {chain : Contents P J} {schedule : List Actor} {events : List (Event P)} {given : ℕ}
    → StandsFor predicate chain schedule events given → List (Pair P)
pairs_given {given = given} stands = take given (emitted (collected_of stands.reached))

-- The pair that a chain gives next, if one is due: the first emitted one that wasn't given. A chain in which memory ran out
-- gives none.
abbrev pub next_pair : {P J : Type 0} {predicate : J → P → P → Bool} {chain : Contents P J} {schedule : List Actor} {events : List (Event P)} {given : ℕ}
    → StandsFor predicate chain schedule events given → Option (Pair P)
next_pair {chain = chain} {given = given} stands = if chain.state.over then None else slice_get (emitted (collected_of stands.reached)) given
