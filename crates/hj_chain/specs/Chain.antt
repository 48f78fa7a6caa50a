-- The chain of n cores on one thread, and its steps: one actor takes one event, message or report, and handles it whole. The
-- chain is that of low-latency handshake join (Roy, Teubner and Gemulla, PVLDB 2014); its actors and their steps are this
-- project's own profile.
use Rattle.std.specs.Prelude.{ℕ, ◌+◌, ◌*◌, ◌==◌, nat_lt, Bool, false, List, [], ◌∷◌, ◌++◌, drop, length, replicate, slice_get, slice_index_or, option_map, option_to_list, None, Some, if◌then◌else◌}
use Rattle.std.specs.declared.option.Option.{Option}
use Rattle.hj_base.specs.declared.numbers.Side.{Side}
use Rattle.hj_base.specs.declared.numbers.Side.TheVariants.{Left, Right}
use Rattle.hj_msg.specs.declared.feed.Given.{Given}
use Rattle.hj_msg.specs.declared.feed.Given.TheVariants as given
use Rattle.hj_msg.specs.declared.message.Msg.{Msg}
use Rattle.hj_msg.specs.declared.message.Msg.TheVariants.{CloseL, CloseR}
use Rattle.hj_msg.specs.declared.message.Report.{Report}
use Rattle.hj_msg.specs.declared.event.Pair.{Pair}
use Rattle.hj_msg.specs.Core as core
use Rattle.hj_msg.specs.Driver.{DriverTurn, admission, receipt, closing, message_of, port_of}
use Rattle.hj_driver.specs.declared.answers.Closing.{Closing}
use Rattle.hj_driver.specs.declared.answers.Closing.TheVariants as answer
use Rattle.hj_driver.specs.Driver.{DriverState, new_driver, after_put, after_take, closed, cause_of as wait_of, closing_of}
use Rattle.hj_collect.specs.Collector.{CollectorState}
use Rattle.hj_chain.specs.declared.actor.Actor.{Actor}
use Rattle.hj_chain.specs.declared.actor.Actor.TheVariants.{Admit, PortLeft, PortRight, Core, Collect}
use Rattle.hj_chain.specs.declared.actor.NotNow.{NotNow}
use Rattle.hj_chain.specs.declared.actor.NotNow.TheVariants.{Waits, Drains, Closed, Empty, ReportsFull, NoSuchCore, Over}
use Rattle.hj_chain.specs.Queues.{Queues, no_messages}
use Rattle.hj_chain.specs.Reports.{queue_at}
use Rattle.hj_chain.specs.Links.{changed_at, at_port, put_in, take_out, incoming, take_in, send_out}

pub record ChainState (P : Type 0) : Type 0 where
  -- what is outstanding of the events that were put in, and how far the closes have come
  pub driver : DriverState
  -- the feed's answer that is to be used next: an event to put in, or that none is to come; None where the feed is to be asked first
  pub next : Option (Given P)
  -- the messages under way on the links 0 to n
  pub links : List (Queues (Msg P))
  -- what each core keeps
  pub cores : List (core.State P)
  -- each core's reports that are still to be collected
  pub reports : List (List (Report P))
  -- whether memory ran out in a step
  pub over : Bool

-- What contracts see of a chain: its join and its state, how far the cores have come by the reports that were collected, and the
-- pairs that are kept, in no order.
pub record Contents (P J : Type 0) : Type 0 where
  pub join : J
  pub state : ChainState P
  pub collector : CollectorState
  pub kept : List (Pair P)

-- how many messages each direction of a link holds at most, and how many reports a core's queue
abbrev pub capacity : ℕ → ℕ
capacity flight = 2 * flight + 2

-- What the feed says in a step: whether its next answer is there, and that answer, which is used where the feed is asked.
pub record FeedAnswer (P : Type 0) : Type 0 where
  pub ready : Bool
  pub given : Given P

-- the feed's next answer, if it is there
abbrev pub if_there : {P : Type 0} → FeedAnswer P → Option (Given P)
if_there answer = if answer.ready then Some answer.given else None

-- The empty chain of n cores, with this answer of the feed to go on with.
abbrev pub empty_chain : {P : Type 0} → ℕ → ℕ → Given P → ChainState P
empty_chain n flight first = record {
  driver = new_driver flight;
  next = Some first;
  links = replicate (n + 1) (no_messages (capacity flight));
  cores = replicate n core.empty_state;
  reports = replicate n [];
  over = false;
}

-- What an actor does in a step: it asks the feed; a turn of the driver; the handling of a message by the core at a place, which
-- took it at this end; or the taking of a report of that core.
pub data Action (P : Type 0) : Type 0 where
  asks : Action P
  drives : (turn : DriverTurn P) → Action P
  handles : (place : ℕ) (end : Side) (message : Msg P) → Action P
  collects : (place : ℕ) (report : Report P) → Action P

-- the driver puts the next event, or the closes where none is to come
abbrev pub turn_of : {P : Type 0} → Given P → DriverTurn P
turn_of (given.Event event) = admission event
turn_of given.Stop = closing

-- the driver's next action: where no answer of the feed is known, the feed is asked
abbrev pub next_action : {P : Type 0} → Option (Given P) → Action P
next_action None = asks
next_action (Some given) = drives (turn_of given)

-- the first element of a queue
abbrev pub first : {X : Type 0} → List X → Option X
first queue = slice_get queue 0

-- What an actor does, if it finds something to do.
abbrev pub action_of : {P : Type 0} → ChainState P → Actor → Option (Action P)
action_of chain Admit = Some (next_action chain.next)
action_of chain PortLeft = option_map (λ message. drives (receipt Left message)) (first (at_port Left (length chain.cores) chain.links))
action_of chain PortRight = option_map (λ message. drives (receipt Right message)) (first (at_port Right (length chain.cores) chain.links))
action_of chain (Core place end) = option_map (handles place.0 end) (first (incoming end place.0 chain.links))
action_of chain (Collect place) = option_map (collects place.0) (first (queue_at chain.reports place.0))

-- The driver and the links after a turn of the driver.
abbrev pub driver_after : {P : Type 0} → DriverTurn P → DriverState → DriverState
driver_after (admission event) driver = after_put event driver
driver_after (receipt port message) driver = after_take port message driver
driver_after closing driver = closed driver

abbrev pub links_after : {P : Type 0} → ℕ → DriverTurn P → List (Queues (Msg P)) → List (Queues (Msg P))
links_after n (admission event) links = put_in (port_of event) n (message_of event) links
links_after n (receipt port message) links = take_out port n links
links_after n closing links = put_in Right n CloseR (put_in Left n CloseL links)

-- Behind the put of an event the feed is asked for the next one where that is there. Else it is asked when nothing else is to do.
abbrev pub next_after : {P : Type 0} → DriverTurn P → Option (Given P) → FeedAnswer P → Option (Given P)
next_after (admission event) next answer = if_there answer
next_after (receipt port message) next answer = next
next_after closing next answer = next

-- The chain after an actor did this, if anything. A core that handles a message sends and reports what that message asks for.
abbrev pub after_action : {P : Type 0} → (P → P → Bool) → ChainState P → Option (Action P) → FeedAnswer P → ChainState P
after_action matches chain None answer = chain
after_action matches chain (Some asks) answer = record chain { next = Some answer.given }
after_action matches chain (Some (drives turn)) answer =
    record chain {
      driver = driver_after turn chain.driver;
      links = links_after (length chain.cores) turn chain.links;
      next = next_after turn chain.next answer;
    }
after_action matches chain (Some (handles place end message)) answer =
    let n = length chain.cores in
    let state = slice_index_or chain.cores place core.empty_state in
    let sends = core.sends place n message in
    record chain {
      links = send_out place sends.left sends.right (take_in end place chain.links);
      cores = changed_at place (λ old. core.after place n old message) chain.cores;
      reports = changed_at place (λ queue. queue ++ option_to_list (core.report matches state message)) chain.reports;
    }
after_action matches chain (Some (collects place report)) answer = record chain { reports = changed_at place (drop 1) chain.reports }

-- The chain after a step of an actor, with what the feed says.
abbrev pub after : {P : Type 0} → (P → P → Bool) → ChainState P → Actor → FeedAnswer P → ChainState P
after matches chain actor answer = after_action matches chain (action_of chain actor) answer

-- Why an actor isn't enabled, if it isn't. The causes of one actor are looked at in this order.
abbrev pub closing_cause : Closing → Option NotNow
closing_cause answer.Send = None
closing_cause (answer.Wait count) = Some (Drains count)
closing_cause answer.Already = Some Closed

abbrev pub admit_cause : {P : Type 0} → DriverState → Option (Given P) → Option NotNow
admit_cause driver None = None
admit_cause driver (Some (given.Event event)) = option_map Waits (wait_of event driver)
admit_cause driver (Some given.Stop) = closing_cause (closing_of driver)

-- an empty queue is a cause, or else there is this one
abbrev pub or_empty : {X : Type 0} → List X → Option NotNow → Option NotNow
or_empty [] other = Some Empty
or_empty (x ∷ xs) other = other

abbrev pub at_core : {P : Type 0} → ChainState P → ℕ → Option NotNow → Option NotNow
at_core chain place other = if nat_lt place (length chain.cores) then other else Some NoSuchCore

abbrev pub full_cause : {P : Type 0} → ChainState P → ℕ → Option NotNow
full_cause chain place = if length (queue_at chain.reports place) == capacity chain.driver.flight then Some ReportsFull else None

abbrev pub cause_of : {P : Type 0} → ChainState P → Actor → Option NotNow
cause_of chain Admit = admit_cause chain.driver chain.next
cause_of chain PortLeft = or_empty (at_port Left (length chain.cores) chain.links) None
cause_of chain PortRight = or_empty (at_port Right (length chain.cores) chain.links) None
cause_of chain (Core place end) = at_core chain place.0 (or_empty (incoming end place.0 chain.links) (full_cause chain place.0))
cause_of chain (Collect place) = at_core chain place.0 (or_empty (queue_at chain.reports place.0) None)

-- A chain in which memory ran out has no enabled actor.
abbrev pub cause : {P : Type 0} → ChainState P → Actor → Option NotNow
cause chain actor = if chain.over then Some Over else cause_of chain actor
