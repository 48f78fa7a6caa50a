-- What each step of a desk does.
use Rattle.std.specs.Prelude.{◌≡◌, ◌≢◌, ◌⊎◌, ℕ, ◌+◌, ◌-◌, ◌^◌, Bool, true, ◌&&◌, ◌||◌, if◌then◌else◌, is_some, List, [], ◌∷◌, ◌++◌, slice_get, slice_set, None, Some, IsSome}
use Rattle.std.specs.declared.option.Option.{Option}
use Rattle.hj_base.specs.declared.numbers.CoreNo.{CoreNo}
use Rattle.hj_base.specs.declared.numbers.Side.{Side}
use Rattle.hj_base.specs.declared.numbers.Side.TheVariants.{Left, Right}
use Rattle.hj_base.specs.Journals.{taken}
use Rattle.hj_msg.specs.declared.drain.Drained.{Drained}
use Rattle.hj_msg.specs.declared.drain.Drained.TheVariants.{Kept}
use Rattle.hj_msg.specs.declared.event.Event as event
use Rattle.hj_msg.specs.declared.event.Event.TheVariants as happens
use Rattle.hj_msg.specs.declared.feed.Given.{Given}
use Rattle.hj_msg.specs.declared.feed.Given.TheVariants.{Event, Stop}
use Rattle.hj_msg.specs.declared.fin.Fin.{Fin}
use Rattle.hj_msg.specs.declared.fin.Fin.TheVariants as fin
use Rattle.hj_msg.specs.declared.message.Msg.{Msg}
use Rattle.hj_msg.specs.declared.message.Report.{Report}
use Rattle.hj_msg.specs.Driver.{DriverTurn, admission, receipt, closing, port_of}
use Rattle.hj_msg.specs.Feed.{FeedState}
use Rattle.hj_driver.specs.declared.answers.Closing.TheVariants as answer
use Rattle.hj_driver.specs.Driver.{cause_of, closing_of, is_finished}
use Rattle.hj_collect.specs.Collector.{CollectorState, after_report, has_ended}
use Rattle.hj_collect.specs.StandsFor as collect
use Rattle.hj_link.specs.Seen.{EndSeen}
use Rattle.hj_raw.specs.Items.{TakenReport, lists_of}
use Rattle.hj_desk.specs.declared.desk.Desk.{Desk}
use Rattle.hj_desk.specs.declared.step.DeskStep.{DeskStep}
use Rattle.hj_desk.specs.declared.step.DeskStep.TheVariants.{Did, Idle, Spent, Memory}
use Rattle.hj_desk.specs.Ports.{KeepsLinks, Notes, IsQuiet, FoundEmpty, FoundFull}
use Rattle.hj_desk.specs.Desk.{DeskHistory, StandsFor}
use Rattle.hj_desk.specs.Outlet.{KeepsReport, LosesReport}

module _ {P : Type 0} where
  -- the history with a turn of the driver behind the others, with more events, or with one more report
  abbrev pub with_turn : ℕ → DriverTurn P → DeskHistory P → DeskHistory P
  with_turn number turn history = record history { log = history.log ++ record { number = number; turn = turn } ∷ [] }

  abbrev pub with_events : List (event.Event P) → DeskHistory P → DeskHistory P
  with_events events history = record history { events = history.events ++ events }

  abbrev pub with_report : TakenReport P → DeskHistory P → DeskHistory P
  with_report report history = record history { taken = history.taken ++ report ∷ [] }

  -- Whatever a desk stood for, it stands for the same.
  abbrev pub StandsAsBefore : Desk P → Desk P → Type 0
  StandsAsBefore old new = (feed : FeedState) (history : DeskHistory P) → StandsFor old feed history → StandsFor new feed history

  -- No turn number is left.
  abbrev pub IsSpent : Desk P → Type 0
  IsSpent desk = desk.turns ≡ 2 ^ 64 - 1

  -- A turn of the driver under the next number: whatever the desk stood for, it stands for that with this turn behind.
  pub record Turns (turn : DriverTurn P) (old new : Desk P) : Type 0 where
    pub links : KeepsLinks old.ports new.ports
    pub notes : Notes old.turns turn old.ports new.ports
    pub number : new.turns ≡ old.turns + 1
    pub flight : new.driver.flight ≡ old.driver.flight
    pub stands : (feed : FeedState) (history : DeskHistory P) → StandsFor old feed history → StandsFor new feed (with_turn old.turns turn history)

  -- Nothing changed but what the ends of the chain know of their links.
  pub record LooksAtPorts (old new : Desk P) : Type 0 where
    pub links : KeepsLinks old.ports new.ports
    pub quiet : IsQuiet old.ports new.ports
    pub others : new ≡ record old { ports = new.ports }
    pub stands : StandsAsBefore old new

  -- The driver takes the first message at a port: it was taken; a step found none there; or no turn is left.
  abbrev pub Receives : Side → DeskStep → Desk P → Desk P → Type 0
  Receives port Did old new = (message : Msg P) × Turns (receipt port message) old new × (new ≡ record old { driver = new.driver; ports = new.ports; turns = new.turns })
  Receives port Idle old new = LooksAtPorts old new × FoundEmpty port old.ports new.ports
  Receives port Spent old new = IsSpent old × (new ≡ old)
  Receives port Memory old new = ⊥

  -- what the driver does with an answer of the feed, and what is known next behind it
  abbrev pub turn_of : Given P → DriverTurn P
  turn_of (Event event) = admission event
  turn_of Stop = closing

  abbrev pub next_after : Given P → Option (Given P)
  next_after (Event event) = None
  next_after Stop = Some Stop

  -- Why that isn't done now: the feed is to be asked first; the driver lets the event or the closes wait; or a step found a link
  -- full on which it is to put.
  abbrev pub WaitsFor : Option (Given P) → Desk P → Desk P → Type 0
  WaitsFor None old new = new ≡ old
  WaitsFor (Some (Event event)) old new = IsSome (cause_of event old.driver) ⊎ FoundFull (port_of event) old.ports new.ports
  WaitsFor (Some Stop) old new = (closing_of old.driver ≢ answer.Send) ⊎ (FoundFull Left old.ports new.ports ⊎ FoundFull Right old.ports new.ports)

  -- The driver puts what is known next, an event or both closes.
  abbrev pub Admits : DeskStep → Desk P → Desk P → Type 0
  Admits Did old new =
      (given : Given P) × (old.next ≡ Some given) × Turns (turn_of given) old new × (new ≡ record old { driver = new.driver; ports = new.ports; turns = new.turns; next = next_after given })
  Admits Idle old new = LooksAtPorts old new × WaitsFor old.next old new
  Admits Spent old new = IsSpent old × (new ≡ old)
  Admits Memory old new = ⊥

  -- Nothing changed but the receiver of a core, which is still of the same link.
  pub record ChangesReceiver (core : CoreNo) (before after : EndSeen (Report P)) (old new : Desk P) : Type 0 where
    pub was : slice_get old.reports.items core.0 ≡ Some before
    pub is : new.reports.items ≡ slice_set old.reports.items core.0 after
    pub link : after.link ≡ before.link
    pub capacity : after.capacity ≡ before.capacity

  -- a report of a core, under the next number
  abbrev pub next_taken : CoreNo → Report P → Desk P → TakenReport P
  next_taken core report desk = record { turn = desk.turns; core = core.0; report = report }

  -- A report of a core was taken under the next number, and the collector took note of it. Whatever the desk stood for, it stands for
  -- that with this report behind.
  pub record TakesReport (core : CoreNo) (report : Report P) (old new : Desk P) : Type 0 where
    pub before : EndSeen (Report P)
    pub after : EndSeen (Report P)
    pub receiver : ChangesReceiver core before after old new
    pub noted : after.journal ≡ before.journal ++ taken old.turns report ∷ []
    pub number : new.turns ≡ old.turns + 1
    pub collector : new.collector ≡ after_report core report old.collector
    pub others : new ≡ record old { reports = new.reports; turns = new.turns; collector = new.collector; over = new.over }
    pub stands : (feed : FeedState) (history : DeskHistory P) → StandsFor old feed history → StandsFor new feed (with_report (next_taken core report old) history)

  -- A step found no report of a core.
  pub record FindsNoReport (core : CoreNo) (old new : Desk P) : Type 0 where
    pub before : EndSeen (Report P)
    pub after : EndSeen (Report P)
    pub receiver : ChangesReceiver core before after old new
    pub same : after.journal ≡ before.journal
    pub none_known : before.ready ≡ 0
    pub looked : after.empty_looks ≡ before.empty_looks + 1
    pub others : new ≡ record old { reports = new.reports }
    pub stands : StandsAsBefore old new

  -- How a run ended, if it did: memory ran out, at the desk or at a core; or all is done.
  abbrev pub end_of : Desk P → Option Fin
  end_of desk =
      if desk.over || is_some desk.collector.stopped then Some fin.Memory
      else (if is_finished desk.driver.closes && has_ended desk.collector then Some fin.Done else None)

  -- how many reports come of what is known next: each core reports a row that arrives, and a quiet event
  abbrev pub reports_of : Option (Given P) → ℕ → ℕ
  reports_of (Some (Event (happens.Arrive at side row))) cores = cores
  reports_of (Some (Event (happens.Quiet at side))) cores = cores
  reports_of other cores = 0

  -- What a desk and its outlet do of reports.
  module _ {O : Type 0} (gave : O → ℕ → List (TakenReport P) → Bool → Drained → O → Type 0) where
    -- The next report of a core is taken: the outlet keeps what it makes of it; or memory ran out for that.
    abbrev pub Collects : CoreNo → DeskStep → Desk P → O → Desk P → O → Type 0
    Collects core Did old unkept new kept = (report : Report P) × TakesReport core report old new × (new.over ≡ old.over) × KeepsReport gave new.collector report unkept kept
    Collects core Idle old unkept new kept = FindsNoReport core old new × (kept ≡ unkept)
    Collects core Spent old unkept new kept = IsSpent old × (new ≡ old) × (kept ≡ unkept)
    Collects core Memory old unkept new kept = (report : Report P) × TakesReport core report old new × (new.over ≡ true) × LosesReport gave new.collector report unkept kept

    -- The outlet gave what is due, up to the first thing that was refused; where memory ran out it gave nothing.
    pub record Gives (rests : O → CollectorState → Type 0) (answer : Drained) (desk : Desk P) (old new : O) : Type 0 where
      pub gives : (begun : O) (cores : ℕ) (taken : List (TakenReport P)) → collect.StandsFor desk.collector (lists_of cores taken) → gave begun cores taken desk.over Kept old → gave begun cores taken desk.over answer new
      pub rested : answer ≡ Kept → (desk.over ≡ true) ⊎ rests new desk.collector
