-- What the calling thread's part of a run stands for: the driver's turns under their numbers, the events that the feed gave, and
-- the reports that were taken.
use Rattle.std.specs.Prelude.{◌≡◌, ℕ, ◌<◌, true, List, [], ◌++◌, length, map}
use Rattle.std.specs.declared.option.Option.{Option}
use Rattle.std.specs.List.{All, list_any}
use Rattle.std.specs.List.Sorted.{IsStrictlyIncreasing}
use Rattle.hj_base.specs.declared.numbers.Side.TheVariants.{Left, Right}
use Rattle.hj_base.specs.Journals.{Entry, IsInTurn, takes}
use Rattle.hj_msg.specs.declared.event.Event as event
use Rattle.hj_msg.specs.declared.feed.Given.{Given}
use Rattle.hj_msg.specs.declared.message.Report.{Report}
use Rattle.hj_msg.specs.Event.{IsWellFormed}
use Rattle.hj_msg.specs.Feed.{FeedState, event_in, is_stop, numbering_of}
use Rattle.hj_msg.specs.Driver.{DriverTurn, admitted}
use Rattle.hj_msg.specs.Run.{LogEntry, port_journal}
use Rattle.hj_link.specs.Seen.{EndSeen}
use Rattle.hj_driver.specs.Driver.{DriverState}
use Rattle.hj_driver.specs.StandsFor as driver
use Rattle.hj_driver.specs.StandsFor.{is_closing}
use Rattle.hj_collect.specs.Collector.{CollectorState}
use Rattle.hj_collect.specs.StandsFor as collect
use Rattle.hj_raw.specs.Items.{TakenReport, lists_of}
use Rattle.hj_desk.specs.declared.ports.Ports.{Ports}
use Rattle.hj_desk.specs.declared.desk.Desk.{Desk}
use Rattle.hj_desk.specs.Taken.{AreTaken, turns_in}

-- what happened so far
pub record DeskHistory (P : Type 0) : Type 0 where
  -- the driver's turns, each under its number
  pub log : List (LogEntry P)
  -- the events that the feed gave
  pub events : List (event.Event P)
  -- the reports that were taken, each under the number of its turn
  pub taken : List (TakenReport P)

-- The turns of a journal never fall, and each is below this one.
pub record IsBefore {M : Type 0} (turn : ℕ) (journal : List (Entry M)) : Type 0 where
  pub in_turn : IsInTurn journal
  pub before : All (λ number. number < turn) (map (λ entry. entry.turn) journal)

module _ {P : Type 0} where
  abbrev pub nothing_happened : DeskHistory P
  nothing_happened = record { log = []; events = []; taken = [] }

  abbrev pub numbers_of : List (LogEntry P) → List ℕ
  numbers_of log = map (λ entry. entry.number) log

  abbrev pub turns_of : List (LogEntry P) → List (DriverTurn P)
  turns_of log = map (λ entry. entry.turn) log

  -- what was taken of the reports of each core
  abbrev pub collected : List (EndSeen (Report P)) → List (List (Report P))
  collected receivers = map (λ receiver. takes receiver.journal) receivers

  -- The journals of the two ends of the chain are those of a log, whose numbers rise and are below that of the next turn. The
  -- driver stands for its turns.
  pub record Drives (state : DriverState) (ports : Ports P) (next_turn : ℕ) (log : List (LogEntry P)) : Type 0 where
    pub left : ports.left.journal ≡ port_journal Left log
    pub right : ports.right.journal ≡ port_journal Right log
    pub rising : IsStrictlyIncreasing (numbers_of log)
    pub before : All (λ number. number < next_turn) (numbers_of log)
    pub stands : driver.StandsFor state (turns_of log)

  -- The feed gave the events that were put, and then the one that is known next. They are well formed, and the feed's numbering
  -- is theirs. Where no event is to come the feed has stopped, and only then the closes were put.
  pub record IsFed (next : Option (Given P)) (feed : FeedState) (turns : List (DriverTurn P)) (events : List (event.Event P)) : Type 0 where
    pub are : events ≡ admitted turns ++ event_in next
    pub well_formed : IsWellFormed events
    pub numbering : feed.numbering ≡ numbering_of events
    pub stopped : is_stop next ≡ true → feed.stopped ≡ true
    pub closed : list_any is_closing turns ≡ true → is_stop next ≡ true

  -- what was taken of the reports of each core, under the numbers of the turns
  abbrev pub journals_of : List (EndSeen (Report P)) → List (List (Entry (Report P)))
  journals_of receivers = map (λ receiver. receiver.journal) receivers

  -- The collector took what was taken of the cores' reports, in turn and below the next turn.
  pub record Gathered (receivers : List (EndSeen (Report P))) (next_turn : ℕ) (collector : CollectorState) (reports : List (TakenReport P)) : Type 0 where
    pub in_turn : All (λ receiver. IsBefore next_turn receiver.journal) receivers
    pub follows : collect.StandsFor collector (collected receivers)
    pub are : AreTaken (journals_of receivers) reports
    pub before : All (λ number. number < next_turn) (turns_in reports)
    -- so these are the lists of reports
    pub lists : collected receivers ≡ lists_of (length receivers) reports

  -- A desk and the feed stand for what happened.
  pub record StandsFor (desk : Desk P) (feed : FeedState) (history : DeskHistory P) : Type 0 where
    pub drives : Drives desk.driver desk.ports desk.turns history.log
    pub fed : IsFed desk.next feed (turns_of history.log) history.events
    pub gathered : Gathered desk.reports.items desk.turns desk.collector history.taken

  -- for some history
  abbrev pub Stands : Desk P → FeedState → Type 0
  Stands desk feed = (history : DeskHistory P) × StandsFor desk feed history
