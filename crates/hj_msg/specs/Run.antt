-- A run of the whole chain, seen by the journals of all its links. Link k joins the cores k-1 and k. The left end of link 0
-- is the driver's left port, and the right end of the last link its right port. The chain is that of handshake join (Teubner
-- and Mueller, SIGMOD 2011); that a run is told by journals is this project's own profile.
use Rattle.std.specs.Prelude.{◌≡◌, ℕ, ◌+◌, ◌*◌, ◌<◌, ◌≤◌, Bool, List, [], ◌∷◌, map, None}
use Rattle.std.specs.List.{flat_map, Contains}
use Rattle.std.specs.List.Sorted.{IsStrictlyIncreasing}
use Rattle.hj_base.specs.declared.numbers.Side.{Side}
use Rattle.hj_base.specs.declared.numbers.Side.TheVariants.{Left, Right}
use Rattle.hj_base.specs.Journals.{Entry, IsInTurn, put, taken, takes}
use Rattle.hj_base.specs.Link.{Link, OneWay, Agrees, AgreesOneWay}
use Rattle.hj_msg.specs.declared.event.Event.{Event}
use Rattle.hj_msg.specs.declared.message.Msg.{Msg}
use Rattle.hj_msg.specs.declared.message.Msg.TheVariants.{CloseL, CloseR}
use Rattle.hj_msg.specs.declared.message.Report.{Report}
use Rattle.hj_msg.specs.declared.message.Report.TheVariants.{Ended}
use Rattle.hj_msg.specs.Event.{IsWellFormed}
use Rattle.hj_msg.specs.Turns.{Turns, TakesTurns, only_at}
use Rattle.hj_msg.specs.Driver.{DriverTurn, admission, receipt, closing, message_of, port_of, admitted, IsLawful}

pub record Run (P : Type 0) : Type 0 where
  pub matches : P → P → Bool
  pub cores : ℕ
  -- how many events may be outstanding
  pub flight : ℕ
  pub events : List (Event P)
  -- the links 0 to `cores`, and the queue of reports of each core
  pub link : ℕ → Link (Msg P)
  pub queue : ℕ → OneWay (Report P)

-- of each direction of each link, and of each queue
abbrev pub capacity : {P : Type 0} → Run P → ℕ
capacity run = 2 * run.flight + 2

-- a turn of the driver, under its number
pub record LogEntry (P : Type 0) : Type 0 where
  pub number : ℕ
  pub turn : DriverTurn P

-- the close that is put on a port
abbrev pub close_of : {P : Type 0} → Side → Msg P
close_of Left = CloseL
close_of Right = CloseR

-- The entries of a turn of the driver in the journal of a port.
abbrev pub at_port : {P : Type 0} → Side → ℕ → DriverTurn P → List (Entry (Msg P))
at_port port number (admission event) = only_at (port_of event) port (put number (message_of event))
at_port port number (receipt from message) = only_at from port (taken number message)
at_port port number closing = put number (close_of port) ∷ []

abbrev pub port_journal : {P : Type 0} → Side → List (LogEntry P) → List (Entry (Msg P))
port_journal port log = flat_map (λ entry. at_port port entry.number entry.turn) log

pub record IsRun {P : Type 0} (run : Run P) : Type 0 where
  pub some_core : 1 ≤ run.cores
  pub well_formed : IsWellFormed run.events
  -- each link and each queue keeps its promise, and the turns never fall in the journal of any end
  pub links : (k : ℕ) → k ≤ run.cores → Agrees (capacity run) (run.link k)
  pub links_in_turn : (k : ℕ) → k ≤ run.cores → IsInTurn (run.link k).left × IsInTurn (run.link k).right
  pub queues : (k : ℕ) → k < run.cores → AgreesOneWay (capacity run) (run.queue k)
  pub queues_in_turn : (k : ℕ) → k < run.cores → IsInTurn (run.queue k).sender × IsInTurn (run.queue k).receiver
  -- each core takes turns, over its left end, its right end and its reports
  pub turns : ℕ → Turns P
  pub steps : (k : ℕ) → k < run.cores → TakesTurns run.matches k run.cores (turns k) (run.link k).right (run.link (k + 1)).left (run.queue k).sender
  -- the entries of the driver's two ports, in the order of their turns, are a lawful log
  pub log : List (LogEntry P)
  pub rising : IsStrictlyIncreasing (map (λ entry. entry.number) log)
  pub left_port : (run.link 0).left ≡ port_journal Left log
  pub right_port : (run.link run.cores).right ≡ port_journal Right log
  pub lawful : IsLawful run.flight run.events (map (λ entry. entry.turn) log)

-- A run is complete: no last turn is cut, every event was put, and the driver took both closes and each core's end.
pub record IsComplete {P : Type 0} {run : Run P} (is : IsRun run) : Type 0 where
  pub uncut : (k : ℕ) → k < run.cores → (is.turns k).cut ≡ None
  pub all_put : admitted (map (λ entry. entry.turn) is.log) ≡ run.events
  pub close_left : Contains (map (λ entry. entry.turn) is.log) (receipt Right CloseL)
  pub close_right : Contains (map (λ entry. entry.turn) is.log) (receipt Left CloseR)
  pub ended : (k : ℕ) → k < run.cores → Contains (takes (run.queue k).receiver) Ended
