-- The run that a desk and the workers of the cores make together.
use Rattle.std.specs.Prelude.{◌≡◌, ℕ, zero, suc, ◌==◌, ◌<◌, ◌≤◌, Bool, true, false, List, [], length, map, slice_index_or, if◌then◌else◌, None}
use Rattle.hj_base.specs.Journals.{Entry, IsInTurn}
use Rattle.hj_base.specs.Link.{Agrees, AgreesOneWay}
use Rattle.hj_msg.specs.declared.event.Event.{Event}
use Rattle.hj_msg.specs.declared.message.Msg.{Msg}
use Rattle.hj_msg.specs.declared.message.Report.{Report}
use Rattle.hj_msg.specs.Feed.{is_stop}
use Rattle.hj_msg.specs.Turns.{Turns, TakesTurns}
use Rattle.hj_msg.specs.Run.{Run, capacity}
use Rattle.hj_driver.specs.Driver.{is_finished}
use Rattle.hj_collect.specs.Collector.{has_ended}
use Rattle.hj_desk.specs.declared.desk.Desk.{Desk}

-- what is seen of the workers: the predicate of their join, and the journals of the ends of each
pub record Workers (P : Type 0) : Type 0 where
  pub matches : P → P → Bool
  -- at the core's left link, at its right one, and of its reports
  pub left : ℕ → List (Entry (Msg P))
  pub right : ℕ → List (Entry (Msg P))
  pub reports : ℕ → List (Entry (Report P))

module _ {P : Type 0} where
  abbrev pub cores_of : Desk P → ℕ
  cores_of desk = length desk.reports.items

  -- The journals of the left end and of the right end of link k. Link 0 begins at the desk, and the last link ends there.
  abbrev pub left_end : Workers P → Desk P → ℕ → List (Entry (Msg P))
  left_end workers desk zero = desk.ports.left.journal
  left_end workers desk (suc k) = workers.right k

  abbrev pub right_end : Workers P → Desk P → ℕ → List (Entry (Msg P))
  right_end workers desk k = if k == cores_of desk then desk.ports.right.journal else workers.left k

  -- what was taken of the reports of core k
  abbrev pub taken_of : Desk P → ℕ → List (Entry (Report P))
  taken_of desk k = slice_index_or (map (λ receiver. receiver.journal) desk.reports.items) k []

  -- the run over these events
  abbrev pub run_of : Workers P → Desk P → List (Event P) → Run P
  run_of workers desk events = record {
    matches = workers.matches;
    cores = cores_of desk;
    flight = desk.driver.flight;
    events = events;
    link = λ k. record { left = left_end workers desk k; right = right_end workers desk k };
    queue = λ k. record { sender = workers.reports k; receiver = taken_of desk k };
  }

  -- The workers do their part of a run: there is some, each takes turns, and the journals of the ends of each link agree.
  pub record DoTheirPart (workers : Workers P) (desk : Desk P) (events : List (Event P)) : Type 0 where
    pub some_core : 1 ≤ cores_of desk
    pub links : (k : ℕ) → k ≤ cores_of desk → Agrees (capacity (run_of workers desk events)) ((run_of workers desk events).link k)
    pub queues : (k : ℕ) → k < cores_of desk → AgreesOneWay (capacity (run_of workers desk events)) ((run_of workers desk events).queue k)
    pub in_turn : (k : ℕ) → k < cores_of desk → IsInTurn (workers.left k) × IsInTurn (workers.right k) × IsInTurn (workers.reports k)
    pub turns : ℕ → Turns P
    pub steps : (k : ℕ) → k < cores_of desk → TakesTurns workers.matches k (cores_of desk) (turns k) (workers.left k) (workers.right k) (workers.reports k)

  -- No last turn of a worker is cut.
  abbrev pub AreUncut : {workers : Workers P} {desk : Desk P} {events : List (Event P)} → DoTheirPart workers desk events → Type 0
  AreUncut {desk = desk} parts = (k : ℕ) → k < cores_of desk → (parts.turns k).cut ≡ None

  -- A desk is done: the feed has stopped, the driver took both closes, and each core reported its end; and memory didn't run out.
  pub record IsDone (desk : Desk P) : Type 0 where
    pub stopped : is_stop desk.next ≡ true
    pub finished : is_finished desk.driver.closes ≡ true
    pub ended : has_ended desk.collector ≡ true
    pub going : desk.over ≡ false
