-- The workers of the cores of a chain.
use Rattle.std.specs.Prelude.{◌≡◌, ℕ, ◌+◌, ◌*◌, ◌/◌, ◌≤◌, Bool, List, [], ◌∷◌, ◌++◌, All, Contains, length, map, None}
use Rattle.hj_base.specs.Journals.{puts}
use Rattle.hj_base.specs.Link.{Agrees, AgreesOneWay}
use Rattle.hj_msg.specs.declared.message.Msg.{Msg}
use Rattle.hj_msg.specs.declared.message.Report.{Report}
use Rattle.hj_msg.specs.declared.message.Report.TheVariants.{Ended}
use Rattle.hj_msg.specs.Turns.{Turns, TakesTurns}
use Rattle.hj_link.specs.Seen.{EndSeen}
use Rattle.hj_worker.specs.Seen.{WorkerSeen}
use Rattle.hj_crew.specs.declared.ends.ChainEnds.{ChainEnds}
use Rattle.hj_crew.specs.declared.team.Team.{Team}
use Rattle.hj_desk.specs.declared.desk.Desk.{Desk}
use Rattle.hj_crew.specs.Deal.{AreEmpty, gathered}
use Rattle.hj_crew.specs.Ends.{FormChain}
use Rattle.hj_crew.specs.Links.{closed_links, closed_queues}
use Rattle.hj_crew.specs.Ran.{RanSeen}
use Rattle.hj_crew.specs.Teams.{workers_in}

module _ {P J : Type 0} where
  -- their ends, in order
  abbrev pub left_of : List (WorkerSeen P J) → List (EndSeen (Msg P))
  left_of workers = map (λ worker. worker.ends.left) workers

  abbrev pub right_of : List (WorkerSeen P J) → List (EndSeen (Msg P))
  right_of workers = map (λ worker. worker.ends.right) workers

  abbrev pub reports_of : List (WorkerSeen P J) → List (EndSeen (Report P))
  reports_of workers = map (λ worker. worker.ends.reports) workers

  -- They are those of the cores from a place on, each of n cores and with this join.
  abbrev pub AreCores : J → ℕ → ℕ → List (WorkerSeen P J) → Type 0
  AreCores join n place [] = Unit {0}
  AreCores join n place (worker ∷ others) = (worker.join ≡ join) × (worker.place ≡ place) × (worker.cores ≡ n) × AreCores join n (place + 1) others

  -- They were given the last ones of the ends: to their right the left ends of links, and to their left the right ones. Where they hand
  -- theirs in, it is the other way round.
  pub record GivesEnds (workers : List (WorkerSeen P J)) (old new : ChainEnds P) : Type 0 where
    pub left : old.left.items ≡ new.left.items ++ right_of workers
    pub right : old.right.items ≡ new.right.items ++ left_of workers
    pub senders : old.senders.items ≡ new.senders.items ++ reports_of workers
    pub receivers : new.receivers ≡ old.receivers

-- Nothing was put or taken at these ends.
pub record AreUnused {P : Type 0} (ends : ChainEnds P) : Type 0 where
  pub left : All (λ end. end.journal ≡ []) ends.left.items
  pub right : All (λ end. end.journal ≡ []) ends.right.items
  pub senders : All (λ sender. sender.journal ≡ []) ends.senders.items

-- These are the ends for so many cores, and one left end more.
pub record AreEndsFor {P : Type 0} (cores : ℕ) (ends : ChainEnds P) : Type 0 where
  pub left : length ends.left.items ≡ cores + 1
  pub right : length ends.right.items ≡ cores
  pub senders : length ends.senders.items ≡ cores

-- These are the ends that the cores left for the desk, one left end and the receivers, and the last right end. Nothing was put or taken
-- at them.
pub record AreForDesk {P : Type 0} (ends : ChainEnds P) (last : EndSeen (Msg P)) : Type 0 where
  pub first : length ends.left.items ≡ 1
  pub left_unused : All (λ end. end.journal ≡ []) ends.left.items
  pub last_unused : last.journal ≡ []
  pub few : length ends.receivers.items ≤ 64
  pub receivers_unused : All (λ receiver. receiver.journal ≡ []) ends.receivers.items

-- The workers of the cores from a place on are made, and dealt to teams. Those of the cores before it go to the teams up to one, before
-- which no team has a worker.
pub record MakesTeams {P J S : Type 0} (join : J) (n place : ℕ) (old new : ChainEnds P) (teams : List (Team P J S)) : Type 0 where
  pub workers : List (WorkerSeen P J)
  pub many : place + length workers ≡ n
  pub cores : AreCores join n place workers
  pub ends : GivesEnds workers old new
  pub dealt_out : gathered (workers_in teams) ≡ workers
  pub empty : AreEmpty (place * length teams / n) (workers_in teams)

-- A desk and the workers of these teams are the crew of a chain: each core of n has its worker, which has this join, and what
-- they have are the ends of the chain, on which so many events may be outstanding.
pub record AreCrew {P J S : Type 0} (join : J) (n in_flight : ℕ) (desk : Desk P) (teams : List (Team P J S)) : Type 0 where
  pub workers : List (WorkerSeen P J)
  pub many : length workers ≡ n
  pub cores : AreCores join n 0 workers
  pub dealt_out : gathered (workers_in teams) ≡ workers
  pub chain : FormChain desk (left_of workers) (right_of workers) (reports_of workers)
  pub flight : desk.driver.flight ≡ in_flight

-- The ends of a worker show turns of its core, the last of which isn't cut where the core's end was reported.
abbrev pub TakesItsTurns : {P J : Type 0} → (J → P → P → Bool) → WorkerSeen P J → Type 0
TakesItsTurns {P} predicate worker =
    (turns : Turns P)
    × TakesTurns (predicate worker.join) worker.place worker.cores turns worker.ends.left.journal worker.ends.right.journal worker.ends.reports.journal
    × (Contains (puts worker.ends.reports.journal) Ended → turns.cut ≡ None)

-- What a desk and workers had is closed.
pub record AreClosed {P J : Type 0} (predicate : J → P → P → Bool) (desk : Desk P) (workers : List (WorkerSeen P J)) (ran : RanSeen P) : Type 0 where
  pub links : ran.links ≡ closed_links (desk.ports.left ∷ right_of workers) (left_of workers ++ desk.ports.right ∷ [])
  pub queues : ran.queues ≡ closed_queues (reports_of workers) desk.reports.items
  pub links_agree : All (λ link. Agrees link.capacity link.link) ran.links
  pub queues_agree : All (λ queue. AgreesOneWay queue.capacity queue.way) ran.queues
  pub turns : All (TakesItsTurns predicate) workers
