-- What a crew did that ran, and was closed.
use Rattle.std.proofs.Common.{◌≡◌, ℕ, zero, suc, ◌+◌, ◌<◌, ◌≤◌, Bool, false, List, [], ◌∷◌, ◌++◌, length, map, get_or, All, sym, ◌∙◌, subst, arith}
use Rattle.std.specs.List.{AllZip}
use Rattle.std.proofs.lemmas.List.{length-map}
use Rattle.hj_base.specs.Link.{Agrees, AgreesOneWay}
use Rattle.hj_msg.specs.declared.drain.Drained.{Drained}
use Rattle.hj_msg.specs.declared.drain.Drained.TheVariants.{Kept}
use Rattle.hj_msg.specs.declared.feed.Given.{Given}
use Rattle.hj_msg.specs.declared.fin.Fin.{Fin}
use Rattle.hj_msg.specs.declared.fin.Fin.TheVariants as fin
use Rattle.hj_msg.specs.declared.message.Msg.{Msg}
use Rattle.hj_msg.specs.declared.message.Report.{Report}
use Rattle.hj_msg.specs.Feed.{FeedState, IsFresh}
use Rattle.hj_msg.specs.Turns.{Turns, TakesTurns}
use Rattle.hj_collect.specs.Collector.{CollectorState}
use Rattle.hj_link.specs.Seen.{LinkSeen, WaySeen}
use Rattle.hj_raw.specs.Items.{TakenReport}
use Rattle.hj_worker.specs.Seen.{WorkerSeen}
use Rattle.hj_desk.specs.declared.caller.Caller.{Caller}
use Rattle.hj_desk.specs.declared.caller.Round.TheVariants.{Over}
use Rattle.hj_desk.specs.declared.desk.Desk.{Desk}
use Rattle.hj_crew.specs.declared.making.Crew.{Crew}
use Rattle.hj_crew.specs.declared.plan.CrewSize.{CrewSize}
use Rattle.hj_crew.specs.declared.team.Team.{Team}
use Rattle.hj_desk.specs.Caller.{Ends, EndsRound, last_answer}
use Rattle.hj_crew.specs.Begun.{CanStart, IsManned}
use Rattle.hj_crew.specs.Cores.{AreClosed, AreCores, AreCrew, TakesItsTurns, left_of, reports_of, right_of}
use Rattle.hj_desk.specs.Desk.{StandsFor, nothing_happened}
use Rattle.hj_crew.specs.Links.{closed_links, closed_queues}
use Rattle.hj_crew.specs.Ran.{RanSeen}
use Rattle.hj_crew.specs.RunsCrew.{RunsCrew}
use Rattle.hj_desk.specs.Runs.{IsDone, cores_of}
use Rattle.hj_crew.specs.Teams.{TeamStays}
use Rattle.hj_crew.proofs.Chained.{TurnsOf, runs-crew}
use Rattle.hj_crew.proofs.ClosedLinks.{end_journal}
use Rattle.hj_crew.proofs.Keeping.{stays-crew}

module _ {P J : Type 0} (predicate : J → P → P → Bool) (join : J) (n : ℕ) where
  -- the turns of the core at a place
  abbrev TurnsAt : ℕ → List (WorkerSeen P J) → ℕ → Type 0
  TurnsAt place workers k =
      (turns : Turns P) × TurnsOf (predicate join) place n (get_or (map end_journal (left_of workers)) k []) (get_or (map end_journal (right_of workers)) k []) (get_or (map end_journal (reports_of workers)) k []) turns

  first-turns : (place : ℕ) (worker : WorkerSeen P J) (others : List (WorkerSeen P J)) → worker.join ≡ join → worker.place ≡ place → worker.cores ≡ n → TakesItsTurns predicate worker → TurnsAt place (worker ∷ others) zero
  first-turns place worker others joined at of turns = (
    turns.0,
    record {
      takes =
          subst (λ (j : J). TakesTurns (predicate j) place n turns.0 worker.ends.left.journal worker.ends.right.journal worker.ends.reports.journal) joined
          (subst (λ (k : ℕ). TakesTurns (predicate worker.join) k n turns.0 worker.ends.left.journal worker.ends.right.journal worker.ends.reports.journal) at
          (subst (λ (k : ℕ). TakesTurns (predicate worker.join) worker.place k turns.0 worker.ends.left.journal worker.ends.right.journal worker.ends.reports.journal) of turns.1));
      uncut = turns.2;
    },
  )

  pub turns-at : (place : ℕ) (workers : List (WorkerSeen P J)) → AreCores join n place workers → All (TakesItsTurns predicate) workers → (k : ℕ) → k < length workers → TurnsAt (place + k) workers k
  turns-at place [] cores turns k low = absurd (omega (arith, low))
  turns-at place (worker ∷ others) cores turns zero low =
      let is : place ≡ place + zero = omega arith in
      subst (λ (at : ℕ). TurnsAt at (worker ∷ others) zero) is (first-turns place worker others cores.0 cores.1 cores.2 (turns zero worker (omega arith)))
  turns-at place (worker ∷ others) cores turns (suc k) low =
      let is : place + 1 + k ≡ place + suc k = omega arith in
      subst (λ (at : ℕ). TurnsAt at (worker ∷ others) (suc k)) is
      (turns-at (place + 1) others cores.3 (λ j d less. turns (suc j) d (omega (arith, less))) k (omega (arith, low)))

-- there are as many queues of reports as cores
pub as-many_cores : {P J S : Type 0} (join : J) (n in_flight : ℕ) (desk : Desk P) (teams : List (Team P J S)) → AreCrew join n in_flight desk teams → cores_of desk ≡ n
as-many_cores {P} {J} join n in_flight desk teams crew = sym crew.chain.cores ∙ length-map crew.workers (λ (w : WorkerSeen P J). w.ends.left) ∙ crew.many

-- A crew that nothing happened to may start its threads, between a fresh feed and an outlet.
pub can-start : {P J S F O : Type 0} (state : F → FeedState) (join : J) (size : CrewSize) (crew : Crew P J S) (feed : F) (outlet : O) → IsManned join size crew → IsFresh (state feed)
    → CanStart state (length crew.signals.items) (record { caller = record { desk = crew.desk; feed = feed; outlet = outlet; awaited = 0 }; teams = crew.teams; own = crew.own; done = crew.done })
can-start state join size crew feed outlet manned fresh = record {
  can = record {
    stands = (nothing_happened, manned.stands (state feed) fresh);
    cores = omega (arith, as-many_cores join size.chain.cores size.chain.flight crew.desk crew.teams.items manned.chain, size.chain.few_cores);
    enough = omega (arith, manned.signals);
    few = omega (arith, manned.signals, manned.teams, size.chain.few_cores);
    own = manned.own.room;
    done = manned.done.room;
  };
  no_own = manned.own.empty;
  none_done = manned.done.empty;
}

module _ {P J S F O : Type 0} (gives : F → Given P → F → Type 0) (state : F → FeedState) (gave : O → ℕ → List (TakenReport P) → Bool → Drained → O → Type 0) (rests : O → CollectorState → Type 0) (join : J) (n in_flight : ℕ) (old new : Caller P F O) (ended : Fin)
    (ends : Ends gives state gave rests ended old new) (teams back : List (Team P J S)) (crew : AreCrew join n in_flight old.desk teams) (same : AllZip TeamStays teams back) where
  pub crew-back : AreCrew join n in_flight new.desk back
  crew-back = stays-crew join n in_flight old.desk new.desk teams back crew ends.goes.links ends.goes.queues ends.goes.flight same

  -- where it was closed
  module _ (predicate : J → P → P → Bool) (ran : RanSeen P) (stood : StandsFor old.desk (state old.feed) nothing_happened) (going : old.desk.over ≡ false) (some_core : 1 ≤ n) (closed : AreClosed predicate new.desk crew-back.workers ran)
      (flight : ran.flight ≡ in_flight) (ended_so : ran.ended ≡ ended) where
    abbrev workers : List (WorkerSeen P J)
    workers = crew-back.workers

    many : cores_of new.desk ≡ n
    many = as-many_cores join n in_flight new.desk back crew-back

    each : (k : ℕ) → k < cores_of new.desk → TurnsAt predicate join (cores_of new.desk) k workers k
    each k low =
        let from_first : 0 + k ≡ k = omega arith in
        let turns = turns-at predicate join n 0 workers crew-back.cores closed.turns k (omega (arith, low, many, crew-back.many)) in
        subst (λ (m : ℕ). TurnsAt predicate join m k workers k) (sym many) (subst (λ (at : ℕ). TurnsAt predicate join n at workers k) from_first turns)

    -- what is seen of the links and queues of this desk and these workers
    abbrev of_crew : RanSeen P
    of_crew = record {
      links = closed_links (new.desk.ports.left ∷ right_of workers) (left_of workers ++ new.desk.ports.right ∷ []);
      queues = closed_queues (reports_of workers) new.desk.reports.items;
      flight = new.desk.driver.flight;
      ended = ended;
    }

    -- how the outlet gave
    given : gave old.outlet (cores_of new.desk) [] false Kept old.outlet → gave old.outlet (cores_of new.desk) ends.goes.taken new.desk.over (last_answer ended) new.outlet
    given unused =
        ends.goes.outlet old.outlet nothing_happened stood
        (subst (λ (b : Bool). gave old.outlet (cores_of old.desk) [] b Kept old.outlet) (sym going)
        (subst (λ (m : ℕ). gave old.outlet m [] false Kept old.outlet) (many ∙ sym (as-many_cores join n in_flight old.desk teams crew)) unused))

    all-done : (e : Fin) → EndsRound gives state gave rests (Over e) new → e ≡ fin.Done → IsDone new.desk × rests new.outlet new.desk.collector
    all-done fin.Done so is = so
    all-done fin.Refused so is = absurd (cc)
    all-done fin.Memory so is = absurd (cc)

    of_desk : RunsCrew gives state gave rests (predicate join) (cores_of new.desk) new.desk.driver.flight old.feed new.feed old.outlet new.outlet of_crew
    of_desk =
        runs-crew gives state gave rests (predicate join) new.desk (left_of workers) (right_of workers) (reports_of workers) crew-back.chain old.feed new.feed old.outlet new.outlet ends.answers ends.goes.feed
        ends.goes.log ends.goes.taken (ends.goes.stands nothing_happened stood) (omega (arith, some_core, many)) ended given (all-done ended ends.ended)
        (subst (λ (links : List (LinkSeen (Msg P))). All (λ link. Agrees link.capacity link.link) links) closed.links closed.links_agree)
        (subst (λ (queues : List (WaySeen (Report P))). All (λ queue. AgreesOneWay queue.capacity queue.way) queues) closed.queues closed.queues_agree) each

    shown : of_crew ≡ ran
    shown = λ i. record { links = sym closed.links i; queues = sym closed.queues i; flight = (crew-back.flight ∙ sym flight) i; ended = sym ended_so i }

    pub shows-run : RunsCrew gives state gave rests (predicate join) n in_flight old.feed new.feed old.outlet new.outlet ran
    shows-run =
        subst (λ (seen : RanSeen P). RunsCrew gives state gave rests (predicate join) n in_flight old.feed new.feed old.outlet new.outlet seen) shown
        (subst (λ (f : ℕ). RunsCrew gives state gave rests (predicate join) n f old.feed new.feed old.outlet new.outlet of_crew) crew-back.flight
        (subst (λ (m : ℕ). RunsCrew gives state gave rests (predicate join) m new.desk.driver.flight old.feed new.feed old.outlet new.outlet of_crew) many of_desk))
