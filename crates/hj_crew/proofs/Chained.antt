-- A desk and the ends of cores that take turns, closed: they show a run.
use Rattle.std.proofs.Common.{◌≡◌, ℕ, zero, suc, ◌+◌, ◌*◌, ◌<◌, ◌≤◌, inl, inr, Bool, false, cond, List, [], ◌∷◌, ◌++◌, length, map, get_or, All, Contains, None, refl, ap, ap₂, sym, ◌∙◌, subst, arith, length-append}
use Rattle.std.proofs.lemmas.Bool.Decides.{eqb_tells}
use Rattle.std.proofs.lemmas.List.Elements.{Contains-append_left}
use Rattle.hj_base.specs.Journals.{Entry, puts, takes}
use Rattle.hj_base.specs.Link.{Agrees, AgreesOneWay, Link, OneWay}
use Rattle.hj_msg.specs.declared.drain.Drained.{Drained}
use Rattle.hj_msg.specs.declared.drain.Drained.TheVariants.{Kept}
use Rattle.hj_msg.specs.declared.event.Event.{Event}
use Rattle.hj_msg.specs.declared.feed.Given.{Given}
use Rattle.hj_msg.specs.declared.fin.Fin.{Fin}
use Rattle.hj_msg.specs.declared.fin.Fin.TheVariants as fin
use Rattle.hj_msg.specs.declared.message.Msg.{Msg}
use Rattle.hj_msg.specs.declared.message.Report.{Report}
use Rattle.hj_msg.specs.declared.message.Report.TheVariants.{Ended}
use Rattle.hj_msg.specs.Feed.{FeedState, GoesOverAnswers, events_in}
use Rattle.hj_msg.specs.Met.{AreAllReportsOf}
use Rattle.hj_msg.specs.Run.{IsComplete, IsRun, LogEntry, Run}
use Rattle.hj_msg.specs.Turns.{Turns, TakesTurns}
use Rattle.hj_collect.specs.Collector.{CollectorState}
use Rattle.hj_collect.specs.StandsFor as collect
use Rattle.hj_link.specs.Seen.{EndSeen, LinkSeen, WaySeen, closed, closed_way, link_of, one_way_of}
use Rattle.hj_raw.specs.Items.{TakenReport, lists_of}
use Rattle.hj_desk.specs.declared.desk.Desk.{Desk}
use Rattle.hj_desk.specs.Caller.{last_answer}
use Rattle.hj_desk.specs.Desk.{DeskHistory, StandsFor}
use Rattle.hj_crew.specs.Ends.{FormChain}
use Rattle.hj_crew.specs.Links.{closed_links, closed_queues}
use Rattle.hj_crew.specs.Ran.{RanSeen, link_at, queue_at}
use Rattle.hj_crew.specs.Ran as ran
use Rattle.hj_crew.specs.RunsCrew.{RunsCrew}
use Rattle.hj_desk.specs.Runs.{AreUncut, DoTheirPart, IsDone, Workers, cores_of, left_end, right_end, taken_of}
use Rattle.hj_desk.specs.Runs as runs
use Rattle.hj_desk.specs.Taken.{AreTaken}
use Rattle.hj_crew.proofs.ClosedLinks.{before-last, chosen, end_journal, is_chosen, last-at, length-closed, length-linked, link-agrees, link-closed, queue-agrees, queue-closed, receivers-closed}
use Rattle.hj_desk.proofs.InTurn.{journals-in_turn}
use Rattle.hj_desk.proofs.Runs.{all_reports, is_run}
use Rattle.hj_desk.proofs.Whole.{complete, ended}

-- The ends of a core are those of its turns, the last of which isn't cut where its end was reported.
pub record TurnsOf {P : Type 0} (matches : P → P → Bool) (place n : ℕ) (left right : List (Entry (Msg P))) (reports : List (Entry (Report P))) (turns : Turns P) : Type 0 where
  pub takes : TakesTurns matches place n turns left right reports
  pub uncut : Contains (puts reports) Ended → turns.cut ≡ None

module _ {P : Type 0} (matches : P → P → Bool) (desk : Desk P) (lefts rights : List (EndSeen (Msg P))) (senders : List (EndSeen (Report P))) (chain : FormChain desk lefts rights senders) where
  -- what is seen of the cores
  abbrev pub workers_of : Workers P
  workers_of = record {
    matches = matches;
    left = λ k. get_or (map end_journal lefts) k [];
    right = λ k. get_or (map end_journal rights) k [];
    reports = λ k. get_or (map end_journal senders) k [];
  }

  -- the ends of all links, and the links
  abbrev left_ends : List (EndSeen (Msg P))
  left_ends = desk.ports.left ∷ rights

  abbrev right_ends : List (EndSeen (Msg P))
  right_ends = lefts ++ desk.ports.right ∷ []

  abbrev links : List (LinkSeen (Msg P))
  links = closed_links left_ends right_ends

  abbrev queues : List (WaySeen (Report P))
  queues = closed_queues senders desk.reports.items

  left-at : (k : ℕ) → left_end workers_of desk k ≡ get_or (map end_journal left_ends) k []
  left-at zero = refl
  left-at (suc k) = refl

  right-at : (k : ℕ) → right_end workers_of desk k ≡ get_or (map end_journal right_ends) k []
  right-at k = elim (eqb_tells k (cores_of desk)) [
    | inl w ↦
        ap (λ b. cond b desk.ports.right.journal (get_or (map end_journal lefts) k [])) w.0
        ∙ sym (ap (λ j. get_or (map end_journal right_ends) j []) (w.1 ∙ sym chain.cores) ∙ last-at lefts desk.ports.right)
    | inr w ↦
        ap (λ b. cond b desk.ports.right.journal (get_or (map end_journal lefts) k [])) w.0
        ∙ sym (before-last lefts desk.ports.right k (λ same. w.1 (same ∙ chain.cores)))
  ]

  link-at : (k : ℕ) → link_of (left_end workers_of desk k) (right_end workers_of desk k) ≡ link_at links k
  link-at k = ap₂ link_of (left-at k) (right-at k) ∙ sym (link-closed left_ends right_ends chain.links k)

  queue-at : (k : ℕ) → one_way_of (get_or (map end_journal senders) k []) (taken_of desk k) ≡ queue_at queues k
  queue-at k = sym (queue-closed senders desk.reports.items chain.queues k)

  pub many_links : length links ≡ cores_of desk + 1
  many_links = length-closed closed left_ends right_ends chain.links ∙ omega (arith, length-linked left_ends right_ends chain.links, length-append lefts (desk.ports.right ∷ []), chain.cores)

  pub many_queues : length queues ≡ cores_of desk
  many_queues = length-closed closed_way senders desk.reports.items chain.queues ∙ sym (length-linked senders desk.reports.items chain.queues)

  -- the same run, of the desk and the cores and of what was closed
  same_run : (events : List (Event P)) (ended : Fin) → runs.run_of workers_of desk events ≡ ran.run_of matches events (record { links = links; queues = queues; flight = desk.driver.flight; ended = ended })
  same_run events ended =
      λ i. record {
        matches = matches;
        cores = sym many_queues i;
        flight = desk.driver.flight;
        events = events;
        link = λ k. link-at k i;
        queue = λ k. queue-at k i;
      }

  module _ (feed : FeedState) (history : DeskHistory P) (stood : StandsFor desk feed history) (some : 1 ≤ cores_of desk) (links_agree : All (λ link. Agrees link.capacity link.link) links)
      (queues_agree : All (λ queue. AgreesOneWay queue.capacity queue.way) queues)
      (each : (k : ℕ) → k < cores_of desk → (turns : Turns P) × TurnsOf matches k (cores_of desk) (get_or (map end_journal lefts) k []) (get_or (map end_journal rights) k []) (get_or (map end_journal senders) k []) turns) where
    abbrev room : ℕ
    room = 2 * desk.driver.flight + 2

    abbrev Made : ℕ → Turns P → Type 0
    Made k turns = TurnsOf matches k (cores_of desk) (get_or (map end_journal lefts) k []) (get_or (map end_journal rights) k []) (get_or (map end_journal senders) k []) turns

    turns_at : ℕ → Turns P
    turns_at = chosen (cores_of desk) Made (record { whole = []; cut = None }) each

    made : (k : ℕ) → k < cores_of desk → Made k (turns_at k)
    unfolding turns_at
    made = is_chosen (cores_of desk) Made (record { whole = []; cut = None }) each

    parts : DoTheirPart workers_of desk history.events
    parts = record {
      some_core = some;
      links = λ k within.
          subst (λ (l : Link (Msg P)). Agrees room l) (sym (link-at k)) (link-agrees room left_ends right_ends chain.link_capacity links_agree k (omega (arith, within, many_links)));
      queues = λ k low.
          subst (λ (w : OneWay (Report P)). AgreesOneWay room w) (sym (queue-at k)) (queue-agrees room senders desk.reports.items chain.queue_capacity queues_agree k (omega (arith, low, many_queues)));
      in_turn = λ k low.
          journals-in_turn matches k (cores_of desk) (turns_at k) (get_or (map end_journal lefts) k []) (get_or (map end_journal rights) k []) (get_or (map end_journal senders) k []) (made k low).takes;
      turns = turns_at;
      steps = λ k low. (made k low).takes;
    }

    uncut : IsDone desk → AreUncut parts
    unfolding parts
    uncut done k low =
        let flows = (parts.queues k low).flows.taken in
        (made k low).uncut (subst (λ (l : List (Report P)). Contains l Ended) (sym flows.is) (Contains-append_left (takes (taken_of desk k)) flows.rest Ended (ended desk feed history stood done k low)))

    -- The run that is shown, of which the desk took its reports; it is complete where the desk is done.
    shown : (ended_so : Fin) → (is : IsRun (ran.run_of matches history.events (record { links = links; queues = queues; flight = desk.driver.flight; ended = ended_so }))) × (IsDone desk → IsComplete is)
    shown ended_so =
        let of_desk : (is : IsRun (runs.run_of workers_of desk history.events)) × (IsDone desk → IsComplete is) = (
          is_run workers_of desk feed history stood parts,
          λ done. complete workers_of desk feed history stood parts (uncut done) done,
        ) in
        subst (λ (run : Run P). (is : IsRun run) × (IsDone desk → IsComplete is)) (same_run history.events ended_so) of_desk

    -- the reports that were taken, in that run
    reports-shown : (ended_so : Fin) → AreAllReportsOf (ran.run_of matches history.events (record { links = links; queues = queues; flight = desk.driver.flight; ended = ended_so })) (lists_of (cores_of desk) history.taken)
    reports-shown ended_so =
        subst (λ (run : Run P). AreAllReportsOf run (lists_of (cores_of desk) history.taken)) (same_run history.events ended_so)
        (subst (λ (lists : List (List (Report P))). AreAllReportsOf (runs.run_of workers_of desk history.events) lists) stood.gathered.lists (all_reports workers_of desk feed history stood parts))

    lists-shown : map (λ queue. takes queue.way.receiver) queues ≡ lists_of (cores_of desk) history.taken
    lists-shown = receivers-closed takes senders desk.reports.items chain.queues ∙ stood.gathered.lists

    taken-shown : AreTaken (map (λ queue. queue.way.receiver) queues) history.taken
    taken-shown = subst (λ (journals : List (List (Entry (Report P)))). AreTaken journals history.taken) (sym (receivers-closed (λ journal. journal) senders desk.reports.items chain.queues)) stood.gathered.are

-- Where a desk stands for what a feed answered and the reports that it took, what its outlet gave of them is known, and what it and the
-- cores had is closed, that is what a crew did.
module _ {P F O : Type 0} (gives : F → Given P → F → Type 0) (state : F → FeedState) (gave : O → ℕ → List (TakenReport P) → Bool → Drained → O → Type 0) (rests : O → CollectorState → Type 0) (matches : P → P → Bool) (desk : Desk P)
    (lefts rights : List (EndSeen (Msg P))) (senders : List (EndSeen (Report P))) (chain : FormChain desk lefts rights senders) (from to : F) (begun now : O) (answers : List (Given P))
    (feed : GoesOverAnswers gives from answers to) (log : List (LogEntry P)) (taken : List (TakenReport P)) (stood : StandsFor desk (state to) (record { log = log; events = events_in answers; taken = taken }))
    (some : 1 ≤ cores_of desk) (ended_so : Fin) (given : gave begun (cores_of desk) [] false Kept begun → gave begun (cores_of desk) taken desk.over (last_answer ended_so) now)
    (so : ended_so ≡ fin.Done → IsDone desk × rests now desk.collector)
    (links_agree : All (λ link. Agrees link.capacity link.link) (closed_links (desk.ports.left ∷ rights) (lefts ++ desk.ports.right ∷ [])))
    (queues_agree : All (λ queue. AgreesOneWay queue.capacity queue.way) (closed_queues senders desk.reports.items))
    (each : (k : ℕ) → k < cores_of desk → (turns : Turns P) × TurnsOf matches k (cores_of desk) (get_or (map end_journal lefts) k []) (get_or (map end_journal rights) k []) (get_or (map end_journal senders) k []) turns) where
  abbrev happened : DeskHistory P
  happened = record { log = log; events = events_in answers; taken = taken }

  abbrev closed_ran : RanSeen P
  closed_ran = record { links = closed_links (desk.ports.left ∷ rights) (lefts ++ desk.ports.right ∷ []); queues = closed_queues senders desk.reports.items; flight = desk.driver.flight; ended = ended_so }

  pub runs-crew : RunsCrew gives state gave rests matches (cores_of desk) desk.driver.flight from to begun now closed_ran
  runs-crew =
      let run = shown matches desk lefts rights senders chain (state to) happened stood some links_agree queues_agree each ended_so in
      record {
        answers = answers;
        feed = feed;
        made = record {
          links = many_links matches desk lefts rights senders chain;
          queues = many_queues matches desk lefts rights senders chain;
          flight = refl;
          run = run.0;
          complete = λ done. run.1 (so done).0;
        };
        taken = taken;
        are = taken-shown matches desk lefts rights senders chain (state to) happened stood some links_agree queues_agree each;
        lists = lists-shown matches desk lefts rights senders chain (state to) happened stood some links_agree queues_agree each;
        reports = reports-shown matches desk lefts rights senders chain (state to) happened stood some links_agree queues_agree each ended_so;
        over = desk.over;
        given = given;
        done = λ done. record {
          stopped = stood.fed.stopped (so done).0.stopped;
          going = (so done).0.going;
          collector = desk.collector;
          follows = subst (collect.StandsFor desk.collector) stood.gathered.lists stood.gathered.follows;
          ended = (so done).0.ended;
          rests = (so done).1;
        };
      }
