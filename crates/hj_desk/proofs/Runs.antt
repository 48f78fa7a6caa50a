-- A desk and the workers make a run, in which the pairs given begin the sequential join.
use Rattle.std.proofs.Common.{◌≡◌, ℕ, zero, suc, ◌+◌, ◌<◌, ◌≤◌, inl, inr, Bool, true, cond, List, [], ◌∷◌, ◌++◌, length, map, get_or, Contains, All, Some, None, Option, refl, ap, sym, ◌∙◌, subst, arith, append-nil, add-one, true≢false}
use Rattle.std.specs.List.{list_any}
use Rattle.std.specs.List.Sorted.{IsStrictlyIncreasing}
use Rattle.std.proofs.Math.ListN as listn
use Rattle.std.proofs.lemmas.Bool.Decides.{eqb_tells}
use Rattle.std.proofs.lemmas.List.{length-map}
use Rattle.std.proofs.lemmas.List.Elements.{All-map, Contains-append_right}
use Rattle.hj_base.specs.declared.numbers.Side.{Side}
use Rattle.hj_base.specs.declared.numbers.Side.TheVariants.{Left, Right}
use Rattle.hj_base.specs.Journals.{Entry, IsInTurn, IsPrefix, put, taken, takes, puts}
use Rattle.hj_msg.specs.declared.event.Event.{Event}
use Rattle.hj_msg.specs.declared.event.Pair.{Pair}
use Rattle.hj_msg.specs.declared.feed.Given.{Given}
use Rattle.hj_msg.specs.declared.feed.Given.TheVariants as given
use Rattle.hj_msg.specs.declared.message.Msg.{Msg}
use Rattle.hj_msg.specs.declared.message.Report.{Report}
use Rattle.hj_msg.specs.Driver.{DriverTurn, admission, receipt, closing, admitted, message_of, port_of, IsLawful}
use Rattle.hj_msg.specs.Feed.{FeedState, event_in, is_stop}
use Rattle.hj_msg.specs.Kang.{kang}
use Rattle.hj_msg.specs.Met.{AreAllReportsOf}
use Rattle.hj_msg.specs.Emission.{emitted}
use Rattle.hj_msg.specs.Run.{Run, IsRun, LogEntry, at_port, port_journal}
use Rattle.hj_msg.specs.Turns.{TakesTurns}
use Rattle.hj_msg.proofs.Emitting.{emits_prefix}
use Rattle.hj_msg.proofs.Members.{Contains-head, any_of}
use Rattle.hj_driver.specs.StandsFor.{is_closing}
use Rattle.hj_link.specs.Seen.{EndSeen}
use Rattle.hj_desk.specs.declared.desk.Desk.{Desk}
use Rattle.hj_desk.specs.Desk.{DeskHistory, IsBefore, IsFed, StandsFor, collected, numbers_of, turns_of}
use Rattle.hj_desk.specs.Releases.{Releases}
use Rattle.hj_desk.specs.Runs.{Workers, DoTheirPart, cores_of, left_end, right_end, run_of, taken_of}
use Rattle.hj_desk.proofs.Collecting.{prefix-trans}
use Rattle.hj_desk.proofs.InTurn.{AreOfTurn, only-of_turn, steps-in_turn}

-- ---- the log is lawful over the events that the feed gave

module _ {P : Type 0} where
  no_event : (next : Option (Given P)) → is_stop next ≡ true → event_in next ≡ []
  no_event None is = refl
  no_event (Some (given.Event event)) is = absurd (true≢false (sym is))
  no_event (Some given.Stop) is = refl

  pub all_put : (next : Option (Given P)) (feed : FeedState) (turns : List (DriverTurn P)) (events : List (Event P)) → IsFed next feed turns events → is_stop next ≡ true → admitted turns ≡ events
  all_put next feed turns events fed stop = sym (fed.are ∙ ap (λ es. admitted turns ++ es) (no_event next stop) ∙ append-nil (admitted turns))

  pub lawful-over : (flight : ℕ) (next : Option (Given P)) (feed : FeedState) (turns : List (DriverTurn P)) (events : List (Event P)) → IsLawful flight (admitted turns) turns → IsFed next feed turns events → IsLawful flight events turns
  lawful-over flight next feed turns events lawful fed = record {
    in_order = record { rest = event_in next; is = fed.are };
    in_flight = lawful.in_flight;
    come_out = lawful.come_out;
    closes = λ earlier later is.
        let last = lawful.closes earlier later is in
        let sent : list_any is_closing turns ≡ true = any_of is_closing turns closing (subst (λ ts. Contains ts closing) (sym is) (Contains-append_right earlier (closing ∷ later) closing (Contains-head closing later))) refl in
        record { all = last.all ∙ all_put next feed turns events fed (fed.closed sent); none_outstanding = last.none_outstanding; once = last.once };
  }

-- ---- the turns don't fall in the journals of the driver's ends

module _ {P : Type 0} (side : Side) where
  at_port-of_turn : (number : ℕ) (turn : DriverTurn P) → AreOfTurn number (at_port side number turn)
  at_port-of_turn number (admission event) = only-of_turn (port_of event) side number (put number (message_of event)) refl
  at_port-of_turn number (receipt from message) = only-of_turn from side number (taken number message) refl
  at_port-of_turn number closing = (refl, tt)

  pub port-in_turn : (log : List (LogEntry P)) → IsStrictlyIncreasing (numbers_of log) → IsInTurn (port_journal side log)
  port-in_turn log rising = steps-in_turn (λ entry. entry.number) (λ entry. at_port side entry.number entry.turn) (λ entry. at_port-of_turn entry.number entry.turn) log rising

-- ---- what was taken of the cores' reports

map-twice : {X Y Z : Type 0} (f : X → Y) (g : Y → Z) (xs : List X) → map g (map f xs) ≡ map (λ x. g (f x)) xs
map-twice f g [] = refl
map-twice f g (x ∷ xs) = ap (λ l. g (f x) ∷ l) (map-twice f g xs)

module _ {P : Type 0} (receivers : List (EndSeen (Report P))) (k : ℕ) where
  abbrev journal_in : EndSeen (Report P) → List (Entry (Report P))
  journal_in receiver = receiver.journal

  pub collected-at : get_or (collected receivers) k [] ≡ takes (get_or (map journal_in receivers) k [])
  collected-at =
      ap (λ (l : List (List (Report P))). get_or l k []) (sym (map-twice journal_in takes receivers))
      ∙ listn.get_or-map takes (map journal_in receivers) k []

  pub taken-in_turn : (turn : ℕ) → k < length receivers → All (λ (r : EndSeen (Report P)). IsBefore turn r.journal) receivers → IsInTurn (get_or (map journal_in receivers) k [])
  taken-in_turn turn low all = (All-map (IsBefore turn) journal_in receivers all k [] (omega (arith, low, length-map receivers journal_in))).in_turn

-- ---- the run

module _ {P : Type 0} (workers : Workers P) (desk : Desk P) (feed : FeedState) (history : DeskHistory P) (stood : StandsFor desk feed history) (parts : DoTheirPart workers desk history.events) where
  abbrev run : Run P
  run = run_of workers desk history.events

  pub right_inner : (k : ℕ) → k < cores_of desk → right_end workers desk k ≡ workers.left k
  right_inner k low = elim (eqb_tells k (cores_of desk)) [
    | inl w ↦ absurd (omega (arith, low, w.1))
    | inr w ↦ ap (λ b. cond b desk.ports.right.journal (workers.left k)) w.0
  ]

  pub right_last : right_end workers desk (cores_of desk) ≡ desk.ports.right.journal
  right_last = elim (eqb_tells (cores_of desk) (cores_of desk)) [
    | inl w ↦ ap (λ b. cond b desk.ports.right.journal (workers.left (cores_of desk))) w.0
    | inr w ↦ absurd (w.1 refl)
  ]

  pub left_in_turn : (k : ℕ) → k ≤ cores_of desk → IsInTurn (left_end workers desk k)
  left_in_turn zero within = subst IsInTurn (sym stood.drives.left) (port-in_turn Left history.log stood.drives.rising)
  left_in_turn (suc k) within = (parts.in_turn k (omega (arith, within))).1

  pub right_in_turn : (k : ℕ) → k ≤ cores_of desk → IsInTurn (right_end workers desk k)
  right_in_turn k within = elim (eqb_tells k (cores_of desk)) [
    | inl w ↦ subst IsInTurn (sym (ap (λ b. cond b desk.ports.right.journal (workers.left k)) w.0 ∙ stood.drives.right)) (port-in_turn Right history.log stood.drives.rising)
    | inr w ↦ subst IsInTurn (sym (ap (λ b. cond b desk.ports.right.journal (workers.left k)) w.0)) (parts.in_turn k (omega (arith, within, w.1))).0
  ]

  pub steps : (k : ℕ) → k < cores_of desk → TakesTurns workers.matches k (cores_of desk) (parts.turns k) (right_end workers desk k) (left_end workers desk (k + 1)) (workers.reports k)
  steps k low =
      subst (λ (j : ℕ). TakesTurns workers.matches k (cores_of desk) (parts.turns k) (right_end workers desk k) (left_end workers desk j) (workers.reports k)) (sym (add-one k))
      (subst (λ (journal : List (Entry (Msg P))). TakesTurns workers.matches k (cores_of desk) (parts.turns k) journal (workers.right k) (workers.reports k)) (sym (right_inner k low)) (parts.steps k low))

  unfoldable pub is_run : IsRun run
  is_run = record {
    some_core = parts.some_core;
    well_formed = stood.fed.well_formed;
    links = parts.links;
    links_in_turn = λ k within. (left_in_turn k within, right_in_turn k within);
    queues = parts.queues;
    queues_in_turn = λ k low. ((parts.in_turn k low).2, taken-in_turn desk.reports.items k desk.turns low stood.gathered.in_turn);
    turns = parts.turns;
    steps = steps;
    log = history.log;
    rising = stood.drives.rising;
    left_port = stood.drives.left;
    right_port = right_last ∙ stood.drives.right;
    lawful = lawful-over desk.driver.flight desk.next feed (turns_of history.log) history.events stood.drives.stands.lawful stood.fed;
  }

  pub all_reports : AreAllReportsOf run (collected desk.reports.items)
  all_reports = record {
    of_run = record {
      one_each = length-map desk.reports.items (λ (r : EndSeen (Report P)). takes r.journal);
      prefixes = λ k low. subst (λ (rs : List (Report P)). IsPrefix rs (puts (workers.reports k))) (sym (collected-at desk.reports.items k)) (parts.queues k low).flows.taken;
    };
    all_taken = λ k low. record { rest = []; is = collected-at desk.reports.items k ∙ sym (append-nil (takes (taken_of desk k))) };
  }

  pub begins_join : (over : Bool) (kept given : List (Pair P)) → Releases (collected desk.reports.items) over kept given → IsPrefix given (kang workers.matches history.events)
  begins_join over kept given released =
      prefix-trans given (emitted (collected desk.reports.items)) (kang workers.matches history.events)
      (released.in_order run is_run all_reports.of_run) (emits_prefix run is_run (collected desk.reports.items) all_reports.of_run)
