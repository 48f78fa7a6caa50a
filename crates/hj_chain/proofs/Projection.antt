-- The steps of a chain give a run.
use Rattle.std.proofs.Common.{◌≡◌, ℕ, ◌+◌, ◌*◌, ◌<◌, ◌≤◌, Bool, true, cond, List, [], ◌∷◌, ◌++◌, length, map, None, refl, ap, sym, ◌∙◌, subst, arith, append-nil, add-one, length-append, eq-eqb, Option}
use Rattle.std.specs.List.{flat_map, list_any}
use Rattle.std.specs.List.Sorted.{IsStrictlyIncreasing}
use Rattle.std.proofs.lemmas.Bool.{ne_eqb}
use Rattle.hj_base.specs.declared.numbers.Side.TheVariants.{Right}
use Rattle.hj_base.specs.Journals.{puts, takes}
use Rattle.hj_msg.specs.declared.event.Event.{Event}
use Rattle.hj_msg.specs.Event.{IsWellFormed}
use Rattle.hj_msg.specs.Turns.{Turn, TakesTurns, at_left, at_right, at_reports}
use Rattle.hj_msg.specs.Driver.{DriverTurn, admission, receipt, closing, admitted, IsLawful}
use Rattle.hj_msg.specs.Run.{IsRun, port_journal}
use Rattle.hj_msg.specs.Met.{AreAllReportsOf}
use Rattle.hj_driver.specs.Driver.{is_sent}
use Rattle.hj_driver.specs.StandsFor.{is_closing}
use Rattle.hj_driver.proofs.Logs.{is_sent-closes_of}
use Rattle.hj_chain.specs.declared.actor.Actor.{Actor}
use Rattle.hj_chain.specs.Reports.{queue_at}
use Rattle.hj_chain.specs.Chain.{ChainState}
use Rattle.hj_chain.specs.Reached.{Reached, StepHistory, history_of, left_end, right_end, run_of, collected_of}
use Rattle.hj_msg.specs.Feed.{event_in}
use Rattle.hj_chain.proofs.Shape.{shape, some_core}
use Rattle.hj_chain.proofs.Driving.{Driven, driven, turns_of}
use Rattle.hj_chain.proofs.Carrying.{rights, lefts, carried}
use Rattle.hj_chain.proofs.Numbers.{Numbered, numbered}
use Rattle.hj_chain.proofs.Turning.{turned}
use Rattle.hj_chain.proofs.Room.{has_room}
use Rattle.hj_chain.proofs.Gathered.{one-each, collected-at}
use Rattle.hj_msg.specs.declared.feed.Given.{Given}

has_closing : {P : Type 0} (earlier later : List (DriverTurn P)) → list_any is_closing (earlier ++ closing ∷ later) ≡ true
has_closing [] later = refl
has_closing (admission event ∷ earlier) later = has_closing earlier later
has_closing (receipt port message ∷ earlier) later = has_closing earlier later
has_closing (closing ∷ earlier) later = refl

-- the log is lawful over all events that were taken from the feed
lawful : {P : Type 0} (events : List (Event P)) (chain : ChainState P) (log : List (DriverTurn P)) (most : ℕ) → chain.driver.flight ≡ most → Driven events chain log → IsLawful most events log
lawful {P} events chain log most same d =
    let law : IsLawful most (admitted log) log = subst (λ (f : ℕ). IsLawful f (admitted log) log) same d.stands.lawful in
    record {
      in_order = record { rest = event_in chain.next; is = d.events_are };
      in_flight = law.in_flight;
      come_out = law.come_out;
      closes = λ earlier later is.
          let last = law.closes earlier later is in
          let sent : is_sent chain.driver.closes ≡ true = ap is_sent d.stands.closes ∙ is_sent-closes_of log ∙ ap (list_any is_closing) is ∙ has_closing earlier later in
          record {
            all = last.all ∙ sym (d.events_are ∙ ap (λ (g : Option (Given P)). admitted log ++ event_in g) (d.last sent) ∙ append-nil (admitted log));
            none_outstanding = last.none_outstanding;
            once = last.once;
          };
    }

module _ {P : Type 0} (matches : P → P → Bool) (n most : ℕ) {schedule : List Actor} {events : List (Event P)} {chain : ChainState P} (reached : Reached matches n most schedule events chain) (well : IsWellFormed events) where
  abbrev history : StepHistory P
  history = history_of reached

  room_right : (k : ℕ) → k ≤ n → length (puts (left_end history k)) ≤ length (takes (right_end n history k)) + (2 * most + 2)
  room_right k within =
      omega (
        arith,
        (has_room matches n most reached well).rightwards k (omega (arith, within, (shape reached).cores)),
        (shape reached).flight,
        ap length (carried matches n most reached k within).rightwards,
        length-append (takes (right_end n history k)) (rights chain k),
      )

  room_left : (k : ℕ) → k ≤ n → length (puts (right_end n history k)) ≤ length (takes (left_end history k)) + (2 * most + 2)
  room_left k within =
      omega (
        arith,
        (has_room matches n most reached well).leftwards k (omega (arith, within, (shape reached).cores)),
        (shape reached).flight,
        ap length (carried matches n most reached k within).leftwards,
        length-append (takes (left_end history k)) (lefts chain k),
      )

  -- the turns of a core, none of which was cut
  at_core : (k : ℕ) → k < n → right_end n history k ≡ flat_map at_left (history.turns k)
  at_core k low = ap (λ b. cond b (port_journal Right history.log) (flat_map at_left (history.turns k))) (ne_eqb k n (λ same. omega (arith, low, same)))

  takes_turns : (k : ℕ) → k < n → TakesTurns matches k n (record { whole = history.turns k; cut = None }) (right_end n history k) (left_end history (k + 1)) (flat_map at_reports (history.turns k))
  takes_turns k low =
      let all : history.turns k ≡ history.turns k ++ [] = sym (append-nil (history.turns k)) in
      record {
        rising = subst (λ (ts : List (Turn P)). IsStrictlyIncreasing (map (λ t. t.number) ts)) all ((numbered matches n most reached).turns k).increasing;
        whole = (turned matches n most reached k low).whole;
        cut = tt;
        left = at_core k low ∙ ap (flat_map at_left) all;
        right = ap (left_end history) (add-one k) ∙ ap (flat_map at_right) all;
        reports = ap (flat_map at_reports) all;
      }

  pub is_run : IsRun (run_of reached)
  is_run =
      let numbers : Numbered n (length schedule) history = numbered matches n most reached in
      record {
        some_core = some_core reached;
        well_formed = well;
        links = λ k within.
            let carries = carried matches n most reached k within in
            record {
              rightwards = record { taken = record { rest = rights chain k; is = carries.rightwards }; room = room_right k within };
              leftwards = record { taken = record { rest = lefts chain k; is = carries.leftwards }; room = room_left k within };
              in_time = carries.in_time;
            };
        links_in_turn = λ k within. ((numbers.left k).in_turn, (numbers.right k).in_turn);
        queues = λ k low.
            let turns = turned matches n most reached k low in
            record {
              flows = record {
                taken = record { rest = queue_at chain.reports k; is = turns.reports };
                room = omega (arith, turns.room, ap length turns.reports, length-append (takes (history.collected k)) (queue_at chain.reports k));
              };
            };
        queues_in_turn = λ k low. ((numbers.sender k).in_turn, (numbers.receiver k).in_turn);
        turns = λ k. record { whole = history.turns k; cut = None };
        steps = takes_turns;
        log = history.log;
        rising = numbers.log.increasing;
        left_port = refl;
        right_port = ap (λ b. cond b (port_journal Right history.log) (flat_map at_left (history.turns n))) (eq-eqb n n refl);
        lawful = lawful events chain (turns_of history.log) most (shape reached).flight (driven matches n most reached well);
      }

  pub all_collected : AreAllReportsOf (run_of reached) (collected_of reached)
  all_collected = record {
    of_run = record {
      one_each = one-each reached;
      prefixes = λ k low. record { rest = queue_at chain.reports k; is = (turned matches n most reached k low).reports ∙ ap (λ rs. rs ++ queue_at chain.reports k) (sym (collected-at reached k low)) };
    };
    all_taken = λ k low. record { rest = []; is = collected-at reached k low ∙ sym (append-nil _) };
  }

-- no turn of that run is cut, and its log is that of the steps
module _ {P : Type 0} (matches : P → P → Bool) (n most : ℕ) {schedule : List Actor} {events : List (Event P)} {chain : ChainState P} (reached : Reached matches n most schedule events chain) (well : IsWellFormed events) where
  pub uncut : (k : ℕ) → ((is_run matches n most reached well).turns k).cut ≡ None
  unfolding is_run
  uncut k = refl

  pub log_is : (is_run matches n most reached well).log ≡ (history_of reached).log
  unfolding is_run
  log_is = refl
