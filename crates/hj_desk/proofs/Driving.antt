-- A desk with one more turn of the driver.
use Rattle.std.proofs.Common.{ap₂, ◌≡◌, ℕ, ◌+◌, ◌<◌, ◌||◌, Bool, true, false, List, [], ◌∷◌, ◌++◌, Some, None, Option, refl, ap, sym, ◌∙◌, subst, append-nil, true≢false}
use Rattle.std.specs.Bool.{OnTrue}
use Rattle.std.specs.List.{All, list_any}
use Rattle.std.specs.List.Sorted.{IsStrictlyIncreasing}
use Rattle.std.proofs.lemmas.List.{map-append}
use Rattle.std.proofs.lemmas.List.Concat.{flat_map-append}
use Rattle.std.proofs.lemmas.List.Elements.{All-weaker}
use Rattle.std.proofs.lemmas.List.Folds.{list_any-append}
use Rattle.hj_base.specs.declared.numbers.Side.{Side}
use Rattle.hj_base.specs.declared.numbers.Side.TheVariants.{Left, Right}
use Rattle.hj_msg.specs.declared.event.Event as happening
use Rattle.hj_msg.specs.declared.feed.Given.{Given}
use Rattle.hj_msg.specs.declared.feed.Given.TheVariants.{Event, Stop}
use Rattle.hj_msg.specs.declared.message.Msg.{Msg}
use Rattle.hj_msg.specs.declared.message.Report.{Report}
use Rattle.hj_base.specs.Journals.{put}
use Rattle.hj_msg.specs.Driver.{DriverTurn, admission, receipt, closing, admitted, message_of, port_of}
use Rattle.hj_msg.specs.Event.{IsWellFormed}
use Rattle.hj_msg.specs.Feed.{FeedState, event_in}
use Rattle.hj_msg.specs.Run.{LogEntry, at_port, port_journal}
use Rattle.hj_msg.specs.Turns.{only_at}
use Rattle.hj_driver.specs.declared.answers.Why.{Why}
use Rattle.hj_driver.specs.declared.answers.Admitted.{Admitted}
use Rattle.hj_driver.specs.declared.answers.Admitted.TheVariants as admitted_as
use Rattle.hj_driver.specs.declared.answers.Closing.TheVariants as answer
use Rattle.hj_driver.specs.Driver.{DriverState, answer_to, cause_of, closed, closing_of, is_send}
use Rattle.hj_driver.specs.StandsFor as driver
use Rattle.hj_driver.specs.StandsFor.{cause_after, is_closing}
use Rattle.hj_driver.proofs.ComingOut.{cause_of-same}
use Rattle.hj_driver.proofs.Logs.{admitted-push}
use Rattle.hj_driver.proofs.MayClose.{may_close}
use Rattle.hj_driver.proofs.Standing.{stands-closing}
use Rattle.hj_collect.specs.Collector.{CollectorState}
use Rattle.hj_link.specs.Seen.{EndSeen}
use Rattle.hj_raw.specs.Items.{TakenReport}
use Rattle.hj_desk.specs.declared.ports.Ports.{Ports}
use Rattle.hj_desk.specs.declared.desk.Desk.{Desk}
use Rattle.hj_desk.specs.declared.step.DeskStep.TheVariants.{Did}
use Rattle.hj_desk.specs.Ports.{KeepsLinks, Notes, IsQuiet}
use Rattle.hj_desk.specs.Desk.{DeskHistory, IsBefore, Drives, IsFed, Gathered, StandsFor, numbers_of, turns_of}
use Rattle.hj_desk.specs.Steps.{Admits, LooksAtPorts, Receives, with_turn}
use Rattle.hj_desk.specs.Taken.{turns_in}
use Rattle.hj_desk.proofs.Numbers.{below-more, below-push, before-more, increasing-push}

or_false : (b : Bool) → (b || false) ≡ b
or_false true = refl
or_false false = refl

module _ {P : Type 0} where
  abbrev entry_of : ℕ → DriverTurn P → LogEntry P
  entry_of number turn = record { number = number; turn = turn }

  journal-push : (side : Side) (log : List (LogEntry P)) (number : ℕ) (turn : DriverTurn P) → port_journal side (log ++ entry_of number turn ∷ []) ≡ port_journal side log ++ at_port side number turn
  journal-push side log number turn =
      flat_map-append (λ (e : LogEntry P). at_port side e.number e.turn) log (entry_of number turn ∷ [])
      ∙ ap (λ xs. port_journal side log ++ xs) (append-nil (at_port side number turn))

  turns-push : (log : List (LogEntry P)) (number : ℕ) (turn : DriverTurn P) → turns_of (log ++ entry_of number turn ∷ []) ≡ turns_of log ++ turn ∷ []
  turns-push log number turn = map-append (λ (e : LogEntry P). e.turn) log (entry_of number turn ∷ [])

  numbers-push : (log : List (LogEntry P)) (number : ℕ) (turn : DriverTurn P) → numbers_of (log ++ entry_of number turn ∷ []) ≡ numbers_of log ++ number ∷ []
  numbers-push log number turn = map-append (λ (e : LogEntry P). e.number) log (entry_of number turn ∷ [])

  -- the ends of the chain and the driver
  pub drives-turn : (old new : DriverState) (ports ports' : Ports P) (number next : ℕ) (log : List (LogEntry P)) (turn : DriverTurn P) → Drives old ports number log → Notes number turn ports ports' → next ≡ number + 1
      → driver.StandsFor new (turns_of log ++ turn ∷ []) → Drives new ports' next (log ++ entry_of number turn ∷ [])
  drives-turn old new ports ports' number next log turn drives notes is stands = record {
    left = notes.left ∙ ap (λ journal. journal ++ at_port Left number turn) drives.left ∙ sym (journal-push Left log number turn);
    right = notes.right ∙ ap (λ journal. journal ++ at_port Right number turn) drives.right ∙ sym (journal-push Right log number turn);
    rising = subst IsStrictlyIncreasing (sym (numbers-push log number turn)) (increasing-push number (numbers_of log) drives.rising drives.before);
    before = subst (All (λ (x : ℕ). x < next)) (sym (numbers-push log number turn)) (below-push number next is (numbers_of log) drives.before);
    stands = subst (driver.StandsFor new) (sym (turns-push log number turn)) stands;
  }

  pub drives-quiet : (state : DriverState) (ports ports' : Ports P) (number : ℕ) (log : List (LogEntry P)) → Drives state ports number log → IsQuiet ports ports' → Drives state ports' number log
  drives-quiet state ports ports' number log drives quiet =
      record { left = quiet.left ∙ drives.left; right = quiet.right ∙ drives.right; rising = drives.rising; before = drives.before; stands = drives.stands }

  pub drives-later : (state : DriverState) (ports : Ports P) (number next : ℕ) (log : List (LogEntry P)) → next ≡ number + 1 → Drives state ports number log → Drives state ports next log
  drives-later state ports number next log is drives =
      record { left = drives.left; right = drives.right; rising = drives.rising; before = below-more number next is (numbers_of log) drives.before; stands = drives.stands }

  -- the closes aren't put by another turn
  open-push : (turns : List (DriverTurn P)) (turn : DriverTurn P) → is_closing turn ≡ false → list_any is_closing (turns ++ turn ∷ []) ≡ list_any is_closing turns
  open-push turns turn is = list_any-append is_closing turns (turn ∷ []) ∙ ap (λ (b : Bool). list_any is_closing turns || (b || false)) is ∙ or_false (list_any is_closing turns)

  -- what the feed gave
  fed-receipt : (next : Option (Given P)) (feed : FeedState) (turns : List (DriverTurn P)) (events : List (happening.Event P)) (port : Side) (message : Msg P) → IsFed next feed turns events
      → IsFed next feed (turns ++ receipt port message ∷ []) events
  fed-receipt next feed turns events port message fed = record {
    are = fed.are ∙ ap (λ (es : List (happening.Event P)). es ++ event_in next) (sym (admitted-push turns (receipt port message) ∙ append-nil (admitted turns)));
    well_formed = fed.well_formed;
    numbering = fed.numbering;
    stopped = fed.stopped;
    closed = λ put. fed.closed (sym (open-push turns (receipt port message) refl) ∙ put);
  }

  fed-admission : (feed : FeedState) (turns : List (DriverTurn P)) (events : List (happening.Event P)) (event : happening.Event P) → IsFed (Some (Event event)) feed turns events → IsFed None feed (turns ++ admission event ∷ []) events
  fed-admission feed turns events event fed = record {
    are = fed.are ∙ sym (append-nil (admitted (turns ++ admission event ∷ [])) ∙ admitted-push turns (admission event));
    well_formed = fed.well_formed;
    numbering = fed.numbering;
    stopped = λ stop. absurd (true≢false (sym stop));
    closed = λ put. fed.closed (sym (open-push turns (admission event) refl) ∙ put);
  }

  fed-closing : (feed : FeedState) (turns : List (DriverTurn P)) (events : List (happening.Event P)) → IsFed (Some Stop) feed turns events → IsFed (Some Stop) feed (turns ++ closing ∷ []) events
  fed-closing feed turns events fed = record {
    are = fed.are ∙ ap (λ (es : List (happening.Event P)). es ++ []) (sym (admitted-push turns closing ∙ append-nil (admitted turns)));
    well_formed = fed.well_formed;
    numbering = fed.numbering;
    stopped = fed.stopped;
    closed = λ put. refl;
  }

  -- the cores' reports
  pub gathered-later : (receivers : List (EndSeen (Report P))) (number next : ℕ) (collector : CollectorState) (reports : List (TakenReport P)) → next ≡ number + 1 → Gathered receivers number collector reports
      → Gathered receivers next collector reports
  gathered-later receivers number next collector reports is old = record {
    in_turn =
        All-weaker (λ (r : EndSeen (Report P)). IsBefore number r.journal) (λ (r : EndSeen (Report P)). IsBefore next r.journal) (λ (r : EndSeen (Report P)) before. before-more number next is r.journal before) receivers
        old.in_turn;
    follows = old.follows;
    are = old.are;
    before = below-more number next is (turns_in reports) old.before;
    lists = old.lists;
  }

  -- the driver sends an event that needn't wait
  pub sent-as : (state : DriverState) (turns : List (DriverTurn P)) (event : happening.Event P) → driver.StandsFor state turns → IsWellFormed (admitted turns ++ event ∷ []) → cause_of event state ≡ None → (found : Admitted P)
      → found ≡ answer_to event (cause_after state.flight event turns) → found ≡ admitted_as.Send (port_of event) (message_of event)
  sent-as state turns event stands well free found is = is ∙ ap (answer_to event) (sym (cause_of-same event state turns stands well) ∙ free)

  pub never-waits : (state : DriverState) (turns : List (DriverTurn P)) (event : happening.Event P) → driver.StandsFor state turns → IsWellFormed (admitted turns ++ event ∷ []) → cause_of event state ≡ None → (found : Admitted P)
      → found ≡ answer_to event (cause_after state.flight event turns) → (why : Why) (back : happening.Event P) → found ≡ admitted_as.Wait why back → ⊥
  never-waits state turns event stands well free found is why back waits = let e = sent-as state turns event stands well free found is in cc

  pub notes-put : (ports ports' : Ports P) (number : ℕ) (event : happening.Event P) (port : Side) (message : Msg P) → port ≡ port_of event → message ≡ message_of event
      → ports'.left.journal ≡ ports.left.journal ++ only_at port Left (put number message) → ports'.right.journal ≡ ports.right.journal ++ only_at port Right (put number message) → Notes number (admission event) ports ports'
  notes-put ports ports' number event port message port_is message_is left right = record {
    left = left ∙ ap₂ (λ (s : Side) (m : Msg P). ports.left.journal ++ only_at s Left (put number m)) port_is message_is;
    right = right ∙ ap₂ (λ (s : Side) (m : Msg P). ports.right.journal ++ only_at s Right (put number m)) port_is message_is;
  }

  -- what is put next is well formed behind what was put
  pub next-well : (next : Option (Given P)) (event : happening.Event P) (feed : FeedState) (turns : List (DriverTurn P)) (events : List (happening.Event P)) → next ≡ Some (Event event) → IsFed next feed turns events
      → IsWellFormed (admitted turns ++ event ∷ [])
  next-well next event feed turns events is fed = subst IsWellFormed (fed.are ∙ ap (λ (n : Option (Given P)). admitted turns ++ event_in n) is) fed.well_formed

  -- a whole desk
  module _ (old : Desk P) (next : ℕ) (is : next ≡ old.turns + 1) (state : DriverState) (flight : state.flight ≡ old.driver.flight) (ports : Ports P) where
    stands-turn : (turn : DriverTurn P) (known : Option (Given P)) → Notes old.turns turn old.ports ports
        → ((feed : FeedState) (turns : List (DriverTurn P)) (events : List (happening.Event P)) → IsFed old.next feed turns events → driver.StandsFor old.driver turns → driver.StandsFor state (turns ++ turn ∷ []))
        → ((feed : FeedState) (turns : List (DriverTurn P)) (events : List (happening.Event P)) → IsFed old.next feed turns events → IsFed known feed (turns ++ turn ∷ []) events)
        → (feed : FeedState) (history : DeskHistory P) → StandsFor old feed history → StandsFor (record old { driver = state; ports = ports; turns = next; next = known }) feed (with_turn old.turns turn history)
    stands-turn turn known notes took fed feed history stood = record {
      drives = drives-turn old.driver state old.ports ports old.turns next history.log turn stood.drives notes is (took feed (turns_of history.log) history.events stood.fed stood.drives.stands);
      fed = subst (λ (turns : List (DriverTurn P)). IsFed known feed turns history.events) (sym (turns-push history.log old.turns turn)) (fed feed (turns_of history.log) history.events stood.fed);
      gathered = gathered-later old.reports.items old.turns next old.collector history.taken is stood.gathered;
    }

    -- a message is taken
    pub receives : (port : Side) (message : Msg P) → KeepsLinks old.ports ports → Notes old.turns (receipt port message) old.ports ports
        → ((turns : List (DriverTurn P)) → driver.StandsFor old.driver turns → driver.StandsFor state (turns ++ receipt port message ∷ []))
        → Receives port Did old (record old { driver = state; ports = ports; turns = next })
    receives port message links notes took = (
      message,
      record {
        links = links;
        notes = notes;
        number = is;
        flight = flight;
        stands = stands-turn (receipt port message) old.next notes (λ feed turns events fed stands. took turns stands) (λ feed turns events fed. fed-receipt old.next feed turns events port message fed);
      },
      refl,
    )

    -- an event is put
    pub puts-event : (event : happening.Event P) → old.next ≡ Some (Event event) → KeepsLinks old.ports ports → Notes old.turns (admission event) old.ports ports
        → ((turns : List (DriverTurn P)) → driver.StandsFor old.driver turns → IsWellFormed (admitted turns ++ event ∷ []) → driver.StandsFor state (turns ++ admission event ∷ []))
        → Admits Did old (record old { driver = state; ports = ports; turns = next; next = None })
    puts-event event known links notes sent = (
      Event event,
      known,
      record {
        links = links;
        notes = notes;
        number = is;
        flight = flight;
        stands =
            stands-turn (admission event) None notes (λ feed turns events fed stands. sent turns stands (next-well old.next event feed turns events known fed))
            (λ feed turns events fed. fed-admission feed turns events event (subst (λ (n : Option (Given P)). IsFed n feed turns events) known fed));
      },
      refl,
    )

    -- both closes are put
    pub puts-closes : old.next ≡ Some Stop → KeepsLinks old.ports ports → Notes old.turns closing old.ports ports → closing_of old.driver ≡ answer.Send → state ≡ closed old.driver
        → Admits Did old (record old { driver = state; ports = ports; turns = next })
    puts-closes last links notes sends is_closed = (
      Stop,
      last,
      record {
        links = links;
        notes = notes;
        number = is;
        flight = flight;
        stands =
            stands-turn closing old.next notes
            (λ feed turns events fed stands.
            let may = may_close old.driver sends in
            subst (λ (s : DriverState). driver.StandsFor s (turns ++ closing ∷ [])) (sym is_closed) (stands-closing old.driver turns stands may.0 may.1))
            (λ feed turns events fed.
            subst (λ (n : Option (Given P)). IsFed n feed (turns ++ closing ∷ []) events) (sym last) (fed-closing feed turns events (subst (λ (n : Option (Given P)). IsFed n feed turns events) last fed)));
      },
      ap (λ (n : Option (Given P)). record old { driver = state; ports = ports; turns = next; next = n }) last,
    )

  -- nothing was put or taken
  pub looks : (old : Desk P) (ports : Ports P) → KeepsLinks old.ports ports → IsQuiet old.ports ports → LooksAtPorts old (record old { ports = ports })
  looks old ports links quiet = record {
    links = links;
    quiet = quiet;
    others = refl;
    stands = λ feed history stood. record { drives = drives-quiet old.driver old.ports ports old.turns history.log stood.drives quiet; fed = stood.fed; gathered = stood.gathered };
  }

  pub links-twice : (one two three : Ports P) → KeepsLinks one two → KeepsLinks two three → KeepsLinks one three
  links-twice one two three first second = record {
    left = second.left ∙ first.left;
    left_capacity = second.left_capacity ∙ first.left_capacity;
    right = second.right ∙ first.right;
    right_capacity = second.right_capacity ∙ first.right_capacity;
  }

  pub notes-quiet : (one two three : Ports P) (number : ℕ) (turn : DriverTurn P) → IsQuiet one two → Notes number turn two three → Notes number turn one three
  notes-quiet one two three number turn quiet notes = record {
    left = notes.left ∙ ap (λ journal. journal ++ at_port Left number turn) quiet.left;
    right = notes.right ∙ ap (λ journal. journal ++ at_port Right number turn) quiet.right;
  }

  -- the event that is known next is one
  pub same-event : (next : Option (Given P)) (one other : happening.Event P) → next ≡ Some (Event one) → next ≡ Some (Event other) → one ≡ other
  same-event next one other first second = let same : Some (Event one) ≡ Some (Event other) = sym first ∙ second in cc

  pub port-sent : (found : Admitted P) (port port' : Side) (message message' : Msg P) → found ≡ admitted_as.Send port message → found ≡ admitted_as.Send port' message' → port ≡ port'
  port-sent found port port' message message' first second = let same : admitted_as.Send port message ≡ admitted_as.Send port' message' = sym first ∙ second in cc

  pub message-sent : (found : Admitted P) (port port' : Side) (message message' : Msg P) → found ≡ admitted_as.Send port message → found ≡ admitted_as.Send port' message' → message ≡ message'
  message-sent found port port' message message' first second = let same : admitted_as.Send port message ≡ admitted_as.Send port' message' = sym first ∙ second in cc

  pub when-sent : (found : Admitted P) (port : Side) (message : Msg P) (What : Type 0) → found ≡ admitted_as.Send port message → OnTrue (is_send found) What → What
  when-sent found port message What is fact = subst (λ (r : Admitted P). OnTrue (is_send r) What) is fact

  -- a put behind a look for room
  pub admits-behind : (old : Desk P) (ports : Ports P) (new : Desk P) → KeepsLinks old.ports ports → IsQuiet old.ports ports → Admits Did (record old { ports = ports }) new → Admits Did old new
  admits-behind old ports new links quiet admits =
      let turns = admits.2 in (
        admits.0,
        admits.1,
        record {
          links = links-twice old.ports ports new.ports links turns.links;
          notes = notes-quiet old.ports ports new.ports old.turns _ quiet turns.notes;
          number = turns.number;
          flight = turns.flight;
          stands = λ feed history stood. turns.stands feed history ((looks old ports links quiet).stands feed history stood);
        },
        admits.3,
      )
