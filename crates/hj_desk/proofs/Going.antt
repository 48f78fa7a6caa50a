-- What the calling thread does, one step behind another.
use Rattle.std.proofs.Common.{◌≡◌, ℕ, Bool, true, List, [], ◌∷◌, ◌++◌, length, map, get_or, Some, refl, ap, ap₂, sym, ◌∙◌, subst, append-nil, append_assoc}
use Rattle.std.proofs.Math.Seq.{map-set_same}
use Rattle.std.proofs.lemmas.List.{length-set}
use Rattle.std.proofs.lemmas.Option.{get_or_from_slice_get, slice_get_within}
use Rattle.std.proofs.lemmas.List.Concat.{flat_map-append}
use Rattle.hj_base.specs.declared.numbers.CoreNo.{CoreNo}
use Rattle.hj_base.specs.declared.numbers.Side.{Side}
use Rattle.hj_msg.specs.declared.drain.Drained.{Drained}
use Rattle.hj_msg.specs.declared.drain.Drained.TheVariants.{Kept}
use Rattle.hj_msg.specs.declared.event.Event.{Event as Happening}
use Rattle.hj_msg.specs.declared.feed.Given.{Given}
use Rattle.hj_msg.specs.declared.message.Report.{Report}
use Rattle.hj_msg.specs.Feed.{FeedState, GoesOverAnswers, event_in, events_in}
use Rattle.hj_msg.specs.Driver.{DriverTurn, receipt}
use Rattle.hj_msg.specs.Run.{LogEntry}
use Rattle.hj_collect.specs.Collector.{CollectorState}
use Rattle.hj_collect.specs.StandsFor as collect
use Rattle.hj_link.specs.Seen.{EndSeen}
use Rattle.hj_raw.specs.Items.{TakenReport, lists_of}
use Rattle.hj_desk.specs.declared.caller.Caller.{Caller}
use Rattle.hj_desk.specs.declared.desk.Desk.{Desk}
use Rattle.hj_desk.specs.declared.ports.Ports.{Ports}
use Rattle.hj_desk.specs.declared.step.DeskStep.{DeskStep}
use Rattle.hj_desk.specs.declared.step.DeskStep.TheVariants.{Did, Idle, Spent, Memory}
use Rattle.hj_desk.specs.Caller.{Goes, GoesOnAsking, KeepsQueues, before}
use Rattle.hj_desk.specs.Desk.{DeskHistory, StandsFor, Stands}
use Rattle.hj_desk.specs.Ports.{KeepsLinks}
use Rattle.hj_desk.specs.Outlet.{IsNoted}
use Rattle.hj_desk.specs.Runs.{cores_of}
use Rattle.hj_desk.specs.Steps.{Admits, ChangesReceiver, Collects, FindsNoReport, Gives, LooksAtPorts, Receives, StandsAsBefore, TakesReport, Turns, next_taken, turn_of, with_events}
use Rattle.hj_desk.proofs.Driving.{links-twice}

-- ---- receivers

module _ {P : Type 0} where
  pub queues-same : (receivers : List (EndSeen (Report P))) → KeepsQueues receivers receivers
  queues-same receivers = record { links = refl; capacities = refl }

  pub queues-twice : (one two three : List (EndSeen (Report P))) → KeepsQueues one two → KeepsQueues two three → KeepsQueues one three
  queues-twice one two three first second = record { links = second.links ∙ first.links; capacities = second.capacities ∙ first.capacities }

  queues-changed : (core : CoreNo) (was is : EndSeen (Report P)) (old new : Desk P) → ChangesReceiver core was is old new → KeepsQueues old.reports.items new.reports.items
  queues-changed core was is old new changes =
      let here : get_or old.reports.items core.0 was ≡ was = get_or_from_slice_get old.reports.items core.0 was was changes.was in
      record {
        links =
            ap (map (λ (r : EndSeen (Report P)). r.link)) changes.is
            ∙ map-set_same (λ (r : EndSeen (Report P)). r.link) old.reports.items core.0 is was (changes.link ∙ ap (λ (r : EndSeen (Report P)). r.link) (sym here));
        capacities =
            ap (map (λ (r : EndSeen (Report P)). r.capacity)) changes.is
            ∙ map-set_same (λ (r : EndSeen (Report P)). r.capacity) old.reports.items core.0 is was (changes.capacity ∙ ap (λ (r : EndSeen (Report P)). r.capacity) (sym here));
      }

-- ---- a feed's answers, one behind another

goes-both : {F P : Type 0} (gives : F → Given P → F → Type 0) (xs ys : List (Given P)) (old mid new : F) → GoesOverAnswers gives old xs mid → GoesOverAnswers gives mid ys new → GoesOverAnswers gives old (xs ++ ys) new
goes-both {F} gives [] ys old mid new first rest = subst (λ (f : F). GoesOverAnswers gives f ys new) first rest
goes-both gives (x ∷ xs) ys old mid new first rest = (first.0, first.1, goes-both gives xs ys first.0 mid new first.2 rest)

-- ---- histories

module _ {P : Type 0} where
  abbrev only_turns : List (LogEntry P) → DeskHistory P
  only_turns log = record { log = log; events = []; taken = [] }

  with-turns : (history : DeskHistory P) (log : List (LogEntry P)) → before history (only_turns log) ≡ record history { log = history.log ++ log }
  with-turns history log =
      ap₂ (λ (es : List (Happening P)) (rs : List (TakenReport P)). record { log = history.log ++ log; events = es; taken = rs }) (append-nil history.events) (append-nil history.taken)

  with-nothing : (history : DeskHistory P) → before history (only_turns []) ≡ history
  with-nothing history = with-turns history [] ∙ ap (λ (log : List (LogEntry P)). record history { log = log }) (append-nil history.log)

  before-both : (history one two : DeskHistory P) → before (before history one) two ≡ before history (before one two)
  before-both history one two =
      ap₂ (λ (log : List (LogEntry P)) (rest : List (Happening P) × List (TakenReport P)). record { log = log; events = rest.0; taken = rest.1 }) (append_assoc history.log one.log two.log)
      (ap₂ (λ (es : List (Happening P)) (rs : List (TakenReport P)). (es, rs)) (append_assoc history.events one.events two.events) (append_assoc history.taken one.taken two.taken))

  abbrev news : List (LogEntry P) → List (Given P) → List (TakenReport P) → DeskHistory P
  news log answers taken = record { log = log; events = events_in answers; taken = taken }

  news-both : (log log' : List (LogEntry P)) (answers answers' : List (Given P)) (taken taken' : List (TakenReport P)) → before (news log answers taken) (news log' answers' taken') ≡ news (log ++ log') (answers ++ answers') (taken ++ taken')
  news-both log log' answers answers' taken taken' =
      ap (λ (es : List (Happening P)). record { log = log ++ log'; events = es; taken = taken ++ taken' }) (sym (flat_map-append (λ (answer : Given P). event_in (Some answer)) answers answers'))

-- ---- a calling thread

module _ {P F O : Type 0} (gives : F → Given P → F → Type 0) (state : F → FeedState) (gave : O → ℕ → List (TakenReport P) → Bool → Drained → O → Type 0) where
  -- nothing was done
  pub goes-nothing : (caller : Caller P F O) → Goes gives state gave caller [] Kept caller
  goes-nothing caller = record {
    feed = refl;
    links = record { left = refl; left_capacity = refl; right = refl; right_capacity = refl };
    queues = queues-same caller.desk.reports.items;
    flight = refl;
    log = [];
    taken = [];
    stands = λ history stood. subst (λ (h : DeskHistory P). StandsFor caller.desk (state caller.feed) h) (sym (with-nothing history)) stood;
    outlet = λ begun history stood given. subst (λ (rs : List (TakenReport P)). gave begun (cores_of caller.desk) rs caller.desk.over Kept caller.outlet) (sym (append-nil history.taken)) given;
  }

  -- one thing behind another
  pub goes-on : (one two three : Caller P F O) (answers answers' : List (Given P)) (answer : Drained) → Goes gives state gave one answers Kept two → Goes gives state gave two answers' answer three
      → Goes gives state gave one (answers ++ answers') answer three
  goes-on one two three answers answers' answer first second = record {
    feed = goes-both gives answers answers' one.feed two.feed three.feed first.feed second.feed;
    links = links-twice one.desk.ports two.desk.ports three.desk.ports first.links second.links;
    queues = queues-twice one.desk.reports.items two.desk.reports.items three.desk.reports.items first.queues second.queues;
    flight = second.flight ∙ first.flight;
    log = first.log ++ second.log;
    taken = first.taken ++ second.taken;
    stands = λ history stood.
        subst (λ (h : DeskHistory P). StandsFor three.desk (state three.feed) h)
        (before-both history (news first.log answers first.taken) (news second.log answers' second.taken) ∙ ap (before history) (news-both first.log second.log answers answers' first.taken second.taken))
        (second.stands (before history (news first.log answers first.taken)) (first.stands history stood));
    outlet = λ begun history stood given.
        subst (λ (rs : List (TakenReport P)). gave begun (cores_of three.desk) rs three.desk.over answer three.outlet) (append_assoc history.taken first.taken second.taken)
        (second.outlet begun (before history (news first.log answers first.taken)) (first.stands history stood) (first.outlet begun history stood given));
  }

  pub asking-on : (one two three : Caller P F O) → GoesOnAsking gives state gave one two → Goes gives state gave two [] Kept three → GoesOnAsking gives state gave one three
  asking-on one two three first second = (first.0 ++ [], goes-on one two three first.0 [] Kept first.1 second)

  pub asking-twice : (one two three : Caller P F O) → GoesOnAsking gives state gave one two → GoesOnAsking gives state gave two three → GoesOnAsking gives state gave one three
  asking-twice one two three first second = (first.0 ++ second.0, goes-on one two three first.0 second.0 Kept first.1 second.1)

  -- what it then stands for
  pub goes-stands : (old new : Caller P F O) (answers : List (Given P)) (answer : Drained) → Goes gives state gave old answers answer new → Stands old.desk (state old.feed) → Stands new.desk (state new.feed)
  goes-stands old new answers answer goes stood = (before stood.0 (news goes.log answers goes.taken), goes.stands stood.0 stood.1)

  module _ (old : Caller P F O) (desk : Desk P) (awaited : ℕ) where
    abbrev later : Caller P F O
    later = record old { desk = desk; awaited = awaited }

    -- some turns of the driver, and no more
    turned : (log : List (LogEntry P)) → KeepsLinks old.desk.ports desk.ports → desk.reports.items ≡ old.desk.reports.items → desk.driver.flight ≡ old.desk.driver.flight → desk.over ≡ old.desk.over
        → ((feed : FeedState) (history : DeskHistory P) → StandsFor old.desk feed history → StandsFor desk feed (record history { log = history.log ++ log })) → Goes gives state gave old [] Kept later
    turned log links queues flight over stands = record {
      feed = refl;
      links = links;
      queues = subst (KeepsQueues old.desk.reports.items) (sym queues) (queues-same old.desk.reports.items);
      flight = flight;
      log = log;
      taken = [];
      stands = λ history stood. subst (λ (h : DeskHistory P). StandsFor desk (state old.feed) h) (sym (with-turns history log)) (stands (state old.feed) history stood);
      outlet = λ begun history stood given.
          subst (λ (rs : List (TakenReport P)). gave begun (cores_of desk) rs desk.over Kept old.outlet) (sym (append-nil history.taken))
          (subst (λ (b : Bool). gave begun (cores_of desk) history.taken b Kept old.outlet) (sym over)
          (subst (λ (n : ℕ). gave begun n history.taken old.desk.over Kept old.outlet) (ap length (sym queues)) given));
    }

    same : KeepsLinks old.desk.ports desk.ports → desk.reports.items ≡ old.desk.reports.items → desk.driver.flight ≡ old.desk.driver.flight → desk.over ≡ old.desk.over → StandsAsBefore old.desk desk
        → Goes gives state gave old [] Kept later
    same links queues flight over stands =
        turned [] links queues flight over
        (λ feed history stood. subst (λ (log : List (LogEntry P)). StandsFor desk feed (record history { log = log })) (sym (append-nil history.log)) (stands feed history stood))

    links-same : old.desk.ports ≡ desk.ports → KeepsLinks old.desk.ports desk.ports
    links-same is = record {
      left = ap (λ (p : Ports P). p.left.link) (sym is);
      left_capacity = ap (λ (p : Ports P). p.left.capacity) (sym is);
      right = ap (λ (p : Ports P). p.right.link) (sym is);
      right_capacity = ap (λ (p : Ports P). p.right.capacity) (sym is);
    }

    by-turn : (turn : DriverTurn P) → Turns turn old.desk desk → desk.reports.items ≡ old.desk.reports.items → desk.over ≡ old.desk.over → Goes gives state gave old [] Kept later
    by-turn turn turns is over = turned (record { number = old.desk.turns; turn = turn } ∷ []) turns.links is turns.flight over turns.stands

    by-look : LooksAtPorts old.desk desk → Goes gives state gave old [] Kept later
    by-look looks =
        same looks.links (ap (λ (d : Desk P). d.reports.items) looks.others) (ap (λ (d : Desk P). d.driver.flight) looks.others) (ap (λ (d : Desk P). d.over) looks.others) looks.stands

    by-nothing : desk ≡ old.desk → Goes gives state gave old [] Kept later
    by-nothing is =
        same (links-same (ap (λ (d : Desk P). d.ports) (sym is))) (ap (λ (d : Desk P). d.reports.items) is) (ap (λ (d : Desk P). d.driver.flight) is) (ap (λ (d : Desk P). d.over) is)
        (λ feed history stood. subst (λ (d : Desk P). StandsFor d feed history) (sym is) stood)

    -- each step of a desk
    pub goes-received : (port : Side) (step : DeskStep) → Receives port step old.desk desk → Goes gives state gave old [] Kept later
    goes-received port Did done = by-turn (receipt port done.0) done.1 (ap (λ (d : Desk P). d.reports.items) done.2) (ap (λ (d : Desk P). d.over) done.2)
    goes-received port Idle done = by-look done.0
    goes-received port Spent done = by-nothing done.1
    goes-received port Memory done = absurd done

    pub goes-admitted : (step : DeskStep) → Admits step old.desk desk → Goes gives state gave old [] Kept later
    goes-admitted Did done = by-turn (turn_of done.0) done.2 (ap (λ (d : Desk P). d.reports.items) done.3) (ap (λ (d : Desk P). d.over) done.3)
    goes-admitted Idle done = by-look done.0
    goes-admitted Spent done = by-nothing done.1
    goes-admitted Memory done = absurd done

  -- a report is taken
  module _ (old : Caller P F O) (desk : Desk P) (outlet : O) (awaited : ℕ) (core : CoreNo) where
    abbrev behind : Caller P F O
    behind = record old { desk = desk; outlet = outlet; awaited = awaited }

    many : (was is : EndSeen (Report P)) → ChangesReceiver core was is old.desk desk → cores_of desk ≡ cores_of old.desk
    many was is changes = ap length changes.is ∙ length-set old.desk.reports.items core.0 is

    by-report : (report : Report P) (over : Bool) (takes_it : TakesReport core report old.desk desk) → desk.over ≡ over
        → ((begun : O) (taken : List (TakenReport P)) → IsNoted desk.collector (cores_of old.desk) taken (next_taken core report old.desk) → gave begun (cores_of old.desk) taken old.desk.over Kept old.outlet
        → gave begun (cores_of old.desk) (taken ++ next_taken core report old.desk ∷ []) over Kept outlet)
        → Goes gives state gave old [] Kept behind
    by-report report over takes_it is keeps = record {
      feed = refl;
      links = links-same old desk 0 (ap (λ (d : Desk P). d.ports) (sym takes_it.others));
      queues = queues-changed core takes_it.before takes_it.after old.desk desk takes_it.receiver;
      flight = ap (λ (d : Desk P). d.driver.flight) takes_it.others;
      log = [];
      taken = next_taken core report old.desk ∷ [];
      stands = λ history stood. subst (λ (h : DeskHistory P). StandsFor desk (state old.feed) h) (sym (with-one history)) (takes_it.stands (state old.feed) history stood);
      outlet = λ begun history stood given.
          let now = takes_it.stands (state old.feed) history stood in
          let lists = now.gathered.lists ∙ ap (λ (n : ℕ). lists_of n (history.taken ++ next_taken core report old.desk ∷ [])) cores in
          let noted : IsNoted desk.collector (cores_of old.desk) history.taken (next_taken core report old.desk) = record {
            known = slice_get_within old.desk.reports.items core.0 takes_it.before takes_it.receiver.was;
            follows = subst (collect.StandsFor desk.collector) lists now.gathered.follows;
          } in
          subst (λ (b : Bool). gave begun (cores_of desk) (history.taken ++ next_taken core report old.desk ∷ []) b Kept outlet) (sym is)
          (subst (λ (n : ℕ). gave begun n (history.taken ++ next_taken core report old.desk ∷ []) over Kept outlet) (sym cores) (keeps begun history.taken noted given));
    }
      where
        cores : cores_of desk ≡ cores_of old.desk
        cores = many takes_it.before takes_it.after takes_it.receiver

        with-one : (history : DeskHistory P) → before history (news [] [] (next_taken core report old.desk ∷ [])) ≡ record history { taken = history.taken ++ next_taken core report old.desk ∷ [] }
        with-one history =
            ap₂ (λ (log : List (LogEntry P)) (es : List (Happening P)). record { log = log; events = es; taken = history.taken ++ next_taken core report old.desk ∷ [] }) (append-nil history.log) (append-nil history.events)

    by-no_report : FindsNoReport core old.desk desk → outlet ≡ old.outlet → Goes gives state gave old [] Kept behind
    by-no_report finds is = record {
      feed = refl;
      links = links-same old desk 0 (ap (λ (d : Desk P). d.ports) (sym finds.others));
      queues = queues-changed core finds.before finds.after old.desk desk finds.receiver;
      flight = ap (λ (d : Desk P). d.driver.flight) finds.others;
      log = [];
      taken = [];
      stands = λ history stood. subst (λ (h : DeskHistory P). StandsFor desk (state old.feed) h) (sym (with-nothing history)) (finds.stands (state old.feed) history stood);
      outlet = λ begun history stood given.
          subst (λ (rs : List (TakenReport P)). gave begun (cores_of desk) rs desk.over Kept outlet) (sym (append-nil history.taken))
          (subst (λ (b : Bool). gave begun (cores_of desk) history.taken b Kept outlet) (ap (λ (d : Desk P). d.over) (sym finds.others))
          (subst (λ (n : ℕ). gave begun n history.taken old.desk.over Kept outlet) (sym (many finds.before finds.after finds.receiver))
          (subst (λ (o : O). gave begun (cores_of old.desk) history.taken old.desk.over Kept o) (sym is) given)));
    }

    pub goes-collected : (step : DeskStep) → Collects gave core step old.desk old.outlet desk outlet
        → Goes gives state gave old [] Kept behind
    goes-collected Did done =
        by-report done.0 old.desk.over done.1 done.2 (λ begun taken noted given. done.3 begun (cores_of old.desk) taken (next_taken core done.0 old.desk) old.desk.over refl noted given)
    goes-collected Idle done = by-no_report done.0 done.1
    goes-collected Spent done = subst (λ (o : O). Goes gives state gave old [] Kept (record old { desk = desk; outlet = o; awaited = awaited })) (sym done.2) (by-nothing old desk awaited done.1)
    goes-collected Memory done =
        by-report done.0 true done.1 done.2 (λ begun taken noted given. done.3 begun (cores_of old.desk) taken (next_taken core done.0 old.desk) old.desk.over refl noted given)

  -- the feed is asked
  pub goes-asked : (old : Caller P F O) (given : Given P) (desk : Desk P) (feed : F) → desk ≡ record old.desk { next = Some given } → gives old.feed given feed
      → ((history : DeskHistory P) → StandsFor old.desk (state old.feed) history → StandsFor desk (state feed) (with_events (event_in desk.next) history))
      → Goes gives state gave old (given ∷ []) Kept (record old { desk = desk; feed = feed })
  goes-asked old given desk feed is given_it stands = record {
    feed = (feed, given_it, refl);
    links = links-same old desk 0 (ap (λ (d : Desk P). d.ports) (sym is));
    queues = subst (KeepsQueues old.desk.reports.items) (ap (λ (d : Desk P). d.reports.items) (sym is)) (queues-same old.desk.reports.items);
    flight = ap (λ (d : Desk P). d.driver.flight) is;
    log = [];
    taken = [];
    stands = λ history stood. subst (λ (h : DeskHistory P). StandsFor desk (state feed) h) (sym (asked_behind history)) (stands history stood);
    outlet = λ begun history stood kept.
        subst (λ (d : Desk P). gave begun (cores_of d) (history.taken ++ []) d.over Kept old.outlet) (sym is)
        (subst (λ (rs : List (TakenReport P)). gave begun (cores_of old.desk) rs old.desk.over Kept old.outlet) (sym (append-nil history.taken)) kept);
  }
    where
      asked_behind : (history : DeskHistory P) → before history (news [] (given ∷ []) []) ≡ with_events (event_in desk.next) history
      asked_behind history =
          ap₂ (λ (log : List (LogEntry P)) (rest : List (Happening P) × List (TakenReport P)). record { log = log; events = rest.0; taken = rest.1 }) (append-nil history.log)
          (ap₂ (λ (es : List (Happening P)) (rs : List (TakenReport P)). (history.events ++ es, rs)) (append-nil (event_in (Some given)) ∙ ap (λ (d : Desk P). event_in d.next) (sym is)) (append-nil history.taken))

  -- what is due is given
  pub goes-given : (rests : O → CollectorState → Type 0) (old : Caller P F O) (new : O) (answer : Drained) → Gives gave rests answer old.desk old.outlet new → Goes gives state gave old [] answer (record old { outlet = new })
  goes-given rests old new answer gives_it = record {
    feed = refl;
    links = links-same old old.desk 0 refl;
    queues = queues-same old.desk.reports.items;
    flight = refl;
    log = [];
    taken = [];
    stands = λ history stood. subst (λ (h : DeskHistory P). StandsFor old.desk (state old.feed) h) (sym (with-nothing history)) stood;
    outlet = λ begun history stood kept.
        subst (λ (rs : List (TakenReport P)). gave begun (cores_of old.desk) rs old.desk.over answer new) (sym (append-nil history.taken))
        (gives_it.gives begun (cores_of old.desk) history.taken (subst (collect.StandsFor old.desk.collector) stood.gathered.lists stood.gathered.follows) kept);
  }
