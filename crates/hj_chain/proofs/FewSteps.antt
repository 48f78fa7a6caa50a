-- How many steps there are. Each message is weighed by the steps that it still brings, with those of the messages that come of it:
-- a step of a core, of a port or a collection leaves that much less, and each event brings a number of steps that is fixed.
use Rattle.std.proofs.Common.{◌≡◌, ℕ, zero, suc, ◌+◌, ◌*◌, ◌-◌, ◌<◌, ◌≤◌, ◌==◌, nat_lt, Bool, cond, List, [], ◌++◌, length, drop, get_or, replicate, Some, ap, sym, ◌∙◌, subst, arith, add-one, length-append, Option, None}
use Rattle.std.specs.Option.{option_to_list}
use Rattle.std.proofs.Math.Nat.{mul-add}
use Rattle.std.proofs.lemmas.Bool.{ne_eqb}
use Rattle.std.proofs.lemmas.Bool.Decides.{nat_tests}
use Rattle.std.proofs.lemmas.List.{get_or-replicate, length-replicate}
use Rattle.hj_base.specs.declared.numbers.Side.{Side}
use Rattle.hj_base.specs.declared.numbers.Side.TheVariants.{Left, Right}
use Rattle.hj_msg.specs.declared.event.Event.{Event}
use Rattle.hj_msg.specs.declared.event.Event.TheVariants.{Arrive, Expire, Quiet}
use Rattle.hj_msg.specs.declared.feed.Given.{Given}
use Rattle.hj_msg.specs.declared.message.Msg.{Msg}
use Rattle.hj_msg.specs.declared.message.Msg.TheVariants.{R, AckS, EndS, ExpS, QuietL, CloseL, S, EndR, ExpR, QuietR, CloseR}
use Rattle.hj_msg.specs.declared.message.Report.{Report}
use Rattle.hj_msg.specs.Core as core
use Rattle.hj_msg.specs.Core.{State, empty_state, sends}
use Rattle.hj_msg.specs.Driver.{message_of, port_of}
use Rattle.hj_driver.specs.Driver.{DriverState, is_sent}
use Rattle.hj_driver.proofs.MayClose.{may_close}
use Rattle.hj_chain.specs.declared.actor.Actor.{Actor}
use Rattle.hj_chain.specs.Reports.{queue_at}
use Rattle.hj_chain.specs.Chain.{FeedAnswer, ChainState, Action, after_action, empty_chain, capacity, if_there}
use Rattle.hj_chain.specs.Reached.{Reached, StepHistory, recorded}
use Rattle.hj_msg.specs.Feed.{event_in}
use Rattle.hj_chain.proofs.Doing.{Doing, admits, shuts, receives, works, gathers, taken_by, inquires}
use Rattle.hj_driver.proofs.Standing.{closes-put}
use Rattle.hj_chain.proofs.Driving.{sent-take}
use Rattle.hj_chain.proofs.Induction.{by_steps}
use Rattle.hj_chain.proofs.Shape.{Shape, links-length}
use Rattle.hj_chain.proofs.Totals.{sum_of, total, total-changed, total-nothing}
use Rattle.hj_chain.proofs.Turning.{at_most_one}
use Rattle.hj_chain.proofs.Weighing.{Weights, load, load-begin, load-put_in, load-take_out, load-handles, load-put_both, at_entry, at_exit, at_end}

-- the steps that a message brings which the core at this place of n is to handle
abbrev work : {P : Type 0} → ℕ → ℕ → Msg P → ℕ
work n place (R at row) = 3 * n - 2 * place + 1
work n place (AckS at) = 1
work n place (EndS at) = n - place + 1
work n place (ExpS at) = n - place + 1
work n place (QuietL at) = 2 * (n - place) + 1
work n place (QuietR at) = 2 * place + 3
work n place CloseL = 2 * (n - place) + 1
work n place (S at row) = n + 3 * place + 3 + cond (nat_lt (place + 1) n) 1 0
work n place (EndR at) = place + 2
work n place (ExpR at) = place + 2
work n place CloseR = 2 * place + 3

-- a core reports rows, quiet events and closes alone
abbrev reports_of : {P : Type 0} → Msg P → ℕ
reports_of (R at row) = 1
reports_of (S at row) = 1
reports_of (QuietL at) = 1
reports_of (QuietR at) = 1
reports_of CloseL = 1
reports_of CloseR = 1
reports_of other = 0

-- one that comes out at a port brings one step
abbrev rightwards_work : {P : Type 0} → ℕ → ℕ → Msg P → ℕ
rightwards_work n k message = cond (k == n) 1 (work n k message)

abbrev leftwards_work : {P : Type 0} → ℕ → ℕ → Msg P → ℕ
leftwards_work n zero message = 1
leftwards_work n (suc place) message = work n place message

abbrev works_of : {P : Type 0} → ℕ → Weights (Msg P)
works_of n = record { rightwards = rightwards_work n; leftwards = leftwards_work n }

-- a core leaves less of what it handles, and one report at most
less_work : {P : Type 0} (n place : ℕ) (message : Msg P) → place < n → (reports : ℕ) → reports ≤ reports_of message
    → sum_of (leftwards_work n place) (sends place n message).left + sum_of (rightwards_work n (place + 1)) (sends place n message).right + reports + 1 ≤ work n place message
less_work n place (R at row) low reports few = grind (arith, nat_tests, few, low)
less_work n place (AckS at) low reports few = grind (arith, nat_tests, few, low)
less_work n place (EndS at) low reports few = grind (arith, nat_tests, few, low)
less_work n place (ExpS at) low reports few = grind (arith, nat_tests, few, low)
less_work n place (QuietL at) low reports few = grind (arith, nat_tests, few, low)
less_work n zero (QuietR at) low reports few = omega (arith, few, low)
less_work n (suc place) (QuietR at) low reports few = omega (arith, few, low)
less_work n place CloseL low reports few = grind (arith, nat_tests, few, low)
less_work n zero (S at row) low reports few = grind (arith, nat_tests, few, low)
less_work n (suc place) (S at row) low reports few = grind (arith, nat_tests, few, low)
less_work n zero (EndR at) low reports few = grind (arith, nat_tests, few, low)
less_work n (suc place) (EndR at) low reports few = grind (arith, nat_tests, few, low)
less_work n zero (ExpR at) low reports few = omega (arith, few, low)
less_work n (suc place) (ExpR at) low reports few = omega (arith, few, low)
less_work n zero CloseR low reports few = omega (arith, few, low)
less_work n (suc place) CloseR low reports few = omega (arith, few, low)

few_reports : {P : Type 0} (matches : P → P → Bool) (state : State P) (message : Msg P) → length (option_to_list (core.report matches state message)) ≤ reports_of message
few_reports matches state (R at row) = omega arith
few_reports matches state (S at row) = omega arith
few_reports matches state CloseL = at_most_one (core.report matches state CloseL)
few_reports matches state CloseR = at_most_one (core.report matches state CloseR)
few_reports matches state (QuietL at) = omega arith
few_reports matches state (QuietR at) = omega arith
few_reports matches state (AckS at) = omega arith
few_reports matches state (EndS at) = omega arith
few_reports matches state (ExpS at) = omega arith
few_reports matches state (EndR at) = omega arith
few_reports matches state (ExpR at) = omega arith

some_work : {P : Type 0} (n place : ℕ) (message : Msg P) → 1 ≤ work n place message
some_work n place (R at row) = omega arith
some_work n place (AckS at) = omega arith
some_work n place (QuietL at) = omega arith
some_work n place (QuietR at) = omega arith
some_work n place (EndS at) = omega arith
some_work n place (ExpS at) = omega arith
some_work n place CloseL = omega arith
some_work n place (S at row) = omega arith
some_work n place (EndR at) = omega arith
some_work n place (ExpR at) = omega arith
some_work n place CloseR = omega arith

-- what comes out at a port
exit : {P : Type 0} (n : ℕ) (port : Side) (message : Msg P) → 1 ≤ at_exit (works_of n) port n message
exit n Left message = omega arith
exit n Right message = grind (arith, nat_tests)

-- what a core takes
taken : {P : Type 0} (n place : ℕ) (end : Side) (message : Msg P) → place < n → at_end (works_of n) end place message ≡ work n place message
taken n place Left message low = ap (λ b. cond b 1 (work n place message)) (ne_eqb place n (λ same. omega (arith, low, same)))
taken n place Right message low = ap (λ k. leftwards_work n k message) (add-one place)

-- an event's message, and the closes
from_left : {P : Type 0} (n : ℕ) (message : Msg P) → rightwards_work n 0 message ≤ work n 0 message
from_left n message = grind (arith, nat_tests, some_work n 0 message)

entry : {P : Type 0} (n : ℕ) (event : Event P) → at_entry (works_of n) (port_of event) n (message_of event) + 2 ≤ 4 * n + 4
entry {P} n (Arrive at Left row) = omega (arith, from_left {P = P} n (R at row))
entry {P} n (Expire at Right of) = omega (arith, from_left {P = P} n (ExpS of))
entry {P} n (Quiet at Left) = omega (arith, from_left {P = P} n (QuietL at))
entry zero (Quiet at Right) = omega arith
entry (suc m) (Quiet at Right) = omega arith
entry zero (Arrive at Right row) = omega arith
entry (suc m) (Arrive at Right row) = grind (arith, nat_tests)
entry zero (Expire at Left of) = omega arith
entry (suc m) (Expire at Left of) = omega arith

both_closes : (P : Type 0) (n : ℕ) → at_entry (works_of {P = P} n) Left n CloseL + at_entry (works_of {P = P} n) Right n CloseR + 1 ≤ 4 * n + 3
both_closes P zero = omega arith
both_closes P (suc m) = omega (arith, from_left {P = P} (suc m) CloseL)

-- the steps of the closes, until these were put
abbrev closing_work : ℕ → DriverState → ℕ
closing_work n driver = cond (is_sent driver.closes) 0 (4 * n + 3)

abbrev waiting : {P : Type 0} → List (List (Report P)) → ℕ
waiting reports = total (λ k queue. length queue) reports

-- the step that asks the feed, where no answer is known
abbrev asking : {P : Type 0} → Option (Given P) → ℕ
asking None = 1
asking (Some given) = 0

asked_once : {P : Type 0} (next : Option (Given P)) → asking next ≤ 1
asked_once None = omega arith
asked_once (Some given) = omega arith

-- The steps that are still to come of what is under way, of the reports, of the next event or the question for it, and of the
-- closes.
abbrev pub to_come : {P : Type 0} → ℕ → ChainState P → ℕ
to_come n chain = load (works_of n) chain.links + waiting chain.reports + (4 * n + 4) * length (event_in chain.next) + asking chain.next + closing_work n chain.driver

-- With the steps made they are no more than the events and the closes bring.
abbrev Paid : {P : Type 0} → ℕ → ℕ → List (Event P) → ChainState P → Type 0
Paid n number events chain = number + to_come n chain ≤ (4 * n + 4) * length events + (4 * n + 3)

paid-begin : {P : Type 0} (n most : ℕ) (first : Given P) → Paid n 0 (event_in (Some first)) (empty_chain n most first)
paid-begin {P} n most first =
    let queues : List (List (Report P)) = replicate n [] in
    omega (
      arith,
      load-begin (works_of {P = P} n) (n + 1) (capacity most),
      total-nothing (λ k queue. length queue) queues [] (λ k low. ap (λ (queue : List (Report P)). length queue) (get_or-replicate n k [] [] (omega (arith, low, length-replicate {A = List (Report P)} n [])))),
    )

module _ {P : Type 0} (matches : P → P → Bool) (chain : ChainState P) (answer : FeedAnswer P) (all : length chain.links ≡ length chain.cores + 1) (queues : length chain.reports ≡ length chain.cores) where
  abbrev n : ℕ
  n = length chain.cores

  -- a step leaves fewer, but for those that a new event brings
  pub fewer-come : (action : Action P) → Doing chain action → to_come n (after_action matches chain (Some action) answer) + 1 ≤ to_come n chain + (4 * n + 4) * length (taken_by action answer)
  fewer-come action (inquires is) = omega (arith, ap (λ (g : Option (Given P)). (4 * n + 4) * length (event_in g)) is, ap (λ (g : Option (Given P)). asking g) is)
  fewer-come action (admits event is free) =
      omega (
        arith,
        ap (λ (g : Option (Given P)). (4 * n + 4) * length (event_in g)) is,
        ap (λ (g : Option (Given P)). asking g) is,
        asked_once (if_there answer),
        load-put_in (works_of n) n chain.links all (port_of event) (message_of event),
        entry n event,
        ap (λ c. cond {A = ℕ} (is_sent c) 0 (4 * n + 3)) (closes-put event chain.driver),
      )
  fewer-come action (shuts is free) =
      omega (
        arith,
        load-put_both (works_of {P = P} n) n chain.links all CloseL CloseR,
        both_closes P n,
        ap (λ b. cond {A = ℕ} b 0 (4 * n + 3)) (may_close chain.driver free).0,
      )
  fewer-come action (receives port message rest is) =
      omega (
        arith,
        load-take_out (works_of n) n chain.links all port message rest is,
        exit n port message,
        ap (λ b. cond {A = ℕ} b 0 (4 * n + 3)) (sent-take port message chain.driver.closes),
      )
  fewer-come action (works place end message rest low is room) =
      let state = get_or chain.cores place empty_state in
      let told = option_to_list (core.report matches state message) in
      let in_reports : place < length chain.reports = omega (arith, low, queues) in
      omega (
        arith,
        load-handles (works_of n) n chain.links all end place message rest (sends place n message).left (sends place n message).right low is,
        taken n place end message low,
        less_work n place message low (length told) (few_reports matches state message),
        total-changed (λ k queue. length queue) place (λ queue. queue ++ told) chain.reports [] in_reports,
        length-append (queue_at chain.reports place) told,
      )
  fewer-come action (gathers place report rest low is) =
      let in_reports : place < length chain.reports = omega (arith, low, queues) in
      omega (
        arith,
        total-changed (λ k queue. length queue) place (drop 1) chain.reports [] in_reports,
        ap length is,
        ap (λ (queue : List (Report P)). length (drop 1 queue)) is,
      )

  longer : (events more : List (Event P)) → (4 * n + 4) * length (events ++ more) ≡ (4 * n + 4) * length events + (4 * n + 4) * length more
  longer events more = ap (λ k. (4 * n + 4) * k) (length-append events more) ∙ mul-add (4 * n + 4) (length events) (length more)

  paid-step : (number : ℕ) (events : List (Event P)) (action : Action P) → Doing chain action → Paid n number events chain → Paid n (suc number) (events ++ taken_by action answer) (after_action matches chain (Some action) answer)
  paid-step number events action doing old = omega (arith, old, fewer-come action doing, longer events (taken_by action answer))

module _ {P : Type 0} (matches : P → P → Bool) (n most : ℕ) where
  abbrev Kept : ℕ → List (Event P) → ChainState P → StepHistory P → Type 0
  Kept number events chain history = Paid n number events chain

  step : (number : ℕ) (events : List (Event P)) (chain : ChainState P) (history : StepHistory P) (action : Action P) (answer : FeedAnswer P)
      → Shape n most chain → Doing chain action → Kept number events chain history
      → Kept (suc number) (events ++ taken_by action answer) (after_action matches chain (Some action) answer) (recorded matches chain number (Some action) history)
  step number events chain history action answer shape doing old =
      let all : length chain.links ≡ length chain.cores + 1 = omega (arith, links-length n most chain shape, shape.cores) in
      subst (λ m. Paid m (suc number) (events ++ taken_by action answer) (after_action matches chain (Some action) answer)) shape.cores
      (paid-step matches chain answer all (shape.reports ∙ sym shape.cores) number events action doing (subst (λ m. Paid m number events chain) (sym shape.cores) old))

  pub few_steps : {schedule : List Actor} {events : List (Event P)} {chain : ChainState P} → Reached matches n most schedule events chain → length schedule ≤ (4 * n + 4) * (length events + 1)
  few_steps {schedule} {events} {chain} reached =
      let paid : Paid n (length schedule) events chain = by_steps matches n most Kept (paid-begin n most) step reached in
      omega (arith, paid, mul-add (4 * n + 4) (length events) 1)
