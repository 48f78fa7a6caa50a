-- A chain goes on until it is done. Where no actor is enabled, nothing is under way; so nothing is awaited, no event is outstanding,
-- and the next event, or the closes, would be put, had the closes not been put and handled everywhere.
use Rattle.std.proofs.Common.{◌≡◌, ◌≢◌, ℕ, zero, suc, ◌+◌, ◌<◌, ◌≤◌, ◌⊎◌, inl, inr, ◌==◌, nat_lt, not, ◌&&◌, Bool, true, false, cond, List, [], ◌∷◌, length, Some, None, Option, IsTrue, refl, ap, sym, ◌∙◌, subst, arith, add-one, eq-eqb, true≢false}
use Rattle.std.specs.Option.{option_map}
use Rattle.std.specs.List.{list_any}
use Rattle.std.proofs.lemmas.Bool.{ne_eqb, lt-ltb}
use Rattle.std.proofs.lemmas.Bool.Decides.{eqb_tells}
use Rattle.std.proofs.lemmas.List.Elements.{All-from_get_or}
use Rattle.hj_base.specs.declared.numbers.EventNo.{EventNo}
use Rattle.hj_base.specs.declared.numbers.Side.{Side}
use Rattle.hj_base.specs.declared.numbers.Side.TheVariants.{Left, Right}
use Rattle.hj_msg.specs.declared.event.Event.{Event}
use Rattle.hj_msg.specs.declared.event.Event.TheVariants.{Arrive, Expire, Quiet}
use Rattle.hj_msg.specs.declared.feed.Given.{Given}
use Rattle.hj_msg.specs.declared.feed.Given.TheVariants as given
use Rattle.hj_msg.specs.declared.message.Msg.{Msg}
use Rattle.hj_msg.specs.declared.message.Report.{Report}
use Rattle.hj_msg.specs.Core.{State, empty_state}
use Rattle.hj_driver.specs.declared.answers.Why.TheVariants.{Flight, NotMarked, Closed}
use Rattle.hj_driver.specs.declared.answers.Closing.TheVariants as answer
use Rattle.hj_driver.specs.declared.closes.Closes.{Closes}
use Rattle.hj_driver.specs.declared.closes.Closes.TheVariants.{Unsent, Sent}
use Rattle.hj_driver.specs.declared.lane.Departure.{Departure}
use Rattle.hj_driver.specs.declared.lane.Departure.TheVariants.{Row, End}
use Rattle.hj_driver.specs.declared.lane.OutstandingArrival.{OutstandingArrival}
use Rattle.hj_driver.specs.Lane.{is_taken, waits_for}
use Rattle.hj_driver.specs.Driver.{DriverState, awaits_close, count_of, is_finished, is_sent, row_cause}
use Rattle.hj_driver.proofs.ComingOut.{no_cause}
use Rattle.hj_driver.proofs.MayClose.{may_close}
use Rattle.hj_chain.specs.declared.actor.Actor.{Actor}
use Rattle.hj_chain.specs.declared.actor.Actor.TheVariants.{Admit, PortLeft, PortRight, Core, Collect}
use Rattle.hj_chain.specs.declared.actor.NotNow.TheVariants.{Waits, NoSuchCore, Over, ReportsFull}
use Rattle.hj_chain.specs.Queues.{Queues, no_messages}
use Rattle.hj_chain.specs.Links.{link_at, at_port, incoming}
use Rattle.hj_chain.specs.Reports.{queue_at}
use Rattle.hj_chain.specs.Chain.{ChainState, Action, admit_cause, capacity, cause, cause_of, closing_cause, full_cause, or_empty}
use Rattle.hj_chain.specs.Progress.{IsDone, EnabledActor}
use Rattle.hj_chain.specs.Reached.{Reached}
use Rattle.hj_chain.proofs.Awaited.{one, outstanding_of}
use Rattle.hj_chain.proofs.Counts.{count}
use Rattle.hj_chain.proofs.Doing.{Doing, inquires, admits, shuts, receives, works, gathers, deed}
use Rattle.hj_chain.proofs.OwedCloses.{unhandled, owes-close_left, owes-close_right, owes-to_core_left, owes-to_core_right}
use Rattle.hj_chain.proofs.OwedEnds.{owes-end_left, owes-end_right}
use Rattle.hj_chain.proofs.OwedRows.{owes-row_left, owes-row_right, owes-expiry_left, owes-expiry_right, owes-quiet_left, owes-quiet_right}
use Rattle.hj_chain.proofs.Owing.{Owes, under_way}
use Rattle.hj_chain.proofs.Shape.{shape, some_core, links-length}
use Rattle.hj_chain.proofs.Weighing.{Weights, load-nothing}
use Rattle.hj_chain.proofs.OnlyCloses.{none_to_come}

-- each of so many, or else something else
all_or : (A : ℕ → Type 0) (B : Type 0) (m : ℕ) → ((k : ℕ) → k < m → A k ⊎ B) → ((k : ℕ) → k < m → A k) ⊎ B
all_or A B zero each = inl (λ k low. absurd (omega (arith, low)))
all_or A B (suc m) each = elim (all_or A B m (λ k low. each k (omega (arith, low)))) [
  | inl all ↦ elim (each m (omega arith)) [
    | inl last ↦ inl (λ k low. elim (eqb_tells k m) [ inl w ↦ subst A (sym w.1) last | inr w ↦ all k (omega (arith, low, w.1)) ])
    | inr other ↦ inr other
  ]
  | inr other ↦ inr other
]

empty_or : {X : Type 0} (xs : List X) → (xs ≡ []) ⊎ ((x : X) × (rest : List X) × (xs ≡ x ∷ rest))
empty_or [] = inl refl
empty_or (x ∷ xs) = inr (x, xs, refl)

sent_or_not : (b : Bool) → (b ≡ true) ⊎ (b ≡ false)
sent_or_not true = inl refl
sent_or_not false = inr refl

-- the driver's put
abbrev pub is_put : Actor → Bool
is_put Admit = true
is_put actor = false

-- an enabled actor other than the driver's put
pub record OtherActor {P : Type 0} (chain : ChainState P) : Type 0 where
  pub actor : Actor
  pub enabled : cause chain actor ≡ None
  pub other : is_put actor ≡ false

-- No message is under way, and no report waits.
pub record Idle {P : Type 0} (n : ℕ) (chain : ChainState P) : Type 0 where
  pub rightwards : (k : ℕ) → k ≤ n → (link_at chain.links k).rightwards ≡ []
  pub leftwards : (k : ℕ) → k ≤ n → (link_at chain.links k).leftwards ≡ []
  pub reports : (k : ℕ) → k < n → queue_at chain.reports k ≡ []

-- an arrival waits for its row or its end mark
waits-some : (taken : Option Departure) → 1 ≤ one (not (is_taken Row taken)) + one (not (is_taken End taken))
waits-some None = omega arith
waits-some (Some Row) = omega arith
waits-some (Some End) = omega arith

no_arrivals : (arrivals : List OutstandingArrival) → ((i : ℕ) → count (waits_for i Row) arrivals ≡ 0) → ((i : ℕ) → count (waits_for i End) arrivals ≡ 0) → arrivals ≡ []
no_arrivals [] rows ends = refl
no_arrivals (a ∷ later) rows ends = absurd (omega (
  arith,
  rows a.no.0,
  ends a.no.0,
  ap (λ b. one (b && not (is_taken Row a.taken))) (eq-eqb a.no.0 a.no.0 refl),
  ap (λ b. one (b && not (is_taken End a.taken))) (eq-eqb a.no.0 a.no.0 refl),
  waits-some a.taken,
))

none_left : (numbers : List EventNo) → ((i : ℕ) → outstanding_of i numbers ≡ 0) → numbers ≡ []
none_left [] each = refl
none_left (of ∷ later) each = absurd (omega (arith, each of.0, ap one (eq-eqb of.0 of.0 refl)))

both_taken : (closes : Closes) → is_sent closes ≡ true → one (awaits_close Left closes) ≡ 0 → one (awaits_close Right closes) ≡ 0 → IsTrue (is_finished closes)
both_taken Unsent sent left right = absurd (cc)
both_taken (Sent true true) sent left right = refl
both_taken (Sent false end) sent left right = absurd (omega (arith, left))
both_taken (Sent true false) sent left right = absurd (omega (arith, right))

pub finished-sent : (closes : Closes) → IsTrue (is_finished closes) → is_sent closes ≡ true
finished-sent Unsent finished = absurd (cc)
finished-sent (Sent left right) finished = refl

was_handled : (sent handled : Bool) → sent ≡ true → unhandled sent handled ≡ 0 → IsTrue handled
was_handled true true is none = refl
was_handled true false is none = absurd (omega (arith, none))
was_handled false handled is none = absurd (cc)

-- A driver with nothing outstanding.
record Free (driver : DriverState) : Type 0 where
  left_arrivals : driver.left_arrivals ≡ []
  left_expiries : driver.left_expiries ≡ []
  right_arrivals : driver.right_arrivals ≡ []
  right_expiries : driver.right_expiries ≡ []
  left_quiets : driver.left_quiets ≡ []
  right_quiets : driver.right_quiets ≡ []

none_outstanding : (driver : DriverState) → Free driver → count_of driver ≡ 0
none_outstanding driver free = omega (arith, ap length free.left_arrivals, ap length free.left_expiries, ap length free.right_arrivals, ap length free.right_expiries, ap length free.left_quiets, ap length free.right_quiets)

module _ {P : Type 0} (driver : DriverState) (free : Free driver) (unsent : is_sent driver.closes ≡ false) (some : 1 ≤ driver.flight) where
  no_row : (event : Event P) → row_cause event driver ≡ None
  no_row (Arrive at side row) = refl
  no_row (Quiet at side) = refl
  no_row (Expire at Left of) = ap (λ arrivals. cond (list_any (waits_for of.0 Row) arrivals) (Some (NotMarked of)) None) free.left_arrivals
  no_row (Expire at Right of) = ap (λ arrivals. cond (list_any (waits_for of.0 Row) arrivals) (Some (NotMarked of)) None) free.right_arrivals

  -- puts the next event, or the closes
  goes_on : (next : Option (Given P)) → admit_cause driver next ≡ None
  goes_on None = refl
  goes_on (Some (given.Event event)) =
      ap (λ b. option_map Waits (cond b (Some Closed) (cond (count_of driver == driver.flight) (Some (Flight (count_of driver))) (row_cause event driver)))) unsent
      ∙ ap (λ b. option_map Waits (cond b (Some (Flight (count_of driver))) (row_cause event driver))) (ne_eqb (count_of driver) driver.flight (λ same. omega (arith, same, some, none_outstanding driver free)))
      ∙ ap (option_map Waits) (no_row event)
  goes_on (Some given.Stop) =
      ap (λ b. closing_cause (cond b answer.Already (cond (count_of driver == 0) answer.Send (answer.Wait (count_of driver))))) unsent
      ∙ ap (λ b. closing_cause (cond b answer.Send (answer.Wait (count_of driver)))) (eq-eqb (count_of driver) 0 (none_outstanding driver free))

module _ {P : Type 0} (matches : P → P → Bool) (n most : ℕ) {schedule : List Actor} {events : List (Event P)} {chain : ChainState P} (reached : Reached matches n most schedule events chain) where
  lower : (k : ℕ) → k < n → nat_lt k (length chain.cores) ≡ true
  lower k low = lt-ltb k (length chain.cores) (omega (arith, low, (shape reached).cores))

  -- an actor whose own cause isn't there
  free-actor : (actor : Actor) → cause_of chain actor ≡ None → EnabledActor chain
  free-actor actor none = record { actor = actor; enabled = ap (λ b. cond b (Some Over) (cause_of chain actor)) (shape reached).going ∙ none }

  free-other : (actor : Actor) → is_put actor ≡ false → cause_of chain actor ≡ None → OtherActor chain
  free-other actor other none = record { actor = actor; enabled = ap (λ b. cond b (Some Over) (cause_of chain actor)) (shape reached).going ∙ none; other = other }

  collected_or : (k : ℕ) → k < n → (queue_at chain.reports k ≡ []) ⊎ OtherActor chain
  collected_or k low = elim (empty_or (queue_at chain.reports k)) [
    | inl none ↦ inl none
    | inr w ↦ inr (free-other (Collect (record { 0 = k })) refl (ap (λ b. cond b (or_empty (queue_at chain.reports k) None) (Some NoSuchCore)) (lower k low) ∙ ap (λ queue. or_empty queue None) w.2))
  ]

  handled_or : ((k : ℕ) → k < n → queue_at chain.reports k ≡ []) → (end : Side) (k : ℕ) → k < n → (incoming end k chain.links ≡ []) ⊎ OtherActor chain
  handled_or collected end k low =
      let room : (length (queue_at chain.reports k) == capacity chain.driver.flight) ≡ false = ne_eqb _ _ (λ same. omega (arith, same, ap length (collected k low))) in
      elim (empty_or (incoming end k chain.links)) [
        | inl none ↦ inl none
        | inr w ↦ inr (free-other (Core (record { 0 = k }) end) refl (
            ap (λ b. cond b (or_empty (incoming end k chain.links) (full_cause chain k)) (Some NoSuchCore)) (lower k low)
            ∙ ap (λ queue. or_empty queue (full_cause chain k)) w.2
            ∙ ap (λ b. cond b (Some ReportsFull) None) room))
      ]

  taken_or : (port : Side) → (at_port port (length chain.cores) chain.links ≡ []) ⊎ OtherActor chain
  taken_or Left = elim (empty_or (at_port Left (length chain.cores) chain.links)) [ inl none ↦ inl none | inr w ↦ inr (free-other PortLeft refl (ap (λ queue. or_empty queue None) w.2)) ]
  taken_or Right = elim (empty_or (at_port Right (length chain.cores) chain.links)) [ inl none ↦ inl none | inr w ↦ inr (free-other PortRight refl (ap (λ queue. or_empty queue None) w.2)) ]

  nothing_right : ((k : ℕ) → k < n → incoming Left k chain.links ≡ []) → at_port Right (length chain.cores) chain.links ≡ [] → (k : ℕ) → k ≤ n → (link_at chain.links k).rightwards ≡ []
  nothing_right inner last k within = elim (eqb_tells k n) [
    | inl w ↦ ap (λ j. (link_at chain.links j).rightwards) (w.1 ∙ sym (shape reached).cores) ∙ last
    | inr w ↦ inner k (omega (arith, within, w.1))
  ]

  nothing_left : ((k : ℕ) → k < n → incoming Right k chain.links ≡ []) → at_port Left (length chain.cores) chain.links ≡ [] → (k : ℕ) → k ≤ n → (link_at chain.links k).leftwards ≡ []
  nothing_left inner first zero within = first
  nothing_left inner first (suc k) within = ap (λ j. (link_at chain.links j).leftwards) (sym (add-one k)) ∙ inner k (omega (arith, within))

  pub idle_or : Idle n chain ⊎ OtherActor chain
  idle_or = elim (all_or (λ k. queue_at chain.reports k ≡ []) (OtherActor chain) n collected_or) [
    | inr goes ↦ inr goes
    | inl collected ↦ elim (all_or (λ k. incoming Left k chain.links ≡ []) (OtherActor chain) n (handled_or collected Left)) [
      | inr goes ↦ inr goes
      | inl rights ↦ elim (all_or (λ k. incoming Right k chain.links ≡ []) (OtherActor chain) n (handled_or collected Right)) [
        | inr goes ↦ inr goes
        | inl lefts ↦ elim (taken_or Left) [
          | inr goes ↦ inr goes
          | inl first ↦ elim (taken_or Right) [
            | inr goes ↦ inr goes
            | inl last ↦ inl (record { rightwards = nothing_right rights last; leftwards = nothing_left lefts first; reports = collected })
          ]
        ]
      ]
    ]
  ]

  module _ (idle : Idle n chain) where
    all_links : length chain.links ≡ n + 1
    all_links = links-length n most chain (shape reached)

    -- nothing is awaited
    none_owed : (weights : Weights (Msg P)) (owed : DriverState → List (State P) → ℕ) → Owes n weights owed → owed chain.driver chain.cores ≡ 0
    none_owed weights owed owes = omega (
      arith,
      under_way weights owed matches n most owes reached,
      load-nothing weights chain.links (λ k low. idle.rightwards k (omega (arith, low, all_links))) (λ k low. idle.leftwards k (omega (arith, low, all_links))),
    )

    free : Free chain.driver
    free = record {
      left_arrivals = no_arrivals chain.driver.left_arrivals (λ i. none_owed _ _ (owes-row_left P n i)) (λ i. none_owed _ _ (owes-end_left P n i (some_core reached)));
      left_expiries = none_left chain.driver.left_expiries (λ i. none_owed _ _ (owes-expiry_left P n i));
      right_arrivals = no_arrivals chain.driver.right_arrivals (λ i. none_owed _ _ (owes-row_right P n i)) (λ i. none_owed _ _ (owes-end_right P n i (some_core reached)));
      right_expiries = none_left chain.driver.right_expiries (λ i. none_owed _ _ (owes-expiry_right P n i));
      left_quiets = none_left chain.driver.left_quiets (λ i. none_owed _ _ (owes-quiet_left P n i));
      right_quiets = none_left chain.driver.right_quiets (λ i. none_owed _ _ (owes-quiet_right P n i));
    }

    -- once the closes were put, they were handled everywhere
    pub done : is_sent chain.driver.closes ≡ true → IsDone chain
    done sent = record {
      finished = both_taken chain.driver.closes sent (none_owed _ _ (owes-close_left P n)) (none_owed _ _ (owes-close_right P n));
      closed = All-from_get_or (λ (state : State P). IsTrue state.closed_left × IsTrue state.closed_right) chain.cores empty_state (λ k low.
          let here : k < n = omega (arith, low, (shape reached).cores) in
          (was_handled _ _ sent (none_owed _ _ (owes-to_core_left P n k here)), was_handled _ _ sent (none_owed _ _ (owes-to_core_right P n k here))));
      nothing_under_way = All-from_get_or (λ (link : Queues (Msg P)). (link.rightwards ≡ []) × (link.leftwards ≡ [])) chain.links (no_messages 0) (λ k low.
          let within : k ≤ n = omega (arith, low, all_links) in
          (idle.rightwards k within, idle.leftwards k within));
      all_collected = All-from_get_or (λ (reports : List (Report P)). reports ≡ []) chain.reports [] (λ k low. idle.reports k (omega (arith, low, (shape reached).reports)));
    }

    idle-goes_on : 1 ≤ most → IsDone chain ⊎ EnabledActor chain
    idle-goes_on some = elim (sent_or_not (is_sent chain.driver.closes)) [
      | inl sent ↦ inl (done sent)
      | inr unsent ↦ inr (free-actor Admit (goes_on chain.driver free unsent (omega (arith, some, (shape reached).flight)) chain.next))
    ]

  pub done_or_enabled : 1 ≤ most → IsDone chain ⊎ EnabledActor chain
  done_or_enabled some = elim idle_or [ inl idle ↦ idle-goes_on idle some | inr goes ↦ inr (record { actor = goes.actor; enabled = goes.enabled }) ]

  pub stuck_is_done : 1 ≤ most → ((actor : Actor) → cause chain actor ≢ None) → IsDone chain
  stuck_is_done some none = elim (done_or_enabled some) [ inl done ↦ done | inr goes ↦ absurd (none goes.actor goes.enabled) ]

  nothing_to_do : IsDone chain → (action : Action P) → Doing chain action → ⊥
  nothing_to_do done action (inquires is) = let stop = none_to_come matches n most reached (finished-sent chain.driver.closes done.finished) in cc
  nothing_to_do done action (admits event is free) = true≢false (sym (finished-sent chain.driver.closes done.finished) ∙ (no_cause event chain.driver free).unsent)
  nothing_to_do done action (shuts is free) = true≢false (sym (finished-sent chain.driver.closes done.finished) ∙ (may_close chain.driver free).0)
  nothing_to_do done action (receives Left message rest is) = let none = (done.nothing_under_way 0 (no_messages 0) (omega (arith, links-length n most chain (shape reached)))).1 in cc
  nothing_to_do done action (receives Right message rest is) = let none = (done.nothing_under_way (length chain.cores) (no_messages 0) (omega (arith, links-length n most chain (shape reached), (shape reached).cores))).0 in cc
  nothing_to_do done action (works place Left message rest low is room) = let none = (done.nothing_under_way place (no_messages 0) (omega (arith, low, links-length n most chain (shape reached), (shape reached).cores))).0 in cc
  nothing_to_do done action (works place Right message rest low is room) = let none = (done.nothing_under_way (place + 1) (no_messages 0) (omega (arith, low, links-length n most chain (shape reached), (shape reached).cores))).1 in cc
  nothing_to_do done action (gathers place report rest low is) = let none = done.all_collected place [] (omega (arith, low, (shape reached).reports, (shape reached).cores)) in cc

  pub done_is_stuck : IsDone chain → (actor : Actor) → cause chain actor ≢ None
  done_is_stuck done actor none = let did = deed chain actor (shape reached).going none in nothing_to_do done did.action did.doing
