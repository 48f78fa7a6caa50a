-- A core's report of its end is its last one, and the only one of its kind.
use Rattle.std.proofs.Common.{◌≡◌, ℕ, suc, ◌+◌, ◌<◌, ◌≤◌, ◌⊎◌, inl, inr, not, ◌&&◌, Bool, true, false, cond, List, [], ◌∷◌, ◌++◌, length, drop, Some, None, Option, refl, ap, sym, ◌∙◌, subst, arith, append-nil}
use Rattle.std.specs.List.{flat_map, fold}
use Rattle.std.specs.Option.{option_to_list}
use Rattle.std.proofs.lemmas.Bool.Decides.{eqb_tells}
use Rattle.std.proofs.lemmas.List.{get_or-replicate}
use Rattle.hj_base.specs.declared.numbers.Side.{Side}
use Rattle.hj_base.specs.declared.numbers.Side.TheVariants.{Left, Right}
use Rattle.hj_base.specs.Journals.{puts}
use Rattle.hj_msg.specs.declared.event.Event.{Event}
use Rattle.hj_msg.specs.declared.message.Msg.{Msg}
use Rattle.hj_msg.specs.declared.message.Msg.TheVariants.{CloseL, CloseR}
use Rattle.hj_msg.specs.declared.message.Report.{Report}
use Rattle.hj_msg.specs.declared.message.Report.TheVariants.{Handled, Quiet, Ended, NoMemory}
use Rattle.hj_msg.specs.Core as core
use Rattle.hj_msg.specs.Core.{State, empty_state}
use Rattle.hj_msg.specs.Event.{IsWellFormed}
use Rattle.hj_msg.specs.Turns.{Turn, AreWhole, at_reports}
use Rattle.hj_msg.proofs.Numbered.{front_is_well_formed}
use Rattle.hj_driver.specs.Driver.{is_sent}
use Rattle.hj_chain.specs.declared.actor.Actor.{Actor}
use Rattle.hj_chain.specs.Links.{changed_at, incoming}
use Rattle.hj_chain.specs.Reports.{queue_at}
use Rattle.hj_chain.specs.Chain.{FeedAnswer, ChainState, Action, handles, after_action}
use Rattle.hj_chain.specs.Reached.{Reached, begins, steps, asked}
use Rattle.hj_chain.proofs.Complete.{has_closed, ended-now}
use Rattle.hj_chain.proofs.Counts.{count, count-append}
use Rattle.hj_chain.proofs.Doing.{Doing, Deed, deed, inquires, admits, shuts, receives, works, gathers}
use Rattle.hj_chain.proofs.Journals.{puts-append, puts-puts}
use Rattle.hj_chain.proofs.MessageKinds.{a_CloseL, a_CloseR}
use Rattle.hj_chain.proofs.OnlyCloses.{in_front, closes_right, closes_left, closed-sent}
use Rattle.hj_chain.proofs.Places.{get_or-changed_at, get_or-changed_other}
use Rattle.hj_chain.proofs.Shape.{shape}
use Rattle.hj_chain.proofs.Turning.{messages, state_at}

abbrev pub is_end : {P : Type 0} → Report P → Bool
is_end Ended = true
is_end (Handled at side row partners) = false
is_end (Quiet at side) = false
is_end NoMemory = false

-- a core reports its end once, and has then handled both closes
once-left : (P : Type 0) (left right : Bool) → count is_end (option_to_list (cond {A = Option (Report P)} (not left && right) (Some Ended) None)) + cond (not (true && right)) 1 0 ≤ cond (not (left && right)) 1 0
once-left P true true = omega arith
once-left P true false = omega arith
once-left P false true = omega arith
once-left P false false = omega arith

once-right : (P : Type 0) (left right : Bool) → count is_end (option_to_list (cond {A = Option (Report P)} (not right && left) (Some Ended) None)) + cond (not (left && true)) 1 0 ≤ cond (not (left && right)) 1 0
once-right P true true = omega arith
once-right P true false = omega arith
once-right P false true = omega arith
once-right P false false = omega arith

once : {P : Type 0} (matches : P → P → Bool) (place n : ℕ) (state : State P) (message : Msg P)
    → count is_end (option_to_list (core.report matches state message)) + cond (not (has_closed (core.after place n state message))) 1 0 ≤ cond (not (has_closed state)) 1 0
once {P} matches place n state CloseL = once-left P state.closed_left state.closed_right
once {P} matches place n state CloseR = once-right P state.closed_left state.closed_right
once matches place n state message = omega arith

pub one_end : {P : Type 0} (matches : P → P → Bool) (place n : ℕ) (state : State P) (turns : List (Turn P)) → AreWhole matches place n state turns
    → count is_end (puts (flat_map at_reports turns)) + cond (not (has_closed (fold (core.after place n) state (messages turns)))) 1 0 ≤ cond (not (has_closed state)) 1 0
one_end matches place n state [] whole = omega arith
one_end matches place n state (turn ∷ turns) whole =
    omega (
      arith,
      one_end matches place n (core.after place n state turn.message) turns whole.1,
      once matches place n state turn.message,
      ap (count is_end) (puts-append (at_reports turn) (flat_map at_reports turns) ∙ ap (λ rs. rs ++ puts (flat_map at_reports turns)) (puts-puts turn.number turn.reports ∙ whole.0.reports)),
      count-append is_end (option_to_list (core.report matches state turn.message)) (puts (flat_map at_reports turns)),
    )

-- none waits, or the last one that waits is the core's end
abbrev pub LastEnds : {P : Type 0} → List (Report P) → Type 0
LastEnds {P} queue = (queue ≡ []) ⊎ ((front : List (Report P)) × (queue ≡ front ++ Ended ∷ []))

fewer-last : {P : Type 0} (queue : List (Report P)) → LastEnds queue → LastEnds (drop 1 queue)
fewer-last {P} queue last = elim last [
  | inl none ↦ inl (ap (drop 1) none)
  | inr w ↦ subst LastEnds (ap (drop 1) (sym w.1)) (without w.0)
]
  where
    without : (front : List (Report P)) → LastEnds (drop 1 (front ++ Ended ∷ []))
    without [] = inl refl
    without (x ∷ front) = inr (front, refl)

-- a core that handled both closes reports no other one
no_more : {P : Type 0} (matches : P → P → Bool) (state : State P) (message : Msg P) → has_closed state ≡ true → (a_CloseL message ≡ true) ⊎ (a_CloseR message ≡ true) → core.report matches state message ≡ None
no_more {P} matches state CloseL closed close = nothing state.closed_left state.closed_right closed
  where
    nothing : (left right : Bool) → (left && right) ≡ true → cond {A = Option (Report P)} (not left && right) (Some Ended) None ≡ None
    nothing true right is = refl
    nothing false right is = absurd (cc)
no_more {P} matches state CloseR closed close = nothing state.closed_left state.closed_right closed
  where
    nothing : (left right : Bool) → (left && right) ≡ true → cond {A = Option (Report P)} (not right && left) (Some Ended) None ≡ None
    nothing true true is = refl
    nothing true false is = absurd (cc)
    nothing false right is = absurd (cc)
no_more matches state message closed close = elim close [ inl left ↦ absurd (cc) | inr right ↦ absurd (cc) ]

left-too : (left right : Bool) → (left && right) ≡ true → left ≡ true
left-too true right is = refl
left-too false right is = absurd (cc)

module _ {P : Type 0} (matches : P → P → Bool) (m most : ℕ) where
  -- the message that a core handles once the closes were put
  a_close : {schedule : List Actor} {events : List (Event P)} {chain : ChainState P} → Reached matches (suc m) most schedule events chain → IsWellFormed events → is_sent chain.driver.closes ≡ true
      → (end : Side) (place : ℕ) (message : Msg P) (rest : List (Msg P)) → place < suc m → incoming end place chain.links ≡ message ∷ rest → (a_CloseL message ≡ true) ⊎ (a_CloseR message ≡ true)
  a_close reached well sent Left place message rest low is =
      inl (in_front a_CloseL message rest (omega (arith, ap length is, ap (count a_CloseL) is, closes_right matches m most reached well sent place (omega (arith, low)))))
  a_close {chain = chain} reached well sent Right place message rest low is =
      inr (in_front a_CloseR message rest (omega (arith, ap length is, ap (count a_CloseR) is, closes_left matches m most reached well sent (place + 1) (omega (arith, low)))))

  -- what one action leaves of the reports of core k
  kept : {schedule : List Actor} {events : List (Event P)} (chain : ChainState P) → Reached matches (suc m) most schedule events chain → IsWellFormed events → (answer : FeedAnswer P) (action : Action P) → Doing chain action
      → (k : ℕ) → k < suc m → (has_closed (state_at chain k) ≡ true → LastEnds (queue_at chain.reports k))
      → has_closed (state_at (after_action matches chain (Some action) answer) k) ≡ true → LastEnds (queue_at (after_action matches chain (Some action) answer).reports k)
  kept chain reached well answer action (admits event is free) k low old closed = old closed
  kept chain reached well answer action (inquires is) k low old closed = old closed
  kept chain reached well answer action (shuts is free) k low old closed = old closed
  kept chain reached well answer action (receives port message rest is) k low old closed = old closed
  kept chain reached well answer action (works place end message rest here is room) k low old closed =
      let n = length chain.cores in
      let move : State P → State P = λ state. core.after place n state message in
      let told = option_to_list (core.report matches (state_at chain place) message) in
      let add : List (Report P) → List (Report P) = λ queue. queue ++ told in
      elim (eqb_tells k place) [
        | inr w ↦
            let same : state_at (after_action matches chain (Some (handles place end message)) answer) k ≡ state_at chain k = get_or-changed_other place k move chain.cores empty_state (λ e. w.1 (sym e)) in
            subst LastEnds (sym (get_or-changed_other place k add chain.reports [] (λ e. w.1 (sym e)))) (old (ap has_closed (sym same) ∙ closed))
        | inl w ↦
            let in_reports : place < length chain.reports = omega (arith, here, (shape reached).reports, (shape reached).cores) in
            let queue_is : queue_at (changed_at place add chain.reports) k ≡ queue_at chain.reports k ++ told =
            ap (λ j. queue_at (changed_at place add chain.reports) j) w.1 ∙ get_or-changed_at place add chain.reports [] in_reports ∙ ap (λ j. queue_at chain.reports j ++ told) (sym w.1) in
            let state_is : state_at (after_action matches chain (Some (handles place end message)) answer) k ≡ move (state_at chain place) =
            ap (λ j. state_at (after_action matches chain (Some (handles place end message)) answer) j) w.1 ∙ get_or-changed_at place move chain.cores empty_state here in
            elim (ended-now matches place n (state_at chain place) message (ap has_closed (sym state_is) ∙ closed)) [
              | inr ended ↦ inr (queue_at chain.reports k, queue_is ∙ ap (λ o. queue_at chain.reports k ++ option_to_list o) ended)
              | inl before ↦
                  let before_k : has_closed (state_at chain k) ≡ true = ap (λ j. has_closed (state_at chain j)) w.1 ∙ before in
                  let sent = closed-sent matches m most reached well k low (left-too _ _ before_k) in
                  let none = no_more matches (state_at chain place) message before (a_close reached well sent end place message rest (omega (arith, here, (shape reached).cores)) is) in
                  subst LastEnds (sym (queue_is ∙ ap (λ o. queue_at chain.reports k ++ option_to_list o) none ∙ append-nil _)) (old before_k)
            ]
      ]
  kept chain reached well answer action (gathers place report rest here is) k low old closed = elim (eqb_tells k place) [
    | inr w ↦ subst LastEnds (sym (get_or-changed_other place k (drop 1) chain.reports [] (λ e. w.1 (sym e)))) (old closed)
    | inl w ↦
        let in_reports : place < length chain.reports = omega (arith, here, (shape reached).reports, (shape reached).cores) in
        let queue_is : queue_at (changed_at place (drop 1) chain.reports) k ≡ drop 1 (queue_at chain.reports k) =
        ap (λ j. queue_at (changed_at place (drop 1) chain.reports) j) w.1 ∙ get_or-changed_at place (drop 1) chain.reports [] in_reports ∙ ap (λ j. drop 1 (queue_at chain.reports j)) (sym w.1) in
        subst LastEnds (sym queue_is) (fewer-last (queue_at chain.reports k) (old closed))
  ]

  pub last_ends : {schedule : List Actor} {events : List (Event P)} {chain : ChainState P} → Reached matches (suc m) most schedule events chain → IsWellFormed events → (k : ℕ) → k < suc m
      → has_closed (state_at chain k) ≡ true → LastEnds (queue_at chain.reports k)
  last_ends (begins some first) well k low = λ closed. inl (get_or-replicate (suc m) k [] [] low)
  last_ends (steps schedule events chain actor answer before enabled) well k low =
      let did : Deed chain actor = deed chain actor (shape before).going enabled in
      let well_before = front_is_well_formed events (asked actor chain.next answer) well in
      subst (λ (o : Option (Action P)). has_closed (state_at (after_action matches chain o answer) k) ≡ true → LastEnds (queue_at (after_action matches chain o answer).reports k)) (sym did.is)
      (kept chain before well_before answer did.action did.doing k low (last_ends before well_before k low))
