-- Where a chain is done, the run that its steps give is complete: what the closes did to each core shows that its end was reported.
use Rattle.std.proofs.Common.{◌≡◌, ℕ, ◌<◌, ◌⊎◌, inl, inr, not, ◌&&◌, Bool, true, false, cond, List, [], ◌∷◌, ◌++◌, Some, None, Option, Contains, IsTrue, refl, ap, sym, ◌∙◌, subst, arith, append-nil}
use Rattle.std.specs.List.{flat_map, fold}
use Rattle.std.specs.Option.{option_to_list}
use Rattle.std.proofs.lemmas.List.Elements.{Contains-append_right}
use Rattle.hj_base.specs.declared.numbers.Side.TheVariants.{Left, Right}
use Rattle.hj_base.specs.Journals.{puts, takes}
use Rattle.hj_msg.specs.declared.event.Event.{Event}
use Rattle.hj_msg.specs.declared.message.Msg.{Msg}
use Rattle.hj_msg.specs.declared.message.Msg.TheVariants.{CloseL, CloseR}
use Rattle.hj_msg.specs.declared.message.Report.{Report}
use Rattle.hj_msg.specs.declared.message.Report.TheVariants.{Ended}
use Rattle.hj_msg.specs.Core as core
use Rattle.hj_msg.specs.Core.{State, empty_state}
use Rattle.hj_msg.specs.Event.{IsWellFormed}
use Rattle.hj_msg.specs.Driver.{DriverTurn, receipt, closing, admitted, took}
use Rattle.hj_msg.specs.Run.{IsRun, IsComplete}
use Rattle.hj_msg.specs.Turns.{Turn, AreWhole, at_reports}
use Rattle.hj_msg.proofs.Members.{Contains-head, Contains-cons}
use Rattle.hj_driver.specs.Driver.{is_finished}
use Rattle.hj_driver.specs.StandsFor.{closes_of, is_CloseL, is_CloseR}
use Rattle.hj_chain.specs.declared.actor.Actor.{Actor}
use Rattle.hj_chain.specs.Reports.{queue_at}
use Rattle.hj_chain.specs.Chain.{ChainState}
use Rattle.hj_chain.specs.Progress.{IsDone}
use Rattle.hj_chain.specs.Reached.{Reached, history_of, run_of}
use Rattle.hj_msg.specs.Feed.{event_in}
use Rattle.hj_chain.proofs.Driving.{driven, turns_of}
use Rattle.hj_chain.proofs.Journals.{puts-append, puts-puts}
use Rattle.hj_chain.proofs.Projection.{is_run, log_is, uncut}
use Rattle.hj_chain.proofs.Shape.{shape}
use Rattle.hj_chain.proofs.Stuck.{finished-sent}
use Rattle.hj_chain.proofs.Turning.{messages, turned}
use Rattle.hj_msg.specs.declared.feed.Given.{Given}

-- both closes were handled
abbrev pub has_closed : {P : Type 0} → State P → Bool
has_closed state = state.closed_left && state.closed_right

-- the second of the closes is reported
second : (P : Type 0) (this other : Bool) → other ≡ true → (this ≡ true) ⊎ (cond {A = Option (Report P)} (not this && other) (Some Ended) None ≡ Some Ended)
second P true other is = inl refl
second P false true is = inr refl
second P false false is = absurd (cc)

both-last : (left right : Bool) → (left && true) ≡ true → left ≡ true
both-last true right is = refl
both-last false right is = absurd (cc)

both : (left right : Bool) → left ≡ true → right ≡ true → (left && right) ≡ true
both true true left right = refl
both true false left right = absurd (cc)
both false right_too left right = absurd (cc)

pub ended-now : {P : Type 0} (matches : P → P → Bool) (place n : ℕ) (state : State P) (message : Msg P) → has_closed (core.after place n state message) ≡ true
    → (has_closed state ≡ true) ⊎ (core.report matches state message ≡ Some Ended)
ended-now {P} matches place n state CloseL closed = elim (second P state.closed_left state.closed_right closed) [
  | inl left ↦ inl (both state.closed_left state.closed_right left closed)
  | inr ended ↦ inr ended
]
ended-now {P} matches place n state CloseR closed = elim (second P state.closed_right state.closed_left (both-last state.closed_left state.closed_right closed)) [
  | inl right ↦ inl (both state.closed_left state.closed_right (both-last state.closed_left state.closed_right closed) right)
  | inr ended ↦ inr ended
]
ended-now matches place n state message closed = inl closed

ended-reported : {P : Type 0} (matches : P → P → Bool) (place n : ℕ) (state : State P) (turns : List (Turn P)) → AreWhole matches place n state turns
    → has_closed (fold (core.after place n) state (messages turns)) ≡ true → (has_closed state ≡ true) ⊎ Contains (puts (flat_map at_reports turns)) Ended
ended-reported matches place n state [] whole closed = inl closed
ended-reported {P} matches place n state (turn ∷ turns) whole closed =
    let are : puts (flat_map at_reports (turn ∷ turns)) ≡ turn.reports ++ puts (flat_map at_reports turns) =
    puts-append (at_reports turn) (flat_map at_reports turns) ∙ ap (λ rs. rs ++ puts (flat_map at_reports turns)) (puts-puts turn.number turn.reports) in
    elim (ended-reported matches place n (core.after place n state turn.message) turns whole.1 closed) [
      | inr later ↦ inr (subst (λ (rs : List (Report P)). Contains rs Ended) (sym are) (Contains-append_right turn.reports (puts (flat_map at_reports turns)) Ended later))
      | inl closed_now ↦ elim (ended-now matches place n state turn.message closed_now) [
        | inl before ↦ inl before
        | inr ended ↦
            let now : turn.reports ≡ Ended ∷ [] = whole.0.reports ∙ ap option_to_list ended in
            inr (subst (λ (rs : List (Report P)). Contains rs Ended) (ap (λ rs. rs ++ puts (flat_map at_reports turns)) (sym now) ∙ sym are) (Contains-head Ended (puts (flat_map at_reports turns))))
      ]
    ]

-- the closes that the driver took stand in its log
close_left-taken : {P : Type 0} (log : List (DriverTurn P)) → took Right is_CloseL log ≡ true → Contains log (receipt Right CloseL)
close_left-taken [] is = absurd (cc)
close_left-taken (receipt Right CloseL ∷ later) is = Contains-head _ later
close_left-taken (turn ∷ later) is = Contains-cons turn _ later (close_left-taken later is)

close_right-taken : {P : Type 0} (log : List (DriverTurn P)) → took Left is_CloseR log ≡ true → Contains log (receipt Left CloseR)
close_right-taken [] is = absurd (cc)
close_right-taken (receipt Left CloseR ∷ later) is = Contains-head _ later
close_right-taken (turn ∷ later) is = Contains-cons turn _ later (close_right-taken later is)

pub both_taken : {P : Type 0} (log : List (DriverTurn P)) → IsTrue (is_finished (closes_of log)) → Contains log (receipt Right CloseL) × Contains log (receipt Left CloseR)
both_taken [] finished = absurd (cc)
both_taken {P} (closing ∷ later) finished =
    let parts = both-parts (took Right is_CloseL later) (took Left is_CloseR later) finished in
    (Contains-cons closing _ later (close_left-taken later parts.0), Contains-cons closing _ later (close_right-taken later parts.1))
  where
    both-parts : (left right : Bool) → (left && right) ≡ true → (left ≡ true) × (right ≡ true)
    both-parts true right is = (refl, is)
    both-parts false right is = absurd (cc)
both_taken (turn ∷ later) finished = let taken = both_taken later finished in (Contains-cons turn _ later taken.0, Contains-cons turn _ later taken.1)

module _ {P : Type 0} (matches : P → P → Bool) (n most : ℕ) {schedule : List Actor} {events : List (Event P)} {chain : ChainState P} (reached : Reached matches n most schedule events chain) (well : IsWellFormed events) where
  -- the end of each core was collected
  pub ended : IsDone chain → (k : ℕ) → k < n → Contains (takes ((history_of reached).collected k)) Ended
  ended done k low =
      let at = turned matches n most reached k low in
      let closed = done.closed k empty_state (omega (arith, low, (shape reached).cores)) in
      let empty : queue_at chain.reports k ≡ [] = done.all_collected k [] (omega (arith, low, (shape reached).reports)) in
      let all : puts (flat_map at_reports ((history_of reached).turns k)) ≡ takes ((history_of reached).collected k) =
      at.reports ∙ ap (λ rs. takes ((history_of reached).collected k) ++ rs) empty ∙ append-nil _ in
      elim (ended-reported matches k n empty_state ((history_of reached).turns k) at.whole (ap has_closed (sym at.keeps) ∙ both _ _ closed.0 closed.1)) [
        | inl never ↦ absurd (cc)
        | inr has ↦ subst (λ (rs : List (Report P)). Contains rs Ended) all has
      ]

  pub done_is_complete : IsDone chain → (is : IsRun (run_of reached)) × IsComplete is
  done_is_complete done =
      let d = driven matches n most reached well in
      let turns : turns_of (history_of reached).log ≡ turns_of (is_run matches n most reached well).log = ap turns_of (sym (log_is matches n most reached well)) in
      let closes = both_taken (turns_of (history_of reached).log) (ap is_finished (sym d.stands.closes) ∙ done.finished) in
      let all : admitted (turns_of (history_of reached).log) ≡ events = sym (d.events_are ∙ ap (λ (g : Option (Given P)). admitted (turns_of (history_of reached).log) ++ event_in g) (d.last (finished-sent chain.driver.closes done.finished)) ∙ append-nil _) in (
        is_run matches n most reached well,
        record {
          uncut = λ k low. uncut matches n most reached well k;
          all_put = ap admitted (sym turns) ∙ all;
          close_left = subst (λ (log : List (DriverTurn P)). Contains log (receipt Right CloseL)) turns closes.0;
          close_right = subst (λ (log : List (DriverTurn P)). Contains log (receipt Left CloseR)) turns closes.1;
          ended = ended done;
        },
      )
