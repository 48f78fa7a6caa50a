-- The turns of each core: it takes them from the empty state on, and what it reports waits, or was collected.
use Rattle.std.proofs.Common.{◌≡◌, ◌≢◌, ℕ, suc, ◌<◌, ◌≤◌, inl, inr, ◌==◌, Bool, cond, List, [], ◌∷◌, ◌++◌, length, map, get_or, drop, Some, None, Option, refl, ap, sym, ◌∙◌, subst, arith, append-nil, append_assoc, length-append}
use Rattle.std.specs.List.{flat_map, fold}
use Rattle.std.specs.Option.{option_to_list}
use Rattle.std.proofs.lemmas.List.{get_or-replicate, map-append}
use Rattle.std.proofs.lemmas.List.Concat.{flat_map-append}
use Rattle.hj_base.specs.declared.numbers.Side.{Side}
use Rattle.hj_base.specs.Journals.{Entry, taken, puts, takes}
use Rattle.hj_msg.specs.declared.event.Event.{Event}
use Rattle.hj_msg.specs.declared.feed.Given.{Given}
use Rattle.hj_msg.specs.declared.message.Msg.{Msg}
use Rattle.hj_msg.specs.declared.message.Report.{Report}
use Rattle.hj_msg.specs.Core as core
use Rattle.hj_msg.specs.Turns.{Turn, IsWhole, AreWhole, at_reports}
use Rattle.hj_chain.specs.declared.actor.Actor.{Actor}
use Rattle.hj_chain.specs.Links.{changed_at}
use Rattle.hj_chain.specs.Reports.{queue_at}
use Rattle.hj_chain.specs.Chain.{FeedAnswer, ChainState, Action, handles, collects, after_action, empty_chain, capacity}
use Rattle.hj_chain.specs.Reached.{Reached, StepHistory, no_history, recorded, history_of, turn_at}
use Rattle.hj_msg.specs.Feed.{event_in}
use Rattle.hj_chain.proofs.Doing.{Doing, inquires, admits, shuts, receives, works, gathers, taken_by}
use Rattle.hj_chain.proofs.Shape.{Shape}
use Rattle.hj_chain.proofs.Induction.{by_steps}
use Rattle.hj_chain.proofs.Places.{get_or-changed_at, get_or-changed_other}
use Rattle.hj_chain.proofs.Ways.{same_place}
use Rattle.hj_chain.proofs.Journals.{puts-append, takes-append, puts-entries}

-- the state of the core at a place, and the messages that turns handled
abbrev pub state_at : {P : Type 0} → ChainState P → ℕ → core.State P
state_at chain k = get_or chain.cores k core.empty_state

abbrev pub messages : {P : Type 0} → List (Turn P) → List (Msg P)
messages turns = map (λ turn. turn.message) turns

pub record TurnedAt {P : Type 0} (matches : P → P → Bool) (n most k : ℕ) (state : core.State P) (queue : List (Report P)) (turns : List (Turn P)) (receiver : List (Entry (Report P))) : Type 0 where
  pub whole : AreWhole matches k n core.empty_state turns
  pub keeps : state ≡ fold (core.after k n) core.empty_state (messages turns)
  pub reports : puts (flat_map at_reports turns) ≡ takes receiver ++ queue
  pub room : length queue ≤ capacity most

fold-push : {X A : Type 0} (f : A → X → A) (a : A) (xs : List X) (x : X) → fold f a (xs ++ x ∷ []) ≡ f (fold f a xs) x
fold-push f a [] x = refl
fold-push f a (y ∷ xs) x = fold-push f (f a y) xs x

whole-push : {P : Type 0} (matches : P → P → Bool) (k n : ℕ) (state : core.State P) (turns : List (Turn P)) (turn : Turn P) → AreWhole matches k n state turns
    → IsWhole matches k n (fold (core.after k n) state (messages turns)) turn → AreWhole matches k n state (turns ++ turn ∷ [])
whole-push matches k n state [] turn all one = (one, tt)
whole-push matches k n state (first ∷ turns) turn all one = (all.0, whole-push matches k n (core.after k n state first.message) turns turn all.1 one)

pub at_most_one : {X : Type 0} (o : Option X) → length (option_to_list o) ≤ 1
at_most_one None = omega arith
at_most_one (Some x) = omega arith

-- the same of equal values
turned-as : {P : Type 0} (matches : P → P → Bool) (n most k : ℕ) {state state' : core.State P} {queue queue' : List (Report P)} {turns turns' : List (Turn P)} {receiver receiver' : List (Entry (Report P))}
    → state' ≡ state → queue' ≡ queue → turns' ≡ turns → receiver' ≡ receiver
    → TurnedAt matches n most k state queue turns receiver → TurnedAt matches n most k state' queue' turns' receiver'
turned-as {P} matches n most k {state} {state'} {queue} {queue'} {turns} {turns'} {receiver} {receiver'} s q t r old =
    subst (λ (x : core.State P). TurnedAt matches n most k x queue' turns' receiver') (sym s)
    (subst (λ (x : List (Report P)). TurnedAt matches n most k state x turns' receiver') (sym q)
    (subst (λ (x : List (Turn P)). TurnedAt matches n most k state queue x receiver') (sym t) (subst (λ (x : List (Entry (Report P))). TurnedAt matches n most k state queue turns x) (sym r) old)))

-- one turn more
module _ {P : Type 0} (matches : P → P → Bool) (n most k number : ℕ) (end : Side) (message : Msg P) (state : core.State P) (queue : List (Report P)) (turns : List (Turn P)) (receiver : List (Entry (Report P)))
    (old : TurnedAt matches n most k state queue turns receiver) where
  abbrev reports : List (Report P)
  reports = option_to_list (core.report matches state message)

  abbrev turn : Turn P
  turn = record { number = number; end = end; message = message; to_left = (core.sends k n message).left; to_right = (core.sends k n message).right; reports = reports }

  pub turned-more : length queue < capacity most → TurnedAt matches n most k (core.after k n state message) (queue ++ reports) (turns ++ turn ∷ []) receiver
  turned-more few = record {
    whole = whole-push matches k n core.empty_state turns turn old.whole (record { left = refl; right = refl; reports = ap (λ (s : core.State P). option_to_list (core.report matches s message)) old.keeps });
    keeps =
        ap (λ (s : core.State P). core.after k n s message) old.keeps ∙ sym (fold-push (core.after k n) core.empty_state (messages turns) message)
        ∙ ap (fold (core.after k n) core.empty_state) (sym (map-append (λ (t : Turn P). t.message) turns (turn ∷ [])));
    reports =
        ap puts (flat_map-append at_reports turns (turn ∷ []) ∙ ap (λ es. flat_map at_reports turns ++ es) (append-nil (at_reports turn)))
        ∙ puts-append (flat_map at_reports turns) (at_reports turn) ∙ ap (λ rs. puts (flat_map at_reports turns) ++ rs) (puts-entries number [] reports)
        ∙ ap (λ rs. rs ++ reports) old.reports ∙ append_assoc (takes receiver) queue reports;
    room = omega (arith, few, length-append queue reports, at_most_one (core.report matches state message));
  }

-- a report is collected
module _ {P : Type 0} (matches : P → P → Bool) (n most k number : ℕ) (state : core.State P) (queue : List (Report P)) (turns : List (Turn P)) (receiver : List (Entry (Report P)))
    (old : TurnedAt matches n most k state queue turns receiver) where
  pub turned-gathered : (report : Report P) (rest : List (Report P)) → queue ≡ report ∷ rest → TurnedAt matches n most k state rest turns (receiver ++ taken number report ∷ [])
  turned-gathered report rest is =
      let more : takes (receiver ++ taken number report ∷ []) ≡ takes receiver ++ report ∷ [] = takes-append receiver (taken number report ∷ []) in
      record {
        whole = old.whole;
        keeps = old.keeps;
        reports = old.reports ∙ ap (λ rs. takes receiver ++ rs) is ∙ sym (append_assoc (takes receiver) (report ∷ []) rest) ∙ ap (λ rs. rs ++ rest) (sym more);
        room = omega (arith, old.room, ap length is);
      }

abbrev pub Turned : {P : Type 0} → (P → P → Bool) → ℕ → ℕ → ChainState P → StepHistory P → Type 0
Turned matches n most chain history = (k : ℕ) → k < n → TurnedAt matches n most k (state_at chain k) (queue_at chain.reports k) (history.turns k) (history.collected k)

module _ {P : Type 0} (matches : P → P → Bool) (most : ℕ) (chain : ChainState P) (history : StepHistory P) (number : ℕ) (answer : FeedAnswer P) where
  abbrev n : ℕ
  n = length chain.cores

  turned-handles : (place : ℕ) (end : Side) (message : Msg P) → place < n → length chain.reports ≡ n → length (queue_at chain.reports place) < capacity most → Turned matches n most chain history
      → Turned matches n most (after_action matches chain (Some (handles place end message)) answer) (recorded matches chain number (Some (handles place end message)) history)
  turned-handles place end message low reports few old k within =
      let turn = turn_at matches chain number place end message in
      let in_reports : place < length chain.reports = omega (arith, low, reports) in
      let move : core.State P → core.State P = λ s. core.after place n s message in
      let add : List (Report P) → List (Report P) = λ q. q ++ turn.reports in
      elim (same_place k place) [
        | inl w ↦
            subst (λ (j : ℕ). TurnedAt matches n most j (get_or (changed_at place move chain.cores) j core.empty_state) (queue_at (changed_at place add chain.reports) j)
            (cond (j == place) (history.turns j ++ turn ∷ []) (history.turns j)) (history.collected j)) (sym w.0)
            (turned-as matches n most place (get_or-changed_at place move chain.cores core.empty_state low) (get_or-changed_at place add chain.reports [] in_reports)
            (ap (λ j. cond (j == place) (history.turns place ++ turn ∷ []) (history.turns place)) (sym w.0) ∙ ap (λ b. cond b (history.turns place ++ turn ∷ []) (history.turns place)) w.1) refl
            (turned-more matches n most place number end message (state_at chain place) (queue_at chain.reports place) (history.turns place) (history.collected place) (old place low) few))
        | inr w ↦
            turned-as matches n most k (get_or-changed_other place k move chain.cores core.empty_state (λ same. w.0 (sym same))) (get_or-changed_other place k add chain.reports [] (λ same. w.0 (sym same)))
            (ap (λ b. cond b (history.turns k ++ turn ∷ []) (history.turns k)) w.1) refl (old k within)
      ]

  turned-collects : (place : ℕ) (report : Report P) (rest : List (Report P)) → place < n → length chain.reports ≡ n → queue_at chain.reports place ≡ report ∷ rest → Turned matches n most chain history
      → Turned matches n most (after_action matches chain (Some (collects place report)) answer) (recorded matches chain number (Some (collects place report)) history)
  turned-collects place report rest low reports is old k within =
      let in_reports : place < length chain.reports = omega (arith, low, reports) in
      let entry : Entry (Report P) = taken number report in
      elim (same_place k place) [
        | inl w ↦
            subst (λ (j : ℕ). TurnedAt matches n most j (state_at chain j) (queue_at (changed_at place (drop 1) chain.reports) j) (history.turns j)
            (cond (j == place) (history.collected j ++ entry ∷ []) (history.collected j))) (sym w.0)
            (turned-as matches n most place refl (get_or-changed_at place (drop 1) chain.reports [] in_reports ∙ ap (drop 1) is) refl
            (ap (λ j. cond (j == place) (history.collected place ++ entry ∷ []) (history.collected place)) (sym w.0) ∙ ap (λ b. cond b (history.collected place ++ entry ∷ []) (history.collected place)) w.1)
            (turned-gathered matches n most place number (state_at chain place) (queue_at chain.reports place) (history.turns place) (history.collected place) (old place low) report rest is))
        | inr w ↦
            turned-as matches n most k refl (get_or-changed_other place k (drop 1) chain.reports [] (λ same. w.0 (sym same))) refl
            (ap (λ b. cond b (history.collected k ++ entry ∷ []) (history.collected k)) w.1) (old k within)
      ]

module _ {P : Type 0} (matches : P → P → Bool) (n most : ℕ) where
  abbrev Kept : ℕ → List (Event P) → ChainState P → StepHistory P → Type 0
  Kept number events chain history = Turned matches n most chain history

  begin : (first : Given P) → Kept 0 (event_in (Some first)) (empty_chain n most first) no_history
  begin first k within =
      turned-as matches n most k (get_or-replicate n k core.empty_state core.empty_state within) (get_or-replicate n k [] [] within) refl refl
      (record { whole = tt; keeps = refl; reports = refl; room = omega arith })

  step : (number : ℕ) (events : List (Event P)) (chain : ChainState P) (history : StepHistory P) (action : Action P) (answer : FeedAnswer P)
      → Shape n most chain → Doing chain action → Kept number events chain history
      → Kept (suc number) (events ++ taken_by action answer) (after_action matches chain (Some action) answer) (recorded matches chain number (Some action) history)
  step number events chain history action answer shape (admits event is free) old = old
  step number events chain history action answer shape (inquires is) old = old
  step number events chain history action answer shape (shuts is free) old = old
  step number events chain history action answer shape (receives port message rest is) old = old
  step number events chain history action answer shape (works place end message rest low is room) old =
      let at_chain : Turned matches (length chain.cores) most chain history = subst (λ (m : ℕ). Turned matches m most chain history) (sym shape.cores) old in
      let full : capacity chain.driver.flight ≡ capacity most = ap capacity shape.flight in
      let few : length (queue_at chain.reports place) < capacity most =
      (let most_here = (at_chain place low).room in
      let other : length (queue_at chain.reports place) ≢ capacity most = λ same. room (same ∙ sym full) in
      omega (arith, most_here, other)) in
      subst (λ (m : ℕ). Turned matches m most (after_action matches chain (Some (handles place end message)) answer) (recorded matches chain number (Some (handles place end message)) history)) shape.cores
      (turned-handles matches most chain history number answer place end message low (shape.reports ∙ sym shape.cores) few at_chain)
  step number events chain history action answer shape (gathers place report rest low is) old =
      let at_chain : Turned matches (length chain.cores) most chain history = subst (λ (m : ℕ). Turned matches m most chain history) (sym shape.cores) old in
      subst (λ (m : ℕ). Turned matches m most (after_action matches chain (Some (collects place report)) answer) (recorded matches chain number (Some (collects place report)) history)) shape.cores
      (turned-collects matches most chain history number answer place report rest low (shape.reports ∙ sym shape.cores) is at_chain)

  pub turned : {schedule : List Actor} {events : List (Event P)} {chain : ChainState P} (reached : Reached matches n most schedule events chain) → Turned matches n most chain (history_of reached)
  turned reached = by_steps matches n most Kept begin step reached
