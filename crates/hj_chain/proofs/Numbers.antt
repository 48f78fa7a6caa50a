-- The numbers of the turns: each step has a greater one than the steps before it.
use Rattle.std.proofs.Common.{◌≡◌, ℕ, suc, ◌+◌, ◌-◌, ◌<◌, ◌≤◌, ◌==◌, Bool, true, false, cond, List, [], ◌∷◌, ◌++◌, length, map, Some, refl, ap, sym, ◌∙◌, subst, arith, append-nil, append_assoc}
use Rattle.std.specs.List.{All, flat_map}
use Rattle.std.specs.List.Sorted.{IsStrictlyIncreasing, IsNonDecreasing}
use Rattle.std.proofs.lemmas.List.{map-append}
use Rattle.std.proofs.lemmas.List.Concat.{flat_map-append}
use Rattle.std.proofs.lemmas.List.Elements.{All-push, All-weaker, All-nil}
use Rattle.std.proofs.lemmas.List.Kept.{AllPairs-from_increasing}
use Rattle.std.proofs.lemmas.List.Quantifiers.{all_pairs_push}
use Rattle.std.proofs.lemmas.List.Sorted.{IsNonDecreasingBy-push}
use Rattle.hj_base.specs.Journals.{Entry, put, taken, IsInTurn}
use Rattle.hj_msg.specs.declared.event.Event.{Event}
use Rattle.hj_msg.specs.declared.feed.Given.{Given}
use Rattle.hj_msg.specs.declared.message.Report.{Report}
use Rattle.hj_msg.specs.Turns.{Turn, at_reports}
use Rattle.hj_msg.specs.Run.{LogEntry}
use Rattle.hj_chain.specs.declared.actor.Actor.{Actor}
use Rattle.hj_chain.specs.Chain.{FeedAnswer, ChainState, Action, asks, drives, handles, collects, after_action, empty_chain}
use Rattle.hj_chain.specs.Reached.{Reached, StepHistory, no_history, recorded, history_of, turn_at, left_end, right_end}
use Rattle.hj_msg.specs.Feed.{event_in}
use Rattle.hj_chain.proofs.Doing.{Doing, taken_by}
use Rattle.hj_chain.proofs.Shape.{Shape}
use Rattle.hj_chain.proofs.Induction.{by_steps}
use Rattle.hj_chain.proofs.Journals.{entries, left_took, left_sent, right_took, right_sent, left_end-more, right_end-more}
use Rattle.hj_chain.proofs.Carrying.{in_chain, left_end-nothing, neither}

-- each number is above those before it, and all are below a bound
pub record Rises (bound : ℕ) (xs : List ℕ) : Type 0 where
  pub increasing : IsStrictlyIncreasing xs
  pub below : All (λ x. x < bound) xs

pub rises-push : (bound : ℕ) (xs : List ℕ) → Rises bound xs → Rises (suc bound) (xs ++ bound ∷ [])
rises-push bound xs old = record {
  increasing = λ k low. all_pairs_push (λ x y. x < y) xs bound (AllPairs-from_increasing xs old.increasing) old.below k (k + 1) 0 (omega arith) low;
  below = All-push (λ x. x < suc bound) xs bound (All-weaker (λ x. x < bound) (λ x. x < suc bound) (λ x less. omega (arith, less)) xs old.below) (omega arith);
}

pub rises-later : (bound : ℕ) (xs : List ℕ) → Rises bound xs → Rises (suc bound) xs
rises-later bound xs old = record { increasing = old.increasing; below = All-weaker (λ x. x < bound) (λ x. x < suc bound) (λ x less. omega (arith, less)) xs old.below }

-- the turns of a journal don't fall, and all are at most a bound
record AtMost {M : Type 0} (bound : ℕ) (journal : List (Entry M)) : Type 0 where
  in_turn : IsInTurn journal
  most : All (λ x. x ≤ bound) (map (λ entry. entry.turn) journal)

-- and all are below it
pub record Earlier {M : Type 0} (bound : ℕ) (journal : List (Entry M)) : Type 0 where
  pub in_turn : IsInTurn journal
  pub below : All (λ x. x < bound) (map (λ entry. entry.turn) journal)

at_most-push : {M : Type 0} (bound : ℕ) (journal : List (Entry M)) (entry : Entry M) → entry.turn ≡ bound → AtMost bound journal → AtMost bound (journal ++ entry ∷ [])
at_most-push {M} bound journal entry is old =
    let pushed : map (λ (e : Entry M). e.turn) (journal ++ entry ∷ []) ≡ map (λ (e : Entry M). e.turn) journal ++ entry.turn ∷ [] = map-append (λ (e : Entry M). e.turn) journal (entry ∷ []) in
    let xs = map (λ (e : Entry M). e.turn) journal in
    record {
      in_turn = subst IsNonDecreasing (sym pushed) (IsNonDecreasingBy-push (λ x. x) xs entry.turn old.in_turn (λ d some. omega (arith, old.most (length xs - 1) d (omega arith), is)));
      most = subst (All (λ x. x ≤ bound)) (sym pushed) (All-push (λ x. x ≤ bound) xs entry.turn old.most (omega (arith, is)));
    }

at_most-taken : {M : Type 0} (bound : ℕ) (journal : List (Entry M)) (messages : List M) → AtMost bound journal → AtMost bound (journal ++ map (taken bound) messages)
at_most-taken bound journal [] old = subst (AtMost bound) (sym (append-nil journal)) old
at_most-taken bound journal (m ∷ messages) old = subst (AtMost bound) (append_assoc journal (taken bound m ∷ []) (map (taken bound) messages)) (at_most-taken bound (journal ++ taken bound m ∷ []) messages (at_most-push bound journal (taken bound m) refl old))

at_most-put : {M : Type 0} (bound : ℕ) (journal : List (Entry M)) (messages : List M) → AtMost bound journal → AtMost bound (journal ++ map (put bound) messages)
at_most-put bound journal [] old = subst (AtMost bound) (sym (append-nil journal)) old
at_most-put bound journal (m ∷ messages) old = subst (AtMost bound) (append_assoc journal (put bound m ∷ []) (map (put bound) messages)) (at_most-put bound (journal ++ put bound m ∷ []) messages (at_most-push bound journal (put bound m) refl old))

pub earlier-more : {M : Type 0} (number : ℕ) (journal journal' : List (Entry M)) (took sent : List M) → Earlier number journal → journal' ≡ journal ++ entries number took sent → Earlier (suc number) journal'
earlier-more {M} number journal journal' took sent old is =
    let low : AtMost number journal = record { in_turn = old.in_turn; most = All-weaker (λ x. x < number) (λ x. x ≤ number) (λ x less. omega (arith, less)) _ old.below } in
    let all : AtMost number journal' = subst (AtMost number) (append_assoc journal (map (taken number) took) (map (put number) sent) ∙ sym is) (at_most-put number (journal ++ map (taken number) took) sent (at_most-taken number journal took low)) in
    record { in_turn = all.in_turn; below = All-weaker (λ x. x ≤ number) (λ x. x < suc number) (λ x most. omega (arith, most)) _ all.most }

pub earlier-nothing : {M : Type 0} (journal : List (Entry M)) → journal ≡ [] → Earlier 0 journal
earlier-nothing {M} journal is = subst (Earlier 0) (sym is) (record { in_turn = λ i j d below low. absurd (omega (arith, low)); below = All-nil (λ x. x < 0) })

pub record Numbered {P : Type 0} (n number : ℕ) (history : StepHistory P) : Type 0 where
  pub log : Rises number (map (λ entry. entry.number) history.log)
  pub turns : (k : ℕ) → Rises number (map (λ turn. turn.number) (history.turns k))
  pub left : (k : ℕ) → Earlier number (left_end history k)
  pub right : (k : ℕ) → Earlier number (right_end n history k)
  pub sender : (k : ℕ) → Earlier number (flat_map at_reports (history.turns k))
  pub receiver : (k : ℕ) → Earlier number (history.collected k)

rises-nothing : Rises 0 []
rises-nothing = record { increasing = λ k low. absurd (omega (arith, low)); below = All-nil (λ x. x < 0) }

turns-if : {P : Type 0} (b : Bool) (number : ℕ) (turns : List (Turn P)) (turn : Turn P) → turn.number ≡ number → Rises number (map (λ t. t.number) turns) → Rises (suc number) (map (λ t. t.number) (cond b (turns ++ turn ∷ []) turns))
turns-if {P} true number turns turn is old =
    subst (Rises (suc number)) (ap (λ m. map (λ (t : Turn P). t.number) turns ++ m ∷ []) (sym is) ∙ sym (map-append (λ (t : Turn P). t.number) turns (turn ∷ []))) (rises-push number (map (λ (t : Turn P). t.number) turns) old)
turns-if {P} false number turns turn is old = rises-later number (map (λ (t : Turn P). t.number) turns) old

sender-if : {P : Type 0} (b : Bool) (number : ℕ) (turns : List (Turn P)) (turn : Turn P) → turn.number ≡ number → Earlier number (flat_map at_reports turns) → Earlier (suc number) (flat_map at_reports (cond b (turns ++ turn ∷ []) turns))
sender-if {P} true number turns turn is old =
    earlier-more number (flat_map at_reports turns) _ [] turn.reports old
    (flat_map-append at_reports turns (turn ∷ []) ∙ ap (λ es. flat_map at_reports turns ++ es) (append-nil (at_reports turn) ∙ ap (λ m. map (put m) turn.reports) is))
sender-if {P} false number turns turn is old = earlier-more number (flat_map at_reports turns) _ [] [] old (sym (append-nil _))

receiver-if : {P : Type 0} (b : Bool) (number : ℕ) (journal : List (Entry (Report P))) (report : Report P) → Earlier number journal → Earlier (suc number) (cond b (journal ++ taken number report ∷ []) journal)
receiver-if true number journal report old = earlier-more number journal _ (report ∷ []) [] old refl
receiver-if false number journal report old = earlier-more number journal _ [] [] old (sym (append-nil _))

still : {M : Type 0} (number : ℕ) (journal : List (Entry M)) → Earlier number journal → Earlier (suc number) journal
still number journal old = earlier-more number journal journal [] [] old (sym (append-nil journal))

module _ {P : Type 0} (matches : P → P → Bool) (n most : ℕ) where
  abbrev Kept : ℕ → List (Event P) → ChainState P → StepHistory P → Type 0
  Kept number events chain history = Numbered n number history

  begin : (first : Given P) → Kept 0 (event_in (Some first)) (empty_chain n most first) no_history
  begin first = record {
    log = rises-nothing;
    turns = λ k. rises-nothing;
    left = λ k. earlier-nothing _ (left_end-nothing P k);
    right = λ k. earlier-nothing _ (neither (k == n));
    sender = λ k. earlier-nothing [] refl;
    receiver = λ k. earlier-nothing [] refl;
  }

  left-step : (number : ℕ) (chain : ChainState P) (history : StepHistory P) (action : Action P) (k : ℕ) → Earlier number (left_end history k) → Earlier (suc number) (left_end (recorded matches chain number (Some action) history) k)
  left-step number chain history action k old = earlier-more number (left_end history k) _ (left_took action k) (left_sent (length chain.cores) action k) old (left_end-more matches chain number history action k)

  right-step : (number : ℕ) (chain : ChainState P) (history : StepHistory P) (action : Action P) → Shape n most chain → Doing chain action → (k : ℕ)
      → Earlier number (right_end n history k) → Earlier (suc number) (right_end n (recorded matches chain number (Some action) history) k)
  right-step number chain history action shape doing k old =
      let c = length chain.cores in
      subst (λ (m : ℕ). Earlier (suc number) (right_end m (recorded matches chain number (Some action) history) k)) shape.cores
      (earlier-more number (right_end c history k) _ (right_took c action k) (right_sent c action k) (subst (λ (m : ℕ). Earlier number (right_end m history k)) (sym shape.cores) old)
      (right_end-more matches chain number history action (in_chain chain action doing) k))

  step : (number : ℕ) (events : List (Event P)) (chain : ChainState P) (history : StepHistory P) (action : Action P) (answer : FeedAnswer P)
      → Shape n most chain → Doing chain action → Kept number events chain history
      → Kept (suc number) (events ++ taken_by action answer) (after_action matches chain (Some action) answer) (recorded matches chain number (Some action) history)
  step number events chain history asks answer shape doing old = record {
    log = rises-later number _ old.log;
    turns = λ k. rises-later number _ (old.turns k);
    left = λ k. still number _ (old.left k);
    right = λ k. still number _ (old.right k);
    sender = λ k. still number _ (old.sender k);
    receiver = λ k. still number _ (old.receiver k);
  }
  step number events chain history (drives turn) answer shape doing old = record {
    log = subst (Rises (suc number)) (sym (map-append (λ (e : LogEntry P). e.number) history.log (record { number = number; turn = turn } ∷ []))) (rises-push number _ old.log);
    turns = λ k. rises-later number _ (old.turns k);
    left = λ k. left-step number chain history (drives turn) k (old.left k);
    right = λ k. right-step number chain history (drives turn) shape doing k (old.right k);
    sender = λ k. still number _ (old.sender k);
    receiver = λ k. still number _ (old.receiver k);
  }
  step number events chain history (handles place end message) answer shape doing old = record {
    log = rises-later number _ old.log;
    turns = λ k. turns-if (k == place) number (history.turns k) (turn_at matches chain number place end message) refl (old.turns k);
    left = λ k. left-step number chain history (handles place end message) k (old.left k);
    right = λ k. right-step number chain history (handles place end message) shape doing k (old.right k);
    sender = λ k. sender-if (k == place) number (history.turns k) (turn_at matches chain number place end message) refl (old.sender k);
    receiver = λ k. still number _ (old.receiver k);
  }
  step number events chain history (collects place report) answer shape doing old = record {
    log = rises-later number _ old.log;
    turns = λ k. rises-later number _ (old.turns k);
    left = λ k. left-step number chain history (collects place report) k (old.left k);
    right = λ k. right-step number chain history (collects place report) shape doing k (old.right k);
    sender = λ k. still number _ (old.sender k);
    receiver = λ k. receiver-if (k == place) number (history.collected k) report (old.receiver k);
  }

  pub numbered : {schedule : List Actor} {events : List (Event P)} {chain : ChainState P} (reached : Reached matches n most schedule events chain) → Numbered n (length schedule) (history_of reached)
  numbered reached = by_steps matches n most Kept begin step reached
