-- What goes right is under way to the right and comes in at the left end of a core, and what goes left the other way round.
use Rattle.std.proofs.Common.{◌≡◌, ℕ, suc, ◌+◌, ◌<◌, ◌≤◌, ◌==◌, Bool, true, false, cond, List, [], ◌∷◌, ◌++◌, length, Some, refl, ap, sym, ◌∙◌, arith}
use Rattle.std.specs.List.{AllByRecursion}
use Rattle.std.proofs.lemmas.List.{get_or-replicate}
use Rattle.hj_base.specs.declared.numbers.Side.{Side}
use Rattle.hj_base.specs.declared.numbers.Side.TheVariants.{Left, Right}
use Rattle.hj_msg.specs.declared.event.Event.{Event}
use Rattle.hj_msg.specs.declared.feed.Given.{Given}
use Rattle.hj_msg.specs.declared.message.Msg.{Msg}
use Rattle.hj_msg.specs.Turns.{Turn, only_at}
use Rattle.hj_chain.specs.declared.actor.Actor.{Actor}
use Rattle.hj_chain.specs.Queues.{Queues, no_messages}
use Rattle.hj_chain.specs.Links.{incoming}
use Rattle.hj_chain.specs.Chain.{FeedAnswer, ChainState, Action, drives, handles, collects, after_action, empty_chain, capacity, asks}
use Rattle.hj_chain.specs.Reached.{Reached, StepHistory, no_history, recorded, history_of, turn_at}
use Rattle.hj_msg.specs.Feed.{event_in}
use Rattle.hj_chain.proofs.Doing.{Doing, inquires, admits, shuts, receives, works, gathers, taken_by}
use Rattle.hj_chain.proofs.Shape.{Shape, links-length}
use Rattle.hj_chain.proofs.Induction.{by_steps}
use Rattle.hj_chain.proofs.Ways.{when}
use Rattle.hj_chain.proofs.Journals.{left_took, left_sent, right_took, right_sent}
use Rattle.hj_chain.proofs.Carrying.{rights, lefts, moves-right, moves-left}
use Rattle.hj_chain.proofs.Counts.{count, count-append}
use Rattle.hj_chain.proofs.MessageKinds.{goes_right, goes_left, nothing_left_right, nothing_right_left, port-left, port-right}

-- the message of a turn was taken at the end at which it comes in
pub record ComesIn {P : Type 0} (turn : Turn P) : Type 0 where
  pub at_left : count goes_left (only_at turn.end Left turn.message) ≡ 0
  pub at_right : count goes_right (only_at turn.end Right turn.message) ≡ 0

pub record Directed {P : Type 0} (n : ℕ) (chain : ChainState P) (history : StepHistory P) : Type 0 where
  pub rightwards : (k : ℕ) → k ≤ n → count goes_left (rights chain k) ≡ 0
  pub leftwards : (k : ℕ) → k ≤ n → count goes_right (lefts chain k) ≡ 0
  pub come_in : (k : ℕ) → AllByRecursion ComesIn (history.turns k)

count-when : {X : Type 0} (p : X → Bool) (b : Bool) (xs : List X) → count p xs ≡ 0 → count p (when b xs) ≡ 0
count-when p true xs none = none
count-when p false xs none = refl

nothing_sent_right : {P : Type 0} (n : ℕ) (action : Action P) (k : ℕ) → count goes_left (left_sent n action k) ≡ 0
nothing_sent_right n asks k = refl
nothing_sent_right n (drives turn) k = count-when goes_left (k == 0) _ (port-left goes_left (λ at row. refl) (λ at. refl) (λ at. refl) refl turn)
nothing_sent_right n (handles place end message) k = count-when goes_left (k == place + 1) _ (nothing_left_right place n message)
nothing_sent_right n (collects place report) k = refl

nothing_sent_left : {P : Type 0} (n : ℕ) (action : Action P) (k : ℕ) → count goes_right (right_sent n action k) ≡ 0
nothing_sent_left n asks k = refl
nothing_sent_left n (drives turn) k = count-when goes_right (k == n) _ (port-right goes_right (λ at row. refl) (λ at. refl) (λ at. refl) refl turn)
nothing_sent_left n (handles place end message) k = count-when goes_right (k == place) _ (nothing_right_left place n message)
nothing_sent_left n (collects place report) k = refl

all-push : {X : Type 0} (Q : X → Type 0) (xs : List X) (x : X) → AllByRecursion Q xs → Q x → AllByRecursion Q (xs ++ x ∷ [])
all-push Q [] x all one = (one, tt)
all-push Q (y ∷ xs) x all one = (all.0, all-push Q xs x all.1 one)

all-if : {X : Type 0} (Q : X → Type 0) (b : Bool) (xs : List X) (x : X) → AllByRecursion Q xs → Q x → AllByRecursion Q (cond b (xs ++ x ∷ []) xs)
all-if Q true xs x all one = all-push Q xs x all one
all-if Q false xs x all one = all

-- a message that stands in front of a queue
comes_in : {P : Type 0} (end : Side) (message : Msg P) (rest queue : List (Msg P)) (turn : Turn P) → queue ≡ message ∷ rest → turn.end ≡ end → turn.message ≡ message
    → ((end ≡ Left) → count goes_left queue ≡ 0) → ((end ≡ Right) → count goes_right queue ≡ 0) → ComesIn turn
comes_in {P} Left message rest queue turn is at_end of left right = record {
  at_left =
      ap (λ (s : Side). count goes_left (only_at s Left turn.message)) at_end ∙ ap (λ (m : Msg P). count goes_left (m ∷ [])) of
      ∙ (let all : count goes_left (message ∷ rest) ≡ 0 = sym (ap (count goes_left) is) ∙ left refl in omega (arith, all));
  at_right = ap (λ (s : Side). count goes_right (only_at s Right turn.message)) at_end;
}
comes_in {P} Right message rest queue turn is at_end of left right = record {
  at_left = ap (λ (s : Side). count goes_left (only_at s Left turn.message)) at_end;
  at_right =
      ap (λ (s : Side). count goes_right (only_at s Right turn.message)) at_end ∙ ap (λ (m : Msg P). count goes_right (m ∷ [])) of
      ∙ (let all : count goes_right (message ∷ rest) ≡ 0 = sym (ap (count goes_right) is) ∙ right refl in omega (arith, all));
}

module _ {P : Type 0} (matches : P → P → Bool) (n most : ℕ) where
  abbrev Kept : ℕ → List (Event P) → ChainState P → StepHistory P → Type 0
  Kept number events chain history = Directed n chain history

  begin : (first : Given P) → Kept 0 (event_in (Some first)) (empty_chain n most first) no_history
  begin first = record {
    rightwards = λ k within. ap (λ (q : Queues (Msg P)). count goes_left q.rightwards) (get_or-replicate (n + 1) k (no_messages (capacity most)) (no_messages 0) (omega (arith, within)));
    leftwards = λ k within. ap (λ (q : Queues (Msg P)). count goes_right q.leftwards) (get_or-replicate (n + 1) k (no_messages (capacity most)) (no_messages 0) (omega (arith, within)));
    come_in = λ k. tt;
  }

  right-step : (chain : ChainState P) (history : StepHistory P) (action : Action P) (answer : FeedAnswer P) → Shape n most chain → Doing chain action → Directed n chain history
      → (k : ℕ) → k ≤ n → count goes_left (rights (after_action matches chain (Some action) answer) k) ≡ 0
  right-step chain history action answer shape doing old k within =
      let low : k < length chain.links = omega (arith, links-length n most chain shape) in
      let moves = moves-right matches chain k low answer action doing in
      omega (
        arith,
        old.rightwards k within,
        ap (count goes_left) moves.is_before,
        count-append goes_left (right_took (length chain.cores) action k) moves.rest,
        ap (count goes_left) moves.is_after,
        count-append goes_left moves.rest (left_sent (length chain.cores) action k),
        nothing_sent_right (length chain.cores) action k,
      )

  left-step : (chain : ChainState P) (history : StepHistory P) (action : Action P) (answer : FeedAnswer P) → Shape n most chain → Doing chain action → Directed n chain history
      → (k : ℕ) → k ≤ n → count goes_right (lefts (after_action matches chain (Some action) answer) k) ≡ 0
  left-step chain history action answer shape doing old k within =
      let low : k < length chain.links = omega (arith, links-length n most chain shape) in
      let moves = moves-left matches chain k low answer action doing in
      omega (
        arith,
        old.leftwards k within,
        ap (count goes_right) moves.is_before,
        count-append goes_right (left_took action k) moves.rest,
        ap (count goes_right) moves.is_after,
        count-append goes_right moves.rest (right_sent (length chain.cores) action k),
        nothing_sent_left (length chain.cores) action k,
      )

  turns-step : (number : ℕ) (chain : ChainState P) (history : StepHistory P) (action : Action P) → Shape n most chain → Doing chain action → Directed n chain history
      → (k : ℕ) → AllByRecursion ComesIn ((recorded matches chain number (Some action) history).turns k)
  turns-step number chain history action shape (admits event is free) old k = old.come_in k
  turns-step number chain history action shape (inquires is) old k = old.come_in k
  turns-step number chain history action shape (shuts is free) old k = old.come_in k
  turns-step number chain history action shape (receives port message rest is) old k = old.come_in k
  turns-step number chain history action shape (works place Left message rest low is room) old k =
      all-if ComesIn (k == place) (history.turns k) (turn_at matches chain number place Left message) (old.come_in k)
      (comes_in Left message rest (incoming Left place chain.links) _ is refl refl (λ same. old.rightwards place (omega (arith, low, shape.cores))) (λ same. absurd (cc)))
  turns-step number chain history action shape (works place Right message rest low is room) old k =
      all-if ComesIn (k == place) (history.turns k) (turn_at matches chain number place Right message) (old.come_in k)
      (comes_in Right message rest (incoming Right place chain.links) _ is refl refl (λ same. absurd (cc)) (λ same. old.leftwards (place + 1) (omega (arith, low, shape.cores))))
  turns-step number chain history action shape (gathers place report rest low is) old k = old.come_in k

  step : (number : ℕ) (events : List (Event P)) (chain : ChainState P) (history : StepHistory P) (action : Action P) (answer : FeedAnswer P)
      → Shape n most chain → Doing chain action → Kept number events chain history
      → Kept (suc number) (events ++ taken_by action answer) (after_action matches chain (Some action) answer) (recorded matches chain number (Some action) history)
  step number events chain history action answer shape doing old = record {
    rightwards = right-step chain history action answer shape doing old;
    leftwards = left-step chain history action answer shape doing old;
    come_in = turns-step number chain history action shape doing old;
  }

  pub directed : {schedule : List Actor} {events : List (Event P)} {chain : ChainState P} (reached : Reached matches n most schedule events chain) → Directed n chain (history_of reached)
  directed reached = by_steps matches n most Kept begin step reached
