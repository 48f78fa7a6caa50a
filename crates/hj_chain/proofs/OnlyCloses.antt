-- Once the closes were put, no event is outstanding, so that only the closes are under way; and each of them once.
use Rattle.std.proofs.Common.{◌≡◌, ℕ, suc, ◌+◌, ◌<◌, ◌≤◌, ◌⊎◌, inl, inr, Bool, true, false, cond, List, [], ◌∷◌, ◌++◌, length, Some, refl, ap, sym, ◌∙◌, arith, true≢false}
use Rattle.std.specs.List.{fold}
use Rattle.hj_msg.specs.declared.event.Event.{Event}
use Rattle.hj_msg.specs.declared.feed.Given.{Given}
use Rattle.hj_msg.specs.declared.feed.Given.TheVariants as given
use Rattle.hj_msg.specs.declared.message.Msg.{Msg}
use Rattle.hj_msg.specs.declared.message.Msg.TheVariants.{CloseL}
use Rattle.hj_msg.specs.Core as core
use Rattle.hj_msg.specs.Core.{State, empty_state}
use Rattle.hj_msg.specs.Event.{IsWellFormed}
use Rattle.hj_driver.specs.Driver.{DriverState, count_of, is_sent}
use Rattle.hj_driver.proofs.ComingOut.{no_cause}
use Rattle.hj_driver.proofs.MayClose.{may_close}
use Rattle.hj_chain.specs.declared.actor.Actor.{Actor}
use Rattle.hj_chain.specs.Chain.{FeedAnswer, ChainState, Action, after_action, empty_chain}
use Rattle.hj_chain.specs.Reached.{Reached, StepHistory, no_history, recorded, history_of}
use Rattle.hj_msg.specs.Feed.{event_in}
use Rattle.hj_chain.proofs.Carrying.{rights, lefts}
use Rattle.hj_chain.proofs.Counts.{count}
use Rattle.hj_chain.proofs.Doing.{Doing, admits, shuts, receives, works, gathers, taken_by, inquires}
use Rattle.hj_driver.proofs.Standing.{closes-put}
use Rattle.hj_chain.proofs.Driving.{sent-take, count-take}
use Rattle.hj_chain.proofs.Induction.{by_steps}
use Rattle.hj_chain.proofs.MessageKinds.{a_CloseL, a_CloseR, CloseL_right, CloseR_left}
use Rattle.hj_chain.proofs.Outstanding.{balanced}
use Rattle.hj_chain.proofs.Passing.{few_under_way, few_under_way_back, fewer_sent}
use Rattle.hj_chain.proofs.Room.{count-length, outstanding_left, outstanding_right}
use Rattle.hj_chain.proofs.Shape.{Shape}
use Rattle.hj_chain.proofs.Turning.{messages, state_at, turned}
use Rattle.hj_chain.proofs.UnderWay.{way_r, way_l, came_r, came_l, sent_r, sent_l, each_r, comes_right, passes_on, passes_back, CloseL_goes, CloseR_goes, sent_last}

-- no event is outstanding once the closes were put
abbrev AreGone : DriverState → Type 0
AreGone driver = is_sent driver.closes ≡ true → count_of driver ≡ 0

module _ {P : Type 0} (matches : P → P → Bool) (n most : ℕ) where
  abbrev Kept : ℕ → List (Event P) → ChainState P → StepHistory P → Type 0
  Kept number events chain history = AreGone chain.driver

  begin : (first : Given P) → Kept 0 (event_in (Some first)) (empty_chain n most first) no_history
  begin first sent = refl

  step : (number : ℕ) (events : List (Event P)) (chain : ChainState P) (history : StepHistory P) (action : Action P) (answer : FeedAnswer P)
      → Shape n most chain → Doing chain action → Kept number events chain history
      → Kept (suc number) (events ++ taken_by action answer) (after_action matches chain (Some action) answer) (recorded matches chain number (Some action) history)
  step number events chain history action answer shape (inquires is) old sent = old sent
  step number events chain history action answer shape (admits event is free) old sent =
      absurd (true≢false (sym sent ∙ ap is_sent (closes-put event chain.driver) ∙ (no_cause event chain.driver free).unsent))
  step number events chain history action answer shape (shuts is free) old sent = (may_close chain.driver free).1
  step number events chain history action answer shape (receives port message rest is) old sent =
      omega (arith, count-take port message chain.driver, old (sym (sent-take port message chain.driver.closes) ∙ sent))
  step number events chain history action answer shape (works place end message rest low is room) old sent = old sent
  step number events chain history action answer shape (gathers place report rest low is) old sent = old sent

  -- nor is any to come
  abbrev Last : ℕ → List (Event P) → ChainState P → StepHistory P → Type 0
  Last number events chain history = is_sent chain.driver.closes ≡ true → chain.next ≡ Some given.Stop

  last-step : (number : ℕ) (events : List (Event P)) (chain : ChainState P) (history : StepHistory P) (action : Action P) (answer : FeedAnswer P)
      → Shape n most chain → Doing chain action → Last number events chain history
      → Last (suc number) (events ++ taken_by action answer) (after_action matches chain (Some action) answer) (recorded matches chain number (Some action) history)
  last-step number events chain history action answer shape (inquires is) old sent = absurd (cc (old sent, is))
  last-step number events chain history action answer shape (admits event is free) old sent =
      absurd (true≢false (sym sent ∙ ap is_sent (closes-put event chain.driver) ∙ (no_cause event chain.driver free).unsent))
  last-step number events chain history action answer shape (shuts is free) old sent = is
  last-step number events chain history action answer shape (receives port message rest is) old sent = old (sym (sent-take port message chain.driver.closes) ∙ sent)
  last-step number events chain history action answer shape (works place end message rest low is room) old sent = old sent
  last-step number events chain history action answer shape (gathers place report rest low is) old sent = old sent

  pub none_to_come : {schedule : List Actor} {events : List (Event P)} {chain : ChainState P} → Reached matches n most schedule events chain → is_sent chain.driver.closes ≡ true → chain.next ≡ Some given.Stop
  none_to_come reached = by_steps matches n most Last (λ first sent. absurd (true≢false (sym sent))) last-step reached

  none_outstanding : {schedule : List Actor} {events : List (Event P)} {chain : ChainState P} → Reached matches n most schedule events chain → AreGone chain.driver
  none_outstanding reached = by_steps matches n most Kept begin step reached

-- what a close that a core handled leaves
handled-close : {P : Type 0} (place n : ℕ) (state : State P) (ms : List (Msg P)) → (fold (core.after place n) state ms).closed_left ≡ true → (state.closed_left ≡ true) ⊎ (1 ≤ count a_CloseL ms)
handled-close place n state [] closed = inl closed
handled-close {P} place n state (m ∷ ms) closed = elim (handled-close place n (core.after place n state m) ms closed) [
  | inr later ↦ inr (omega (arith, later))
  | inl now ↦ one m now
]
  where
    one : (m : Msg P) → (core.after place n state m).closed_left ≡ true → (state.closed_left ≡ true) ⊎ (1 ≤ count a_CloseL (m ∷ ms))
    one CloseL now = inr (omega arith)
    one m now = inl now

pub was_sent : (b : Bool) → 1 ≤ cond {A = ℕ} b 1 0 → b ≡ true
was_sent true some = refl
was_sent false some = absurd (omega (arith, some))

-- where all of a queue are of one kind
pub in_front : {P : Type 0} (p : Msg P → Bool) (message : Msg P) (rest : List (Msg P)) → length (message ∷ rest) ≤ count p (message ∷ rest) → p message ≡ true
in_front {P} p message rest all = tells (p message) (omega (arith, all, count-length p rest))
  where
    tells : (b : Bool) → 1 ≤ cond {A = ℕ} b 1 0 → b ≡ true
    tells true some = refl
    tells false some = absurd (omega (arith, some))

module _ {P : Type 0} (matches : P → P → Bool) (m most : ℕ) {schedule : List Actor} {events : List (Event P)} {chain : ChainState P} (reached : Reached matches (suc m) most schedule events chain) (well : IsWellFormed events) where
  pub closes_right : (sent : is_sent chain.driver.closes ≡ true) (k : ℕ) → k ≤ suc m → length (rights chain k) ≤ way_r matches m most reached a_CloseL k
  closes_right sent k within = omega (arith, none_outstanding matches (suc m) most reached sent, outstanding_right matches m most reached well k within)

  pub closes_left : (sent : is_sent chain.driver.closes ≡ true) (k : ℕ) → k ≤ suc m → length (lefts chain k) ≤ way_l matches m most reached a_CloseR k
  closes_left sent k within = omega (arith, none_outstanding matches (suc m) most reached sent, outstanding_left matches m most reached well k within)

  -- one of each was put
  pub one_right : (k : ℕ) → k ≤ suc m → way_r matches m most reached a_CloseL k + came_r matches m most reached a_CloseL (suc m) ≤ cond (is_sent chain.driver.closes) 1 0
  one_right k within =
      let r = reached in
      omega (
        arith,
        few_under_way (sent_r matches m most r a_CloseL) (came_r matches m most r a_CloseL) (way_r matches m most r a_CloseL) (suc m) (passes_on matches m most r a_CloseL (λ j. CloseL_right j (suc m)) CloseL_goes) k within,
        (balanced matches (suc m) most reached well).left.close,
      )

  pub one_left : (k : ℕ) → k ≤ suc m → way_l matches m most reached a_CloseR k + came_l matches m most reached a_CloseR 0 ≤ cond (is_sent chain.driver.closes) 1 0
  one_left k within =
      let r = reached in
      omega (
        arith,
        few_under_way_back (sent_l matches m most r a_CloseR) (came_l matches m most r a_CloseR) (way_l matches m most r a_CloseR) (suc m) (passes_back matches m most r a_CloseR (λ j. CloseR_left j (suc m)) CloseR_goes) k within,
        sent_last matches m most r a_CloseR,
        (balanced matches (suc m) most reached well).right.close,
      )

  -- a core that handled a close has it from the driver
  pub closed-sent : (k : ℕ) → k < suc m → (state_at chain k).closed_left ≡ true → is_sent chain.driver.closes ≡ true
  closed-sent k low closed =
      let r = reached in
      let at = turned matches (suc m) most reached k low in
      elim (handled-close k (suc m) empty_state (messages ((history_of reached).turns k)) (ap (λ (s : State P). s.closed_left) (sym at.keeps) ∙ closed)) [
        | inl never ↦ absurd (cc)
        | inr some ↦ was_sent (is_sent chain.driver.closes) (omega (
          arith,
          some,
          comes_right matches m most r a_CloseL k low CloseL_goes,
          each_r matches m most r a_CloseL k (omega (arith, low)),
          fewer_sent (sent_r matches m most r a_CloseL) (came_r matches m most r a_CloseL) (way_r matches m most r a_CloseL) (suc m) (passes_on matches m most r a_CloseL (λ j. CloseL_right j (suc m)) CloseL_goes) k (omega (arith, low)),
          (balanced matches (suc m) most reached well).left.close,
        ))
      ]
