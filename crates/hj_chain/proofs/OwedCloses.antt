-- Each close that was put and that the driver didn't take is under way; and to each core that didn't handle it, it is still to come.
use Rattle.std.proofs.Common.{◌≡◌, ◌≢◌, ℕ, ◌+◌, ◌<◌, ◌≤◌, inl, inr, nat_lt, not, ◌&&◌, Bool, true, false, cond, List, [], ◌∷◌, length, get_or, refl, ap, sym, ◌∙◌, arith}
use Rattle.std.proofs.lemmas.Bool.Decides.{eqb_tells, nat_tests}
use Rattle.std.proofs.lemmas.Bool.{le-ltb, lt-ltb}
use Rattle.hj_base.specs.declared.numbers.Side.{Side}
use Rattle.hj_base.specs.declared.numbers.Side.TheVariants.{Left, Right}
use Rattle.hj_msg.specs.declared.message.Msg.{Msg}
use Rattle.hj_msg.specs.declared.message.Msg.TheVariants.{CloseL, CloseR}
use Rattle.hj_msg.specs.Core as core
use Rattle.hj_msg.specs.Core.{State, empty_state, sends}
use Rattle.hj_driver.specs.declared.closes.Closes.{Closes}
use Rattle.hj_driver.specs.declared.closes.Closes.TheVariants.{Unsent, Sent}
use Rattle.hj_driver.specs.Driver.{after_close, awaits_close, is_sent}
use Rattle.hj_chain.specs.Links.{changed_at}
use Rattle.hj_chain.proofs.Awaited.{one}
use Rattle.hj_driver.proofs.Standing.{closes-put}
use Rattle.hj_chain.proofs.Driving.{sent-take}
use Rattle.hj_chain.proofs.MessageKinds.{a_CloseL, a_CloseR}
use Rattle.hj_chain.proofs.OwedThrough.{handles-left, handles-right, owes-driver, to_left, to_right}
use Rattle.hj_chain.proofs.Owing.{Owes, Fewer}
use Rattle.hj_chain.proofs.Places.{get_or-changed_at, get_or-changed_other}
use Rattle.hj_chain.proofs.Totals.{sum_of}
use Rattle.hj_chain.proofs.Weighing.{Weights, at_exit, at_end}

-- the close of the left end goes through to the right port
module _ (P : Type 0) (n : ℕ) where
  abbrev pub close_left : Weights (Msg P)
  close_left = to_right a_CloseL

  close_left-taking : (port : Side) (message : Msg P) (closes : Closes) → Fewer (one (awaits_close Left (after_close port message closes))) (at_exit close_left port n message) (one (awaits_close Left closes))
  close_left-taking Right CloseL Unsent = inl refl
  close_left-taking Right CloseL (Sent left right) = inl refl
  close_left-taking Left CloseR Unsent = inr (omega arith)
  close_left-taking Left CloseR (Sent left right) = inr (omega arith)
  close_left-taking port message closes = inr (omega arith)

  CloseL-passes : (place : ℕ) (message : Msg P) → one (a_CloseL message) ≤ sum_of (λ (m : Msg P). one (a_CloseL m)) (sends place n message).right
  CloseL-passes place CloseL = omega arith
  CloseL-passes place message = omega arith

  pub owes-close_left : Owes n close_left (λ driver cores. one (awaits_close Left driver.closes))
  owes-close_left =
      owes-driver n close_left (λ driver. one (awaits_close Left driver.closes)) (λ most. refl) (λ event driver. omega (arith, ap (λ c. one (awaits_close Left c)) (closes-put event driver)))
      (λ driver. omega arith) (λ port message driver. close_left-taking port message driver.closes) (handles-right n a_CloseL CloseL-passes)

  -- and that of the right end to the left port
  abbrev pub close_right : Weights (Msg P)
  close_right = to_left a_CloseR

  close_right-taking : (port : Side) (message : Msg P) (closes : Closes) → Fewer (one (awaits_close Right (after_close port message closes))) (at_exit close_right port n message) (one (awaits_close Right closes))
  close_right-taking Left CloseR Unsent = inl refl
  close_right-taking Left CloseR (Sent left right) = inl refl
  close_right-taking Right CloseL Unsent = inr (omega arith)
  close_right-taking Right CloseL (Sent left right) = inr (omega arith)
  close_right-taking port message closes = inr (omega arith)

  CloseR-passes : (place : ℕ) (message : Msg P) → one (a_CloseR message) ≤ sum_of (λ (m : Msg P). one (a_CloseR m)) (sends place n message).left
  CloseR-passes place CloseR = omega arith
  CloseR-passes place message = omega arith

  pub owes-close_right : Owes n close_right (λ driver cores. one (awaits_close Right driver.closes))
  owes-close_right =
      owes-driver n close_right (λ driver. one (awaits_close Right driver.closes)) (λ most. refl) (λ event driver. omega (arith, ap (λ c. one (awaits_close Right c)) (closes-put event driver)))
      (λ driver. omega arith) (λ port message driver. close_right-taking port message driver.closes) (handles-left n a_CloseR CloseR-passes)

-- a close that was put, and that a core didn't handle
abbrev pub unhandled : Bool → Bool → ℕ
unhandled sent handled = one (sent && not handled)

one-close : (sent handled : Bool) → unhandled sent handled ≤ 1
one-close true true = omega arith
one-close true false = omega arith
one-close false handled = omega arith

no-close : (sent : Bool) → unhandled sent true ≡ 0
no-close true = refl
no-close false = refl

not_below : (k : ℕ) → nat_lt k 0 ≡ false
not_below k = le-ltb k 0 (omega arith)

least : (b : Bool) → cond {A = ℕ} b 0 0 ≡ 0
least true = refl
least false = refl

module _ (P : Type 0) (n c : ℕ) (low : c < n) where
  -- what a core handles
  abbrev handled : ℕ → Msg P → List (State P) → List (State P)
  handled place message cores = changed_at place (λ old. core.after place n old message) cores

  abbrev state_of : List (State P) → State P
  state_of cores = get_or cores c empty_state

  handled-here : (place : ℕ) (message : Msg P) (cores : List (State P)) → place < n → length cores ≡ n → place ≡ c → state_of (handled place message cores) ≡ core.after place n (state_of cores) message
  handled-here place message cores here all is =
      ap (λ j. get_or (handled place message cores) j empty_state) (sym is) ∙ get_or-changed_at place (λ old. core.after place n old message) cores empty_state (omega (arith, here, all))
      ∙ ap (λ j. core.after place n (get_or cores j empty_state) message) is

  handled-other : (place : ℕ) (message : Msg P) (cores : List (State P)) → place ≢ c → state_of (handled place message cores) ≡ state_of cores
  handled-other place message cores other = get_or-changed_other place c (λ old. core.after place n old message) cores empty_state other

  -- a core stays as it is but for what one message changes
  handled-same : {X : Type 0} (part : State P → X) (place : ℕ) (message : Msg P) (cores : List (State P)) → place < n → length cores ≡ n → ((state : State P) → part (core.after place n state message) ≡ part state)
      → part (state_of (handled place message cores)) ≡ part (state_of cores)
  handled-same part place message cores here all same = elim (eqb_tells place c) [
    | inl w ↦ ap part (handled-here place message cores here all w.1) ∙ same (state_of cores)
    | inr w ↦ ap part (handled-other place message cores w.1)
  ]

  -- the close of the left end, on the links up to core c
  abbrev pub to_core_left : Weights (Msg P)
  to_core_left = record { rightwards = λ k message. cond (nat_lt c k) 0 (one (a_CloseL message)); leftwards = λ k message. 0 }

  abbrev owed_left : Closes → List (State P) → ℕ
  owed_left closes cores = unhandled (is_sent closes) (state_of cores).closed_left

  left-out : (port : Side) (message : Msg P) → at_exit to_core_left port n message ≡ 0
  left-out Left message = refl
  left-out Right message = ap (λ b. cond b 0 (one (a_CloseL message))) (lt-ltb c n low)

  left-other : (end : Side) (place : ℕ) (message : Msg P) → a_CloseL message ≡ false → at_end to_core_left end place message ≡ 0
  left-other Left place message other = ap (λ b. cond (nat_lt c place) 0 (one b)) other ∙ least (nat_lt c place)
  left-other Right place message other = refl

  left-stays : (place : ℕ) (message : Msg P) (state : State P) → a_CloseL message ≡ false → (core.after place n state message).closed_left ≡ state.closed_left
  left-stays place CloseL state other = absurd (cc)
  left-stays place message state other = refl

  left-on : (end : Side) (place : ℕ) → place ≢ c → at_end to_core_left end place CloseL ≤ sum_of (to_core_left.rightwards (place + 1)) (CloseL ∷ [])
  left-on Left place other = grind (arith, nat_tests, other)
  left-on Right place other = omega arith

  left-handling : (end : Side) (place : ℕ) (message : Msg P) (closes : Closes) (cores : List (State P)) → place < n → length cores ≡ n
      → Fewer (owed_left closes (handled place message cores)) (at_end to_core_left end place message)
      (owed_left closes cores + sum_of (to_core_left.leftwards place) (sends place n message).left + sum_of (to_core_left.rightwards (place + 1)) (sends place n message).right)
  left-handling end place CloseL closes cores here all = elim (eqb_tells place c) [
    | inl w ↦ inl (ap (λ (s : State P). unhandled (is_sent closes) s.closed_left) (handled-here place CloseL cores here all w.1) ∙ no-close (is_sent closes))
    | inr w ↦ inr (omega (arith, ap (λ (s : State P). unhandled (is_sent closes) s.closed_left) (handled-other place CloseL cores w.1), left-on end place w.1))
  ]
  left-handling end place message closes cores here all = inr (omega (
    arith,
    ap (unhandled (is_sent closes)) (handled-same (λ (s : State P). s.closed_left) place message cores here all (λ state. left-stays place message state refl)),
    left-other end place message refl,
  ))

  pub owes-to_core_left : Owes n to_core_left (λ driver cores. unhandled (is_sent driver.closes) (get_or cores c empty_state).closed_left)
  owes-to_core_left = record {
    beginning = λ most. refl;
    putting = λ event driver cores. omega (arith, ap (λ s. owed_left s cores) (closes-put event driver));
    closing = λ driver cores. omega (arith, one-close true (state_of cores).closed_left, ap (λ b. cond {A = ℕ} b 0 1) (not_below c));
    taking = λ port message driver cores. inr (omega (arith, ap (λ b. unhandled b (state_of cores).closed_left) (sent-take port message driver.closes), left-out port message));
    handling = λ end place message driver cores here all. left-handling end place message driver.closes cores here all;
  }

  -- and that of the right end, on those from core c on
  abbrev pub to_core_right : Weights (Msg P)
  to_core_right = record { rightwards = λ k message. 0; leftwards = λ k message. cond (nat_lt c k) (one (a_CloseR message)) 0 }

  abbrev owed_right : Closes → List (State P) → ℕ
  owed_right closes cores = unhandled (is_sent closes) (state_of cores).closed_right

  right-out : (port : Side) (message : Msg P) → at_exit to_core_right port n message ≡ 0
  right-out Left message = ap (λ b. cond b (one (a_CloseR message)) 0) (not_below c)
  right-out Right message = refl

  right-other : (end : Side) (place : ℕ) (message : Msg P) → a_CloseR message ≡ false → at_end to_core_right end place message ≡ 0
  right-other Left place message other = refl
  right-other Right place message other = ap (λ b. cond (nat_lt c (place + 1)) (one b) 0) other ∙ least (nat_lt c (place + 1))

  right-stays : (place : ℕ) (message : Msg P) (state : State P) → a_CloseR message ≡ false → (core.after place n state message).closed_right ≡ state.closed_right
  right-stays place CloseR state other = absurd (cc)
  right-stays place message state other = refl

  right-on : (end : Side) (place : ℕ) → place ≢ c → at_end to_core_right end place CloseR ≤ sum_of (to_core_right.leftwards place) (CloseR ∷ [])
  right-on Right place other = grind (arith, nat_tests, other)
  right-on Left place other = omega arith

  right-handling : (end : Side) (place : ℕ) (message : Msg P) (closes : Closes) (cores : List (State P)) → place < n → length cores ≡ n
      → Fewer (owed_right closes (handled place message cores)) (at_end to_core_right end place message)
      (owed_right closes cores + sum_of (to_core_right.leftwards place) (sends place n message).left + sum_of (to_core_right.rightwards (place + 1)) (sends place n message).right)
  right-handling end place CloseR closes cores here all = elim (eqb_tells place c) [
    | inl w ↦ inl (ap (λ (s : State P). unhandled (is_sent closes) s.closed_right) (handled-here place CloseR cores here all w.1) ∙ no-close (is_sent closes))
    | inr w ↦ inr (omega (arith, ap (λ (s : State P). unhandled (is_sent closes) s.closed_right) (handled-other place CloseR cores w.1), right-on end place w.1))
  ]
  right-handling end place message closes cores here all = inr (omega (
    arith,
    ap (unhandled (is_sent closes)) (handled-same (λ (s : State P). s.closed_right) place message cores here all (λ state. right-stays place message state refl)),
    right-other end place message refl,
  ))

  pub owes-to_core_right : Owes n to_core_right (λ driver cores. unhandled (is_sent driver.closes) (get_or cores c empty_state).closed_right)
  owes-to_core_right = record {
    beginning = λ most. refl;
    putting = λ event driver cores. omega (arith, ap (λ s. owed_right s cores) (closes-put event driver));
    closing = λ driver cores. omega (arith, one-close true (state_of cores).closed_right, ap (λ b. cond {A = ℕ} b 1 0) (lt-ltb c n low));
    taking = λ port message driver cores. inr (omega (arith, ap (λ b. unhandled b (state_of cores).closed_right) (sent-take port message driver.closes), right-out port message));
    handling = λ end place message driver cores here all. right-handling end place message driver.closes cores here all;
  }
