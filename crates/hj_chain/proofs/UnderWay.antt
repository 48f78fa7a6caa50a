-- How many messages of each kind are under way on a link.
use Rattle.std.proofs.Common.{◌≡◌, ℕ, zero, suc, ◌+◌, ◌<◌, ◌≤◌, ◌⊎◌, inl, inr, Bool, true, cond, List, [], ◌∷◌, refl, ap, sym, ◌∙◌, arith, eq-eqb}
use Rattle.std.specs.List.{flat_map}
use Rattle.std.proofs.Math.Dec.{eqb-suc-zero}
use Rattle.std.proofs.lemmas.Bool.{ne_eqb}
use Rattle.std.proofs.lemmas.Bool.Decides.{eqb_tells}
use Rattle.hj_base.specs.declared.numbers.Side.TheVariants.{Left, Right}
use Rattle.hj_base.specs.Journals.{puts, takes}
use Rattle.hj_msg.specs.declared.event.Event.{Event}
use Rattle.hj_msg.specs.declared.message.Msg.{Msg}
use Rattle.hj_msg.specs.declared.message.Msg.TheVariants.{R, EndS, ExpS, QuietL, CloseL, S, EndR, ExpR, QuietR, CloseR}
use Rattle.hj_msg.specs.Core.{empty_state, is_last}
use Rattle.hj_msg.specs.Turns.{at_left}
use Rattle.hj_msg.specs.Driver.{DriverTurn}
use Rattle.hj_msg.specs.Run.{LogEntry, at_port, port_journal}
use Rattle.hj_chain.specs.declared.actor.Actor.{Actor}
use Rattle.hj_chain.specs.Chain.{ChainState}
use Rattle.hj_chain.specs.Reached.{Reached, StepHistory, history_of, left_end, right_end}
use Rattle.hj_chain.proofs.Journals.{puts-append, at_port-entries, puts-entries, took_at, sent_at}
use Rattle.hj_chain.proofs.Carrying.{rights, lefts, carried}
use Rattle.hj_chain.proofs.Turning.{messages, turned}
use Rattle.hj_chain.proofs.Directed.{directed}
use Rattle.hj_chain.proofs.Handled.{sent_right, sent_left, came_right, came_left}
use Rattle.hj_chain.proofs.Passing.{PassesOn, PassesBack, few_under_way, fewer_sent, few_under_way_back, fewer_sent_back}
use Rattle.hj_chain.proofs.Counts.{count, count-append}
use Rattle.hj_chain.proofs.MessageKinds.{a_R, an_EndS, an_ExpS, a_QuietL, a_CloseL, an_S, an_EndR, an_ExpR, a_QuietR, a_CloseR, goes_right, goes_left, SendsRight, SendsLeft, R_right, ExpS_right, QuietL_right, CloseL_right, EndS_right, EndS_first, an_S_or_EndS, S_left, ExpR_left, QuietR_left, CloseR_left, an_R_or_EndR, EndR_left, EndR_last, never, port-left, port-right}
use Rattle.hj_chain.proofs.Balance.{put_in, came_out}

-- the driver puts none of these at its ports
pub puts_none : {P : Type 0} (p : Msg P → Bool) (log : List (LogEntry P)) (side : _) → ((turn : DriverTurn P) → count p (sent_at side turn) ≡ 0) → put_in side p log ≡ 0
puts_none p [] side none = refl
puts_none p (entry ∷ log) side none =
    omega (
      arith,
      ap (count p) (puts-append (at_port side entry.number entry.turn) (port_journal side log)),
      count-append p (puts (at_port side entry.number entry.turn)) (puts (port_journal side log)),
      ap (λ j. count p (puts j)) (at_port-entries side entry.number entry.turn),
      ap (count p) (puts-entries entry.number (took_at side entry.turn) (sent_at side entry.turn)),
      none entry.turn,
      puts_none p log side none,
    )

pub count-never : {P : Type 0} (ms : List (Msg P)) → count never ms ≡ 0
count-never [] = refl
count-never (m ∷ ms) = omega (arith, count-never ms)

S_or_EndS : {P : Type 0} (ms : List (Msg P)) → count an_S_or_EndS ms ≡ count an_S ms + count an_EndS ms
S_or_EndS [] = refl
S_or_EndS {P} (m ∷ ms) = omega (arith, one m, S_or_EndS ms)
  where
    one : (m : Msg P) → cond {A = ℕ} (an_S_or_EndS m) 1 0 ≡ cond {A = ℕ} (an_S m) 1 0 + cond {A = ℕ} (an_EndS m) 1 0
    one (S at row) = refl
    one (EndS at) = refl
    one other = refl

R_or_EndR : {P : Type 0} (ms : List (Msg P)) → count an_R_or_EndR ms ≡ count a_R ms + count an_EndR ms
R_or_EndR [] = refl
R_or_EndR {P} (m ∷ ms) = omega (arith, one m, R_or_EndR ms)
  where
    one : (m : Msg P) → cond {A = ℕ} (an_R_or_EndR m) 1 0 ≡ cond {A = ℕ} (a_R m) 1 0 + cond {A = ℕ} (an_EndR m) 1 0
    one (R at row) = refl
    one (EndR at) = refl
    one other = refl

-- tests of kinds, and the sides to which they go
R_goes : {P : Type 0} (m : Msg P) → a_R m ≡ true → goes_right m ≡ true
R_goes (R at row) is = refl
R_goes other is = absurd (cc)

ExpS_goes : {P : Type 0} (m : Msg P) → an_ExpS m ≡ true → goes_right m ≡ true
ExpS_goes (ExpS at) is = refl
ExpS_goes other is = absurd (cc)

QuietL_goes : {P : Type 0} (m : Msg P) → a_QuietL m ≡ true → goes_right m ≡ true
QuietL_goes (QuietL at) is = refl
QuietL_goes other is = absurd (cc)

pub CloseL_goes : {P : Type 0} (m : Msg P) → a_CloseL m ≡ true → goes_right m ≡ true
CloseL_goes CloseL is = refl
CloseL_goes other is = absurd (cc)

EndS_goes : {P : Type 0} (m : Msg P) → an_EndS m ≡ true → goes_right m ≡ true
EndS_goes (EndS at) is = refl
EndS_goes other is = absurd (cc)

pub S_goes : {P : Type 0} (m : Msg P) → an_S m ≡ true → goes_left m ≡ true
S_goes (S at row) is = refl
S_goes other is = absurd (cc)

ExpR_goes : {P : Type 0} (m : Msg P) → an_ExpR m ≡ true → goes_left m ≡ true
ExpR_goes (ExpR at) is = refl
ExpR_goes other is = absurd (cc)

QuietR_goes : {P : Type 0} (m : Msg P) → a_QuietR m ≡ true → goes_left m ≡ true
QuietR_goes (QuietR at) is = refl
QuietR_goes other is = absurd (cc)

pub CloseR_goes : {P : Type 0} (m : Msg P) → a_CloseR m ≡ true → goes_left m ≡ true
CloseR_goes CloseR is = refl
CloseR_goes other is = absurd (cc)

EndR_goes : {P : Type 0} (m : Msg P) → an_EndR m ≡ true → goes_left m ≡ true
EndR_goes (EndR at) is = refl
EndR_goes other is = absurd (cc)

-- The chain has m + 1 cores.
module _ {P : Type 0} (matches : P → P → Bool) (m most : ℕ) {schedule : List Actor} {events : List (Event P)} {chain : ChainState P} (reached : Reached matches (suc m) most schedule events chain) where
  abbrev pub n : ℕ
  n = suc m

  abbrev pub history : StepHistory P
  history = history_of reached

  -- to the right: what was put at the left end of link k, what was taken at its right end, and what is under way
  abbrev pub sent_r : (Msg P → Bool) → ℕ → ℕ
  sent_r p k = count p (puts (left_end history k))

  abbrev pub came_r : (Msg P → Bool) → ℕ → ℕ
  came_r p k = count p (takes (right_end n history k))

  abbrev pub way_r : (Msg P → Bool) → ℕ → ℕ
  way_r p k = count p (rights chain k)

  -- and to the left
  abbrev pub sent_l : (Msg P → Bool) → ℕ → ℕ
  sent_l p k = count p (puts (right_end n history k))

  abbrev pub came_l : (Msg P → Bool) → ℕ → ℕ
  came_l p k = count p (takes (left_end history k))

  abbrev pub way_l : (Msg P → Bool) → ℕ → ℕ
  way_l p k = count p (lefts chain k)

  abbrev pub handled : (Msg P → Bool) → ℕ → ℕ
  handled p k = count p (messages (history.turns k))

  pub each_r : (p : Msg P → Bool) (k : ℕ) → k ≤ n → sent_r p k ≡ came_r p k + way_r p k
  each_r p k within = ap (count p) (carried matches n most reached k within).rightwards ∙ count-append p (takes (right_end n history k)) (rights chain k)

  pub each_l : (p : Msg P → Bool) (k : ℕ) → k ≤ n → sent_l p k ≡ came_l p k + way_l p k
  each_l p k within = ap (count p) (carried matches n most reached k within).leftwards ∙ count-append p (takes (left_end history k)) (lefts chain k)

  inner : (k : ℕ) → k < n → right_end n history k ≡ flat_map at_left (history.turns k)
  inner k low = ap (λ b. cond b (port_journal Right history.log) (flat_map at_left (history.turns k))) (ne_eqb k n (λ same. omega (arith, low, same)))

  outer : right_end n history n ≡ port_journal Right history.log
  outer = ap (λ b. cond b (port_journal Right history.log) (flat_map at_left (history.turns n))) (eq-eqb n n refl)

  pub sends_right : (p q : Msg P → Bool) (k : ℕ) → k < n → SendsRight p q k n → sent_r p (suc k) ≡ handled q k
  sends_right p q k low sends = sent_right matches k n empty_state (history.turns k) p q sends (turned matches n most reached k low).whole

  sends_left : (p q : Msg P → Bool) (k : ℕ) → k < n → SendsLeft p q k n → sent_l p k ≡ handled q k
  sends_left p q k low sends = ap (λ j. count p (puts j)) (inner k low) ∙ sent_left matches k n empty_state (history.turns k) p q sends (turned matches n most reached k low).whole

  pub comes_right : (p : Msg P → Bool) (k : ℕ) → k < n → ((x : Msg P) → p x ≡ true → goes_right x ≡ true) → came_r p k ≡ handled p k
  comes_right p k low goes = ap (λ j. count p (takes j)) (inner k low) ∙ came_right (history.turns k) p goes ((directed matches n most reached).come_in k)

  pub comes_left : (p : Msg P → Bool) (k : ℕ) → k < n → ((x : Msg P) → p x ≡ true → goes_left x ≡ true) → came_l p (suc k) ≡ handled p k
  comes_left p k low goes = came_left (history.turns k) p goes ((directed matches n most reached).come_in k)

  pub passes_on : (p : Msg P → Bool) → ((k : ℕ) → SendsRight p p k n) → ((x : Msg P) → p x ≡ true → goes_right x ≡ true) → PassesOn (sent_r p) (came_r p) (way_r p) n
  passes_on p sends goes = record { each = each_r p; sent_on = λ k low. sends_right p p k low (sends k) ∙ sym (comes_right p k low goes) }

  pub passes_back : (p : Msg P → Bool) → ((k : ℕ) → SendsLeft p p k n) → ((x : Msg P) → p x ≡ true → goes_left x ≡ true) → PassesBack (sent_l p) (came_l p) (way_l p) n
  passes_back p sends goes = record { each = each_l p; sent_on = λ k low. sends_left p p k low (sends k) ∙ sym (comes_left p k low goes) }

  pub came_last : (p : Msg P → Bool) → came_r p n ≡ came_out Right p history.log
  came_last p = ap (λ j. count p (takes j)) outer

  pub sent_last : (p : Msg P → Bool) → sent_l p n ≡ put_in Right p history.log
  sent_last p = ap (λ j. count p (puts j)) outer

  -- rows and expiries, and closes
  pub rows_right : (k : ℕ) → k ≤ n → way_r a_R k + came_out Right a_R history.log ≤ put_in Left a_R history.log
  rows_right k within = omega (arith, few_under_way (sent_r a_R) (came_r a_R) (way_r a_R) n (passes_on a_R (λ j. R_right j n) R_goes) k within, came_last a_R)

  pub expiries_right : (k : ℕ) → k ≤ n → way_r an_ExpS k + came_out Right an_ExpS history.log ≤ put_in Left an_ExpS history.log
  expiries_right k within = omega (arith, few_under_way (sent_r an_ExpS) (came_r an_ExpS) (way_r an_ExpS) n (passes_on an_ExpS (λ j. ExpS_right j n) ExpS_goes) k within, came_last an_ExpS)

  pub quiets_right : (k : ℕ) → k ≤ n → way_r a_QuietL k + came_out Right a_QuietL history.log ≤ put_in Left a_QuietL history.log
  quiets_right k within = omega (arith, few_under_way (sent_r a_QuietL) (came_r a_QuietL) (way_r a_QuietL) n (passes_on a_QuietL (λ j. QuietL_right j n) QuietL_goes) k within, came_last a_QuietL)

  pub closes_right : (k : ℕ) → k ≤ n → way_r a_CloseL k ≤ put_in Left a_CloseL history.log
  closes_right k within = omega (arith, few_under_way (sent_r a_CloseL) (came_r a_CloseL) (way_r a_CloseL) n (passes_on a_CloseL (λ j. CloseL_right j n) CloseL_goes) k within)

  pub S_back : PassesBack (sent_l an_S) (came_l an_S) (way_l an_S) n
  S_back = passes_back an_S (λ j. S_left j n) S_goes

  pub rows_left : (k : ℕ) → k ≤ n → way_l an_S k + came_out Left an_S history.log ≤ put_in Right an_S history.log
  rows_left k within = omega (arith, few_under_way_back (sent_l an_S) (came_l an_S) (way_l an_S) n S_back k within, sent_last an_S)

  pub expiries_left : (k : ℕ) → k ≤ n → way_l an_ExpR k + came_out Left an_ExpR history.log ≤ put_in Right an_ExpR history.log
  expiries_left k within = omega (arith, few_under_way_back (sent_l an_ExpR) (came_l an_ExpR) (way_l an_ExpR) n (passes_back an_ExpR (λ j. ExpR_left j n) ExpR_goes) k within, sent_last an_ExpR)

  pub quiets_left : (k : ℕ) → k ≤ n → way_l a_QuietR k + came_out Left a_QuietR history.log ≤ put_in Right a_QuietR history.log
  quiets_left k within = omega (arith, few_under_way_back (sent_l a_QuietR) (came_l a_QuietR) (way_l a_QuietR) n (passes_back a_QuietR (λ j. QuietR_left j n) QuietR_goes) k within, sent_last a_QuietR)

  pub closes_left : (k : ℕ) → k ≤ n → way_l a_CloseR k ≤ put_in Right a_CloseR history.log
  closes_left k within = omega (arith, few_under_way_back (sent_l a_CloseR) (came_l a_CloseR) (way_l a_CloseR) n (passes_back a_CloseR (λ j. CloseR_left j n) CloseR_goes) k within, sent_last a_CloseR)

  -- the marks that rows have been everywhere: those of right rows begin at core 0
  no_EndS_first : sent_r an_EndS 0 ≡ 0
  no_EndS_first = puts_none an_EndS history.log Left (port-left an_EndS (λ at row. refl) (λ at. refl) (λ at. refl) refl)

  pub EndS_from_first : sent_r an_EndS 1 ≡ came_l an_S 1
  EndS_from_first =
      omega (
        arith,
        sends_right an_EndS an_S_or_EndS 0 (omega arith) (EndS_first n),
        S_or_EndS (messages (history.turns 0)),
        comes_left an_S 0 (omega arith) S_goes,
        comes_right an_EndS 0 (omega arith) EndS_goes,
        each_r an_EndS 0 (omega arith),
        no_EndS_first,
      )

  pub EndS_on : PassesOn (λ j. sent_r an_EndS (suc j)) (λ j. came_r an_EndS (suc j)) (λ j. way_r an_EndS (suc j)) m
  EndS_on = record {
    each = λ j within. each_r an_EndS (suc j) (omega (arith, within));
    sent_on = λ j low. sends_right an_EndS an_EndS (suc j) (omega (arith, low)) (EndS_right (suc j) n (eqb-suc-zero j)) ∙ sym (comes_right an_EndS (suc j) (omega (arith, low)) EndS_goes);
  }

  pub ends_right : (k : ℕ) → k ≤ n → way_r an_EndS k + came_out Right an_EndS history.log ≤ put_in Right an_S history.log
  ends_right k within =
      let few : (j : ℕ) → j ≤ m → way_r an_EndS (suc j) + came_r an_EndS n ≤ sent_r an_EndS 1 = few_under_way (λ j. sent_r an_EndS (suc j)) (λ j. came_r an_EndS (suc j)) (λ j. way_r an_EndS (suc j)) m EndS_on in
      let all : sent_r an_EndS 1 ≤ put_in Right an_S history.log =
      omega (arith, EndS_from_first, each_l an_S 1 (omega arith), fewer_sent_back (sent_l an_S) (came_l an_S) (way_l an_S) n S_back 1 (omega arith), sent_last an_S) in
      go k within few all
    where
      go : (k : ℕ) → k ≤ n → ((j : ℕ) → j ≤ m → way_r an_EndS (suc j) + came_r an_EndS n ≤ sent_r an_EndS 1) → sent_r an_EndS 1 ≤ put_in Right an_S history.log
          → way_r an_EndS k + came_out Right an_EndS history.log ≤ put_in Right an_S history.log
      go zero within few all = omega (arith, few m (omega arith), all, came_last an_EndS, each_r an_EndS 0 (omega arith), no_EndS_first)
      go (suc j) within few all = omega (arith, few j (omega (arith, within)), all, came_last an_EndS)

  -- and those of left rows at the last core
  no_EndR_last : sent_l an_EndR n ≡ 0
  no_EndR_last = sent_last an_EndR ∙ puts_none an_EndR history.log Right (port-right an_EndR (λ at row. refl) (λ at. refl) (λ at. refl) refl)

  last_core : is_last m n ≡ true
  last_core = eq-eqb (m + 1) n (omega arith)

  EndR_from_last : sent_l an_EndR m ≡ came_r a_R m
  EndR_from_last =
      omega (
        arith,
        sends_left an_EndR an_R_or_EndR m (omega arith) (EndR_last m n last_core),
        R_or_EndR (messages (history.turns m)),
        comes_right a_R m (omega arith) R_goes,
        comes_left an_EndR m (omega arith) EndR_goes,
        each_l an_EndR n (omega arith),
        no_EndR_last,
      )

  EndR_back : PassesBack (sent_l an_EndR) (came_l an_EndR) (way_l an_EndR) m
  EndR_back = record {
    each = λ k within. each_l an_EndR k (omega (arith, within));
    sent_on = λ k low. sends_left an_EndR an_EndR k (omega (arith, low)) (EndR_left k n (ne_eqb (k + 1) n (λ same. omega (arith, low, same)))) ∙ sym (comes_left an_EndR k (omega (arith, low)) EndR_goes);
  }

  pub ends_left : (k : ℕ) → k ≤ n → way_l an_EndR k + came_out Left an_EndR history.log ≤ put_in Left a_R history.log
  ends_left k within =
      let few : (j : ℕ) → j ≤ m → way_l an_EndR j + came_l an_EndR 0 ≤ sent_l an_EndR m = few_under_way_back (sent_l an_EndR) (came_l an_EndR) (way_l an_EndR) m EndR_back in
      let all : sent_l an_EndR m ≤ put_in Left a_R history.log =
      omega (arith, EndR_from_last, each_r a_R m (omega arith), fewer_sent (sent_r a_R) (came_r a_R) (way_r a_R) n (passes_on a_R (λ j. R_right j n) R_goes) m (omega arith)) in
      elim (last_or k within) [
        | inl low ↦ omega (arith, few k low, all)
        | inr same ↦ omega (arith, few m (omega arith), all, each_l an_EndR n (omega arith), no_EndR_last, ap (way_l an_EndR) same)
      ]
    where
      last_or : (k : ℕ) → k ≤ n → (k ≤ m) ⊎ (k ≡ n)
      last_or k within = elim (eqb_tells k n) [ inl w ↦ inr w.1 | inr w ↦ inl (omega (arith, w.1, within)) ]
