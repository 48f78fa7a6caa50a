-- Where nothing is under way, each core has handled and reported each arrival and each quiet event that was put.
use Rattle.std.proofs.Common.{◌≡◌, ℕ, zero, suc, ◌+◌, ◌-◌, ◌<◌, ◌≤◌, Bool, true, false, cond, ◌||◌, ◌==◌, nat_lt, inl, inr, List, [], ◌∷◌, ◌++◌, get_or, Contains, refl, ap, sym, ◌∙◌, subst, arith, append-nil, eq-eqb}
use Rattle.std.specs.List.{list_any, flat_map}
use Rattle.std.proofs.lemmas.List.Folds.{list_any-append}
use Rattle.hj_base.specs.declared.numbers.EventNo.{EventNo}
use Rattle.hj_base.specs.declared.numbers.Side.{Side}
use Rattle.hj_base.specs.declared.numbers.Side.TheVariants.{Left, Right}
use Rattle.hj_base.specs.Journals.{puts, takes}
use Rattle.hj_msg.specs.declared.event.Event.{Event}
use Rattle.hj_msg.specs.declared.event.Event.TheVariants.{Arrive, Quiet}
use Rattle.hj_msg.specs.declared.message.Msg.{Msg}
use Rattle.hj_msg.specs.declared.message.Msg.TheVariants.{R, AckS, EndS, QuietL, S, EndR, QuietR}
use Rattle.hj_msg.specs.Core as core
use Rattle.hj_msg.specs.Core.{State, empty_state, only_if, is_last}
use Rattle.hj_msg.specs.Driver.{DriverTurn, admission, receipt, closing, admitted}
use Rattle.hj_msg.specs.Event.{number, IsWellFormed}
use Rattle.hj_msg.specs.Punctuation.{tells}
use Rattle.hj_msg.specs.Quiet.{tells_of, AllTold}
use Rattle.hj_msg.specs.Run.{LogEntry, at_port, port_journal}
use Rattle.hj_msg.specs.Turns.{Turn, AreWhole, at_reports}
use Rattle.hj_msg.proofs.Marks.{told_option}
use Rattle.hj_msg.proofs.Members.{Contains-nil, Contains-cons_cases}
use Rattle.hj_chain.specs.declared.actor.Actor.{Actor}
use Rattle.hj_chain.specs.Chain.{ChainState}
use Rattle.hj_chain.specs.Reached.{Reached, history_of, collected_of}
use Rattle.hj_chain.proofs.Counts.{count, count-append}
use Rattle.hj_chain.proofs.Driving.{turns_of}
use Rattle.hj_chain.proofs.Gathered.{collected-at}
use Rattle.hj_chain.proofs.Journals.{puts-append, puts-puts, puts-entries, at_port-entries, took_at, sent_at}
use Rattle.hj_chain.proofs.MessageKinds.{goes_right, goes_left, SendsRight, SendsLeft}
use Rattle.hj_chain.proofs.Passing.{all_came, all_came_back}
use Rattle.hj_chain.proofs.Projection.{is_run, log_is}
use Rattle.hj_chain.proofs.Shape.{some_core}
use Rattle.hj_chain.proofs.Stuck.{Idle}
use Rattle.hj_chain.proofs.Turning.{messages, turned}
use Rattle.hj_chain.proofs.UnderWay.{sent_r, sent_l, came_r, came_l, way_r, way_l, handled, comes_right, comes_left, passes_on, passes_back, sent_last}

-- what passes a test is among what is counted by it
some_passes : {X : Type 0} (p : X → Bool) (xs : List X) → 1 ≤ count p xs → list_any p xs ≡ true
some_passes p [] some = absurd (omega (arith, some))
some_passes p (x ∷ xs) some = by (p x) refl (some_passes p xs)
  where
    by : (b : Bool) → p x ≡ b → (1 ≤ count p xs → list_any p xs ≡ true) → (p x || list_any p xs) ≡ true
    by true is deeper = ap (λ b. b || list_any p xs) is
    by false is deeper = ap (λ b. b || list_any p xs) is ∙ deeper (omega (arith, some, ap (λ b. cond {A = ℕ} b 1 0) is))

-- what is marked under a number: the row or the quiet event of a side
abbrev pub marks : {P : Type 0} → Side → ℕ → Msg P → Bool
marks Left at (R own row) = own.0 == at
marks Left at (QuietL own) = own.0 == at
marks Right at (S own row) = own.0 == at
marks Right at (QuietR own) = own.0 == at
marks side at other = false

-- it goes the way of its side, and is sent on
marks_right : {P : Type 0} (at : ℕ) (m : Msg P) → marks Left at m ≡ true → goes_right m ≡ true
marks_right at (R own row) is = refl
marks_right at (QuietL own) is = refl
marks_right at other is = absurd (cc)

marks_left : {P : Type 0} (at : ℕ) (m : Msg P) → marks Right at m ≡ true → goes_left m ≡ true
marks_left at (S own row) is = refl
marks_left at (QuietR own) is = refl
marks_left at other is = absurd (cc)

unmarked_right : (P : Type 0) (at : ℕ) (here there : Bool) (own : EventNo) → count (marks {P = P} Left at) (only_if here (AckS own) ++ only_if there (EndS own)) ≡ 0
unmarked_right P at true true own = refl
unmarked_right P at true false own = refl
unmarked_right P at false true own = refl
unmarked_right P at false false own = refl

unmarked_left : (P : Type 0) (at : ℕ) (here : Bool) (own : EventNo) → count (marks {P = P} Right at) (only_if here (EndR own)) ≡ 0
unmarked_left P at true own = refl
unmarked_left P at false own = refl

marks_sent_right : {P : Type 0} (at place n : ℕ) → SendsRight {P = P} (marks Left at) (marks Left at) place n
marks_sent_right {P} at place n (S own row) = unmarked_right P at (nat_lt (place + 1) n) (place == 0) own
marks_sent_right at place n other = refl

marks_sent_left : {P : Type 0} (at place n : ℕ) → SendsLeft {P = P} (marks Right at) (marks Right at) place n
marks_sent_left {P} at place n (R own row) = unmarked_left P at (is_last place n) own
marks_sent_left at place n other = refl

-- an event that tells of a side puts a mark there, under its number
puts_mark : {P : Type 0} (side : Side) (event : Event P) → tells_of side event ≡ true → count (marks side (number event)) (sent_at side (admission event)) ≡ 1
puts_mark Left (Arrive at Left row) is = ap (λ b. cond {A = ℕ} b 1 0 + 0) (eq-eqb at.0 at.0 refl)
puts_mark Right (Arrive at Right row) is = ap (λ b. cond {A = ℕ} b 1 0 + 0) (eq-eqb at.0 at.0 refl)
puts_mark Left (Quiet at Left) is = ap (λ b. cond {A = ℕ} b 1 0 + 0) (eq-eqb at.0 at.0 refl)
puts_mark Right (Quiet at Right) is = ap (λ b. cond {A = ℕ} b 1 0 + 0) (eq-eqb at.0 at.0 refl)
puts_mark Left other is = absurd (cc)
puts_mark Right other is = absurd (cc)

module _ {P : Type 0} (side : Side) (p : Msg P → Bool) (event : Event P) (puts_it : count p (sent_at side (admission event)) ≡ 1) where
  put_in_turn : (turn : DriverTurn P) (later : List (DriverTurn P)) (others : ℕ) → Contains (admitted (turn ∷ later)) event → (Contains (admitted later) event → 1 ≤ others) → 1 ≤ count p (sent_at side turn) + others
  put_in_turn (admission other) later others there deeper = elim (Contains-cons_cases other event (admitted later) there) [
    | inl same ↦ omega (arith, puts_it, ap (λ (e : Event P). count p (sent_at side (admission e))) same)
    | inr behind ↦ omega (arith, deeper behind)
  ]
  put_in_turn (receipt port message) later others there deeper = omega (arith, deeper there)
  put_in_turn closing later others there deeper = omega (arith, deeper there)

  -- what an event puts on a port stands there
  pub put_on_port : (log : List (LogEntry P)) → Contains (admitted (turns_of log)) event → 1 ≤ count p (puts (port_journal side log))
  put_on_port [] there = absurd (Contains-nil event there)
  put_on_port (entry ∷ log) there =
      omega (
        arith,
        ap (count p) (puts-append (at_port side entry.number entry.turn) (port_journal side log)),
        count-append p (puts (at_port side entry.number entry.turn)) (puts (port_journal side log)),
        ap (λ j. count p (puts j)) (at_port-entries side entry.number entry.turn),
        ap (count p) (puts-entries entry.number (took_at side entry.turn) (sent_at side entry.turn)),
        put_in_turn entry.turn (turns_of log) (count p (puts (port_journal side log))) there (put_on_port log),
      )

either : (a b : Bool) → (a || b) ≡ true → (c d : Bool) → (a ≡ true → c ≡ true) → (b ≡ true → d ≡ true) → (c || d) ≡ true
either true b is c d one other = ap (λ x. x || d) (one refl)
either false b is true d one other = refl
either false b is false d one other = other is

-- whole turns report what is marked, where they handled it
told_of_handled : {P : Type 0} (matches : P → P → Bool) (side : Side) (at place n : ℕ) (state : State P) (turns : List (Turn P)) → AreWhole matches place n state turns
    → list_any (marks side at) (messages turns) ≡ true → list_any (tells side at) (puts (flat_map at_reports turns)) ≡ true
told_of_handled matches side at place n state [] whole is = absurd (cc)
told_of_handled matches side at place n state (turn ∷ turns) whole is =
    let are : puts (flat_map at_reports (turn ∷ turns)) ≡ turn.reports ++ puts (flat_map at_reports turns) =
    puts-append (at_reports turn) (flat_map at_reports turns) ∙ ap (λ rs. rs ++ puts (flat_map at_reports turns)) (puts-puts turn.number turn.reports) in
    let here : list_any (tells side at) turn.reports ≡ marks side at turn.message = ap (list_any (tells side at)) whole.0.reports ∙ told_option matches side at state turn.message in
    ap (list_any (tells side at)) are
    ∙ list_any-append (tells side at) turn.reports (puts (flat_map at_reports turns))
    ∙ either (marks side at turn.message) (list_any (marks side at) (messages turns)) is (list_any (tells side at) turn.reports) (list_any (tells side at) (puts (flat_map at_reports turns))) (λ own. here ∙ own)
    (λ later. told_of_handled matches side at place n (core.after place n state turn.message) turns whole.1 later)

-- The chain has m + 1 cores.
module _ {P : Type 0} (matches : P → P → Bool) (m most : ℕ) {schedule : List Actor} {events : List (Event P)} {chain : ChainState P} (reached : Reached matches (suc m) most schedule events chain) (idle : Idle (suc m) chain) where
  abbrev put_at : Side → (Msg P → Bool) → ℕ
  put_at side p = count p (puts (port_journal side (history_of reached).log))

  none_right : (p : Msg P → Bool) (k : ℕ) → k ≤ suc m → way_r matches m most reached p k ≡ 0
  none_right p k within = ap (count p) (idle.rightwards k within)

  none_left : (p : Msg P → Bool) (k : ℕ) → k ≤ suc m → way_l matches m most reached p k ≡ 0
  none_left p k within = ap (count p) (idle.leftwards k within)

  -- each core handled what was put
  handled_right : (at k : ℕ) → k < suc m → handled matches m most reached (marks Left at) k ≡ put_at Left (marks Left at)
  handled_right at k low =
      let p : Msg P → Bool = marks Left at in
      sym (comes_right matches m most reached p k low (marks_right at))
      ∙ all_came (sent_r matches m most reached p) (came_r matches m most reached p) (way_r matches m most reached p) (suc m) (passes_on matches m most reached p (λ j. marks_sent_right at j (suc m)) (marks_right at))
      (none_right p) k (omega (arith, low))

  handled_left : (at k : ℕ) → k < suc m → handled matches m most reached (marks Right at) k ≡ put_at Right (marks Right at)
  handled_left at k low =
      let p : Msg P → Bool = marks Right at in
      sym (comes_left matches m most reached p k low (marks_left at))
      ∙ all_came_back (sent_l matches m most reached p) (came_l matches m most reached p) (way_l matches m most reached p) (suc m) (passes_back matches m most reached p (λ j. marks_sent_left at j (suc m)) (marks_left at))
      (none_left p) (suc k) (m - k) (omega (arith, low))
      ∙ sent_last matches m most reached p

  handled_at : (side : Side) (at k : ℕ) → k < suc m → handled matches m most reached (marks side at) k ≡ put_at side (marks side at)
  handled_at Left at k low = handled_right at k low
  handled_at Right at k low = handled_left at k low

  -- and reported it
  pub told_everywhere : (event : Event P) → Contains (admitted (turns_of (history_of reached).log)) event → (side : Side) → tells_of side event ≡ true → (k : ℕ) → k < suc m
      → list_any (tells side (number event)) (get_or (collected_of reached) k []) ≡ true
  told_everywhere event there side is k low =
      let p : Msg P → Bool = marks side (number event) in
      let log = (history_of reached).log in
      let at = turned matches (suc m) most reached k low in
      let put : 1 ≤ put_at side p = put_on_port side p event (puts_mark side event is) log there in
      let came : list_any p (messages ((history_of reached).turns k)) ≡ true
      = some_passes p (messages ((history_of reached).turns k)) (omega (arith, handled_at side (number event) k low, put)) in
      let all : puts (flat_map at_reports ((history_of reached).turns k)) ≡ get_or (collected_of reached) k []
      = at.reports ∙ ap (λ rs. takes ((history_of reached).collected k) ++ rs) (idle.reports k low) ∙ append-nil _ ∙ sym (collected-at reached k low) in
      ap (list_any (tells side (number event))) (sym all) ∙ told_of_handled matches side (number event) k (suc m) empty_state ((history_of reached).turns k) at.whole came

told-of : {P : Type 0} (matches : P → P → Bool) (n most : ℕ) {schedule : List Actor} {events : List (Event P)} {chain : ChainState P} (reached : Reached matches n most schedule events chain) → 1 ≤ n → Idle n chain
    → (event : Event P) → Contains (admitted (turns_of (history_of reached).log)) event → (side : Side) → tells_of side event ≡ true → (k : ℕ) → k < n → list_any (tells side (number event)) (get_or (collected_of reached) k []) ≡ true
told-of matches zero most reached some idle = absurd (omega (arith, some))
told-of matches (suc m) most reached some idle = told_everywhere matches m most reached idle

-- Where nothing is under way, each core reported all that was put.
pub all_told : {P : Type 0} (matches : P → P → Bool) (n most : ℕ) {schedule : List Actor} {events : List (Event P)} {chain : ChainState P} (reached : Reached matches n most schedule events chain) (well : IsWellFormed events)
    → Idle n chain → AllTold (is_run matches n most reached well) (collected_of reached)
all_told {P} matches n most reached well idle event there side is k low =
    told-of matches n most reached (some_core reached) idle event (subst (λ (es : List (Event P)). Contains es event) (ap (λ log. admitted (turns_of log)) (log_is matches n most reached well)) there) side is k low
