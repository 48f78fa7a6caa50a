-- Where the run that the steps give is complete, the chain is done: the closes came out, so that nothing is under way, and the ends of
-- all cores were collected, so that no report waits.
use Rattle.std.proofs.Common.{◌≡◌, ℕ, zero, suc, ◌+◌, ◌<◌, ◌≤◌, inl, inr, not, Bool, true, false, cond, List, [], ◌∷◌, length, Contains, IsTrue, refl, ap, sym, ◌∙◌, arith}
use Rattle.std.specs.List.{flat_map}
use Rattle.hj_base.specs.declared.numbers.Side.{Side}
use Rattle.hj_base.specs.declared.numbers.Side.TheVariants.{Left, Right}
use Rattle.hj_base.specs.Journals.{puts, takes}
use Rattle.hj_msg.specs.declared.event.Event.{Event}
use Rattle.hj_msg.specs.declared.message.Msg.{Msg}
use Rattle.hj_msg.specs.declared.message.Msg.TheVariants.{CloseL, CloseR}
use Rattle.hj_msg.specs.declared.message.Report.{Report}
use Rattle.hj_msg.specs.declared.message.Report.TheVariants.{Ended}
use Rattle.hj_msg.specs.Core.{empty_state}
use Rattle.hj_msg.specs.Driver.{DriverTurn, receipt}
use Rattle.hj_msg.specs.Event.{IsWellFormed}
use Rattle.hj_msg.specs.Run.{IsRun, IsComplete, LogEntry, at_port, port_journal}
use Rattle.hj_msg.specs.Turns.{only_at, at_reports}
use Rattle.hj_msg.proofs.Members.{Contains-nil, Contains-cons_cases}
use Rattle.hj_driver.specs.Driver.{is_finished, is_sent}
use Rattle.hj_chain.specs.declared.actor.Actor.{Actor}
use Rattle.hj_chain.specs.Reports.{queue_at}
use Rattle.hj_chain.specs.Chain.{ChainState}
use Rattle.hj_chain.specs.Progress.{IsDone}
use Rattle.hj_chain.specs.Reached.{Reached, history_of, run_of}
use Rattle.hj_chain.proofs.Balance.{came_out}
use Rattle.hj_chain.proofs.Carrying.{rights, lefts}
use Rattle.hj_chain.proofs.Complete.{has_closed, both_taken}
use Rattle.hj_chain.proofs.Counts.{count, count-append}
use Rattle.hj_chain.proofs.Driving.{driven, turns_of}
use Rattle.hj_chain.proofs.EndsLast.{is_end, one_end, LastEnds, last_ends}
use Rattle.hj_chain.proofs.Journals.{takes-append, takes-entries, at_port-entries, took_at, sent_at}
use Rattle.hj_chain.proofs.MessageKinds.{a_CloseL, a_CloseR}
use Rattle.hj_chain.proofs.OnlyCloses.{closes_right, closes_left, one_right, one_left, was_sent}
use Rattle.hj_chain.proofs.Shape.{some_core}
use Rattle.hj_chain.proofs.Stuck.{Idle, done}
use Rattle.hj_chain.proofs.Turning.{state_at, turned}
use Rattle.hj_chain.proofs.UnderWay.{came_r, came_l, came_last}

-- a message that the driver took stands in the journal of its port
took-one : {P : Type 0} (p : Msg P → Bool) (port : Side) (message : Msg P) → p message ≡ true → count p (only_at port port message) ≡ 1
took-one p Left message is = ap (λ b. cond {A = ℕ} b 1 0 + 0) is
took-one p Right message is = ap (λ b. cond {A = ℕ} b 1 0 + 0) is

some-came : {P : Type 0} (p : Msg P → Bool) (port : Side) (message : Msg P) (log : List (LogEntry P)) → p message ≡ true → Contains (turns_of log) (receipt port message) → 1 ≤ came_out port p log
some-came p port message [] is has = absurd (Contains-nil _ has)
some-came {P} p port message (entry ∷ log) is has =
    let all : count p (takes (port_journal port (entry ∷ log))) ≡ count p (took_at port entry.turn) + came_out port p log =
    ap (count p) (takes-append (at_port port entry.number entry.turn) (port_journal port log)) ∙ count-append p (takes (at_port port entry.number entry.turn)) (takes (port_journal port log))
    ∙ ap (λ ms. count p ms + came_out port p log) (ap takes (at_port-entries port entry.number entry.turn) ∙ takes-entries entry.number (took_at port entry.turn) (sent_at port entry.turn)) in
    elim (Contains-cons_cases entry.turn (receipt port message) (turns_of log) has) [
      | inl here ↦ omega (arith, all, ap (λ (t : DriverTurn P). count p (took_at port t)) here, took-one p port message is)
      | inr later ↦ omega (arith, all, some-came p port message log is later)
    ]

some-ends : {P : Type 0} (reports : List (Report P)) → Contains reports Ended → 1 ≤ count is_end reports
some-ends [] has = absurd (Contains-nil _ has)
some-ends {P} (r ∷ reports) has = elim (Contains-cons_cases r Ended reports has) [
  | inl here ↦ omega (arith, ap (λ (x : Report P). cond {A = ℕ} (is_end x) 1 0) here)
  | inr later ↦ omega (arith, some-ends reports later)
]

empty : {X : Type 0} (xs : List X) → length xs ≡ 0 → xs ≡ []
empty [] none = refl
empty (x ∷ xs) none = absurd (omega (arith, none))

is_closed : (b : Bool) → cond {A = ℕ} (not b) 1 0 ≡ 0 → b ≡ true
is_closed true none = refl
is_closed false none = absurd (omega (arith, none))

none_waits : {P : Type 0} (queue : List (Report P)) → LastEnds queue → count is_end queue ≡ 0 → queue ≡ []
none_waits queue last none = elim last [
  | inl empty ↦ empty
  | inr w ↦ absurd (omega (arith, none, ap (count is_end) w.1, count-append is_end w.0 (Ended ∷ [])))
]

one : (b : Bool) → cond {A = ℕ} b 1 0 ≤ 1
one true = omega arith
one false = omega arith

-- both closes came out, and the end of each core was collected
module _ {P : Type 0} (matches : P → P → Bool) (m most : ℕ) {schedule : List Actor} {events : List (Event P)} {chain : ChainState P} (reached : Reached matches (suc m) most schedule events chain) (well : IsWellFormed events)
    (left_came : 1 ≤ came_r matches m most reached a_CloseL (suc m)) (right_came : 1 ≤ came_l matches m most reached a_CloseR 0) (ended : (k : ℕ) → k < suc m → Contains (takes ((history_of reached).collected k)) Ended) where
  sent : is_sent chain.driver.closes ≡ true
  sent = was_sent (is_sent chain.driver.closes) (omega (arith, left_came, one_right matches m most reached well 0 (omega arith)))

  -- no report waits behind the end of a core
  collected : (k : ℕ) → k < suc m → queue_at chain.reports k ≡ []
  collected k low =
      let at = turned matches (suc m) most reached k low in
      let ends = one_end matches k (suc m) empty_state ((history_of reached).turns k) at.whole in
      let some = some-ends (takes ((history_of reached).collected k)) (ended k low) in
      let both : count is_end (puts (flat_map at_reports ((history_of reached).turns k))) ≡ count is_end (takes ((history_of reached).collected k)) + count is_end (queue_at chain.reports k) =
      ap (count is_end) at.reports ∙ count-append is_end (takes ((history_of reached).collected k)) (queue_at chain.reports k) in
      let closed : has_closed (state_at chain k) ≡ true = ap has_closed at.keeps ∙ is_closed _ (omega (arith, ends, some, both)) in
      none_waits (queue_at chain.reports k) (last_ends matches m most reached well k low closed) (omega (arith, ends, some, both))

  idle : Idle (suc m) chain
  idle = record {
    rightwards = λ k within. empty (rights chain k) (omega (arith, closes_right matches m most reached well sent k within, one_right matches m most reached well k within, left_came, one (is_sent chain.driver.closes)));
    leftwards = λ k within. empty (lefts chain k) (omega (arith, closes_left matches m most reached well sent k within, one_left matches m most reached well k within, right_came, one (is_sent chain.driver.closes)));
    reports = collected;
  }

  is_done : IsDone chain
  is_done = done matches (suc m) most reached idle sent

pub complete_is_done : {P : Type 0} (matches : P → P → Bool) (n most : ℕ) {schedule : List Actor} {events : List (Event P)} {chain : ChainState P} (reached : Reached matches n most schedule events chain)
    → (is : IsRun (run_of reached)) → IsComplete is → IsDone chain
complete_is_done matches zero most reached is complete = absurd (omega (arith, some_core reached))
complete_is_done matches (suc m) most reached is complete = is_done matches m most reached is.well_formed
    (omega (arith, some-came a_CloseL Right CloseL is.log refl complete.close_left, ap (λ j. count a_CloseL (takes j)) is.right_port))
    (omega (arith, some-came a_CloseR Left CloseR is.log refl complete.close_right, ap (λ j. count a_CloseR (takes j)) is.left_port))
    complete.ended

-- told by the driver's state, and by what was collected
pub ended_is_done : {P : Type 0} (matches : P → P → Bool) (n most : ℕ) {schedule : List Actor} {events : List (Event P)} {chain : ChainState P} (reached : Reached matches n most schedule events chain) → IsWellFormed events
    → IsTrue (is_finished chain.driver.closes) → ((k : ℕ) → k < n → Contains (takes ((history_of reached).collected k)) Ended) → IsDone chain
ended_is_done matches zero most reached well finished ended = absurd (omega (arith, some_core reached))
ended_is_done matches (suc m) most reached well finished ended =
    let log = (history_of reached).log in
    let closes = both_taken (turns_of log) (ap is_finished (sym (driven matches (suc m) most reached well).stands.closes) ∙ finished) in
    is_done matches m most reached well
    (omega (arith, some-came a_CloseL Right CloseL log refl closes.0, came_last matches m most reached a_CloseL))
    (omega (arith, some-came a_CloseR Left CloseR log refl closes.1))
    ended
