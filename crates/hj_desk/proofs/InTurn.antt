-- The turns don't fall in a journal that numbered steps leave one after another, as the turns of a core and the steps of the driver do.
use Rattle.std.proofs.Common.{◌≡◌, ℕ, ◌<◌, ◌≤◌, Bool, List, [], ◌∷◌, ◌++◌, map, refl, sym, subst, arith}
use Rattle.std.specs.List.{flat_map}
use Rattle.std.specs.List.Sorted.{IsStrictlyIncreasing}
use Rattle.hj_base.specs.declared.numbers.Side.{Side}
use Rattle.hj_base.specs.declared.numbers.Side.TheVariants.{Left, Right}
use Rattle.hj_base.specs.Journals.{Entry, IsInTurn, put, taken}
use Rattle.hj_msg.specs.declared.message.Msg.{Msg}
use Rattle.hj_msg.specs.declared.message.Report.{Report}
use Rattle.hj_msg.specs.Turns.{Turn, Turns, TakesTurns, all_of, at_left, at_reports, at_right, only_at}
use Rattle.hj_msg.proofs.NonFalling.{NoFall, no_fall-lower, non_decreasing}
use Rattle.hj_desk.proofs.Numbers.{tail_rises}

module _ {M : Type 0} where
  -- each entry is of this turn
  abbrev pub AreOfTurn : ℕ → List (Entry M) → Type 0
  AreOfTurn number [] = Unit {0}
  AreOfTurn number (entry ∷ entries) = (entry.turn ≡ number) × AreOfTurn number entries

  of_turn-append : (number : ℕ) (front back : List (Entry M)) → AreOfTurn number front → AreOfTurn number back → AreOfTurn number (front ++ back)
  of_turn-append number [] back front_are back_are = back_are
  of_turn-append number (entry ∷ front) back front_are back_are = (front_are.0, of_turn-append number front back front_are.1 back_are)

  puts-of_turn : (number : ℕ) (messages : List M) → AreOfTurn number (map (put number) messages)
  puts-of_turn number [] = tt
  puts-of_turn number (message ∷ messages) = (refl, puts-of_turn number messages)

  pub only-of_turn : (end side : Side) (number : ℕ) (entry : Entry M) → entry.turn ≡ number → AreOfTurn number (only_at end side entry)
  only-of_turn Left Left number entry is = (is, tt)
  only-of_turn Left Right number entry is = tt
  only-of_turn Right Left number entry is = tt
  only-of_turn Right Right number entry is = (is, tt)

  no_fall-turn : (low number : ℕ) (entries later : List (Entry M)) → AreOfTurn number entries → low ≤ number → NoFall number (map (λ (e : Entry M). e.turn) later)
      → NoFall low (map (λ (e : Entry M). e.turn) (entries ++ later))
  no_fall-turn low number [] later are less all = no_fall-lower low number (map (λ (e : Entry M). e.turn) later) less all
  no_fall-turn low number (entry ∷ entries) later are less all = (omega (arith, less, are.0), no_fall-turn entry.turn number entries later are.1 (omega (arith, are.0)) all)

-- each step leaves entries of its own number
module _ {T M : Type 0} (number_of : T → ℕ) (entries : T → List (Entry M)) (of_turn : (step : T) → AreOfTurn (number_of step) (entries step)) where
  no_fall-steps : (low : ℕ) (steps : List T) → IsStrictlyIncreasing (low ∷ map number_of steps) → NoFall low (map (λ (e : Entry M). e.turn) (flat_map entries steps))
  no_fall-steps low [] rising = tt
  no_fall-steps low (step ∷ steps) rising =
      let first : low < number_of step = rising 0 (omega arith) in
      no_fall-turn low (number_of step) (entries step) (flat_map entries steps) (of_turn step) (omega (arith, first)) (no_fall-steps (number_of step) steps (tail_rises low (number_of step ∷ map number_of steps) rising))

  pub steps-in_turn : (steps : List T) → IsStrictlyIncreasing (map number_of steps) → IsInTurn (flat_map entries steps)
  steps-in_turn [] rising = non_decreasing 0 [] tt
  steps-in_turn (step ∷ steps) rising =
      non_decreasing (number_of step) (map (λ (e : Entry M). e.turn) (flat_map entries (step ∷ steps)))
      (no_fall-turn (number_of step) (number_of step) (entries step) (flat_map entries steps) (of_turn step) (omega arith) (no_fall-steps (number_of step) steps rising))

-- In the journals of a core's two ends and of its reports they don't.
pub journals-in_turn : {P : Type 0} (matches : P → P → Bool) (place n : ℕ) (turns : Turns P) (left right : List (Entry (Msg P))) (reports : List (Entry (Report P))) → TakesTurns matches place n turns left right reports
    → IsInTurn left × IsInTurn right × IsInTurn reports
journals-in_turn {P} matches place n turns left right reports takes =
    let number_of : Turn P → ℕ = λ turn. turn.number in
    let at_left_of : (turn : Turn P) → AreOfTurn turn.number (at_left turn) =
    λ turn. of_turn-append turn.number (only_at turn.end Left (taken turn.number turn.message)) (map (put turn.number) turn.to_left) (only-of_turn turn.end Left turn.number (taken turn.number turn.message) refl) (puts-of_turn turn.number turn.to_left) in
    let at_right_of : (turn : Turn P) → AreOfTurn turn.number (at_right turn) =
    λ turn. of_turn-append turn.number (only_at turn.end Right (taken turn.number turn.message)) (map (put turn.number) turn.to_right) (only-of_turn turn.end Right turn.number (taken turn.number turn.message) refl) (puts-of_turn turn.number turn.to_right) in
    let at_reports_of : (turn : Turn P) → AreOfTurn turn.number (at_reports turn) = λ turn. puts-of_turn turn.number turn.reports in (
      subst IsInTurn (sym takes.left) (steps-in_turn number_of at_left at_left_of (all_of turns) takes.rising),
      subst IsInTurn (sym takes.right) (steps-in_turn number_of at_right at_right_of (all_of turns) takes.rising),
      subst IsInTurn (sym takes.reports) (steps-in_turn number_of at_reports at_reports_of (all_of turns) takes.rising),
    )
