-- What has come out was taken.
use Rattle.std.proofs.Common.{◌≡◌, ℕ, ◌==◌, Bool, true, false, ◌&&◌, ◌||◌, List, [], ◌∷◌, refl, ap, sym, ◌∙◌, eqb-true}
use Rattle.std.proofs.lemmas.Bool.{false≢true}
use Rattle.hj_base.specs.declared.numbers.Side.{Side}
use Rattle.hj_base.specs.declared.numbers.Side.TheVariants.{Left, Right}
use Rattle.hj_msg.specs.declared.event.Event.TheVariants.{Arrive}
use Rattle.hj_msg.specs.Messages.{is_R, is_S}
use Rattle.hj_msg.specs.Driver.{DriverTurn, admission, receipt, closing, is_take, took, came_out}
use Rattle.hj_msg.proofs.Sides.{opposite, is_row}

-- one of two holds, or both do not
cases_or : (a b : Bool) (A : Type 0) → a || b ≡ true → (a ≡ true → A) → (b ≡ true → A) → A
cases_or true b A is left right = left refl
cases_or false b A is left right = right is

both : (a b : Bool) → a && b ≡ true → (a ≡ true) × (b ≡ true)
both true true is = (refl, refl)
both true false is = absurd (false≢true is)
both false b is = absurd (false≢true is)

-- the row of an arrival came out, or another one did that has its number
taken_now : (at number : ℕ) (is_taken : ℕ → Bool) (before : Bool) → (at == number && is_taken at) || before ≡ true
    → (before ≡ true → is_taken number ≡ true) → is_taken number ≡ true
taken_now at number is_taken before out deeper =
    cases_or (at == number && is_taken at) before (is_taken number ≡ true) out
    (λ now. let w = both (at == number) (is_taken at) now in ap is_taken (sym (eqb-true at number w.0)) ∙ w.1) deeper

later_too : (a b : Bool) → b ≡ true → a || b ≡ true
later_too true b is = refl
later_too false b is = is

-- a row that came out was taken at the port of the opposite side
pub took-from_came_out : {P : Type 0} (side : Side) (number : ℕ) (log : List (DriverTurn P)) → came_out side number log ≡ true
    → took (opposite side) (is_row side number) log ≡ true
took-from_came_out side number [] out = absurd (false≢true out)
took-from_came_out {P} Left number (admission (Arrive at Left row) ∷ later) out =
    taken_now at.0 number (λ n. took Right (is_R {P = P} n) later) (came_out Left number later) out (took-from_came_out Left number later)
took-from_came_out {P} Right number (admission (Arrive at Right row) ∷ later) out =
    taken_now at.0 number (λ n. took Left (is_S {P = P} n) later) (came_out Right number later) out (took-from_came_out Right number later)
took-from_came_out side number (admission event ∷ later) out = took-from_came_out side number later out
took-from_came_out side number (receipt port message ∷ later) out =
    later_too (is_take (opposite side) (is_row side number) (receipt port message)) _ (took-from_came_out side number later out)
took-from_came_out side number (closing ∷ later) out =
    later_too (is_take (opposite side) (is_row side number) closing) _ (took-from_came_out side number later out)
