-- The feed of two rows gives them under their numbers.
use Rattle.std.proofs.Common.{◌≡◌, ◌≢◌, ℕ, zero, suc, ◌+◌, ◌<◌, Bool, false, refl, sym, subst, arith}
use Rattle.hj_base.specs.declared.numbers.Side.{Side}
use Rattle.hj_base.specs.declared.numbers.Side.TheVariants.{Left, Right}
use Rattle.hj_msg.specs.declared.event.Event.TheVariants.{Arrive}
use Rattle.hj_msg.specs.Feed.{GivesEvent}
use Rattle.hj_chain_tests.specs.TwoRows.{next_side, other_side, rows_given}

gives-next : {P : Type 0} (first : Side) (given : ℕ) (row : P) → given < 2 → GivesEvent (Arrive (record { 0 = given }) (next_side first given) row) (rows_given first given false) (rows_given first (given + 1) false)
gives-next Left zero row few = record { going = refl; numbered = refl; live = tt; numbering = refl; remaining = omega arith; goes_on = refl }
gives-next Right zero row few = record { going = refl; numbered = refl; live = tt; numbering = refl; remaining = omega arith; goes_on = refl }
gives-next Left (suc zero) row few = record { going = refl; numbered = refl; live = tt; numbering = refl; remaining = omega arith; goes_on = refl }
gives-next Right (suc zero) row few = record { going = refl; numbered = refl; live = tt; numbering = refl; remaining = omega arith; goes_on = refl }
gives-next first (suc (suc more)) row few = absurd (omega (arith, few))

pub gives-row : {P : Type 0} (first side : Side) (given : ℕ) (stopped : Bool) (row : P) → given < 2 → stopped ≡ false → side ≡ next_side first given
    → GivesEvent (Arrive (record { 0 = given }) side row) (rows_given first given stopped) (rows_given first (given + 1) stopped)
gives-row first side given stopped row few going is =
    subst (λ (b : Bool). GivesEvent (Arrive (record { 0 = given }) side row) (rows_given first given b) (rows_given first (given + 1) b)) (sym going)
    (subst (λ (s : Side). GivesEvent (Arrive (record { 0 = given }) s row) (rows_given first given false) (rows_given first (given + 1) false)) (sym is) (gives-next first given row few))

pub first_row : (first : Side) (given : ℕ) → given ≡ 0 → first ≡ next_side first given
first_row first given is = subst (λ (m : ℕ). first ≡ next_side first m) (sym is) refl

pub later_row : (first side : Side) (given : ℕ) → given ≢ 0 → side ≡ other_side first → side ≡ next_side first given
later_row first side zero later is = absurd (later refl)
later_row first side (suc given) later is = is
