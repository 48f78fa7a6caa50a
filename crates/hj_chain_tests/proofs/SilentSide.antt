-- The feed of a side that falls silent gives its events under their numbers.
use Rattle.std.proofs.Common.{◌≡◌, ◌≢◌, ℕ, zero, suc, ◌+◌, ◌<◌, Bool, false, refl, sym, subst, arith}
use Rattle.hj_base.specs.declared.numbers.Side.TheVariants.{Left, Right}
use Rattle.hj_msg.specs.declared.event.Event.{Event}
use Rattle.hj_msg.specs.declared.event.Event.TheVariants.{Arrive, Quiet}
use Rattle.hj_msg.specs.Feed.{GivesEvent}
use Rattle.hj_chain_tests.specs.SilentSide.{event_of, silence_given}

pub first_event : {P : Type 0} (row : P) (number : ℕ) → number ≡ 0 → Arrive (record { 0 = number }) Right row ≡ event_of row number
first_event row number is = subst (λ (n : ℕ). Arrive (record { 0 = n }) Right row ≡ event_of row n) (sym is) refl

pub quiet_event : {P : Type 0} (row : P) (number is_at : ℕ) → number ≡ is_at → Quiet (record { 0 = is_at }) Right ≡ event_of row is_at → Quiet (record { 0 = number }) Right ≡ event_of row number
quiet_event row number is_at is there = subst (λ (n : ℕ). Quiet (record { 0 = n }) Right ≡ event_of row n) (sym is) there

pub left_event : {P : Type 0} (row : P) (number : ℕ) → number ≢ 0 → number ≢ 3 → number ≢ 6 → Arrive (record { 0 = number }) Left row ≡ event_of row number
left_event row zero first third sixth = absurd (first refl)
left_event row (suc (suc (suc zero))) first third sixth = absurd (third refl)
left_event row (suc (suc (suc (suc (suc (suc zero)))))) first third sixth = absurd (sixth refl)
left_event row number first third sixth = refl

gives-next : {P : Type 0} (row : P) (given : ℕ) → given < 7 → GivesEvent (event_of row given) (silence_given given false) (silence_given (given + 1) false)
gives-next row zero few = record { going = refl; numbered = refl; live = tt; numbering = refl; remaining = omega arith; goes_on = refl }
gives-next row (suc zero) few = record { going = refl; numbered = refl; live = tt; numbering = refl; remaining = omega arith; goes_on = refl }
gives-next row (suc (suc zero)) few = record { going = refl; numbered = refl; live = tt; numbering = refl; remaining = omega arith; goes_on = refl }
gives-next row (suc (suc (suc zero))) few = record { going = refl; numbered = refl; live = tt; numbering = refl; remaining = omega arith; goes_on = refl }
gives-next row (suc (suc (suc (suc zero)))) few = record { going = refl; numbered = refl; live = tt; numbering = refl; remaining = omega arith; goes_on = refl }
gives-next row (suc (suc (suc (suc (suc zero))))) few = record { going = refl; numbered = refl; live = tt; numbering = refl; remaining = omega arith; goes_on = refl }
gives-next row (suc (suc (suc (suc (suc (suc zero)))))) few = record { going = refl; numbered = refl; live = tt; numbering = refl; remaining = omega arith; goes_on = refl }
gives-next row (suc (suc (suc (suc (suc (suc (suc more))))))) few = absurd (omega (arith, few))

pub gives-event : {P : Type 0} (row : P) (event : Event P) (given : ℕ) (stopped : Bool) → given < 7 → stopped ≡ false → event ≡ event_of row given
    → GivesEvent event (silence_given given stopped) (silence_given (given + 1) stopped)
gives-event {P} row event given stopped few going is =
    subst (λ (b : Bool). GivesEvent event (silence_given given b) (silence_given (given + 1) b)) (sym going)
    (subst (λ (e : Event P). GivesEvent e (silence_given given false) (silence_given (given + 1) false)) (sym is) (gives-next row given few))
