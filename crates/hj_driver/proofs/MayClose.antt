-- The answer to a wish to close, by the log.
use Rattle.std.proofs.Common.{◌≡◌, ℕ, ◌==◌, ◌⊎◌, Bool, true, false, cond, List, refl, ap, sym, ◌∙◌, inl, inr}
use Rattle.std.specs.List.{list_any}
use Rattle.std.proofs.lemmas.Bool.Decides.{eqb_tells}
use Rattle.hj_msg.specs.Driver.{DriverTurn}
use Rattle.hj_driver.specs.declared.answers.Closing.TheVariants.{Send, Wait, Already}
use Rattle.hj_driver.specs.Driver.{DriverState, closing_of, count_of, is_sent}
use Rattle.hj_driver.specs.StandsFor.{StandsFor, closing_after, is_closing}
use Rattle.hj_driver.proofs.Logs.{is_sent-closes_of}
use Rattle.hj_driver.proofs.Standing.{stands-count}

pub closing_of-same : {P : Type 0} (driver : DriverState) (log : List (DriverTurn P)) → StandsFor driver log → closing_of driver ≡ closing_after log
closing_of-same driver log stands =
    ap (λ b. cond b Already (cond (count_of driver == 0) Send (Wait (count_of driver)))) (ap is_sent stands.closes ∙ is_sent-closes_of log)
    ∙ ap (λ n. cond (list_any is_closing log) Already (cond (n == 0) Send (Wait n))) (sym (stands-count driver log stands))

sent_or_not : (b : Bool) → (b ≡ true) ⊎ (b ≡ false)
sent_or_not true = inl refl
sent_or_not false = inr refl

pub already≢send : Already ≡ Send → ⊥
already≢send same = cc

pub wait≢send : (n : ℕ) → Wait n ≡ Send → ⊥
wait≢send n same = cc

pub may_close : (driver : DriverState) → closing_of driver ≡ Send → (is_sent driver.closes ≡ false) × (count_of driver ≡ 0)
may_close driver sends = elim (sent_or_not (is_sent driver.closes)) [
  | inl sent ↦ absurd (already≢send (rw sent at sends))
  | inr unsent ↦ elim (eqb_tells (count_of driver) 0) [
    | inl none ↦ (unsent, none.1)
    | inr some ↦ absurd (wait≢send (count_of driver) (rw (unsent, some.0) at sends))
  ]
]
