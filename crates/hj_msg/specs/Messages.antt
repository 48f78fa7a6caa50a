-- Which message it is, by its kind and its number.
use Rattle.std.specs.Prelude.{ℕ, Bool, false, ◌==◌}
use Rattle.hj_msg.specs.declared.message.Msg.{Msg}
use Rattle.hj_msg.specs.declared.message.Msg.TheVariants.{R, EndS, ExpS, QuietL, S, EndR, ExpR, QuietR}

abbrev pub is_R : {P : Type 0} → ℕ → Msg P → Bool
is_R number (R at row) = at.0 == number
is_R number other = false

abbrev pub is_S : {P : Type 0} → ℕ → Msg P → Bool
is_S number (S at row) = at.0 == number
is_S number other = false

abbrev pub is_EndR : {P : Type 0} → ℕ → Msg P → Bool
is_EndR number (EndR at) = at.0 == number
is_EndR number other = false

abbrev pub is_EndS : {P : Type 0} → ℕ → Msg P → Bool
is_EndS number (EndS at) = at.0 == number
is_EndS number other = false

abbrev pub is_ExpR : {P : Type 0} → ℕ → Msg P → Bool
is_ExpR number (ExpR at) = at.0 == number
is_ExpR number other = false

abbrev pub is_ExpS : {P : Type 0} → ℕ → Msg P → Bool
is_ExpS number (ExpS at) = at.0 == number
is_ExpS number other = false

abbrev pub is_QuietL : {P : Type 0} → ℕ → Msg P → Bool
is_QuietL number (QuietL at) = at.0 == number
is_QuietL number other = false

abbrev pub is_QuietR : {P : Type 0} → ℕ → Msg P → Bool
is_QuietR number (QuietR at) = at.0 == number
is_QuietR number other = false
