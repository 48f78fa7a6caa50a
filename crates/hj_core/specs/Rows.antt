-- A left row, or else a right one: its message, and what a core does of it.
use Rattle.std.specs.Prelude.{ℕ, Bool, true, false, List, ◌==◌}
use Rattle.hj_base.specs.declared.numbers.EventNo.{EventNo}
use Rattle.hj_base.specs.declared.numbers.Side.{Side}
use Rattle.hj_base.specs.declared.numbers.Side.TheVariants.{Left, Right}
use Rattle.hj_msg.specs.declared.message.Msg.{Msg}
use Rattle.hj_msg.specs.declared.message.Msg.TheVariants.{R, S}
use Rattle.hj_msg.specs.declared.partner.Partner.{Partner}
use Rattle.hj_msg.specs.Core.{State, is_last, partners_of_left, partners_of_right, with_home_row}
use Rattle.hj_msg.specs.Store.{Resting}

abbrev pub row_message : {P : Type 0} → Bool → EventNo → P → Msg P
row_message true number row = R number row
row_message false number row = S number row

abbrev pub side_of : Bool → Side
side_of true = Left
side_of false = Right

-- the side of its partners
abbrev pub opposite_of : Bool → Side
opposite_of true = Right
opposite_of false = Left

-- whether the core of this place among `n` is the last one that it comes to
abbrev pub is_last_of : Bool → ℕ → ℕ → Bool
is_last_of true place n = is_last place n
is_last_of false place n = place == 0

abbrev pub partners_of : {P : Type 0} → Bool → (P → P → Bool) → State P → P → List (Partner P)
partners_of true matches state row = partners_of_left matches state row
partners_of false matches state row = partners_of_right matches state row

-- the state with it at rest, if this is its home
abbrev pub with_resting : {P : Type 0} → Bool → Bool → Resting P → State P → State P
with_resting true home row state = record state { left = with_home_row home row state.left }
with_resting false home row state = record state { right = with_home_row home row state.right }
