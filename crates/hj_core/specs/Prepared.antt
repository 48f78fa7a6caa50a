-- What has been made ready for a message, so that it can be handled without memory.
use Rattle.std.specs.Prelude.{◌≡◌, ℕ, ◌<◌, Bool, not, ◌==◌}
use Rattle.hj_msg.specs.declared.message.Msg.{Msg}
use Rattle.hj_msg.specs.declared.message.Msg.TheVariants.{R, S}
use Rattle.hj_msg.specs.Core.{State, is_home, partners_of_left, partners_of_right}
use Rattle.hj_core.specs.Ready.{IsReadyRow}
use Rattle.hj_core.specs.declared.prepared.Prepared.{Prepared}
use Rattle.hj_core.specs.declared.prepared.Prepared.TheVariants.{PassedOn, Arrival}

-- At the core of this place among `n`: an arrival has its partners, the row once more for the report, once more with a place
-- at its home, and, where a right row has a neighbour to go to, once more with room in flight.
abbrev pub IsPrepared : {P : Type 0} → (P → P → Bool) → ℕ → ℕ → State P → (ℕ → P → Type 0) → (ℕ → P → Type 0) → ℕ → Msg P → Prepared P → Type 0
IsPrepared matches place n state left_place right_place room (R at row) (Arrival partners reported resting flying) =
    (partners ≡ partners_of_left matches state row) × (reported ≡ row) × IsReadyRow (is_home place n at.0) row (left_place at.0 row) resting
IsPrepared matches place n state left_place right_place room (S at row) (Arrival partners reported resting flying) =
    (partners ≡ partners_of_right matches state row) × (reported ≡ row) × IsReadyRow (is_home place n at.0) row (right_place at.0 row) resting
    × IsReadyRow (not (place == 0)) row (0 < room) flying
IsPrepared matches place n state left_place right_place room (R at row) PassedOn = ⊥
IsPrepared matches place n state left_place right_place room (S at row) PassedOn = ⊥
IsPrepared matches place n state left_place right_place room message PassedOn = Unit {0}
IsPrepared matches place n state left_place right_place room message (Arrival partners reported resting flying) = ⊥
