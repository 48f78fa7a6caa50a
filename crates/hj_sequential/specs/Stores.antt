-- The stores of a sequential join: one of each stream's rows.
use Rattle.std.specs.Prelude.{◌≡◌, true, List, map}
use Rattle.hj_msg.specs.Kang.{Held, Windows}
use Rattle.hj_msg.specs.Store.{Resting}

-- the rows of a window, all settled
abbrev pub at_rest : {P : Type 0} → List (Held P) → List (Resting P)
at_rest window = map (λ held. record { no = held.no; row = held.row; settled = true }) window

-- Each store has the rows of its side's window.
pub record HoldWindows {P S : Type 0} (rows : S → List (Resting P)) (windows : Windows P) (left right : S) : Type 0 where
  pub on_left : rows left ≡ at_rest windows.left
  pub on_right : rows right ≡ at_rest windows.right
