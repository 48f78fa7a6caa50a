-- Keys of rows, and the ranges of keys that rows of the other stream may match.
use Rattle.std.specs.Prelude.{◌≡◌, ℕ, ◌≤◌, Bool, true, None, Some}
use Rattle.std.specs.declared.option.Option.{Option}
use Rattle.hj_base.specs.declared.numbers.Side.{Side}
use Rattle.hj_msg.specs.Store.{joins}
use Rattle.hj_rows.specs.declared.key_filter.KeyRange.{KeyRange}

-- there is a range, and the key lies in it
abbrev pub IsKeyWithin : Option KeyRange → ℕ → Type 0
IsKeyWithin None key = ⊥
IsKeyWithin (Some range) key = (range.low ≤ key) × (key ≤ range.high)

-- Where rows match, the key of the one lies in the range of the other.
abbrev pub KeepsKeys : {P : Type 0} → (P → P → Bool) → (Side → P → ℕ) → (Side → P → Option KeyRange) → Type 0
KeepsKeys {P} matches key range = (side : Side) (row against : P) → joins matches side row against ≡ true → IsKeyWithin (range side against) (key side row)
