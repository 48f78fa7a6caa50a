-- A row that was shared to be kept.
use Rattle.std.specs.Prelude.{◌≡◌, Bool, true, false, None, Some}
use Rattle.std.specs.declared.option.Option.{Option}

-- Where a row is to be kept, it is there once more, and has a place; elsewhere it isn't there.
abbrev pub IsReadyRow : {P : Type 0} → Bool → P → Type 0 → Option P → Type 0
IsReadyRow true row place shared = (shared ≡ Some row) × place
IsReadyRow false row place shared = shared ≡ None
