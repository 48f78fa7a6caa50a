-- Rows that wait in order: those that came in order, and those that came late.
use Rattle.std.specs.Prelude.{◌≡◌, ℕ, ℤ, Bool, true, false, not, ◌&&◌, List, [], ◌∷◌, ◌-ℤ◌, int_lt, int_le, pos, None, Some}
use Rattle.std.specs.declared.option.Option.{Option}
use Rattle.std.specs.Ordering.{int_eq}
use Rattle.hj_value.specs.declared.field.Field.{Field}
use Rattle.hj_value.specs.Row.{time_of}
use Rattle.hj_event.specs.Rows.{is_sure}

-- none of these rows is earlier than this one
abbrev pub NoneBefore : List Field → List (List Field) → Type 0
NoneBefore row [] = Unit {0}
NoneBefore row (other ∷ others) = (int_lt (time_of other) (time_of row) ≡ false) × NoneBefore row others

-- the times of these rows never fall
abbrev pub AreInOrder : List (List Field) → Type 0
AreInOrder [] = Unit {0}
AreInOrder (row ∷ rows) = NoneBefore row rows × AreInOrder rows

-- whether a row has this time
abbrev pub is_of_time : ℤ → List Field → Bool
is_of_time time row = int_eq (time_of row) time

abbrev pub first_time : List (List Field) → Option ℤ
first_time [] = None
first_time (row ∷ rows) = Some (time_of row)

abbrev pub last_time : List (List Field) → Option ℤ
last_time [] = None
last_time (row ∷ []) = Some (time_of row)
last_time (row ∷ other ∷ rows) = last_time (other ∷ rows)

-- whether there are two times, the first one below the second
abbrev pub is_before : Option ℤ → Option ℤ → Bool
is_before None other = false
is_before (Some time) None = false
is_before (Some time) (Some other) = int_lt time other

-- each of these rows is earlier than this time
abbrev pub AreBefore : Option ℤ → List (List Field) → Type 0
AreBefore time [] = Unit {0}
AreBefore time (row ∷ rows) = (is_before (Some (time_of row)) time ≡ true) × AreBefore time rows

-- Rows that came in order, and rows that came late, each behind a later one of these.
pub record AreWaiting (queue late : List (List Field)) : Type 0 where
  pub queue_in_order : AreInOrder queue
  pub late_in_order : AreInOrder late
  pub before : AreBefore (last_time queue) late

-- The first row is taken, where there is one.
abbrev pub TakesFirst : Option (List Field) → List (List Field) → List (List Field) → Type 0
TakesFirst (Some row) old new = old ≡ row ∷ new
TakesFirst None old new = (old ≡ []) × (new ≡ [])

-- whether the first of these rows is sure
abbrev pub has_sure : ℕ → Option ℤ → List (List Field) → Bool
has_sure slack greatest [] = false
has_sure slack greatest (row ∷ rows) = is_sure slack greatest row

-- whether a row of this time, below the greatest one, makes no row sure, nor is sure itself
abbrev pub is_held : ℕ → Option ℤ → ℤ → Bool
is_held slack None time = false
is_held slack (Some greatest) time = int_lt time greatest && not (int_le time (greatest -ℤ pos slack))

-- The first row is taken, if it is sure.
abbrev pub TakesSure : Option (List Field) → ℕ → Option ℤ → List (List Field) → List (List Field) → Type 0
TakesSure (Some row) slack greatest old new = (old ≡ row ∷ new) × (is_sure slack greatest row ≡ true)
TakesSure None slack greatest old new = (new ≡ old) × (has_sure slack greatest old ≡ false)
