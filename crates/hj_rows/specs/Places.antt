-- Rows under their numbers, which stand in a map from numbers to places. A place whose row was removed is empty.
use Rattle.std.specs.Prelude.{◌≡◌, ℕ, Bool, true, false, ◌&&◌, ◌==◌, List, None, Some, find, map, option_map, slice_get, if◌then◌else◌}
use Rattle.std.specs.List.{filter_map}
use Rattle.std.specs.declared.option.Option.{Option}
use Rattle.hj_msg.specs.declared.partner.Partner.{Partner}
use Rattle.hj_msg.specs.Store.{Resting}
use Rattle.hj_rows.specs.declared.place.RestingRow.{RestingRow}

-- the row of a place, under its number
abbrev pub resting : {P : Type 0} → ℕ → Option (RestingRow P) → Option (Resting P)
resting number None = None
resting number (Some rest) = Some (record { no = number; row = rest.row; settled = rest.settled })

-- the rows of the places that aren't empty, in order
abbrev pub rows_of : {P : Type 0} → List (ℕ × Option (RestingRow P)) → List (Resting P)
rows_of places = filter_map (λ place. resting place.0 place.1) places

-- the row of each place, in order; none for an empty place
abbrev pub place_rows : {P : Type 0} → List (ℕ × Option (RestingRow P)) → List (Option P)
place_rows places = map (λ place. option_map (λ rest. rest.row) place.1) places

-- each row that a place has after, it had before
abbrev pub StayInPlace : {P : Type 0} → List (Option P) → List (Option P) → Type 0
StayInPlace {P} before after = (at : ℕ) (row : P) → slice_get after at ≡ Some (Some row) → slice_get before at ≡ Some (Some row)

-- the row of a number, with what stands beside it
abbrev pub entry_at : {P : Type 0} → ℕ → List (Resting P) → Option (Resting P)
entry_at at rows = find (λ entry. entry.no == at) rows

-- the row of a number
abbrev pub row_at : {P : Type 0} → ℕ → List (Resting P) → Option P
row_at at rows = option_map (λ entry. entry.row) (entry_at at rows)

-- a place, with its row settled
abbrev pub settled_place : {P : Type 0} → Option (RestingRow P) → Option (RestingRow P)
settled_place None = None
settled_place (Some rest) = Some (record rest { settled = true })

-- the row of a place, where it is settled and passes a test
abbrev pub joining : {P : Type 0} → (P → Bool) → Option (RestingRow P) → Option P
joining test None = None
joining test (Some rest) = if rest.settled && test rest.row then Some rest.row else None

-- there is a place, and it is empty
abbrev pub is_empty_place : {P : Type 0} → Option (Option (RestingRow P)) → Bool
is_empty_place None = false
is_empty_place (Some None) = true
is_empty_place (Some (Some rest)) = false

-- a row under its number, as a partner
abbrev pub partner_of : {P : Type 0} → ℕ × P → Partner P
partner_of entry = record { no = record { 0 = entry.0 }; row = entry.1 }
