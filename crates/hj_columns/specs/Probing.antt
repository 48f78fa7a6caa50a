-- What a probe finds place by place.
use Rattle.std.specs.Prelude.{◌≡◌, ◌≤◌, ℕ, Bool, List, [], ◌∷◌, All, Some, None, slice_get, option_and_then, option_map}
use Rattle.std.specs.declared.option.Option.{Option}
use Rattle.hj_msg.specs.declared.partner.Partner.{Partner}
use Rattle.hj_msg.specs.Store.{by_number, settled_partners}
use Rattle.hj_rows.specs.declared.place.RestingRow.{RestingRow}
use Rattle.hj_rows.specs.Places.{joining, partner_of, rows_of}
use Rattle.hj_columns.specs.declared.found_rows.FoundRows.{FoundRows}

-- the row of a place, under its number, where it is settled and passes a test
abbrev pub joined_at : {P : Type 0} → (P → Bool) → List (ℕ × Option (RestingRow P)) → ℕ → Option (ℕ × P)
joined_at test places at = option_and_then (λ place. option_map (λ row. (place.0, row)) (joining test place.1)) (slice_get places at)

-- a row that was found, as a partner
abbrev pub as_partner : {P : Type 0} → Option (ℕ × P) → List (Partner P)
as_partner None = []
as_partner (Some entry) = partner_of entry ∷ []

-- the partners among the rows of some places
abbrev pub partners_in : {P : Type 0} → (P → Bool) → List (ℕ × Option (RestingRow P)) → List (Partner P)
partners_in test places = settled_partners test (rows_of places)

-- what was found stands in the order of numbers, and none of them is above the last one
pub record IsInOrder {P : Type 0} (found : FoundRows P) : Type 0 where
  pub sorted : by_number found.partners ≡ found.partners
  pub below : All (λ partner. partner.no.0 ≤ found.last) found.partners
