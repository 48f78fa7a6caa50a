-- The rows that rest at a core, as a list, and what the calls of a store do to that list.
use Rattle.std.specs.Prelude.{◌≢◌, ℕ, Bool, not, ◌&&◌, ◌||◌, ◌==◌, nat_lt, List, [], ◌∷◌, filter, map, AllPairs, if◌then◌else◌}
use Rattle.std.specs.List.{list_any}
use Rattle.hj_base.specs.declared.numbers.Side.{Side}
use Rattle.hj_base.specs.declared.numbers.Side.TheVariants.{Left, Right}
use Rattle.hj_msg.specs.declared.partner.Partner.{Partner}
use Rattle.hj_msg.specs.Order.{sort_by}

-- a row at rest, with the number of its arrival. It is settled once it has been at every core
pub record Resting (P : Type 0) : Type 0 where
  pub no : ℕ
  pub row : P
  pub settled : Bool

-- The list with an element in the place of the one of its number; where there is none, at the end.
abbrev pub with_element : {X : Type 0} → (X → ℕ) → X → List X → List X
with_element number x [] = x ∷ []
with_element number x (y ∷ ys) = if number y == number x then x ∷ ys else y ∷ with_element number x ys

abbrev pub with_entry : {P : Type 0} → Resting P → List (Resting P) → List (Resting P)
with_entry entry entries = with_element (λ other. other.no) entry entries

-- the entry, settled if it has this number
abbrev pub settled_if : {P : Type 0} → ℕ → Resting P → Resting P
settled_if at entry = record entry { settled = entry.settled || entry.no == at }

abbrev pub with_settled : {P : Type 0} → ℕ → List (Resting P) → List (Resting P)
with_settled at entries = map (settled_if at) entries

-- the entries but the one of this number
abbrev pub without_entry : {P : Type 0} → ℕ → List (Resting P) → List (Resting P)
without_entry at entries = filter (λ entry. not (entry.no == at)) entries

abbrev pub holds : {P : Type 0} → ℕ → List (Resting P) → Bool
holds at entries = list_any (λ entry. entry.no == at) entries

-- no number stands twice
abbrev pub AreDistinct : {P : Type 0} → List (Resting P) → Type 0
AreDistinct entries = AllPairs (λ entry later. entry.no ≢ later.no) entries

-- partners in ascending order of number
abbrev pub by_number : {P : Type 0} → List (Partner P) → List (Partner P)
by_number partners = sort_by (λ partner other. nat_lt partner.no.0 other.no.0) partners

-- the settled entries whose rows pass a test, as partners
abbrev pub settled_partners : {P : Type 0} → (P → Bool) → List (Resting P) → List (Partner P)
settled_partners joins entries =
    map (λ entry. record { no = record { 0 = entry.no }; row = entry.row }) (filter (λ entry. entry.settled && joins entry.row) entries)

-- whether a row of this side joins with a row of the other one
abbrev pub joins : {P : Type 0} → (P → P → Bool) → Side → P → P → Bool
joins matches Left row other = matches row other
joins matches Right row other = matches other row

-- What a probe finds among the rows of this side for a row of the other one: the settled rows that join with it, by number.
abbrev pub settled_matches : {P : Type 0} → (P → P → Bool) → Side → P → List (Resting P) → List (Partner P)
settled_matches matches side against entries = by_number (settled_partners (λ row. joins matches side row against) entries)
