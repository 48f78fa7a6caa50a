-- Rows in the order in which their numbers came. Those of one key are a chain, of which each knows the one before it.
use Rattle.std.specs.Prelude.{◌≡◌, ℕ, ◌+◌, ◌*◌, ◌-◌, ◌^◌, ◌<◌, ◌≤◌, Bool, true, false, ◌&&◌, ◌==◌, List, [], ◌∷◌, Option, None, Some, option_map, is_some, nat_eq, length, map, take, slice_get, zero, suc, if◌then◌else◌}
use Rattle.std.specs.HashMap.{get, hash_map_len}
use Rattle.std.specs.List.{filter_map, list_any}
use Rattle.std.specs.Option.{option_map_or, unwrap_or}
use Rattle.hj_value.specs.declared.field.Field.{Field}
use Rattle.hj_msg.specs.Store.{Resting, holds}
use Rattle.hj_rows.specs.declared.place.RestingRow.{RestingRow}
use Rattle.hj_rows.specs.Places.{resting}
use Rattle.hj_index.specs.declared.chains.KeyChains.{KeyChains}
use Rattle.hj_index.specs.declared.chains.RowPlace.{RowPlace}
use Rattle.hj_index.specs.Keys.{key_at}

-- ---- rows

-- the rows of the places that aren't empty, in order
abbrev pub rows_at : List RowPlace → List (Resting (List Field))
rows_at places = filter_map (λ (place : RowPlace). resting place.no place.rest) places

abbrev pub rows_in : KeyChains → List (Resting (List Field))
rows_in chains = rows_at chains.places.items

-- whether a place holds the row of a number
abbrev pub is_row : ℕ → RowPlace → Bool
is_row number place = place.no == number && is_some place.rest

-- where the row of a number was found, if there is one
abbrev pub FindsRow : ℕ → List RowPlace → Option ℕ → Type 0
FindsRow number places None = holds number (rows_at places) ≡ false
FindsRow number places (Some at) = option_map (is_row number) (slice_get places at) ≡ Some true

-- where a place of a number was found, if there is one
abbrev pub FindsPlace : ℕ → List RowPlace → Option ℕ → Type 0
FindsPlace number places None = list_any (λ (place : RowPlace). place.no == number) places ≡ false
FindsPlace number places (Some at) = option_map (λ (place : RowPlace). place.no) (slice_get places at) ≡ Some number

-- ---- chains. Places are counted from 1 on; the count of a place that isn't there any more is at most that of those that went.

abbrev pub is_key : ℕ → Option ℕ → Bool
is_key key other = option_map_or (λ own. own == key) other false

abbrev pub has_key : ℕ → RowPlace → Bool
has_key key place = is_key key place.key

-- the last place, with one place before those that are counted, which has the key or not
abbrev pub counted_on : Bool → ℕ → ℕ
counted_on has zero = if has then 1 else 0
counted_on has (suc count) = suc (suc count)

-- the last of these places that has a key, counted from 1 on; 0 where none has it
abbrev pub last_place : ℕ → List RowPlace → ℕ
last_place key [] = 0
last_place key (place ∷ places) = counted_on (has_key key place) (last_place key places)

-- the place that is known of a key; 0 where none is
abbrev pub known_place : Option ℕ → ℕ
known_place place = unwrap_or place 0

-- the place of a count; none for 0, and past the last
abbrev pub nth_place : ℕ → List RowPlace → Option RowPlace
nth_place zero places = None
nth_place (suc at) places = slice_get places at

-- A place behind others: its row has its key, and the place that it names is the last before it with that key.
pub record IsLinked (own base : ℕ) (earlier : List RowPlace) (place : RowPlace) : Type 0 where
  pub keyed : (rest : RestingRow (List Field)) → place.rest ≡ Some rest → place.key ≡ key_at own rest.row
  pub linked : (key : ℕ) → place.key ≡ Some key → place.before - base ≡ last_place key earlier

-- each place is linked, and of each key the last place is known
pub record AreLinked (own base : ℕ) (places : List RowPlace) (last : ℕ → Option ℕ) : Type 0 where
  pub placed : (at : ℕ) (place : RowPlace) → slice_get places at ≡ Some place → IsLinked own base (take at places) place
  pub ended : (key : ℕ) → known_place (last key) - base ≡ last_place key places

-- each place's key is among those of which a place is known
abbrev pub AreKnown : List RowPlace → (ℕ → Option ℕ) → Type 0
AreKnown places last = (at key : ℕ) (place : RowPlace) → slice_get places at ≡ Some place → place.key ≡ Some key → is_some (last key) ≡ true

-- the row of each place has its key
abbrev pub AreKeyed : ℕ → List RowPlace → Type 0
AreKeyed own places = (at : ℕ) (place : RowPlace) (rest : RestingRow (List Field)) → slice_get places at ≡ Some place → place.rest ≡ Some rest → place.key ≡ key_at own rest.row

-- ---- numbers

-- the numbers ascend, from this one on
abbrev pub IsAscending : ℕ → List RowPlace → Type 0
IsAscending low [] = Unit {0}
IsAscending low (place ∷ places) = (low ≤ place.no) × IsAscending (place.no + 1) places

-- a number is above those of all places
abbrev pub IsAbove : ℕ → List RowPlace → Type 0
IsAbove number [] = Unit {0}
IsAbove number (place ∷ places) = (place.no < number) × IsAbove number places

abbrev pub is_member : ℕ → List ℕ → Bool
is_member number numbers = list_any (λ other. other == number) numbers

-- no number stands twice
abbrev pub AreApart : List ℕ → Type 0
AreApart [] = Unit {0}
AreApart (number ∷ numbers) = (is_member number numbers ≡ false) × AreApart numbers

abbrev pub numbers : List (Resting (List Field)) → List ℕ
numbers rows = map (λ row. row.no) rows

-- ---- all of it

-- all but that the memory is linear in the rows
pub record NearlyChained (chains : KeyChains) : Type 0 where
  pub linked : AreLinked chains.own chains.base chains.places.items (get nat_eq chains.last)
  pub ascending : chains.is_ascending ≡ true → IsAscending 0 chains.places.items
  pub apart : AreApart (numbers (rows_in chains))
  pub counted : length (rows_in chains) + chains.empty ≡ length chains.places.items
  pub near : chains.base + length chains.places.items ≤ 2 ^ 62 + 2 ^ 63

-- The memory is linear in the rows: at most so many more places than rows are kept, and so many more keys than places.
pub record AreChained (chains : KeyChains) : Type 0 where
  pub nearly : NearlyChained chains
  pub few_empty : chains.empty ≤ length (rows_in chains) + 32
  pub few_keys : hash_map_len chains.last ≤ 2 * length chains.places.items + 32
  pub near : chains.base ≤ 2 ^ 62
