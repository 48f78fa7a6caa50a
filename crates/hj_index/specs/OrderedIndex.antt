-- Keys in order, of which one may stand there for no row.
use Rattle.std.specs.Prelude.{◌≡◌, ◌≤◌, ℕ, ℤ, ◌-ℤ◌, nat_abs, Bool, true, false, not, ◌&&◌, List, Option, None, Some, option_map, slice_get}
use Rattle.std.specs.declared.cmp.Ordering.{Ordering}
use Rattle.std.specs.BTreeMap.{is_at}
use Rattle.std.specs.List.{list_any}
use Rattle.std.specs.Ordering.{int_cmp, nat_cmp, ordering_then}
use Rattle.hj_value.specs.declared.field.Field.{Field}
use Rattle.hj_value.specs.declared.field.Field.TheVariants.{Int, Text}
use Rattle.hj_index.specs.declared.ordered_index.OrderedIndex.{OrderedIndex}

-- a row's number in a column, and the number of its arrival
abbrev pub OrderedKey : Type 0
OrderedKey = ℤ × ℕ

-- by the first; where it is equal, by the second
abbrev pub key_cmp : OrderedKey → OrderedKey → Ordering
key_cmp key other = ordering_then (int_cmp key.0 other.0) (nat_cmp key.1 other.1)

abbrev pub number_of : Option Field → Option ℤ
number_of None = None
number_of (Some (Int number)) = Some number
number_of (Some (Text bytes)) = None

-- a column's value in a row, where it is a number
abbrev pub number_at : ℕ → List Field → Option ℤ
number_at column row = number_of (slice_get row column)

-- the key of a row that came under this number, by this column
abbrev pub key_of : ℕ → ℕ → List Field → Option OrderedKey
key_of own arrival row = option_map (λ (number : ℤ). (number, arrival)) (number_at own row)

-- whether there is a key, this one
abbrev pub is_key : OrderedKey → Option OrderedKey → Bool
is_key key None = false
is_key key (Some other) = is_at (key_cmp other) key

abbrev pub holds_key : List OrderedKey → OrderedKey → Bool
holds_key keys key = list_any (is_at (key_cmp key)) keys

-- there is a place for a key, if there is a key
abbrev pub HasPlace : List OrderedKey → Option OrderedKey → Type 0
HasPlace keys None = Unit {0}
HasPlace keys (Some key) = holds_key keys key ≡ true

-- whether a key stands in the index for a row
abbrev pub stands : OrderedIndex → OrderedKey → Bool
stands index key = holds_key index.keys.keys key && not (is_key key index.reserved)

-- two numbers differ by at most so much
abbrev pub AreWithin : ℕ → ℤ → ℤ → Type 0
AreWithin within number other = nat_abs (number -ℤ other) ≤ within
