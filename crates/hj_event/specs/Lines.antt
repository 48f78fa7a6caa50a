-- Lines in the form in which most are, at the start of some bytes.
use Rattle.std.specs.Prelude.{◌≡◌, ℕ, ◌<◌, ◌≤◌, ℤ, true, List, [], ◌∷◌, ◌++◌, length, take, slice_get, Ok, Some, All}
use Rattle.std.specs.Char.{is_ascii_digit}
use Rattle.std.specs.Str.{IsUtf8}
use Rattle.hj_value.specs.declared.column.Column.{Column}
use Rattle.hj_value.specs.declared.field.Field.{Field}
use Rattle.hj_value.specs.Number.{int_of}
use Rattle.hj_record.specs.Pieces.{IsPiece}
use Rattle.hj_record.specs.Plain.{IsPlainly}
use Rattle.hj_record.specs.Records.{record_of}
use Rattle.hj_event.specs.SchemaRows.{row_of, value_of}

abbrev pub IsDigit : ℕ → Type 0
IsDigit b = is_ascii_digit b ≡ true

-- A number of so many digits, which are the first ones of these bytes; behind them stands one more byte.
abbrev pub IsLeading : ℤ → ℕ → List ℕ → Type 0
IsLeading value size bytes = (0 < size) × (size < length bytes) × All IsDigit (take size bytes) × (int_of (take size bytes) ≡ Ok value)

-- A number in front of some bytes: so many, its digits and this byte behind them.
pub record TakesInt (value : ℤ) (size behind : ℕ) (bytes : List ℕ) : Type 0 where
  pub within : size ≤ length bytes
  pub digits : List ℕ
  pub are : take size bytes ≡ digits ++ behind ∷ []
  pub all : All IsDigit digits
  pub number : int_of digits ≡ Ok value

-- A text in front of some bytes: so many, as it stands in a line and this byte behind it.
pub record TakesText (text : List ℕ) (size behind : ℕ) (bytes : List ℕ) : Type 0 where
  pub within : size ≤ length bytes
  pub standing : List ℕ
  pub are : take size bytes ≡ standing ++ behind ∷ []
  pub plainly : IsPlainly text standing
  pub utf8 : IsUtf8 text

-- The value of the column at a place in front of some bytes: so many, its field as it stands in a line and this byte behind it.
pub record TakesValue (columns : List Column) (at : ℕ) (value : Field) (size behind : ℕ) (bytes : List ℕ) : Type 0 where
  pub column : Column
  pub there : slice_get columns at ≡ Some column
  pub within : size ≤ length bytes
  pub field : List ℕ
  pub standing : List ℕ
  pub are : take size bytes ≡ standing ++ behind ∷ []
  pub plainly : IsPlainly field standing
  pub reads : (number : ℕ) → value_of number column.kind field ≡ Ok value

-- The first bytes, so many, are a piece, and this is the row of its record.
pub record IsLineOf (columns : List Column) (row : List Field) (used : ℕ) (bytes : List ℕ) : Type 0 where
  pub within : used ≤ length bytes
  pub piece : IsPiece (take used bytes)
  pub fields : List (List ℕ)
  pub reads : record_of (take used bytes) ≡ Ok (Some fields)
  pub row_is : row_of columns fields ≡ Ok row
