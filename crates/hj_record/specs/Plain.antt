-- Cutting a text in the plain form of RFC 4180: what each step says of what `csv`'s machine reads.
use Rattle.std.specs.Prelude.{◌≡◌, ◌⊎◌, ℕ, ◌+◌, ◌<◌, ◌≤◌, ◌==◌, ◌||◌, Bool, true, false, List, [], ◌∷◌, ◌++◌, drop, length, slice_index, slice_range, All, None, Some, Ok, Err}
use Rattle.std.specs.declared.option.Option.{Option}
use Rattle.std.specs.declared.result.Result.{Result}
use Rattle.csv.specs.Machine.{Read, next_record}
use Rattle.csv.specs.Reading.{default_config}
use Rattle.csv.specs.declared.parser.State.{State}
use Rattle.csv.specs.declared.parser.State.TheVariants as st
use Rattle.hj_record.specs.declared.fault.PieceFault.{PieceFault}
use Rattle.hj_record.specs.declared.fault.PieceFault.TheVariants as fault
use Rattle.hj_record.specs.declared.plain.PlainRecord.{PlainRecord}
use Rattle.hj_record.specs.declared.plain.PlainRecord.TheVariants as plain
use Rattle.hj_record.specs.declared.plain.TakenField.{TakenField}
use Rattle.hj_record.specs.declared.plain.TakenField.TheVariants as taken
use Rattle.hj_record.specs.Records.{only_record, record_in}

-- What is read from a state on, with these fields before and this one at hand.
abbrev pub reads : State → List (List ℕ) → List ℕ → List ℕ → Option Read
reads state fields field text = next_record default_config state fields field text

-- a comma, a double quote, CR or LF
abbrev pub is_special : ℕ → Bool
is_special b = (b == 44) || (b == 34) || (b == 13) || (b == 10)

abbrev pub IsBare : ℕ → Type 0
IsBare b = is_special b ≡ false

abbrev pub IsNoQuote : ℕ → Type 0
IsNoQuote b = (b == 34) ≡ false

-- Bytes that are a field as it stands in a line: bare, or in quotes with no quote inside.
abbrev pub IsPlainly : List ℕ → List ℕ → Type 0
IsPlainly field bytes = ((bytes ≡ field) × All IsBare field) ⊎ ((bytes ≡ 34 ∷ (field ++ 34 ∷ [])) × All IsNoQuote field)

-- The first quote from a place on.
abbrev pub IsNextQuote : ℕ → ℕ → List ℕ → Type 0
IsNextQuote quote from text =
    (from ≤ quote) × (quote < length text) × (slice_index text quote ≡ 34) × All IsNoQuote (slice_range text from quote)

-- nothing, LF, or CR LF
abbrev pub IsLineEnd : List ℕ → Type 0
IsLineEnd bytes = (bytes ≡ []) ⊎ (bytes ≡ 10 ∷ []) ⊎ (bytes ≡ 13 ∷ 10 ∷ [])

-- A text in front of which stands a field, and not the end of a line.
abbrev pub BeginsWithField : List ℕ → Type 0
BeginsWithField [] = ⊥
BeginsWithField (b ∷ bs) = ((b == 13) || (b == 10)) ≡ false

-- What stands behind the first bytes of a text: a comma, which is one more of those taken, or the line's end.
abbrev pub StandsBehind : TakenField → ℕ → List ℕ → Type 0
StandsBehind (taken.Next used) size text = (used ≡ size + 1) × (used ≤ length text) × (drop size text ≡ 44 ∷ drop used text)
StandsBehind taken.Last size text = IsLineEnd (drop size text)
StandsBehind taken.NotPlain size text = Unit {0}

-- A field taken from the front of a text: reading goes on behind it, or it was the record's last.
abbrev pub TakesField : TakenField → List ℕ → List (List ℕ) → List (List ℕ) → Type 0
TakesField (taken.Next used) text old new =
    (0 < used) × (used ≤ length text) × (reads st.StartField old [] text ≡ reads st.StartField new [] (drop used text))
TakesField taken.Last text old new = only_record (reads st.StartField old [] text) ≡ Ok (Some new)
TakesField taken.NotPlain text old new = Unit {0}

-- A text cut whole is read so.
abbrev pub CutsPlain : PlainRecord → List ℕ → List (List ℕ) → Type 0
CutsPlain plain.Record text fields = record_in text ≡ Ok (Some fields)
CutsPlain plain.NoRecord text fields = record_in text ≡ Ok None
CutsPlain plain.NotPlain text fields = Unit {0}

-- What reading a text answers from which the marks are taken.
abbrev pub ReadsPieceText : Result Bool PieceFault → List (List ℕ) → List ℕ → Type 0
ReadsPieceText (Ok true) fields text = record_in text ≡ Ok (Some fields)
ReadsPieceText (Ok false) fields text = record_in text ≡ Ok None
ReadsPieceText (Err found) fields text = (found ≡ fault.Memory) ⊎ (record_in text ≡ Err found)
