-- Rows whose fields are of some kinds: those that records give by the columns of a schema, and that read back.
use Rattle.std.proofs.Common.{◌≡◌, ℕ, ◌+◌, ◌==◌, ℤ, Bool, true, false, cond, List, [], ◌∷◌, ◌++◌, length, map, Ok, Err, refl, sym, ap, ◌∙◌, arith}
use Rattle.std.proofs.lemmas.Bool.{eqb-true, eq-eqb}
use Rattle.std.specs.Str.{is_utf8}
use Rattle.std.specs.declared.result.Result.{Result}
use Rattle.hj_value.specs.declared.column.Column.{Column}
use Rattle.hj_value.specs.declared.column.ColumnType.{ColumnType}
use Rattle.hj_value.specs.declared.column.ColumnType.TheVariants as kind
use Rattle.hj_value.specs.declared.field.Field.{Field}
use Rattle.hj_value.specs.declared.field.Field.TheVariants as field
use Rattle.hj_value.specs.declared.number.IntFault.{IntFault}
use Rattle.hj_value.specs.declared.number.IntFault.TheVariants as int
use Rattle.hj_value.specs.Number.{fits_i64, int_of, is_number}
use Rattle.std.specs.Str.Parse.{signed_digits_value}
use Rattle.hj_emit.specs.Line.{field_bytes}
use Rattle.hj_event.specs.declared.schema.fault.RowFault.{RowFault}
use Rattle.hj_event.specs.declared.schema.fault.RowFault.TheVariants as fault
use Rattle.hj_event.specs.SchemaRows.{int_field, put_value, row_of, value_of, values_from}
use Rattle.hj_relay.specs.Fits.{kinds}
use Rattle.hj_relay.proofs.Numbers.{printed_reads}

-- a field of this kind, as a row has it
abbrev pub IsOfKind : ColumnType → Field → Type 0
IsOfKind kind.Int (field.Int value) = fits_i64 value ≡ true
IsOfKind kind.Int (field.Text text) = ⊥
IsOfKind kind.Text (field.Int value) = ⊥
IsOfKind kind.Text (field.Text text) = is_utf8 text ≡ true

-- as many fields as kinds, each of its kind
abbrev pub AreOfKinds : List ColumnType → List Field → Type 0
AreOfKinds [] [] = Unit {0}
AreOfKinds [] (one ∷ row) = ⊥
AreOfKinds (of ∷ kinds) [] = ⊥
AreOfKinds (of ∷ kinds) (one ∷ row) = IsOfKind of one × AreOfKinds kinds row

pub kinds-both : (first second : List ColumnType) (row other : List Field) → AreOfKinds first row → AreOfKinds second other → AreOfKinds (first ++ second) (row ++ other)
kinds-both [] second [] other h k = k
kinds-both [] second (one ∷ row) other h k = absurd h
kinds-both (of ∷ first) second [] other h k = absurd h
kinds-both (of ∷ first) second (one ∷ row) other h k = (h.0, kinds-both first second row other h.1 k)

-- ---- the row of a record is of its columns' kinds

int_fits : (number fits : Bool) (value read : ℤ) → fits_i64 value ≡ fits → cond {A = Result ℤ IntFault} number (cond fits (Ok value) (Err int.NumberRange)) (Err int.NotNumber) ≡ Ok read → fits_i64 read ≡ true
int_fits true true value read is e = let same : value ≡ read = cc in ap fits_i64 (sym same) ∙ is
int_fits true false value read is e = cc
int_fits false fits value read is e = cc

int_of-fits : (bytes : List ℕ) (value : ℤ) → int_of bytes ≡ Ok value → fits_i64 value ≡ true
int_of-fits bytes value e = by_test (is_number bytes) refl
  where
    by_test : (number : Bool) → is_number bytes ≡ number → fits_i64 value ≡ true
    by_test true is = int_fits true (fits_i64 (signed_digits_value 10 bytes)) (signed_digits_value 10 bytes) value refl (let read = e in rw is at read)
    by_test false is = let read = e in let read' = rw is at read in cc

int_is : (column : ℕ) (read : Result ℤ IntFault) (one : Field) → ((value : ℤ) → read ≡ Ok value → fits_i64 value ≡ true) → int_field column read ≡ Ok one → IsOfKind kind.Int one
int_is column (Ok value) (field.Int other) fits e = let same : value ≡ other = cc in ap fits_i64 (sym same) ∙ fits value refl
int_is column (Ok value) (field.Text text) fits e = cc
int_is column (Err int.NotNumber) one fits e = cc
int_is column (Err int.NumberRange) one fits e = cc

text_is : (column : ℕ) (bytes : List ℕ) (one : Field) → value_of column kind.Text bytes ≡ Ok one → IsOfKind kind.Text one
text_is column bytes one e = by_test (is_utf8 bytes) refl
  where
    same_text : (other : Field) → field.Text bytes ≡ other → is_utf8 bytes ≡ true → IsOfKind kind.Text other
    same_text (field.Int value) e is = cc
    same_text (field.Text text) e is = let same : bytes ≡ text = cc in ap is_utf8 (sym same) ∙ is

    by_test : (test : Bool) → is_utf8 bytes ≡ test → IsOfKind kind.Text one
    by_test true is = let read = e in let read' = rw is at read in same_text one (let same : field.Text bytes ≡ one = cc in same) is
    by_test false is = let read = e in let read' = rw is at read in cc

value_is : (column : ℕ) (of : ColumnType) (bytes : List ℕ) (one : Field) → value_of column of bytes ≡ Ok one → IsOfKind of one
value_is column kind.Int bytes one e = int_is column (int_of bytes) one (λ value is. int_of-fits bytes value is) e
value_is column kind.Text bytes one e = text_is column bytes one e

put_is : (first : Result Field RowFault) (others : Result (List Field) RowFault) (of : ColumnType) (kinds : List ColumnType) (row : List Field)
    → ((one : Field) → first ≡ Ok one → IsOfKind of one) → ((rest : List Field) → others ≡ Ok rest → AreOfKinds kinds rest) → put_value first others ≡ Ok row → AreOfKinds (of ∷ kinds) row
put_is (Err found) others of kinds row h k e = cc
put_is (Ok one) (Err found) of kinds row h k e = cc
put_is (Ok one) (Ok rest) of kinds [] h k e = cc
put_is (Ok one) (Ok rest) of kinds (other ∷ others) h k e =
    let first : one ≡ other = cc in
    let behind : rest ≡ others = cc in
    (h other (ap (λ x. Ok x) first), k others (ap (λ x. Ok x) behind))

values_are : (at : ℕ) (columns : List Column) (fields : List (List ℕ)) (row : List Field) → length fields ≡ length columns → values_from at columns fields ≡ Ok row → AreOfKinds (kinds columns) row
values_are at [] [] [] size e = tt
values_are at [] [] (one ∷ row) size e = cc
values_are at [] (bytes ∷ fields) row size e = absurd (omega (arith, size))
values_are at (column ∷ columns) [] row size e = absurd (omega (arith, size))
values_are at (column ∷ columns) (bytes ∷ fields) row size e =
    put_is (value_of at column.kind bytes) (values_from (at + 1) columns fields) column.kind (kinds columns) row
    (λ one is. value_is at column.kind bytes one is) (λ rest is. values_are (at + 1) columns fields rest (omega (arith, size)) is) e

-- The row of a record is of its columns' kinds.
pub row_of-kinds : (columns : List Column) (fields : List (List ℕ)) (row : List Field) → row_of columns fields ≡ Ok row → AreOfKinds (kinds columns) row
row_of-kinds columns fields row e = by_test (length fields == length columns) refl
  where
    by_test : (test : Bool) → (length fields == length columns) ≡ test → AreOfKinds (kinds columns) row
    by_test true is = values_are 1 columns fields row (eqb-true (length fields) (length columns) is) (let read = e in rw is at read)
    by_test false is = let read = e in let read' = rw is at read in cc

-- ---- a row that is printed reads back

value_back : (column : ℕ) (of : ColumnType) (one : Field) → IsOfKind of one → value_of column of (field_bytes one) ≡ Ok one
value_back column kind.Int (field.Int value) fits = ap (int_field column) (printed_reads value fits)
value_back column kind.Int (field.Text text) fits = absurd fits
value_back column kind.Text (field.Int value) fits = absurd fits
value_back column kind.Text (field.Text text) is = rw is refl

values_back : (at : ℕ) (columns : List Column) (row : List Field) → AreOfKinds (kinds columns) row → values_from at columns (map field_bytes row) ≡ Ok row
values_back at [] [] h = refl
values_back at [] (one ∷ row) h = absurd h
values_back at (column ∷ columns) [] h = absurd h
values_back at (column ∷ columns) (one ∷ row) h =
    ap (λ first. put_value first (values_from (at + 1) columns (map field_bytes row))) (value_back at column.kind one h.0)
    ∙ ap (put_value (Ok one)) (values_back (at + 1) columns row h.1)

same_size : (columns : List Column) (row : List Field) → AreOfKinds (kinds columns) row → length (map field_bytes row) ≡ length columns
same_size [] [] h = refl
same_size [] (one ∷ row) h = absurd h
same_size (column ∷ columns) [] h = absurd h
same_size (column ∷ columns) (one ∷ row) h = omega (arith, same_size columns row h.1)

-- The bytes of a row's fields are read as the row, by columns of its kinds.
pub row_back : (columns : List Column) (row : List Field) → AreOfKinds (kinds columns) row → row_of columns (map field_bytes row) ≡ Ok row
row_back columns row h =
    ap (λ (t : Bool). cond t (values_from 1 columns (map field_bytes row)) (Err (fault.FieldCount (length (map field_bytes row))))) (eq-eqb (length (map field_bytes row)) (length columns) (same_size columns row h))
    ∙ values_back 1 columns row h
