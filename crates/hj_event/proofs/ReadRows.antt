-- Values that were read stand before those that are still to come.
use Rattle.std.proofs.Common.{◌≡◌, ℕ, ◌+◌, List, [], ◌∷◌, ◌++◌, drop, length, add-one, eq-eqb, zero, suc, refl, sym, ap, ap₂, ◌∙◌, Ok, Err, Result, Some, None, slice_get}
use Rattle.std.proofs.lemmas.Bool.{cond-true, cond-false, false_from_ne_true}
use Rattle.std.proofs.lemmas.List.{append_assoc}
use Rattle.std.proofs.lemmas.Str.{IsUtf8-from_is_utf8, is_utf8-from_IsUtf8}
use Rattle.std.specs.Str.{IsUtf8, is_utf8}
use Rattle.hj_value.specs.declared.column.Column.{Column}
use Rattle.hj_value.specs.declared.column.ColumnType.TheVariants as kind
use Rattle.hj_value.specs.declared.field.Field.{Field}
use Rattle.hj_value.specs.declared.field.Field.TheVariants as field
use Rattle.hj_event.specs.declared.schema.fault.RowFault.{RowFault}
use Rattle.hj_event.specs.declared.schema.fault.RowFault.TheVariants as fault
use Rattle.hj_event.specs.RowAnswers.{ReadsRow}
use Rattle.hj_event.specs.SchemaRows.{value_of, values_from, put_value, row_of}

pub value_of-text : (column : ℕ) (bytes text : List ℕ) → IsUtf8 bytes → text ≡ bytes → Ok (field.Text text) ≡ value_of column kind.Text bytes
value_of-text column bytes text utf8 same =
    ap (λ t. Ok (field.Text t)) same ∙ sym (cond-true (is_utf8 bytes) (Ok (field.Text bytes)) (Err (fault.NotText column)) (is_utf8-from_IsUtf8 bytes utf8))

pub value_of-no_text : (column : ℕ) (bytes : List ℕ) → (IsUtf8 bytes → ⊥) → Err (fault.NotText column) ≡ value_of column kind.Text bytes
value_of-no_text column bytes ill_formed =
    sym (cond-false (is_utf8 bytes) (Ok (field.Text bytes)) (Err (fault.NotText column)) (false_from_ne_true (is_utf8 bytes) (λ utf8. ill_formed (IsUtf8-from_is_utf8 bytes utf8))))

-- a row's values, and those that come behind them
abbrev pub behind : List Field → Result (List Field) RowFault → Result (List Field) RowFault
behind row (Ok values) = Ok (row ++ values)
behind row (Err found) = Err found

none_some : {A : Type 0} {x : A} → Some x ≡ None → ⊥
none_some h = cc

some_is : {A : Type 0} {x y : A} → Some x ≡ Some y → x ≡ y
some_is h = cc

behind-put : (row : List Field) (value : Field) (others : Result (List Field) RowFault) → behind row (put_value (Ok value) others) ≡ behind (row ++ value ∷ []) others
behind-put row value (Ok values) = ap (λ all. Ok all) (sym (append_assoc row (value ∷ []) values))
behind-put row value (Err found) = refl

drop-suc : {A : Type 0} (xs : List A) (i : ℕ) (x : A) → Some x ≡ slice_get xs i → drop i xs ≡ x ∷ drop (suc i) xs
drop-suc [] i x h = absurd (none_some h)
drop-suc (y ∷ ys) zero x h = ap (λ z. z ∷ ys) (some_is (sym h))
drop-suc (y ∷ ys) (suc i) x h = drop-suc ys i x h

drop-next : {A : Type 0} (xs : List A) (i : ℕ) (x : A) → Some x ≡ slice_get xs i → drop i xs ≡ x ∷ drop (i + 1) xs
drop-next xs i x h = drop-suc xs i x h ∙ ap (λ n. x ∷ drop n xs) (sym (add-one i))

-- the values from a place on begin with that of the column there
values_from-at : (columns : List Column) (fields : List (List ℕ)) (at : ℕ) (column : Column) (bytes : List ℕ) → Some column ≡ slice_get columns at → Some bytes ≡ slice_get fields at → values_from (at + 1) (drop at columns) (drop at fields) ≡ put_value (value_of (at + 1) column.kind bytes) (values_from (at + 1 + 1) (drop (at + 1) columns) (drop (at + 1) fields))
values_from-at columns fields at column bytes is has =
    ap₂ (λ cs fs. values_from (at + 1) cs fs) (drop-next columns at column is) (drop-next fields at bytes has)

pub values_from-step : (columns : List Column) (fields : List (List ℕ)) (at : ℕ) (column : Column) (bytes : List ℕ) (row longer : List Field) (value : Field) → longer ≡ row ++ value ∷ [] → Some column ≡ slice_get columns at → Some bytes ≡ slice_get fields at → Ok value ≡ value_of (at + 1) column.kind bytes → behind row (values_from (at + 1) (drop at columns) (drop at fields)) ≡ values_from 1 columns fields → behind longer (values_from (at + 1 + 1) (drop (at + 1) columns) (drop (at + 1) fields)) ≡ values_from 1 columns fields
values_from-step columns fields at column bytes row longer value pushed is has found so_far =
    let rest = values_from (at + 1 + 1) (drop (at + 1) columns) (drop (at + 1) fields) in
    ap (λ all. behind all rest) pushed
    ∙ sym (behind-put row value rest)
    ∙ ap (λ first. behind row (put_value first rest)) found
    ∙ ap (behind row) (sym (values_from-at columns fields at column bytes is has))
    ∙ so_far

values_from-fault : (columns : List Column) (fields : List (List ℕ)) (at : ℕ) (column : Column) (bytes : List ℕ) (row : List Field) (found : RowFault) → Some column ≡ slice_get columns at → Some bytes ≡ slice_get fields at → Err found ≡ value_of (at + 1) column.kind bytes → behind row (values_from (at + 1) (drop at columns) (drop at fields)) ≡ values_from 1 columns fields → values_from 1 columns fields ≡ Err found
values_from-fault columns fields at column bytes row found is has fails so_far =
    let rest = values_from (at + 1 + 1) (drop (at + 1) columns) (drop (at + 1) fields) in
    sym so_far
    ∙ ap (behind row) (values_from-at columns fields at column bytes is has ∙ ap (λ first. put_value first rest) (sym fails))

pub row_of-counted : (columns : List Column) (fields : List (List ℕ)) → length fields ≡ length columns → row_of columns fields ≡ values_from 1 columns fields
row_of-counted columns fields counted = cond-true _ _ _ (eq-eqb (length fields) (length columns) counted)

ReadsRow-fault : (columns : List Column) (fields : List (List ℕ)) (found : RowFault) → row_of columns fields ≡ Err found → ReadsRow (Err found) columns fields
ReadsRow-fault columns fields (fault.FieldCount count) h = h
ReadsRow-fault columns fields (fault.NotNumber column) h = h
ReadsRow-fault columns fields (fault.NumberRange column) h = h
ReadsRow-fault columns fields (fault.NotText column) h = h
ReadsRow-fault columns fields fault.Memory h = tt

pub ReadsRow-at : (columns : List Column) (fields : List (List ℕ)) (at : ℕ) (column : Column) (bytes : List ℕ) (row : List Field) (found : RowFault) → length fields ≡ length columns → Some column ≡ slice_get columns at → Some bytes ≡ slice_get fields at → Err found ≡ value_of (at + 1) column.kind bytes → behind row (values_from (at + 1) (drop at columns) (drop at fields)) ≡ values_from 1 columns fields → ReadsRow (Err found) columns fields
ReadsRow-at columns fields at column bytes row found counted is has fails so_far =
    ReadsRow-fault columns fields found (row_of-counted columns fields counted ∙ values_from-fault columns fields at column bytes row found is has fails so_far)
