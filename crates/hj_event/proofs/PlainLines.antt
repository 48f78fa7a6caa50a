-- A line, read column by column.
use Rattle.std.proofs.Common.{◌≡◌, ℕ, suc, zero, ◌+◌, ◌<◌, ◌≤◌, ◌==◌, ◌||◌, false, ℤ, List, [], ◌∷◌, ◌++◌, length, take, drop, get_or, slice_get, All, Ok, Err, Result, Some, refl, sym, ap, subst, ◌∙◌, arith}
use Rattle.std.proofs.Math.Seq.{take-add}
use Rattle.std.proofs.lemmas.Bool.Decides.{nat_tests}
use Rattle.std.proofs.lemmas.List.{length-append, length-drop, length-take-le, take_all, take_more}
use Rattle.std.proofs.lemmas.Option.{get_or_from_slice_get}
use Rattle.hj_value.specs.declared.column.Column.{Column}
use Rattle.hj_value.specs.declared.column.ColumnType.TheVariants as kind
use Rattle.hj_value.specs.declared.field.Field.{Field}
use Rattle.hj_value.specs.declared.field.Field.TheVariants as field
use Rattle.hj_value.specs.Number.{int_of}
use Rattle.hj_record.specs.Pieces.{IsPiece}
use Rattle.hj_record.specs.Records.{record_of}
use Rattle.hj_record.proofs.Bare.{BeginsPlainly, IsWithinLine, ReadsAs, field_within, line_is_piece, line_reads, none_within, none_yet, one_more}
use Rattle.hj_event.specs.declared.schema.fault.RowFault.{RowFault}
use Rattle.hj_event.specs.SchemaRows.{put_value, value_of, values_from}
use Rattle.hj_event.specs.Lines.{IsDigit, IsLineOf, TakesValue, TakesInt, TakesText}
use Rattle.hj_event.proofs.ReadRows.{row_of-counted, value_of-text}

digit_begins : (b : ℕ) → IsDigit b → (((b == 13) || (b == 10)) ≡ false) × ((b == 0xEF) ≡ false)
digit_begins b h = (grind (arith, nat_tests), grind (arith, nat_tests))

begins : (bytes : List ℕ) (n : ℕ) → 0 < n → 0 < length bytes → IsDigit (get_or bytes 0 0) → BeginsPlainly (take n bytes)
begins [] n some none digit = absurd (omega arith)
begins (b ∷ bytes) zero some none digit = absurd (omega arith)
begins (b ∷ bytes) (suc n) some none digit = digit_begins b digit

-- ---- one value more

put_last : (value : Result Field RowFault) (others longer : Result (List Field) RowFault) (row : List Field) (last : Field) → put_value value others ≡ Ok row → ((rest : List Field) → others ≡ Ok rest → longer ≡ Ok (rest ++ last ∷ [])) → put_value value longer ≡ Ok (row ++ last ∷ [])
put_last (Err e) others longer row last is more = cc
put_last (Ok v) (Err e) longer row last is more = cc
put_last (Ok v) (Ok rest) longer row last is more =
    let same : v ∷ rest ≡ row = cc in
    rw (more rest refl) (ap (λ (r : List Field). Ok (r ++ last ∷ [])) same)

values_from-last : (k : ℕ) (columns : List Column) (fields : List (List ℕ)) (row : List Field) (column : Column) (bytes : List ℕ) (last : Field) → length fields ≡ length columns → values_from k columns fields ≡ Ok row → ((n : ℕ) → value_of n column.kind bytes ≡ Ok last) → values_from k (columns ++ column ∷ []) (fields ++ bytes ∷ []) ≡ Ok (row ++ last ∷ [])
values_from-last k [] [] row column bytes last same is one =
    let none : [] ≡ row = cc in
    rw (one k) (ap (λ (r : List Field). Ok (r ++ last ∷ [])) none)
values_from-last k [] (f ∷ fields) row column bytes last same is one = absurd (omega (arith, same))
values_from-last k (c ∷ columns) [] row column bytes last same is one = absurd (omega (arith, same))
values_from-last k (c ∷ columns) (f ∷ fields) row column bytes last same is one =
    put_last (value_of k c.kind f) (values_from (k + 1) columns fields) (values_from (k + 1) (columns ++ column ∷ []) (fields ++ bytes ∷ [])) row last is
    (λ rest are. values_from-last (k + 1) columns fields rest column bytes last (omega (arith, same)) are one)

-- ---- a line up to a column

-- The first bytes, so many, are read: each column's field up to this one with its comma.
pub record ReadsUpTo (columns : List Column) (column : ℕ) (row : List Field) (at : ℕ) (bytes : List ℕ) : Type 0 where
  pub within : at ≤ length bytes
  pub in_line : IsWithinLine (take at bytes)
  pub fields : List (List ℕ)
  pub counted : length fields ≡ column
  pub reads : ReadsAs fields (take at bytes)
  pub values : values_from 1 (take column columns) fields ≡ Ok row

pub none_read : (columns : List Column) (row : List Field) (bytes : List ℕ) → row ≡ [] → ReadsUpTo columns 0 row 0 bytes
none_read columns row bytes is = record {
  within = omega arith;
  in_line = none_within;
  fields = [];
  counted = refl;
  reads = none_yet;
  values = ap (λ (r : List Field). Ok r) (sym is);
}

module _ (columns : List Column) (column : ℕ) (row longer : List Field) (at : ℕ) (bytes : List ℕ) (value : Field) (size behind : ℕ) (so_far : ReadsUpTo columns column row at bytes) (takes : TakesValue columns column value size behind (drop at bytes)) (pushed : longer ≡ row ++ value ∷ []) where
  front : take (at + size) bytes ≡ take at bytes ++ (takes.standing ++ behind ∷ [])
  front = take-add at size bytes ∙ ap (λ (xs : List ℕ). take at bytes ++ xs) takes.are

  enough : at + size ≤ length bytes
  enough = omega (arith, so_far.within, takes.within, length-drop at bytes)

  there : column < length columns
  there = by columns column takes.there
    where
      by : (all : List Column) (place : ℕ) → slice_get all place ≡ Some takes.column → place < length all
      by [] place is = cc
      by (c ∷ all) zero is = omega arith
      by (c ∷ all) (suc place) is = let lt = by all place is in omega (arith, lt)

  columns_more : take (column + 1) columns ≡ take column columns ++ takes.column ∷ []
  columns_more = take_more columns column takes.column there ∙ ap (λ (c : Column). take column columns ++ c ∷ []) (get_or_from_slice_get columns column takes.column takes.column takes.there)

  values_more : values_from 1 (take (column + 1) columns) (so_far.fields ++ takes.field ∷ []) ≡ Ok longer
  values_more =
      ap (λ (cs : List Column). values_from 1 cs (so_far.fields ++ takes.field ∷ [])) columns_more
      ∙ values_from-last 1 (take column columns) so_far.fields row takes.column takes.field value (so_far.counted ∙ sym (length-take-le column columns (omega (arith, there)))) so_far.values takes.reads
      ∙ ap (λ (r : List Field). Ok r) (sym pushed)

  pub one_column_more : behind ≡ 44 → ReadsUpTo columns (column + 1) longer (at + size) bytes
  one_column_more comma =
      let whole : take (at + size) bytes ≡ take at bytes ++ (takes.standing ++ 44 ∷ []) = front ∙ ap (λ (b : ℕ). take at bytes ++ (takes.standing ++ b ∷ [])) comma in
      record {
        within = enough;
        in_line = subst IsWithinLine (sym whole) (field_within (take at bytes) takes.field takes.standing so_far.in_line takes.plainly);
        fields = so_far.fields ++ takes.field ∷ [];
        counted = omega (arith, length-append so_far.fields (takes.field ∷ []), so_far.counted);
        reads = subst (ReadsAs (so_far.fields ++ takes.field ∷ [])) (sym whole) (one_more so_far.fields (take at bytes) takes.field takes.standing so_far.reads takes.plainly);
        values = values_more;
      }

  pub whole_line : behind ≡ 10 → column + 1 ≡ length columns → 0 < length bytes → IsDigit (get_or bytes 0 0) → 0 < at + size → IsLineOf columns longer (at + size) bytes
  whole_line line_feed all some digit used =
      let whole : take (at + size) bytes ≡ take at bytes ++ (takes.standing ++ 10 ∷ []) = front ∙ ap (λ (b : ℕ). take at bytes ++ (takes.standing ++ b ∷ [])) line_feed in
      let fields = so_far.fields ++ takes.field ∷ [] in
      record {
        within = enough;
        piece = subst IsPiece (sym whole) (line_is_piece (take at bytes) takes.field takes.standing so_far.in_line takes.plainly);
        fields = fields;
        reads = ap record_of whole ∙ line_reads so_far.fields (take at bytes) takes.field takes.standing so_far.reads takes.plainly (subst BeginsPlainly whole (begins bytes (at + size) used some digit));
        row_is =
            row_of-counted columns fields (omega (arith, length-append so_far.fields (takes.field ∷ []), so_far.counted, all))
            ∙ ap (λ (cs : List Column). values_from 1 cs fields) (sym (take_all (column + 1) columns (omega (arith, all))))
            ∙ values_more;
      }

-- ---- one field

pub takes_int : (value : ℤ) (size behind : ℕ) (bytes : List ℕ) → size < length bytes → All IsDigit (take size bytes) → int_of (take size bytes) ≡ Ok value → get_or bytes size 0 ≡ behind → TakesInt value (size + 1) behind bytes
takes_int value size behind bytes within all number there = record {
  within = omega arith;
  digits = take size bytes;
  are = take_more bytes size 0 within ∙ ap (λ (b : ℕ). take size bytes ++ b ∷ []) there;
  all = all;
  number = number;
}

pub text_taken : (columns : List Column) (at : ℕ) (column : Column) (text : List ℕ) (size behind : ℕ) (bytes : List ℕ) → slice_get columns at ≡ Some column → column.kind ≡ kind.Text → TakesText text size behind bytes → TakesValue columns at (field.Text text) size behind bytes
text_taken columns at column text size behind bytes there is takes = record {
  column = column;
  there = there;
  within = takes.within;
  field = text;
  standing = takes.standing;
  are = takes.are;
  plainly = takes.plainly;
  reads = λ number. ap (λ kind. value_of number kind text) is ∙ sym (value_of-text number text text takes.utf8 refl);
}
