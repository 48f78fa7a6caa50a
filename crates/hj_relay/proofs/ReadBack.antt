-- A relay, read as a stream, gives the rows of its pairs.
use Rattle.std.proofs.Common.{◌≡◌, ◌⊎◌, inl, inr, ℕ, suc, ◌+◌, ◌<◌, ◌≤◌, ◌^◌, ◌==◌, ℤ, pos, negsuc, Bool, true, false, not, ◌&&◌, cond, ltb, All, List, [], ◌∷◌, ◌++◌, length, map, take, drop, Ok, Err, None, Some, refl, sym, ap, subst, ◌∙◌, arith, append_assoc, append-nil, take-append-drop}
use Rattle.std.specs.Prelude.{◌-ℤ◌, int_lt}
use Rattle.std.specs.Fmt.{decimal, signed_decimal}
use Rattle.std.specs.Str.{bytes_eq}
use Rattle.std.specs.Str.Parse.{IsNumeral}
use Rattle.std.specs.Prelude.{codes}
use Rattle.std.specs.declared.option.Option.{Option}
use Rattle.std.specs.declared.result.Result.{Result}
use Rattle.std.proofs.lemmas.Bool.{cases_lt, le-ltb, lt-ltb, ltb-true, ne_eqb}
use Rattle.std.proofs.lemmas.Fmt.{decimal_is_IsNumeral}
use Rattle.std.proofs.lemmas.Int.{ints}
use Rattle.std.proofs.lemmas.List.{take_all}
use Rattle.std.proofs.lemmas.Str.Parse.{digit_from_value}
use Rattle.csv.specs.Writing.{comma, default_writer, field_text, fields_text, is_blank, row_text}
use Rattle.hj_base.specs.Journals.{IsPrefix}
use Rattle.hj_value.specs.declared.column.Column.{Column}
use Rattle.hj_value.specs.declared.column.ColumnType.{ColumnType}
use Rattle.hj_value.specs.declared.column.ColumnType.TheVariants as kind
use Rattle.hj_value.specs.declared.field.Field.{Field}
use Rattle.hj_value.specs.declared.field.Field.TheVariants as field
use Rattle.hj_value.specs.Number.{fits_i64}
use Rattle.hj_value.specs.Row.{time_of}
use Rattle.hj_value.specs.Schema.{is_int, starts_with_time}
use Rattle.hj_msg.specs.declared.event.Pair.{Pair}
use Rattle.hj_query.specs.QueryParts.{QueryParts}
use Rattle.hj_record.specs.declared.fault.PieceFault.{PieceFault}
use Rattle.hj_record.specs.declared.fault.PieceFault.TheVariants as fault
use Rattle.hj_record.specs.Pieces.{IsPiece, Pieces, PiecesEnd, Split, Stream, bad as pieces_bad, clean as pieces_clean, ended, last_pieces, most_in_piece, pieces_of, put_front, put_piece, split, then_pieces, up_to_too_long}
use Rattle.hj_record.specs.Records.{record_of}
use Rattle.hj_record.proofs.Splits.{split-piece}
use Rattle.hj_emit.specs.Line.{field_bytes}
use Rattle.hj_event.specs.declared.fault.RecordFault.{RecordFault}
use Rattle.hj_event.specs.declared.fault.RecordFault.TheVariants as record_fault
use Rattle.hj_event.specs.Rows.{Rows, RowsEnd, bad, clean, end_at, greatest_of, in_order, in_time, most_in_stream, no_row, put_all, put_in, put_row, read_of, record_row, row_at, row_in_time, rows_from, rows_in, rows_of, staying, then_rows, unread, with_time}
use Rattle.hj_event.specs.Waiting.{AreInOrder, NoneBefore}
use Rattle.hj_event.proofs.OrderLemmas.{put_in-behind}
use Rattle.hj_stream.specs.JoinText.{text_by}
use Rattle.hj_relay.specs.Fits.{Fits, kinds}
use Rattle.hj_relay.specs.Relay.{relay, relay_line, relay_pairs, whole}
use Rattle.hj_relay.specs.Rows.{AreReadBack, EndsRead, IsTooLong, ReadsBack, relay_row, time_at}
use Rattle.hj_relay.proofs.Arriving.{IsLeft, IsRight}
use Rattle.hj_relay.proofs.Each.{Each, each-all}
use Rattle.hj_relay.proofs.FieldKinds.{AreOfKinds, IsOfKind, kinds-both, row_back}
use Rattle.hj_relay.proofs.Lines.{line_back, line_is_piece}
use Rattle.hj_relay.proofs.Numbers.{number_text}
use Rattle.hj_relay.proofs.Pairs.{Joined-timely, pairs_are_timely}
use Rattle.hj_relay.proofs.Rows.{IsNotBefore, not_before-past}

abbrev Pairs : Type 0
Pairs = List (Pair (List Field))

-- ---- the line of a pair

-- a row whose first field is a number that fits
record IsTimed (row : List Field) : Type 0 where
  time : ℤ
  others : List Field
  is : row ≡ field.Int time ∷ others
  fits : fits_i64 time ≡ true

first_is_int : (of : ColumnType) (one : Field) → is_int of ≡ true → IsOfKind of one → (value : ℤ) × (one ≡ field.Int value) × (fits_i64 value ≡ true)
first_is_int kind.Int (field.Int value) int is = (value, refl, is)
first_is_int kind.Int (field.Text text) int is = absurd is
first_is_int kind.Text one int is = cc

and_second : (a b : Bool) → (a && b) ≡ true → b ≡ true
and_second true b e = e
and_second false b e = cc

timed_row : (columns : List Column) (row : List Field) → starts_with_time columns ≡ true → AreOfKinds (kinds columns) row → IsTimed row
timed_row [] row starts are = cc
timed_row (column ∷ columns) [] starts are = absurd are
timed_row (column ∷ columns) (one ∷ row) starts are =
    let first = first_is_int column.kind one (and_second (bytes_eq column.name (codes "ts")) (is_int column.kind) starts) are.0 in
    record { time = first.0; others = row; is = ap (λ (f : Field). f ∷ row) first.1; fits = first.2 }

time_fits : (row : List Field) → IsTimed row → fits_i64 (time_of row) ≡ true
time_fits row timed = subst (λ (r : List Field). fits_i64 (time_of r) ≡ true) (sym timed.is) timed.fits

later_fits : (one : Pair (List Field)) → IsTimed one.left → IsTimed one.right → fits_i64 (time_at one) ≡ true
later_fits one left right = by_test (ltb one.left_no.0 one.right_no.0)
  where
    by_test : (later : Bool) → fits_i64 (time_of (cond later one.right one.left)) ≡ true
    by_test true = time_fits one.right right
    by_test false = time_fits one.left left

-- a number in front of the text of a record is its first field
front_field : (value : ℤ) (one two : List ℕ) (fields : List (List ℕ)) → fits_i64 value ≡ true
    → signed_decimal value ++ comma ∷ row_text default_writer (one ∷ two ∷ fields) ≡ row_text default_writer (signed_decimal value ∷ one ∷ two ∷ fields)
unfolding is_blank fields_text
front_field value one two fields fits =
    let digits = signed_decimal value in
    let rest = field_text default_writer one ++ fields_text default_writer (two ∷ fields) in
    sym (ap (λ (text : List ℕ). (text ++ (44 ∷ rest)) ++ 10 ∷ []) (number_text value fits) ∙ append_assoc digits (44 ∷ rest) (10 ∷ []))

-- its first byte begins no byte order mark
first_byte : (value : ℤ) → fits_i64 value ≡ true → (b : ℕ) × (bytes : List ℕ) × (signed_decimal value ≡ b ∷ bytes) × ((b == 239) ≡ false)
first_byte (pos n) fits = by_digits (decimal n) refl (decimal_is_IsNumeral n (omega (arith, ltb-true n (2 ^ 63) fits))).0
  where
    by_digits : (digits : List ℕ) → decimal n ≡ digits → IsNumeral 10 (decimal n) → (b : ℕ) × (bytes : List ℕ) × (decimal n ≡ b ∷ bytes) × ((b == 239) ≡ false)
    by_digits [] is numeral = absurd (omega (arith, numeral.0, ap length is))
    by_digits (c ∷ cs) is numeral =
        let all = subst (IsNumeral 10) is numeral in
        (c, cs, is, ne_eqb c 239 (λ e. omega (arith, digit_from_value c all.1.0)))
first_byte (negsuc n) fits = (45, decimal (suc n), refl, refl)

-- What the line of a pair is.
record IsLineOf (one : Pair (List Field)) : Type 0 where
  piece : IsPiece (relay_line one)
  reads : record_of (relay_line one) ≡ Ok (Some (map field_bytes (relay_row one)))

line_of_fields : (one : Pair (List Field)) (first second : Field) (rest : List Field) → one.left ++ one.right ≡ first ∷ second ∷ rest → fits_i64 (time_at one) ≡ true → IsLineOf one
line_of_fields one first second rest is fits =
    let time = time_at one in
    let digits = signed_decimal time in
    let fields = field_bytes first ∷ field_bytes second ∷ map field_bytes rest in
    let text : relay_line one ≡ row_text default_writer (digits ∷ fields) =
    ap (λ (row : List Field). digits ++ comma ∷ row_text default_writer (map field_bytes row)) is ∙ front_field time (field_bytes first) (field_bytes second) (map field_bytes rest) fits in
    let same : map field_bytes (relay_row one) ≡ digits ∷ fields = ap (λ (row : List Field). digits ∷ map field_bytes row) is in
    let begins = first_byte time fits in
    let front : relay_line one ≡ begins.0 ∷ (begins.1 ++ comma ∷ row_text default_writer (map field_bytes (one.left ++ one.right))) =
    ap (λ (bytes : List ℕ). bytes ++ comma ∷ row_text default_writer (map field_bytes (one.left ++ one.right))) begins.2 in
    record {
      piece = subst IsPiece (sym text) (line_is_piece digits (field_bytes first) (field_bytes second ∷ map field_bytes rest));
      reads = ap record_of front
          ∙ (line_back begins.0 (begins.1 ++ comma ∷ row_text default_writer (map field_bytes (one.left ++ one.right))) digits fields begins.3 (sym front ∙ text)
          ∙ ap (λ (found : List (List ℕ)). Ok (Some found)) (sym same));
    }

two_fields : (first second : Field) (one other : List Field) → (third : Field) × (rest : List Field) × ((first ∷ one) ++ second ∷ other ≡ first ∷ third ∷ rest)
two_fields first second [] other = (second, other, refl)
two_fields first second (third ∷ one) other = (third, one ++ second ∷ other, refl)

line_of_pair : (one : Pair (List Field)) → IsTimed one.left → IsTimed one.right → IsLineOf one
line_of_pair one left right =
    let found = two_fields (field.Int left.time) (field.Int right.time) left.others right.others in
    let is : one.left ++ one.right ≡ field.Int left.time ∷ found.0 ∷ found.1 =
    ap (λ (row : List Field). row ++ one.right) left.is ∙ (ap (λ (row : List Field). (field.Int left.time ∷ left.others) ++ row) right.is ∙ found.2) in
    line_of_fields one (field.Int left.time) found.0 found.1 is (later_fits one left right)

-- ---- a line is read as the pair's row

not_late : (slack : ℕ) (time greatest : ℤ) → int_lt time greatest ≡ false → int_lt time (greatest -ℤ pos slack) ≡ false
not_late slack time greatest ge = grind (arith, ints)

in_time_is : (slack : ℕ) (greatest : Option ℤ) (row : List Field) → IsNotBefore greatest (time_of row) → in_time slack greatest row ≡ Ok (Some row)
in_time_is slack None row late = refl
in_time_is slack (Some greatest) row late =
    ap (λ (t : Bool). cond {A = Result (Option (List Field)) RecordFault} t (Err (record_fault.TimeBack greatest (time_of row))) (Ok (Some row))) (not_late slack (time_of row) greatest late)

with_time_is : (greatest : Option ℤ) (time : ℤ) → IsNotBefore greatest time → with_time greatest time ≡ time
with_time_is None time late = refl
with_time_is (Some greatest) time late = ap (λ (t : Bool). cond t greatest time) late

module _ (first second : QueryParts) (fits : Fits first second) where
  abbrev Timely : Option ℤ → Pairs → Type 0
  Timely from pairs = Joined-timely (IsLeft first) (IsRight first) from pairs

  abbrev columns : List Column
  columns = second.left.columns

  pair_line_is : (one : Pair (List Field)) → IsLeft first one.left → IsRight first one.right → IsLineOf one
  pair_line_is one left right = line_of_pair one (timed_row first.left.columns one.left first.left.timed left) (timed_row first.right.columns one.right first.right.timed right)

  row_kinds : (one : Pair (List Field)) → IsLeft first one.left → IsRight first one.right → AreOfKinds (kinds columns) (relay_row one)
  row_kinds one left right =
      subst (λ (of : List ColumnType). AreOfKinds of (relay_row one)) (sym fits) (
        later_fits one (timed_row first.left.columns one.left first.left.timed left) (timed_row first.right.columns one.right first.right.timed right),
        kinds-both (kinds first.left.columns) (kinds first.right.columns) one.left one.right left right,
      )

  row_is : (slack : ℕ) (greatest : Option ℤ) (one : Pair (List Field)) → IsLeft first one.left → IsRight first one.right → IsNotBefore greatest (time_at one) → row_at columns slack greatest (relay_line one) ≡ Ok (Some (relay_row one))
  row_is slack greatest one left right late =
      ap (record_row columns slack greatest) (pair_line_is one left right).reads
      ∙ (ap (row_in_time slack greatest) (row_back columns (relay_row one) (row_kinds one left right)) ∙ in_time_is slack greatest (relay_row one) late)

  -- ---- the rows of lines

  -- Rows of the lines of pairs, behind which the pieces end so: all of them, or those before a line that is too long.
  record AreRead (ending : PiecesEnd) (pairs : Pairs) (rows : Rows) : Type 0 where
    begin : IsPrefix rows.rows (map relay_row pairs)
    ends : ((rows.rows ≡ map relay_row pairs) × ((at : ℕ) × (rows.ending ≡ end_at at ending))) ⊎ ((at : ℕ) × (rows.ending ≡ bad at (record_fault.Piece fault.TooLong)))

  none_read : (ending : PiecesEnd) (rows : Rows) (pairs : Pairs) (at : ℕ) → rows ≡ no_row (bad at (record_fault.Piece fault.TooLong)) → AreRead ending pairs rows
  none_read ending rows pairs at is =
      subst (AreRead ending pairs) (sym is) (record { begin = record { rest = map relay_row pairs; is = refl }; ends = inr (at, refl) })

  one_more : (ending : PiecesEnd) (one : Pair (List Field)) (pairs : Pairs) (rows : Rows) → AreRead ending pairs rows → AreRead ending (one ∷ pairs) (then_rows (relay_row one) rows)
  one_more ending one pairs rows read = record {
    begin = record { rest = read.begin.rest; is = ap (λ (others : List (List Field)). relay_row one ∷ others) read.begin.is };
    ends = ends read.ends;
  }
    where
      ends : ((rows.rows ≡ map relay_row pairs) × ((at : ℕ) × (rows.ending ≡ end_at at ending))) ⊎ ((at : ℕ) × (rows.ending ≡ bad at (record_fault.Piece fault.TooLong)))
          → ((relay_row one ∷ rows.rows ≡ map relay_row (one ∷ pairs)) × ((at : ℕ) × (rows.ending ≡ end_at at ending))) ⊎ ((at : ℕ) × (rows.ending ≡ bad at (record_fault.Piece fault.TooLong)))
      ends (inl all) = inl (ap (λ (others : List (List Field)). relay_row one ∷ others) all.0, all.1)
      ends (inr long) = inr long

  lines_read : (slack at : ℕ) (greatest : Option ℤ) (pairs : Pairs) (ending : PiecesEnd) → Timely greatest pairs
      → AreRead ending pairs (rows_in columns slack at greatest (up_to_too_long (map relay_line pairs) (ended ending)))
  lines_read slack at greatest [] ending timely = record { begin = record { rest = []; is = refl }; ends = inl (refl, (at, refl)) }
  lines_read slack at greatest (one ∷ pairs) ending timely = by_test (ltb most_in_piece (length (relay_line one))) (lines_read slack (at + 1) (Some (time_at one)) pairs ending timely.3)
    where
      others : Pieces
      others = up_to_too_long (map relay_line pairs) (ended ending)

      by_test : (long : Bool) → AreRead ending pairs (rows_in columns slack (at + 1) (Some (time_at one)) others) → AreRead ending (one ∷ pairs) (rows_in columns slack at greatest (cond long (ended (pieces_bad fault.TooLong)) (then_pieces (relay_line one) others)))
      by_test true read = none_read ending (no_row (bad at (record_fault.Piece fault.TooLong))) (one ∷ pairs) at refl
      by_test false read =
          let rows : put_row at greatest (row_at columns slack greatest (relay_line one)) (λ next time. rows_from columns slack next time others.pieces others.ending)
          ≡ then_rows (relay_row one) (rows_in columns slack (at + 1) (Some (time_at one)) others) =
          ap (λ found. put_row at greatest found (λ next time. rows_from columns slack next time others.pieces others.ending)) (row_is slack greatest one timely.0 timely.1 timely.2)
          ∙ ap (λ (time : ℤ). then_rows (relay_row one) (rows_in columns slack (at + 1) (Some time) others)) (with_time_is greatest (time_at one) timely.2) in
          subst (AreRead ending (one ∷ pairs)) (sym rows) (one_more ending one pairs (rows_in columns slack (at + 1) (Some (time_at one)) others) read)

  -- ---- the pieces of a relay

  lines_cut : (from : Option ℤ) (pairs : Pairs) → Timely from pairs → split false (text_by relay_line pairs) ≡ record { pieces = map relay_line pairs; rest = [] }
  lines_cut from [] timely = refl
  lines_cut from (one ∷ pairs) timely =
      split-piece (relay_line one) (text_by relay_line pairs) (pair_line_is one timely.0 timely.1).piece
      ∙ ap (λ (cut : Split). record { pieces = relay_line one ∷ cut.pieces; rest = cut.rest }) (lines_cut (Some (time_at one)) pairs timely.3)

  front_timely : (from : Option ℤ) (pairs others : Pairs) → Timely from (pairs ++ others) → Timely from pairs
  front_timely from [] others timely = tt
  front_timely from (one ∷ pairs) others timely = (timely.0, timely.1, timely.2, front_timely (Some (time_at one)) pairs others timely.3)

  -- ---- the rows stay as they are read

  none_before : (row : List Field) (pairs : Pairs) → Timely (Some (time_of row)) pairs → NoneBefore row (map relay_row pairs)
  none_before row [] timely = tt
  none_before row (one ∷ pairs) timely = (timely.2, none_before row pairs (earlier pairs timely.3))
    where
      earlier : (pairs : Pairs) → Timely (Some (time_at one)) pairs → Timely (Some (time_of row)) pairs
      earlier [] h = tt
      earlier (other ∷ pairs) h = (h.0, h.1, not_before-past (Some (time_of row)) (time_at one) (time_at other) timely.2 h.2, h.3)

  in_order_is : (from : Option ℤ) (pairs : Pairs) → Timely from pairs → AreInOrder (map relay_row pairs)
  in_order_is from [] timely = tt
  in_order_is from (one ∷ pairs) timely = (none_before (relay_row one) pairs timely.3, in_order_is (Some (time_at one)) pairs timely.3)

-- the first of rows in order are in order
front_in_order : (rows others : List (List Field)) → AreInOrder (rows ++ others) → AreInOrder rows
front_in_order [] others ordered = tt
front_in_order (row ∷ rows) others ordered = (front row rows ordered.0, front_in_order rows others ordered.1)
  where
    front : (row : List Field) (rows : List (List Field)) → NoneBefore row (rows ++ others) → NoneBefore row rows
    front row [] h = tt
    front row (other ∷ rows) h = (h.0, front row rows h.1)

not_earlier : (row other : List Field) (between behind : List (List Field)) → NoneBefore row (between ++ other ∷ behind) → int_lt (time_of other) (time_of row) ≡ false
not_earlier row other [] behind none = none.0
not_earlier row other (one ∷ between) behind none = not_earlier row other between behind none.1

put_last : (row : List Field) (waiting behind : List (List Field)) → AreInOrder (waiting ++ row ∷ behind) → put_in row waiting ≡ waiting ++ row ∷ []
put_last row [] behind ordered = refl
put_last row (one ∷ waiting) behind ordered =
    put_in-behind row one waiting (not_earlier one row waiting behind ordered.0) ∙ ap (λ (rows : List (List Field)). one ∷ rows) (put_last row waiting behind ordered.1)

put_all_is : (waiting rows : List (List Field)) → AreInOrder (waiting ++ rows) → put_all waiting rows ≡ waiting ++ rows
put_all_is waiting [] ordered = sym (append-nil waiting)
put_all_is waiting (row ∷ rows) ordered =
    let same = append_assoc waiting (row ∷ []) rows in
    ap (λ (others : List (List Field)). put_all others rows) (put_last row waiting rows ordered)
    ∙ (put_all_is (waiting ++ row ∷ []) rows (subst AreInOrder (sym same) ordered) ∙ same)

-- ---- bytes of which the first ones are cut

-- pieces that begin others begin them too with a byte more in front, and the other way to cut
front_cut : (inside : Bool) (bytes more : List ℕ) → IsPrefix (split inside bytes).pieces (split inside (bytes ++ more)).pieces
front_cut inside [] more = record { rest = (split inside more).pieces; is = refl }
front_cut inside (b ∷ bytes) more = by_test ((b == 10) && not inside) (front_cut false bytes more) (front_cut (cond (b == 34) (not inside) inside) bytes more)
  where
    now : Bool
    now = cond (b == 34) (not inside) inside

    one_piece : (piece : List ℕ) (cut all : Split) → IsPrefix cut.pieces all.pieces → IsPrefix (piece ∷ cut.pieces) (piece ∷ all.pieces)
    one_piece piece cut all h = record { rest = h.rest; is = ap (λ (pieces : List (List ℕ)). piece ∷ pieces) h.is }

    one_byte : (cut all : List (List ℕ)) (cut_rest all_rest : List ℕ) → IsPrefix cut all → IsPrefix (put_front b (record { pieces = cut; rest = cut_rest })).pieces (put_front b (record { pieces = all; rest = all_rest })).pieces
    one_byte [] all cut_rest all_rest h = record { rest = (put_front b (record { pieces = all; rest = all_rest })).pieces; is = refl }
    one_byte (piece ∷ cut) all cut_rest all_rest h =
        let both : IsPrefix ((b ∷ piece) ∷ cut) ((b ∷ piece) ∷ (cut ++ h.rest)) = record { rest = h.rest; is = refl } in
        subst (λ (pieces : List (List ℕ)). IsPrefix ((b ∷ piece) ∷ cut) (put_front b (record { pieces = pieces; rest = all_rest })).pieces) (sym h.is) both

    by_test : (ends : Bool) → IsPrefix (split false bytes).pieces (split false (bytes ++ more)).pieces → IsPrefix (split now bytes).pieces (split now (bytes ++ more)).pieces
        → IsPrefix (cond ends (put_piece b (split false bytes)) (put_front b (split now bytes))).pieces (cond ends (put_piece b (split false (bytes ++ more))) (put_front b (split now (bytes ++ more)))).pieces
    by_test true behind within = one_piece (b ∷ []) (split false bytes) (split false (bytes ++ more)) behind
    by_test false behind within = one_byte (split now bytes).pieces (split now (bytes ++ more)).pieces (split now bytes).rest (split now (bytes ++ more)).rest within

-- the lines are those of the first pairs
abbrev AreOfFirst : List (List ℕ) → Pairs → Type 0
AreOfFirst lines pairs = (front : Pairs) × (rest : Pairs) × (pairs ≡ front ++ rest) × (lines ≡ map relay_line front)

front_more : (line : List ℕ) (lines : List (List ℕ)) (pairs : Pairs) (one : Pair (List Field)) → relay_line one ≡ line → AreOfFirst lines pairs → AreOfFirst (line ∷ lines) (one ∷ pairs)
front_more line lines pairs one same found =
    (one ∷ found.0, found.1, ap (λ (behind : Pairs). one ∷ behind) found.2, ap (λ (first : List ℕ). first ∷ lines) (sym same) ∙ ap (λ (behind : List (List ℕ)). relay_line one ∷ behind) found.3)

-- the lines that begin those of pairs are those of the first pairs
front_pairs : (lines : List (List ℕ)) (pairs : Pairs) → IsPrefix lines (map relay_line pairs) → AreOfFirst lines pairs
front_pairs [] pairs h = ([], pairs, refl, refl)
front_pairs (line ∷ lines) [] h = let wrong = h.is in cc
front_pairs (line ∷ lines) (one ∷ pairs) h =
    let same : relay_line one ≡ line = let is = h.is in cc in
    let others : map relay_line pairs ≡ lines ++ h.rest = let is = h.is in cc in
    front_more line lines pairs one same (front_pairs lines pairs (record { rest = h.rest; is = others }))

-- ---- the whole relay

module _ (first second : QueryParts) (fits : Fits first second) where
  -- an ending of the pieces of a relay: well, or because the stream or a line is too long
  abbrev IsEnding : PiecesEnd → Pairs → Pairs → Type 0
  IsEnding pieces_clean front pairs = front ≡ pairs
  IsEnding (pieces_bad found) front pairs = IsTooLong (record_fault.Piece found)
  IsEnding ending front pairs = ⊥

  pieces_are : (pairs : Pairs) → Timely first second fits None pairs
      → (front : Pairs) × (rest : Pairs) × (ending : PiecesEnd) × (pairs ≡ front ++ rest) × IsEnding ending front pairs × (pieces_of most_in_stream (whole (text_by relay_line pairs)) ≡ up_to_too_long (map relay_line front) (ended ending))
  pieces_are pairs timely = elim (cases_lt most_in_stream (length bytes)) [
    | inl past ↦
        let found = front_pairs cut.pieces pairs (subst (λ (text : Split). IsPrefix cut.pieces text.pieces) all (front_cut false (take most_in_stream bytes) (drop most_in_stream bytes))) in
        let last = long_last past in (
          found.0,
          found.1,
          pieces_bad last.0,
          found.2,
          last.2,
          ap (up_to_too_long cut.pieces) last.1 ∙ ap (λ (lines : List (List ℕ)). up_to_too_long lines (ended (pieces_bad last.0))) found.3,
        )
    | inr within ↦ (pairs, [], pieces_clean, sym (append-nil pairs), refl, whole_pieces within)
  ]
    where
      bytes : List ℕ
      bytes = text_by relay_line pairs

      cut : Split
      cut = split false (take most_in_stream bytes)

      all : split false (take most_in_stream bytes ++ drop most_in_stream bytes) ≡ record { pieces = map relay_line pairs; rest = [] }
      all = ap (split false) (take-append-drop most_in_stream bytes) ∙ lines_cut first second fits None pairs timely

      long_last : most_in_stream < length bytes → (found : PieceFault) × (last_pieces most_in_stream (whole bytes) cut.rest ≡ ended (pieces_bad found)) × IsTooLong (record_fault.Piece found)
      long_last past = by_test (ltb most_in_piece (length cut.rest)) refl
        where
          by_test : (long : Bool) → ltb most_in_piece (length cut.rest) ≡ long → (found : PieceFault) × (last_pieces most_in_stream (whole bytes) cut.rest ≡ ended (pieces_bad found)) × IsTooLong (record_fault.Piece found)
          by_test true is = (fault.TooLong, rw is refl, inl refl)
          by_test false is = (fault.StreamLong, rw (is, lt-ltb most_in_stream (length bytes) past) refl, inr refl)

      whole_pieces : length bytes ≤ most_in_stream → pieces_of most_in_stream (whole bytes) ≡ up_to_too_long (map relay_line pairs) (ended pieces_clean)
      whole_pieces within =
          ap (λ (text : List ℕ). up_to_too_long (split false text).pieces (last_pieces most_in_stream (whole bytes) (split false text).rest)) (take_all most_in_stream bytes within)
          ∙ (ap (λ (text : Split). up_to_too_long text.pieces (last_pieces most_in_stream (whole bytes) text.rest)) (lines_cut first second fits None pairs timely)
          ∙ ap (up_to_too_long (map relay_line pairs)) none_left)
        where
          none_left : last_pieces most_in_stream (whole bytes) [] ≡ ended pieces_clean
          none_left = rw (le-ltb most_in_stream (length bytes) within) refl

  -- rows that are read from a relay stay in their order
  staying_is : (ending : RowsEnd) (slack : ℕ) (greatest : Option ℤ) (rows : List (List Field)) → (ending ≡ unread → ⊥) → staying ending slack greatest rows ≡ rows
  staying_is clean slack greatest rows known = refl
  staying_is (bad at found) slack greatest rows known = refl
  staying_is unread slack greatest rows known = absurd (known refl)

  ordered_rows : (slack : ℕ) (read : Rows) (pairs : Pairs) (from : Option ℤ) → Timely first second fits from pairs → IsPrefix read.rows (map relay_row pairs) → (read.ending ≡ unread → ⊥) → in_order slack None [] read ≡ read
  ordered_rows slack read pairs from timely begin known =
      let ordered = front_in_order read.rows begin.rest (subst AreInOrder begin.is (in_order_is first second fits from pairs timely)) in
      ap (λ (rows : List (List Field)). record { rows = rows; ending = read.ending })
      (staying_is read.ending slack (greatest_of None read.rows) (put_all [] read.rows) known ∙ put_all_is [] read.rows ordered)

  -- how the rows of a relay end
  record IsReadBack (pairs : Pairs) (read : Rows) : Type 0 where
    back : AreReadBack pairs read
    known : read.ending ≡ unread → ⊥

  ends_back : (ending : PiecesEnd) (front rest pairs : Pairs) (read : Rows) → pairs ≡ front ++ rest → IsEnding ending front pairs → AreRead first second fits ending front read → IsReadBack pairs read
  ends_back ending front rest pairs read is so h = by_ends h.ends
    where
      begin : IsPrefix read.rows (map relay_row pairs)
      begin = record {
        rest = h.begin.rest ++ map relay_row rest;
        is = ap (map relay_row) is ∙ (map-both front rest ∙ (ap (λ (rows : List (List Field)). rows ++ map relay_row rest) h.begin.is ∙ append_assoc read.rows h.begin.rest (map relay_row rest)));
      }
        where
          map-both : (xs ys : Pairs) → map relay_row (xs ++ ys) ≡ map relay_row xs ++ map relay_row ys
          map-both [] ys = refl
          map-both (x ∷ xs) ys = ap (λ (rows : List (List Field)). relay_row x ∷ rows) (map-both xs ys)

      ended_as : (at : ℕ) (of : RowsEnd) → read.ending ≡ of → EndsRead pairs read.rows of → (of ≡ unread → ⊥) → IsReadBack pairs read
      ended_as at of same ends known = record {
        back = record { begin = begin; ends = subst (EndsRead pairs read.rows) (sym same) ends };
        known = λ e. known (sym same ∙ e);
      }

      by_ending : (of : PiecesEnd) → IsEnding of front pairs → read.rows ≡ map relay_row front → (at : ℕ) → read.ending ≡ end_at at of → IsReadBack pairs read
      by_ending pieces_clean same rows at e = ended_as at clean e (rows ∙ ap (map relay_row) same) (λ wrong. cc)
      by_ending (pieces_bad found) long rows at e = ended_as at (bad at (record_fault.Piece found)) e long (λ wrong. cc)
      by_ending pieces_unread wrong rows at e = absurd wrong

      by_ends : ((read.rows ≡ map relay_row front) × ((at : ℕ) × (read.ending ≡ end_at at ending))) ⊎ ((at : ℕ) × (read.ending ≡ bad at (record_fault.Piece fault.TooLong))) → IsReadBack pairs read
      by_ends (inl all) = by_ending ending so all.0 all.1.0 all.1.1
      by_ends (inr long) = ended_as long.0 (bad long.0 (record_fault.Piece fault.TooLong)) long.1 (inl refl) (λ wrong. cc)

  pairs_back : (pairs : Pairs) → Timely first second fits None pairs → AreReadBack pairs (rows_of second.left.columns second.slack (whole (text_by relay_line pairs)))
  pairs_back pairs timely =
      let cut = pieces_are pairs timely in
      let front = cut.0 in
      let front_is = front_timely first second fits None front cut.1 (subst (Timely first second fits None) cut.3 timely) in
      let read = lines_read first second fits second.slack 1 None front cut.2 front_is in
      let rows = rows_in second.left.columns second.slack 1 None (up_to_too_long (map relay_line front) (ended cut.2)) in
      let same : read_of second.left.columns second.slack (whole (text_by relay_line pairs)) ≡ rows = ap (rows_in second.left.columns second.slack 1 None) cut.5 in
      let back = ends_back cut.2 front cut.1 pairs rows cut.3 cut.4 read in
      subst (AreReadBack pairs) (sym (ap (in_order second.slack None []) same ∙ ordered_rows second.slack rows pairs None timely back.back.begin back.known)) back.back

  -- ---- one line

  one_back : (one : Pair (List Field)) → IsLeft first one.left → IsRight first one.right → ReadsBack second one
  one_back one left right short =
      ap (in_order second.slack None []) (ap (rows_in second.left.columns second.slack 1 None) pieces ∙ ap (λ found. put_row 1 None found (λ next time. no_row (end_at next pieces_clean))) (row_is first second fits second.slack None one left right tt))
    where
      line : List ℕ
      line = relay_line one

      within : length line ≤ most_in_stream
      within = omega (arith, short)

      cut : split false line ≡ record { pieces = line ∷ []; rest = [] }
      cut = ap (split false) (sym (append-nil line)) ∙ split-piece line [] (pair_line_is first second fits one left right).piece

      pieces : pieces_of most_in_stream (whole line) ≡ record { pieces = line ∷ []; ending = pieces_clean }
      pieces =
          ap (λ (text : List ℕ). up_to_too_long (split false text).pieces (last_pieces most_in_stream (whole line) (split false text).rest)) (take_all most_in_stream line within)
          ∙ (ap (λ (text : Split). up_to_too_long text.pieces (last_pieces most_in_stream (whole line) text.rest)) cut
          ∙ rw (le-ltb most_in_piece (length line) short, le-ltb most_in_stream (length line) within) refl)

  each_back : (from : Option ℤ) (pairs : Pairs) → Timely first second fits from pairs → Each (ReadsBack second) pairs
  each_back from [] timely = tt
  each_back from (one ∷ pairs) timely = (one_back one timely.0 timely.1, each_back (Some (time_at one)) pairs timely.3)

-- Each line of a relay reads back.
pub lines_read_back : (first second : QueryParts) → Fits first second → (left right : Stream) (limit : ℕ) → All (ReadsBack second) (relay_pairs first left right limit)
lines_read_back first second fits left right limit =
    each-all (ReadsBack second) (relay_pairs first left right limit) (each_back first second fits None (relay_pairs first left right limit) (pairs_are_timely first left right limit))

-- A relay reads back.
pub relay_read_back : (first second : QueryParts) → Fits first second → (left right : Stream) (limit : ℕ)
    → AreReadBack (relay_pairs first left right limit) (rows_of second.left.columns second.slack (whole (relay first left right limit)))
relay_read_back first second fits left right limit = pairs_back first second fits (relay_pairs first left right limit) (pairs_are_timely first left right limit)
