-- A piece without a record has no bytes but those of line ends and marks, and a byte before a line's end is in a piece.
use Rattle.std.proofs.Common.{◌≡◌, ℕ, zero, suc, ◌<◌, ◌≤◌, inl, inr, ◌==◌, ◌||◌, Bool, true, false, not, ◌&&◌, cond, ◌%◌, nat_lt, List, [], ◌∷◌, get_or, length, take, All, Option, Ok, Some, None, refl, sym, ap, subst, ◌∙◌, arith}
use Rattle.std.proofs.lemmas.Bool.{and_parts, and_from, not-true, eqb-true, ltb-false, eq-eqb, false≢true, cases_Bool}
use Rattle.std.proofs.lemmas.List.{take_all}
use Rattle.csv.specs.Machine.{Read, step, is_end, ends_at_end, fields_after, field_after, next_record}
use Rattle.csv.specs.Reading.{default_config, is_bom}
use Rattle.csv.specs.declared.parser.State.{State}
use Rattle.csv.specs.declared.parser.State.TheVariants as st
use Rattle.csv.specs.declared.parser.Action.{Action}
use Rattle.csv.specs.declared.parser.Action.TheVariants as act
use Rattle.hj_record.specs.declared.fault.PieceFault.{PieceFault}
use Rattle.hj_record.specs.declared.fault.PieceFault.TheVariants as fault
use Rattle.hj_record.specs.Blank.{IsBlank}
use Rattle.hj_record.specs.LineEnd.{inside_after, EndsWithin}
use Rattle.hj_record.specs.Pieces.{Pieces, Stream, split, put_front, quotes, most_in_piece, ended, then_pieces, clean, bad, unread, up_to_too_long, last_pieces, pieces_of}
use Rattle.hj_record.specs.Records.{if_last, only_record, record_of, without_marks}
use Rattle.hj_record.proofs.Splits.{inside_next}

-- ---- a record that has begun

-- a state within a record
abbrev IsBusy : State → Type 0
IsBusy st.StartField = Unit {0}
IsBusy st.InField = Unit {0}
IsBusy st.InQuoted = Unit {0}
IsBusy st.AfterQuote = Unit {0}
IsBusy state = ⊥

-- a step that ends no record stays within it
abbrev StaysBusy : State × Action → Type 0
StaysBusy next = is_end next.1 ≡ false → IsBusy next.0

busy_in_field : (b : ℕ) → StaysBusy (step default_config st.InField b)
busy_in_field b = elim (b == 44) as (λ t. StaysBusy (cond t (st.StartField, act.EndField) (cond ((b == 13) || (b == 10)) (cond (b == 13) st.AfterCr st.StartRecord, act.EndRecord) (st.InField, act.Copy)))) [
  | true ↦ λ e. tt
  | false ↦ elim ((b == 13) || (b == 10)) as (λ t. StaysBusy (cond t (cond (b == 13) st.AfterCr st.StartRecord, act.EndRecord) (st.InField, act.Copy))) [ true ↦ λ e. cc | false ↦ λ e. tt ]
]

busy_step : (state : State) (b : ℕ) → IsBusy state → StaysBusy (step default_config state b)
busy_step st.StartField b busy = elim (b == 34) as (λ t. StaysBusy (cond t (st.InQuoted, act.Skip) (step default_config st.InField b))) [ true ↦ λ e. tt | false ↦ busy_in_field b ]
busy_step st.InField b busy = busy_in_field b
busy_step st.InQuoted b busy = elim (b == 34) as (λ t. StaysBusy (cond t (st.AfterQuote, act.Skip) (st.InQuoted, act.Copy))) [ true ↦ λ e. tt | false ↦ λ e. tt ]
busy_step st.AfterQuote b busy = elim (b == 34) as (λ t. StaysBusy (cond t (st.InQuoted, act.Copy) (step default_config st.InField b))) [ true ↦ λ e. tt | false ↦ busy_in_field b ]
busy_step st.StartRecord b busy = absurd busy
busy_step st.InEscape b busy = absurd busy
busy_step st.InComment b busy = absurd busy
busy_step st.AfterCr b busy = absurd busy

busy_ends : (state : State) → IsBusy state → ends_at_end state ≡ true
busy_ends st.StartField busy = refl
busy_ends st.InField busy = refl
busy_ends st.InQuoted busy = refl
busy_ends st.AfterQuote busy = refl
busy_ends st.StartRecord busy = absurd busy
busy_ends st.InEscape busy = absurd busy
busy_ends st.InComment busy = absurd busy
busy_ends st.AfterCr busy = absurd busy

choice_none : (test : Bool) (read : Read) (other : Option Read) → cond test (Some read) other ≡ None → (test ≡ false) × (other ≡ None)
choice_none true read other e = cc
choice_none false read other e = (refl, e)

-- A record that has begun is read.
busy_reads : (state : State) (fields : List (List ℕ)) (field text : List ℕ) → IsBusy state → next_record default_config state fields field text ≡ None → ⊥
unfolding next_record
busy_reads state fields field [] busy none =
    let ends = busy_ends state busy in
    let e = choice_none (ends_at_end state) _ None none in
    false≢true (sym e.0 ∙ ends)
busy_reads state fields field (b ∷ text) busy none =
    let next = step default_config state b in
    let e = choice_none (is_end next.1) _ (next_record default_config next.0 (fields_after next.1 fields field) (field_after next.1 b field) text) none in
    busy_reads next.0 (fields_after next.1 fields field) (field_after next.1 b field) text (busy_step state b busy e.0) e.1

-- ---- a text without a record

-- all of them are blank
abbrev AreBlank : List ℕ → Type 0
AreBlank [] = Unit {0}
AreBlank (b ∷ bs) = IsBlank b × AreBlank bs

-- A step by which a record begins.
abbrev Begins : State × Action → Type 0
Begins next = (is_end next.1 ≡ false) × IsBusy next.0

-- Behind the first byte of a text that is no line's end a record has begun.
begins_record : (b : ℕ) → ((b == 13) || (b == 10)) ≡ false → Begins (step default_config st.StartRecord b)
begins_record b other = rw other (elim (b == 34) as (λ t. Begins (cond t (st.InQuoted, act.Skip) (cond (b == 44) (st.StartField, act.EndField) (st.InField, act.Copy)))) [
  | true ↦ (refl, tt)
  | false ↦ elim (b == 44) as (λ t. Begins (cond t (st.StartField, act.EndField) (st.InField, act.Copy))) [ true ↦ (refl, tt) | false ↦ (refl, tt) ]
])

skips_line_end : (b : ℕ) → ((b == 13) || (b == 10)) ≡ true → step default_config st.StartRecord b ≡ (st.StartRecord, act.Skip)
skips_line_end b e = rw e refl

line_end_blank : (b : ℕ) → ((b == 13) || (b == 10)) ≡ true → IsBlank b
line_end_blank b e = rw e refl

no_record_blank : (text : List ℕ) → next_record default_config st.StartRecord [] [] text ≡ None → AreBlank text
unfolding next_record
no_record_blank [] none = tt
no_record_blank (b ∷ text) none = elim (cases_Bool ((b == 13) || (b == 10))) [
  | inl e ↦ (
    line_end_blank b e,
    no_record_blank text (subst (λ (next : State × Action). cond (is_end next.1) (Some (fields_after next.1 [] [], next.0, text)) (next_record default_config next.0 (fields_after next.1 [] []) (field_after next.1 b []) text) ≡ None) (skips_line_end b e) none),
  )
  | inr e ↦
      let next = step default_config st.StartRecord b in
      let begins = begins_record b e in
      let reads = choice_none (is_end next.1) _ (next_record default_config next.0 (fields_after next.1 [] []) (field_after next.1 b []) text) none in
      absurd (busy_reads next.0 (fields_after next.1 [] []) (field_after next.1 b []) text begins.1 reads.1)
]

not_last : (fields : List (List ℕ)) (second : Option Read) → if_last fields second ≡ Ok None → ⊥
not_last fields None e = cc
not_last fields (Some second) e = cc

no_read : (read : Option Read) → only_record read ≡ Ok None → read ≡ None
no_read None e = refl
no_read (Some first) e = absurd (not_last first.0 (next_record default_config first.1 [] [] first.2) e)

mark_blank : (a b c : ℕ) → is_bom a b c ≡ true → IsBlank a × IsBlank b × IsBlank c
mark_blank a b c e =
    let all = and_parts ((a == 0xEF) && (b == 0xBB)) (c == 0xBF) e in
    let first = and_parts (a == 0xEF) (b == 0xBB) all.0 in
    (rw (eqb-true a 0xEF first.0) refl, rw (eqb-true b 0xBB first.1) refl, rw (eqb-true c 0xBF all.1) refl)

marks_blank : (piece : List ℕ) → AreBlank (without_marks piece) → AreBlank piece
marks_blank [] blank = blank
marks_blank (a ∷ []) blank = blank
marks_blank (a ∷ b ∷ []) blank = blank
marks_blank (a ∷ b ∷ c ∷ rest) blank =
    let by_mark : (mark : Bool) → is_bom a b c ≡ mark → AreBlank (cond mark (without_marks rest) (a ∷ b ∷ c ∷ rest)) → AreBlank (a ∷ b ∷ c ∷ rest) =
    λ mark. elim mark as (λ t. is_bom a b c ≡ t → AreBlank (cond t (without_marks rest) (a ∷ b ∷ c ∷ rest)) → AreBlank (a ∷ b ∷ c ∷ rest)) [
      | true ↦ λ e others. let mark = mark_blank a b c e in (mark.0, (mark.1, (mark.2, marks_blank rest others)))
      | false ↦ λ e all. all
    ] in
    by_mark (is_bom a b c) refl blank

no_record_are_blank : (piece : List ℕ) → record_of piece ≡ Ok None → AreBlank piece
no_record_are_blank piece none = marks_blank piece (no_record_blank (without_marks piece) (no_read (next_record default_config st.StartRecord [] [] (without_marks piece)) none))

each_blank : (bytes : List ℕ) → AreBlank bytes → (k d : ℕ) → k < length bytes → IsBlank (get_or bytes k d)
each_blank [] blank k d lt = absurd (omega arith)
each_blank (b ∷ bs) blank zero d lt = blank.0
each_blank (b ∷ bs) blank (suc k) d lt = each_blank bs blank.1 k d (omega (arith, lt))

-- A piece without a record.
pub all_blank : (piece : List ℕ) → record_of piece ≡ Ok None → All IsBlank piece
all_blank piece none = each_blank piece (no_record_are_blank piece none)

-- ---- the pieces of a stream

-- none of these pieces has a record
abbrev pub HaveNoRecord : List (List ℕ) → Type 0
HaveNoRecord [] = Unit {0}
HaveNoRecord (piece ∷ pieces) = (record_of piece ≡ Ok None) × HaveNoRecord pieces

abbrev AreBlankPieces : List (List ℕ) → Type 0
AreBlankPieces [] = Unit {0}
AreBlankPieces (piece ∷ pieces) = AreBlank piece × AreBlankPieces pieces

blank_pieces : (pieces : List (List ℕ)) → HaveNoRecord pieces → AreBlankPieces pieces
blank_pieces [] none = tt
blank_pieces (piece ∷ pieces) none = (no_record_are_blank piece none.0, blank_pieces pieces none.1)

-- Where the first byte ends no piece, a later one does.
ends_behind : (inside : Bool) (b : ℕ) (bytes : List ℕ) (at : ℕ) → ((b == 10) && not inside) ≡ false → EndsWithin inside (b ∷ bytes) at → (n : ℕ) × (at ≡ suc n) × EndsWithin (inside_next inside b) bytes n
ends_behind inside b bytes zero goes ends = absurd (false≢true (sym goes ∙ and_from (b == 10) (not inside) (eq-eqb b 10 ends.1) (ap not ends.2)))
ends_behind inside b bytes (suc n) goes ends = (n, refl, (omega (arith, ends.0), ends.1, ends.2))

length-put_front : (b : ℕ) (pieces : List (List ℕ)) (rest : List ℕ) → length (put_front b (record { pieces = pieces; rest = rest })).pieces ≡ length pieces
length-put_front b [] rest = refl
length-put_front b (piece ∷ pieces) rest = refl

has_piece : (inside : Bool) (bytes : List ℕ) (at : ℕ) → EndsWithin inside bytes at → 0 < length (split inside bytes).pieces
has_piece inside [] at ends = absurd (omega (arith, ends.0))
has_piece inside (b ∷ bytes) at ends = elim (cases_Bool ((b == 10) && not inside)) [
  | inl e ↦ rw e (omega arith)
  | inr e ↦
      let behind = ends_behind inside b bytes at e ends in
      let others = split (inside_next inside b) bytes in
      let some = has_piece (inside_next inside b) bytes behind.0 behind.2 in
      rw e (omega (arith, some, length-put_front b others.pieces others.rest))
]

put_front-blank : (b : ℕ) (pieces : List (List ℕ)) (rest : List ℕ) → 0 < length pieces → AreBlankPieces (put_front b (record { pieces = pieces; rest = rest })).pieces → IsBlank b × AreBlankPieces pieces
put_front-blank b [] rest some blank = absurd (omega (arith, some))
put_front-blank b (piece ∷ pieces) rest some blank = (blank.0.0, (blank.0.1, blank.1))

outside_behind : (inside : Bool) (b : ℕ) → ((b == 10) && not inside) ≡ true → inside_next inside b ≡ false
outside_behind inside b e =
    let both = and_parts (b == 10) (not inside) e in
    rw (eqb-true b 10 both.0) (not-true inside both.1)

-- What stands behind the first byte is blank up to a line's end.
abbrev BlankBefore : List ℕ → Type 0
BlankBefore bytes = (inside : Bool) (at k : ℕ) → EndsWithin inside bytes at → k ≤ at → AreBlankPieces (split inside bytes).pieces → IsBlank (get_or bytes k 0)

first_line : (inside : Bool) (b : ℕ) (bytes : List ℕ) (at k : ℕ) → BlankBefore bytes → ((b == 10) && not inside) ≡ true → EndsWithin inside (b ∷ bytes) at → k ≤ at → AreBlankPieces ((b ∷ []) ∷ (split false bytes).pieces) → IsBlank (get_or (b ∷ bytes) k 0)
first_line inside b bytes at zero later e ends le blank = blank.0.0
first_line inside b bytes zero (suc k) later e ends le blank = absurd (omega arith)
first_line inside b bytes (suc at) (suc k) later e ends le blank =
    later false at k (omega (arith, ends.0), ends.1, ap (λ i. inside_after i (take at bytes)) (sym (outside_behind inside b e)) ∙ ends.2) (omega arith) blank.1

first_byte : (inside : Bool) (b : ℕ) (bytes : List ℕ) (at k : ℕ) → BlankBefore bytes → ((b == 10) && not inside) ≡ false → EndsWithin inside (b ∷ bytes) at → k ≤ at → AreBlankPieces (put_front b (split (inside_next inside b) bytes)).pieces → IsBlank (get_or (b ∷ bytes) k 0)
first_byte inside b bytes at zero later e ends le blank =
    let behind = ends_behind inside b bytes at e ends in
    let others = split (inside_next inside b) bytes in
    (put_front-blank b others.pieces others.rest (has_piece (inside_next inside b) bytes behind.0 behind.2) blank).0
first_byte inside b bytes at (suc k) later e ends le blank =
    let behind = ends_behind inside b bytes at e ends in
    let others = split (inside_next inside b) bytes in
    later (inside_next inside b) behind.0 k behind.2 (omega (arith, behind.1)) (put_front-blank b others.pieces others.rest (has_piece (inside_next inside b) bytes behind.0 behind.2) blank).1

blank_before : (inside : Bool) (bytes : List ℕ) (at k : ℕ) → EndsWithin inside bytes at → k ≤ at → AreBlankPieces (split inside bytes).pieces → IsBlank (get_or bytes k 0)
blank_before inside [] at k ends le blank = absurd (omega (arith, ends.0))
blank_before inside (b ∷ bytes) at k ends le blank = elim (cases_Bool ((b == 10) && not inside)) [
  | inl e ↦ first_line inside b bytes at k (λ i n j. blank_before i bytes n j) e ends le (rw e at blank)
  | inr e ↦ first_byte inside b bytes at k (λ i n j. blank_before i bytes n j) e ends le (rw e at blank)
]

-- ---- a stream

unread_from : (test : Bool) (found : PieceFault) (last : Pieces) → (cond test (ended (bad found)) last).ending ≡ unread → (test ≡ false) × (last.ending ≡ unread)
unread_from true found last e = cc
unread_from false found last e = (refl, e)

no_record_up_to : (pieces : List (List ℕ)) (last : Pieces) → (up_to_too_long pieces last).ending ≡ unread → HaveNoRecord (up_to_too_long pieces last).pieces → HaveNoRecord pieces × (last.ending ≡ unread)
no_record_up_to [] last ends none = (tt, ends)
no_record_up_to (piece ∷ pieces) last ends none =
    let short = unread_from (nat_lt most_in_piece (length piece)) fault.TooLong (then_pieces piece (up_to_too_long pieces last)) ends in
    let all = rw short.0 at none in
    let others = no_record_up_to pieces last short.1 all.1 in
    ((all.0, others.0), others.1)

within_limit : (limit : ℕ) (stream : Stream) (rest : List ℕ) → (last_pieces limit stream rest).ending ≡ unread → length stream.bytes ≤ limit
within_limit limit stream rest ends =
    let last : Pieces = cond (not stream.whole) (ended unread) (cond (length rest == 0) (ended clean) (cond (quotes rest % 2 == 1) (ended (bad fault.OpenQuote)) (then_pieces rest (ended clean)))) in
    let short = unread_from (nat_lt most_in_piece (length rest)) fault.TooLong (cond (nat_lt limit (length stream.bytes)) (ended (bad fault.StreamLong)) last) ends in
    let fits = unread_from (nat_lt limit (length stream.bytes)) fault.StreamLong last short.1 in
    ltb-false limit (length stream.bytes) fits.0

-- Where the pieces of a stream hold no record up to where it is cut off, all bytes before the end of a line are blank.
pub blank_unread : (limit : ℕ) (stream : Stream) (at k : ℕ) → (pieces_of limit stream).ending ≡ unread → HaveNoRecord (pieces_of limit stream).pieces → EndsWithin false stream.bytes at → k ≤ at → IsBlank (get_or stream.bytes k 0)
blank_unread limit stream at k cut_off none ends le =
    let cut = split false (take limit stream.bytes) in
    let all = no_record_up_to cut.pieces (last_pieces limit stream cut.rest) cut_off none in
    let whole = take_all limit stream.bytes (within_limit limit stream cut.rest all.1) in
    blank_before false stream.bytes at k ends le (subst (λ (bytes : List ℕ). AreBlankPieces (split false bytes).pieces) whole (blank_pieces cut.pieces all.0))
