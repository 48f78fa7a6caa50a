-- The line of a record, as `csv` writes it: it is a piece of a stream, and reads back as the record.
use Rattle.std.proofs.Common.{◌≡◌, ℕ, ◌==◌, ◌||◌, Bool, true, false, not, ◌&&◌, cond, List, [], ◌∷◌, ◌++◌, Ok, None, Some, refl, sym, ap, subst, ◌∙◌, append-nil}
use Rattle.std.proofs.lemmas.Bool.{eqb-true}
use Rattle.std.proofs.lemmas.List.Sums.{fold-append}
use Rattle.std.specs.List.{list_any}
use Rattle.csv.specs.Machine.{next_record}
use Rattle.csv.specs.Reading.{default_config}
use Rattle.csv.specs.Writing.{default_writer, escaped, field_text, fields_text, is_blank, needs_byte, row_text}
use Rattle.csv.specs.declared.parser.State.TheVariants as st
use Rattle.csv.proofs.RoundTrip.{read-write}
use Rattle.hj_record.specs.LineEnd.{inside_after}
use Rattle.hj_record.specs.Pieces.{IsPiece}
use Rattle.hj_record.specs.Records.{if_last, only_record, record_in, record_of, without_marks}
use Rattle.hj_record.proofs.Splits.{IsPiece-from_line, Unended, inside_next}

-- ---- it reads back

-- no record stands behind the last one
none_behind : next_record default_config st.StartRecord [] [] [] ≡ None
unfolding next_record
none_behind = refl

-- The text of a record with a field holds this one record.
record_back : (field : List ℕ) (fields : List (List ℕ)) → record_in (row_text default_writer (field ∷ fields)) ≡ Ok (Some (field ∷ fields))
record_back field fields =
    ap only_record (ap (next_record default_config st.StartRecord [] []) (sym (append-nil (row_text default_writer (field ∷ fields)))) ∙ read-write (field ∷ fields) [])
    ∙ ap (if_last (field ∷ fields)) none_behind

-- a text that begins with no byte order mark
unmarked : (b : ℕ) (bytes : List ℕ) → (b == 239) ≡ false → without_marks (b ∷ bytes) ≡ b ∷ bytes
unmarked b [] other = refl
unmarked b (c ∷ []) other = refl
unmarked b (c ∷ d ∷ bytes) other = rw other refl

pub line_back : (b : ℕ) (bytes field : List ℕ) (fields : List (List ℕ)) → (b == 239) ≡ false → b ∷ bytes ≡ row_text default_writer (field ∷ fields) → record_of (b ∷ bytes) ≡ Ok (Some (field ∷ fields))
line_back b bytes field fields other is = ap record_in (unmarked b bytes other ∙ is) ∙ record_back field fields

-- ---- it is a piece

-- Bytes that end no piece, and leave no quote open, where none is open before.
record Stays (inside : Bool) (bytes : List ℕ) : Type 0 where
  unended : Unended inside bytes
  same : inside_after inside bytes ≡ inside

stays-both : (inside : Bool) (one other : List ℕ) → Stays inside one → Stays inside other → Stays inside (one ++ other)
stays-both inside one other h k = record {
  unended = unended-both inside one other h.unended (subst (λ (i : Bool). Unended i other) (sym h.same) k.unended);
  same = fold-append inside_next inside one other ∙ (ap (λ (i : Bool). inside_after i other) h.same ∙ k.same);
}
  where
    unended-both : (inside : Bool) (front bytes : List ℕ) → Unended inside front → Unended (inside_after inside front) bytes → Unended inside (front ++ bytes)
    unended-both inside [] bytes u v = v
    unended-both inside (b ∷ front) bytes u v = (u.0, unended-both (inside_next inside b) front bytes u.1 v)

-- a byte that calls for no quotes is neither a quote nor a line feed
plain_byte : (b : ℕ) → needs_byte default_writer b ≡ false → ((b == 34) ≡ false) × ((b == 10) ≡ false)
plain_byte b e = by_test (b == 34) (b == 10) refl refl
  where
    by_test : (quote feed : Bool) → (b == 34) ≡ quote → (b == 10) ≡ feed → ((b == 34) ≡ false) × ((b == 10) ≡ false)
    by_test false false is other = (is, other)
    by_test true feed is other = let same : b ≡ 34 = eqb-true b 34 is in let wrong : true ≡ false = subst (λ (c : ℕ). needs_byte default_writer c ≡ false) same e in cc
    by_test false true is other = let same : b ≡ 10 = eqb-true b 10 other in let wrong : true ≡ false = subst (λ (c : ℕ). needs_byte default_writer c ≡ false) same e in cc

or_both : (a b : Bool) → (a || b) ≡ false → (a ≡ false) × (b ≡ false)
or_both true b e = cc
or_both false b e = (refl, e)

one_stays : (b : ℕ) → (b == 34) ≡ false → (b == 10) ≡ false → Stays false (b ∷ [])
one_stays b quote feed = record { unended = (rw feed refl, tt); same = rw quote refl }

plain_stays : (bytes : List ℕ) → list_any (needs_byte default_writer) bytes ≡ false → Stays false bytes
plain_stays [] e = record { unended = tt; same = refl }
plain_stays (b ∷ bytes) e =
    let parts = or_both (needs_byte default_writer b) (list_any (needs_byte default_writer) bytes) e in
    let plain = plain_byte b parts.0 in
    stays-both false (b ∷ []) bytes (one_stays b plain.0 plain.1) (plain_stays bytes parts.1)

-- within quotes
escaped_stays : (bytes : List ℕ) → Stays true (escaped default_writer bytes)
unfolding escaped
escaped_stays [] = record { unended = tt; same = refl }
escaped_stays (b ∷ bytes) = by_test (b == 34) refl (escaped_stays bytes)
  where
    by_test : (quote : Bool) → (b == 34) ≡ quote → Stays true (escaped default_writer bytes) → Stays true (cond quote (34 ∷ b ∷ escaped default_writer bytes) (b ∷ escaped default_writer bytes))
    by_test true is h =
        let same : b ≡ 34 = eqb-true b 34 is in
        subst (λ (c : ℕ). Stays true (34 ∷ c ∷ escaped default_writer bytes)) (sym same) (record { unended = (refl, (refl, h.unended)); same = h.same })
    by_test false is h = record {
      unended = (feed_within (b == 10), subst (λ (q : Bool). Unended (cond q false true) (escaped default_writer bytes)) (sym is) h.unended);
      same = ap (λ (q : Bool). inside_after (cond q false true) (escaped default_writer bytes)) is ∙ h.same;
    }
      where
        feed_within : (feed : Bool) → (feed && not true) ≡ false
        feed_within true = refl
        feed_within false = refl

quoted_stays : (bytes : List ℕ) → Stays false (34 ∷ (escaped default_writer bytes ++ 34 ∷ []))
quoted_stays bytes =
    let inner = escaped_stays bytes in
    record {
      unended = (refl, unended-quote true (escaped default_writer bytes) inner.unended inner.same);
      same = fold-append inside_next true (escaped default_writer bytes) (34 ∷ []) ∙ ap (λ (i : Bool). inside_after i (34 ∷ [])) inner.same;
    }
  where
    unended-quote : (inside : Bool) (front : List ℕ) → Unended inside front → inside_after inside front ≡ true → Unended inside (front ++ 34 ∷ [])
    unended-quote inside [] u e = (refl, tt)
    unended-quote inside (b ∷ front) u e = (u.0, unended-quote (inside_next inside b) front u.1 e)

field_stays : (bytes : List ℕ) → Stays false (field_text default_writer bytes)
field_stays bytes = by_test (list_any (needs_byte default_writer) bytes) refl
  where
    by_test : (needs : Bool) → list_any (needs_byte default_writer) bytes ≡ needs → Stays false (cond needs (34 ∷ (escaped default_writer bytes ++ 34 ∷ [])) bytes)
    by_test true is = quoted_stays bytes
    by_test false is = plain_stays bytes is

comma_stays : Stays false (44 ∷ [])
comma_stays = record { unended = (refl, tt); same = refl }

fields_stay : (fields : List (List ℕ)) → Stays false (fields_text default_writer fields)
unfolding fields_text
fields_stay [] = record { unended = tt; same = refl }
fields_stay (field ∷ fields) = stays-both false (44 ∷ []) (field_text default_writer field ++ fields_text default_writer fields) comma_stays
    (stays-both false (field_text default_writer field) (fields_text default_writer fields) (field_stays field) (fields_stay fields))

-- The text of a record of two fields or more is a piece.
pub line_is_piece : (one two : List ℕ) (fields : List (List ℕ)) → IsPiece (row_text default_writer (one ∷ two ∷ fields))
unfolding is_blank
line_is_piece one two fields =
    let body = stays-both false (field_text default_writer one) (fields_text default_writer (two ∷ fields)) (field_stays one) (fields_stay (two ∷ fields)) in
    IsPiece-from_line (row_text default_writer (one ∷ two ∷ fields))
    (record { front = field_text default_writer one ++ fields_text default_writer (two ∷ fields); is = refl; unended = body.unended; outside = body.same })
