-- What the default machine of `csv` reads where a field in the plain form stands in front.
use Rattle.std.proofs.Common.{◌≡◌, ℕ, suc, ◌+◌, ◌-◌, ◌<◌, ◌==◌, ◌||◌, List, [], ◌∷◌, ◌++◌, length, get_or, take, drop, slice_range, slice_get, All, Ok, Some, None, inl, inr, refl, sym, ap, subst, ◌∙◌, arith, append_assoc}
use Rattle.std.proofs.lemmas.List.{append-nil, drop_more, take_all, take-append-drop, length-drop}
use Rattle.std.proofs.lemmas.List.Folds.{drop_split}
use Rattle.std.proofs.lemmas.Option.{get_or_from_slice_get}
use Rattle.std.proofs.lemmas.Bool.{or_parts}
use Rattle.csv.specs.Machine.{step, next_record}
use Rattle.csv.specs.Reading.{default_config}
use Rattle.csv.specs.declared.parser.State.TheVariants as st
use Rattle.csv.specs.declared.parser.Action.TheVariants as act
use Rattle.hj_record.specs.declared.plain.TakenField.{TakenField}
use Rattle.hj_record.specs.declared.plain.TakenField.TheVariants as taken
use Rattle.hj_record.specs.Records.{only_record, record_in}
use Rattle.hj_record.specs.Plain.{reads, BeginsWithField, IsBare, IsNoQuote, IsNextQuote, IsLineEnd, StandsBehind, TakesField}

pub all_tail : (P : ℕ → Type 0) (b : ℕ) (bs : List ℕ) → All P (b ∷ bs) → All P bs
all_tail P b bs h = λ k d lt. h (suc k) d (omega (arith, lt))

pub all_head : (P : ℕ → Type 0) (b : ℕ) (bs : List ℕ) → All P (b ∷ bs) → P b
all_head P b bs h = h 0 0 (omega arith)

-- ---- bytes that join the field at hand

step_bare : (b : ℕ) → IsBare b → step default_config st.InField b ≡ (st.InField, act.Copy)
step_bare b bare =
    let not_lf = or_parts ((b == 44) || (b == 34) || (b == 13)) (b == 10) bare in
    let not_cr = or_parts ((b == 44) || (b == 34)) (b == 13) not_lf.0 in
    let not_comma = or_parts (b == 44) (b == 34) not_cr.0 in
    rw (not_comma.0, not_cr.1, not_lf.1) refl

pub bare_no_quote : (b : ℕ) → IsBare b → IsNoQuote b
bare_no_quote b bare =
    let not_lf = or_parts ((b == 44) || (b == 34) || (b == 13)) (b == 10) bare in
    let not_cr = or_parts ((b == 44) || (b == 34)) (b == 13) not_lf.0 in
    (or_parts (b == 44) (b == 34) not_cr.0).1

step_quoted : (b : ℕ) → IsNoQuote b → step default_config st.InQuoted b ≡ (st.InQuoted, act.Copy)
step_quoted b other = rw other refl

pub reads_bare : (fields : List (List ℕ)) (field bare text : List ℕ) → All IsBare bare → reads st.InField fields field (bare ++ text) ≡ reads st.InField fields (field ++ bare) text
unfolding next_record
reads_bare fields field [] text all = ap (λ f. reads st.InField fields f text) (sym (append-nil field))
reads_bare fields field (b ∷ bare) text all =
    rw (step_bare b (all_head IsBare b bare all))
    (reads_bare fields (field ++ b ∷ []) bare text (all_tail IsBare b bare all)
    ∙ ap (λ f. reads st.InField fields f text) (append_assoc field (b ∷ []) bare))

pub reads_quoted : (fields : List (List ℕ)) (field bytes text : List ℕ) → All IsNoQuote bytes → reads st.InQuoted fields field (bytes ++ text) ≡ reads st.InQuoted fields (field ++ bytes) text
unfolding next_record
reads_quoted fields field [] text all = ap (λ f. reads st.InQuoted fields f text) (sym (append-nil field))
reads_quoted fields field (b ∷ bytes) text all =
    rw (step_quoted b (all_head IsNoQuote b bytes all))
    (reads_quoted fields (field ++ b ∷ []) bytes text (all_tail IsNoQuote b bytes all)
    ∙ ap (λ f. reads st.InQuoted fields f text) (append_assoc field (b ∷ []) bytes))

-- ---- where a field begins and ends

-- no quote stands in front
abbrev pub BeginsBare : List ℕ → Type 0
BeginsBare [] = Unit {0}
BeginsBare (b ∷ bs) = IsNoQuote b

pub reads_start : (fields : List (List ℕ)) (text : List ℕ) → BeginsBare text → reads st.StartField fields [] text ≡ reads st.InField fields [] text
unfolding next_record
reads_start fields [] begins = refl
reads_start fields (b ∷ bs) begins = rw begins refl

pub begins_bare : (bare text : List ℕ) → All IsBare bare → BeginsBare text → BeginsBare (bare ++ text)
begins_bare [] text all begins = begins
begins_bare (b ∷ bare) text all begins = bare_no_quote b (all_head IsBare b bare all)

pub reads_open : (fields : List (List ℕ)) (text : List ℕ) → reads st.StartField fields [] (34 ∷ text) ≡ reads st.InQuoted fields [] text
unfolding next_record
reads_open fields text = refl

reads_doubled : (fields : List (List ℕ)) (field text : List ℕ) → reads st.InQuoted fields field (34 ∷ 34 ∷ text) ≡ reads st.InQuoted fields (field ++ 34 ∷ []) text
unfolding next_record
reads_doubled fields field text = refl

pub reads_close : (fields : List (List ℕ)) (field text : List ℕ) → reads st.InQuoted fields field (34 ∷ text) ≡ reads st.AfterQuote fields field text
unfolding next_record
reads_close fields field text = refl

-- what ends a bare field ends a quoted one
pub reads_behind : (fields : List (List ℕ)) (field text : List ℕ) → BeginsBare text → reads st.AfterQuote fields field text ≡ reads st.InField fields field text
unfolding next_record
reads_behind fields field [] begins = refl
reads_behind fields field (b ∷ bs) begins = rw begins refl

pub reads_comma : (fields : List (List ℕ)) (field text : List ℕ) → reads st.InField fields field (44 ∷ text) ≡ reads st.StartField (fields ++ field ∷ []) [] text
unfolding next_record
reads_comma fields field text = refl

pub ends_line : (fields : List (List ℕ)) (field text : List ℕ) → IsLineEnd text → only_record (reads st.InField fields field text) ≡ Ok (Some (fields ++ field ∷ []))
unfolding next_record
ends_line fields field text (inl none) = rw none refl
ends_line fields field text (inr (inl line_feed)) = rw line_feed refl
ends_line fields field text (inr (inr both)) = rw both refl

line_end_bare : (text : List ℕ) → IsLineEnd text → BeginsBare text
line_end_bare text (inl none) = rw none tt
line_end_bare text (inr (inl line_feed)) = rw line_feed refl
line_end_bare text (inr (inr both)) = rw both refl

-- ---- a field with what stands behind it

-- The bytes behind so many, read on with this field at hand.
takes_at : (t : TakenField) (size : ℕ) (text field : List ℕ) (fields : List (List ℕ)) → (BeginsBare (drop size text) → reads st.StartField fields [] text ≡ reads st.InField fields field (drop size text)) → StandsBehind t size text → TakesField t text fields (fields ++ field ∷ [])
takes_at (taken.Next used) size text field fields same behind = (
  omega arith,
  behind.1,
  same (subst BeginsBare (sym behind.2) refl) ∙ ap (reads st.InField fields field) behind.2 ∙ reads_comma fields field (drop used text),
)
takes_at taken.Last size text field fields same behind =
    ap only_record (same (line_end_bare (drop size text) behind)) ∙ ends_line fields field (drop size text) behind
takes_at taken.NotPlain size text field fields same behind = tt

-- A bare field in front.
pub takes_bare : (t : TakenField) (size : ℕ) (text : List ℕ) (fields : List (List ℕ)) → All IsBare (take size text) → StandsBehind t size text → TakesField t text fields (fields ++ take size text ∷ [])
takes_bare t size text fields all behind =
    takes_at t size text (take size text) fields (λ begins.
    ap (reads st.StartField fields []) (sym (take-append-drop size text))
    ∙ reads_start fields (take size text ++ drop size text) (begins_bare (take size text) (drop size text) all begins)
    ∙ reads_bare fields [] (take size text) (drop size text) all) behind

-- ---- a quoted field, from quote to quote

-- Reading stands at a quote inside quotes, with these bytes of the field before.
pub record AtQuote (fields : List (List ℕ)) (field text : List ℕ) (quote : ℕ) : Type 0 where
  pub within : quote < length text
  pub quote_there : get_or text quote 0 ≡ 34
  pub same : reads st.StartField fields [] text ≡ reads st.InQuoted fields field (drop quote text)

-- up to the next quote
reads_to_quote : (fields : List (List ℕ)) (field text : List ℕ) (from quote : ℕ) → IsNextQuote quote from text → reads st.InQuoted fields field (drop from text) ≡ reads st.InQuoted fields (field ++ slice_range text from quote) (drop quote text)
reads_to_quote fields field text from quote next =
    ap (reads st.InQuoted fields field) (drop_split text from quote next.0)
    ∙ reads_quoted fields field (slice_range text from quote) (drop quote text) next.3

reads_opening : (fields : List (List ℕ)) (text : List ℕ) → slice_get text 0 ≡ Some 34 → reads st.StartField fields [] text ≡ reads st.InQuoted fields [] (drop 1 text)
reads_opening fields [] first = cc first
reads_opening fields (b ∷ bs) first = ap (λ q. reads st.StartField fields [] (q ∷ bs)) (get_or_from_slice_get (b ∷ bs) 0 34 0 first) ∙ reads_open fields bs

pub first_quote : (fields : List (List ℕ)) (text : List ℕ) (quote : ℕ) → slice_get text 0 ≡ Some 34 → IsNextQuote quote 1 text → AtQuote fields (slice_range text 1 quote) text quote
first_quote fields text quote first next = record {
  within = next.1;
  quote_there = next.2;
  same = reads_opening fields text first ∙ reads_to_quote fields [] text 1 quote next;
}

range_first : (text : List ℕ) (from to : ℕ) → from < to → from < length text → slice_range text from to ≡ get_or text from 0 ∷ slice_range text (from + 1) to
range_first text from to lt within =
    let size : to - from ≡ suc (to - (from + 1)) = omega arith in
    ap (λ n. take n (drop from text)) size ∙ ap (take (suc (to - (from + 1)))) (drop_more text from 0 within)

-- Two quotes: the second is the field's, and the quotes go on.
pub second_quote : (fields : List (List ℕ)) (field text : List ℕ) (quote next : ℕ) → AtQuote fields field text quote → quote + 1 < length text → get_or text (quote + 1) 0 ≡ 34 → IsNextQuote next (quote + 2) text → AtQuote fields (field ++ slice_range text (quote + 1) next) text next
second_quote fields field text quote next before lt second is_next =
    let rest = drop (quote + 1 + 1) text in
    let two : quote + 1 + 1 ≡ quote + 2 = omega arith in
    let both : drop quote text ≡ 34 ∷ 34 ∷ drop (quote + 2) text =
    drop_more text quote 0 before.within ∙ ap (λ b. b ∷ drop (quote + 1) text) before.quote_there
    ∙ ap (λ x. 34 ∷ x) (drop_more text (quote + 1) 0 lt ∙ ap (λ b. b ∷ rest) second) ∙ ap (λ n. 34 ∷ 34 ∷ drop n text) two in
    let more : slice_range text (quote + 1) next ≡ 34 ∷ slice_range text (quote + 2) next =
    range_first text (quote + 1) next (omega (arith, is_next.0)) lt ∙ ap (λ b. b ∷ slice_range text (quote + 1 + 1) next) second ∙ ap (λ n. 34 ∷ slice_range text n next) two in
    record {
      within = is_next.1;
      quote_there = is_next.2;
      same = before.same ∙ ap (reads st.InQuoted fields field) both
          ∙ reads_doubled fields field (drop (quote + 2) text)
          ∙ reads_to_quote fields (field ++ 34 ∷ []) text (quote + 2) next is_next
          ∙ ap (λ f. reads st.InQuoted fields f (drop next text)) (append_assoc field (34 ∷ []) (slice_range text (quote + 2) next) ∙ ap (λ x. field ++ x) (sym more));
    }

-- A closing quote.
pub takes_quoted : (t : TakenField) (fields : List (List ℕ)) (field text : List ℕ) (quote : ℕ) → AtQuote fields field text quote → StandsBehind t (quote + 1) text → TakesField t text fields (fields ++ field ∷ [])
takes_quoted t fields field text quote at behind =
    takes_at t (quote + 1) text field fields (λ begins.
    at.same ∙ ap (reads st.InQuoted fields field) (drop_more text quote 0 at.within ∙ ap (λ b. b ∷ drop (quote + 1) text) at.quote_there)
    ∙ reads_close fields field (drop (quote + 1) text)
    ∙ reads_behind fields field (drop (quote + 1) text) begins) behind

-- ---- the whole text

-- Where a record begins, a field begins.
pub reads_record : (text : List ℕ) → BeginsWithField text → reads st.StartRecord [] [] text ≡ reads st.StartField [] [] text
unfolding next_record
reads_record [] begins = absurd begins
reads_record (b ∷ bs) begins = rw begins refl

pub line_end_none : (text : List ℕ) → IsLineEnd text → record_in text ≡ Ok None
unfolding next_record
line_end_none text (inl none) = rw none refl
line_end_none text (inr (inl line_feed)) = rw line_feed refl
line_end_none text (inr (inr both)) = rw both refl

-- The record's last field, taken from a place on, makes the record whole.
pub last_taken : (text : List ℕ) (at : ℕ) (before fields : List (List ℕ)) (t : TakenField) → t ≡ taken.Last → BeginsWithField text → reads st.StartField [] [] text ≡ reads st.StartField before [] (drop at text) → TakesField t (take (length text - at) (drop at text)) before fields → record_in text ≡ Ok (Some fields)
last_taken text at before fields t is begins same takes =
    let last = subst (λ x. TakesField x (take (length text - at) (drop at text)) before fields) is takes in
    let rest = take_all (length text - at) (drop at text) (omega (arith, length-drop at text)) in
    ap only_record (reads_record text begins ∙ same ∙ ap (reads st.StartField before []) (sym rest)) ∙ last
