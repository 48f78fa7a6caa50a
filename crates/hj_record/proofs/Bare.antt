-- Fields in the plain form, each with its comma, and the last one with the line's end: what they read as, and that no line ends among them.
use Rattle.std.proofs.Common.{◌≡◌, ℕ, ◌==◌, ◌||◌, ◌&&◌, Bool, true, false, not, cond, List, [], ◌∷◌, ◌++◌, All, Ok, Some, inl, inr, refl, sym, ap, subst, ◌∙◌, append_assoc}
use Rattle.std.proofs.lemmas.Bool.{or_parts}
use Rattle.std.proofs.lemmas.List.Sums.{fold-append}
use Rattle.csv.specs.declared.parser.State.TheVariants as st
use Rattle.hj_record.specs.LineEnd.{inside_after}
use Rattle.hj_record.specs.Pieces.{IsPiece}
use Rattle.hj_record.specs.Plain.{reads, IsBare, IsNoQuote, IsPlainly, BeginsWithField}
use Rattle.hj_record.specs.Records.{only_record, record_in, record_of, without_marks}
use Rattle.hj_record.proofs.PlainLemmas.{all_head, all_tail, bare_no_quote, begins_bare, ends_line, reads_bare, reads_behind, reads_close, reads_comma, reads_open, reads_quoted, reads_record, reads_start, BeginsBare}
use Rattle.hj_record.proofs.Splits.{inside_next, piece_from_line, Unended, Unended-append}

reads_plainly : (fields : List (List ℕ)) (field bytes rest : List ℕ) → IsPlainly field bytes → BeginsBare rest → reads st.StartField fields [] (bytes ++ rest) ≡ reads st.InField fields field rest
reads_plainly fields field bytes rest (inl bare) begins =
    ap (λ b. reads st.StartField fields [] (b ++ rest)) bare.0
    ∙ reads_start fields (field ++ rest) (begins_bare field rest bare.1 begins)
    ∙ reads_bare fields [] field rest bare.1
reads_plainly fields field bytes rest (inr quoted) begins =
    ap (λ b. reads st.StartField fields [] (b ++ rest)) quoted.0
    ∙ ap (λ b. reads st.StartField fields [] (34 ∷ b)) (append_assoc field (34 ∷ []) rest)
    ∙ reads_open fields (field ++ 34 ∷ rest)
    ∙ reads_quoted fields [] field (34 ∷ rest) quoted.1
    ∙ reads_close fields field rest
    ∙ reads_behind fields field rest begins

-- These bytes read as these fields, each with its comma, whatever stands behind.
abbrev pub ReadsAs : List (List ℕ) → List ℕ → Type 0
ReadsAs fields bytes = (rest : List ℕ) → reads st.StartField [] [] (bytes ++ rest) ≡ reads st.StartField fields [] rest

pub none_yet : ReadsAs [] []
none_yet = λ rest. refl

pub one_more : (fields : List (List ℕ)) (before field bytes : List ℕ) → ReadsAs fields before → IsPlainly field bytes → ReadsAs (fields ++ field ∷ []) (before ++ (bytes ++ 44 ∷ []))
one_more fields before field bytes so_far plainly = λ rest.
    ap (reads st.StartField [] []) (append_assoc before (bytes ++ 44 ∷ []) rest)
    ∙ so_far ((bytes ++ 44 ∷ []) ++ rest)
    ∙ ap (reads st.StartField fields []) (append_assoc bytes (44 ∷ []) rest)
    ∙ reads_plainly fields field bytes (44 ∷ rest) plainly refl
    ∙ reads_comma fields field rest

-- A byte that begins a field, and no mark.
abbrev pub BeginsPlainly : List ℕ → Type 0
BeginsPlainly [] = ⊥
BeginsPlainly (b ∷ bs) = (((b == 13) || (b == 10)) ≡ false) × ((b == 0xEF) ≡ false)

no_marks : (bytes : List ℕ) → BeginsPlainly bytes → without_marks bytes ≡ bytes
no_marks [] begins = absurd begins
no_marks (a ∷ []) begins = refl
no_marks (a ∷ b ∷ []) begins = refl
no_marks (a ∷ b ∷ c ∷ rest) begins = rw begins.1 refl

begins_field : (bytes : List ℕ) → BeginsPlainly bytes → BeginsWithField bytes
begins_field [] begins = begins
begins_field (b ∷ bs) begins = begins.0

pub line_reads : (fields : List (List ℕ)) (before field bytes : List ℕ) → ReadsAs fields before → IsPlainly field bytes → BeginsPlainly (before ++ (bytes ++ 10 ∷ [])) → record_of (before ++ (bytes ++ 10 ∷ [])) ≡ Ok (Some (fields ++ field ∷ []))
line_reads fields before field bytes so_far plainly begins =
    ap record_in (no_marks (before ++ (bytes ++ 10 ∷ [])) begins)
    ∙ ap only_record (
    reads_record (before ++ (bytes ++ 10 ∷ [])) (begins_field (before ++ (bytes ++ 10 ∷ [])) begins)
    ∙ so_far (bytes ++ 10 ∷ [])
    ∙ reads_plainly fields field bytes (10 ∷ []) plainly refl)
    ∙ ends_line fields field (10 ∷ []) (inr (inl refl))

-- ---- no line ends among fields

-- No line feed stands outside quotes, and they end outside.
pub record IsWithinLine (bytes : List ℕ) : Type 0 where
  pub unended : Unended false bytes
  pub outside : inside_after false bytes ≡ false

pub none_within : IsWithinLine []
none_within = record { unended = tt; outside = refl }

both_within : (a b : List ℕ) → IsWithinLine a → IsWithinLine b → IsWithinLine (a ++ b)
both_within a b front back = record {
  unended = Unended-append false a b front.unended (subst (λ i. Unended i b) (sym front.outside) back.unended);
  outside = fold-append inside_next false a b ∙ ap (λ i. inside_after i b) front.outside ∙ back.outside;
}

not_line_feed : (b : ℕ) → IsBare b → ((b == 10) && not false) ≡ false
not_line_feed b bare = rw (or_parts ((b == 44) || (b == 34) || (b == 13)) (b == 10) bare).1 refl

bare_within : (bytes : List ℕ) → All IsBare bytes → IsWithinLine bytes
bare_within [] all = none_within
bare_within (b ∷ bytes) all =
    let first : IsBare b = all_head IsBare b bytes all in
    let rest = bare_within bytes (all_tail IsBare b bytes all) in
    let no_quote : (b == 34) ≡ false = bare_no_quote b first in
    record { unended = (not_line_feed b first, rw no_quote rest.unended); outside = rw no_quote rest.outside }

and_no : (t : Bool) → (t && not true) ≡ false
and_no true = refl
and_no false = refl

quoted_unended : (bytes : List ℕ) → All IsNoQuote bytes → Unended true (bytes ++ 34 ∷ [])
quoted_unended [] all = (refl, tt)
quoted_unended (b ∷ bytes) all =
    let no_quote : (b == 34) ≡ false = all_head IsNoQuote b bytes all in
    (and_no (b == 10), rw no_quote (quoted_unended bytes (all_tail IsNoQuote b bytes all)))

quoted_outside : (bytes : List ℕ) → All IsNoQuote bytes → inside_after true (bytes ++ 34 ∷ []) ≡ false
quoted_outside [] all = refl
quoted_outside (b ∷ bytes) all =
    let no_quote : (b == 34) ≡ false = all_head IsNoQuote b bytes all in
    ap (λ t. inside_after (cond t (not true) true) (bytes ++ 34 ∷ [])) no_quote ∙ quoted_outside bytes (all_tail IsNoQuote b bytes all)

plainly_within : (field bytes : List ℕ) → IsPlainly field bytes → IsWithinLine bytes
plainly_within field bytes (inl bare) = subst IsWithinLine (sym bare.0) (bare_within field bare.1)
plainly_within field bytes (inr quoted) = subst IsWithinLine (sym quoted.0) (record { unended = (refl, quoted_unended field quoted.1); outside = quoted_outside field quoted.1 })

comma_within : IsWithinLine (44 ∷ [])
comma_within = record { unended = (refl, tt); outside = refl }

pub field_within : (before field bytes : List ℕ) → IsWithinLine before → IsPlainly field bytes → IsWithinLine (before ++ (bytes ++ 44 ∷ []))
field_within before field bytes so_far plainly =
    both_within before (bytes ++ 44 ∷ []) so_far (both_within bytes (44 ∷ []) (plainly_within field bytes plainly) comma_within)

pub line_is_piece : (before field bytes : List ℕ) → IsWithinLine before → IsPlainly field bytes → IsPiece (before ++ (bytes ++ 10 ∷ []))
line_is_piece before field bytes so_far plainly =
    let all = both_within before bytes so_far (plainly_within field bytes plainly) in
    subst IsPiece (append_assoc before bytes (10 ∷ [])) (piece_from_line (before ++ bytes) all.unended all.outside)
