-- Sums, term by term.
use Rattle.std.proofs.Common.{◌≡◌, ℕ, ◌+◌, ◌<◌, Bool, true, false, cond, ℤ, List, [], ◌∷◌, length, drop, Option, Some, None, refl, sym, ap, ◌∙◌, arith}
use Rattle.std.specs.List.{slice_get}
use Rattle.std.specs.Option.{option_map}
use Rattle.hj_value.specs.declared.field.Field.{Field}
use Rattle.hj_value.specs.declared.field.Field.TheVariants as field
use Rattle.hj_query.specs.declared.sum.SignedTerm.{SignedTerm}
use Rattle.hj_query.specs.declared.sum.Sum.{Sum}
use Rattle.hj_query.specs.declared.sum.Term.{Term}
use Rattle.hj_query.proofs.Columns.{drop_get}
use Rattle.hj_eval.specs.Holds.{sum_value, with_part, with_parts}

chosen_none : (value : Term → Option Field) (parts : List SignedTerm) (b : Bool) → with_parts value None parts ≡ None → with_parts value (cond b None None) parts ≡ None
chosen_none value parts true none = none
chosen_none value parts false none = none

-- nothing comes of terms behind a missing value
pub with_none : (value : Term → Option Field) (parts : List SignedTerm) → with_parts value None parts ≡ None
with_none value [] = refl
with_none value (part ∷ parts) = chosen_none value parts part.plus (with_none value parts)

-- nor of terms behind a text
behind_text : (value : Term → Option Field) (text : List ℕ) (parts : List SignedTerm) → 0 < length parts → with_parts value (Some (field.Text text)) parts ≡ None
behind_text value text [] some = absurd (omega arith)
behind_text value text (part ∷ parts) some = chosen_none value parts part.plus (with_none value parts)

pub missing_first : (value : Term → Option Field) (sum : Sum) → None ≡ value sum.first → None ≡ sum_value value sum
missing_first value sum e = sym (with_none value sum.rest) ∙ ap (λ (front : Option Field). with_parts value front sum.rest) e

pub text_first : (value : Term → Option Field) (sum : Sum) (text : List ℕ) → Some (field.Text text) ≡ value sum.first → 0 < length sum.rest → None ≡ sum_value value sum
text_first value sum text e some =
    sym (behind_text value text sum.rest some) ∙ ap (λ (front : Option Field). with_parts value front sum.rest) e

pub next_part : (value : Term → Option Field) (parts : List SignedTerm) (at : ℕ) (part : SignedTerm) (total next : ℤ) (whole : Option Field) → Some part ≡ slice_get parts at
    → option_map (λ number. field.Int number) (Some next) ≡ with_part value (Some (field.Int total)) part
    → with_parts value (Some (field.Int total)) (drop at parts) ≡ whole
    → with_parts value (Some (field.Int next)) (drop (at + 1) parts) ≡ whole
next_part value parts at part total next whole found e so_far =
    ap (λ (front : Option Field). with_parts value front (drop (at + 1) parts)) e
    ∙ sym (ap (with_parts value (Some (field.Int total))) (drop_get parts at part found)) ∙ so_far

pub missing_part : (value : Term → Option Field) (parts : List SignedTerm) (at : ℕ) (part : SignedTerm) (total : ℤ) (whole : Option Field) → Some part ≡ slice_get parts at
    → None ≡ with_part value (Some (field.Int total)) part
    → with_parts value (Some (field.Int total)) (drop at parts) ≡ whole
    → None ≡ whole
missing_part value parts at part total whole found e so_far =
    sym (with_none value (drop (at + 1) parts))
    ∙ ap (λ (front : Option Field). with_parts value front (drop (at + 1) parts)) e
    ∙ sym (ap (with_parts value (Some (field.Int total))) (drop_get parts at part found)) ∙ so_far
