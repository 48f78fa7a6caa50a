-- Cutting a text into tokens, one after another.
use Rattle.std.proofs.Common.{◌≡◌, ℕ, ◌+◌, ◌≤◌, ◌-◌, List, [], ◌∷◌, ◌++◌, length, take, drop, refl, sym, ap, ◌∙◌, subst, arith, Option, None, Some}
use Rattle.std.proofs.lemmas.Bool.{and_from}
use Rattle.std.proofs.lemmas.List.{append_assoc, append-nil, take-append-drop, take-take, drop-take, drop-drop}
use Rattle.std.proofs.lemmas.List.Folds.{list_all-append}
use Rattle.std.specs.List.{list_all, slice_range}
use Rattle.hj_lex.specs.Tokens.{AreTokens, CutsTokens, Explains, HasFault, IsBlankBetween, IsTokenOf, is_blank}
use Rattle.hj_lex.specs.declared.fault.LexFault.{LexFault}
use Rattle.hj_lex.specs.declared.fault.LexFault.TheVariants as fault
use Rattle.hj_lex.specs.declared.token.Token.{Token}

-- the tokens so far are those of the front of the text, up to a place: whatever stands behind completes them
abbrev pub CutsSoFar : List ℕ → List Token → ℕ → Type 0
CutsSoFar text tokens at = (tail : List Token) (end : Option LexFault) → CutsTokens text at tail end → CutsTokens text 0 (tokens ++ tail) end

pub blank_nothing : (text : List ℕ) (at : ℕ) → at ≤ length text → IsBlankBetween text at at
blank_nothing text at h =
    let none : at - at ≡ 0 = omega arith in
    (omega arith, h, rw none refl)

take_both : (n m : ℕ) (xs : List ℕ) → take (n + m) xs ≡ take n xs ++ take m (drop n xs)
take_both n m xs =
    let short : n ≤ n + m = omega arith in
    sym (take-append-drop n (take (n + m) xs)) ∙ ap (λ front. front ++ drop n (take (n + m) xs)) (take-take n (n + m) xs short) ∙ ap (λ back. take n xs ++ back) (drop-take n m xs)

-- a slice is its two parts
pub slice_both : (xs : List ℕ) (from mid to : ℕ) → from ≤ mid → mid ≤ to → slice_range xs from to ≡ slice_range xs from mid ++ slice_range xs mid to
slice_both xs from mid to l r =
    let sum : to - from ≡ (mid - from) + (to - mid) = omega arith in
    let at_mid : from + (mid - from) ≡ mid = omega arith in
    ap (λ n. take n (drop from xs)) sum ∙ take_both (mid - from) (to - mid) (drop from xs)
    ∙ ap (λ rest. slice_range xs from mid ++ take (to - mid) rest) (drop-drop (mid - from) from xs ∙ ap (λ n. drop n xs) at_mid)

pub blank_both : (text : List ℕ) (from mid to : ℕ) → IsBlankBetween text from mid → IsBlankBetween text mid to → IsBlankBetween text from to
blank_both text from mid to a b =
    (omega arith, b.1, ap (list_all is_blank) (slice_both text from mid to a.0 b.0) ∙ list_all-append is_blank (slice_range text from mid) (slice_range text mid to) ∙ and_from _ _ a.2 b.2)

-- blanks may stand before whatever comes
pub blanks_before : (text : List ℕ) (from to : ℕ) (tail : List Token) (end : Option LexFault) → IsBlankBetween text from to → CutsTokens text to tail end → CutsTokens text from tail end
blanks_before text from to [] None b h = blank_both text from to (length text) b h
blanks_before text from to [] (Some found) b h = (h.0, blank_both text from to h.0 b h.1, h.2)
blanks_before text from to (token ∷ tail) end b h = (blank_both text from to token.from b h.0, h.1, h.2)

pub begin : (text : List ℕ) (at : ℕ) → IsBlankBetween text 0 at → CutsSoFar text [] at
begin text at b tail end h = blanks_before text 0 at tail end b h

-- one token more, and the blanks behind it
pub go_on : (text : List ℕ) (tokens new : List Token) (token : Token) (at next : ℕ) → CutsSoFar text tokens at → token.from ≡ at → IsTokenOf text token → IsBlankBetween text token.to next → new ≡ tokens ++ token ∷ [] → CutsSoFar text new next
go_on text tokens new token at next so_far e t b n tail end h =
    let here : at ≤ length text = omega (arith, e, t.0, t.1) in
    let more : CutsTokens text at (token ∷ tail) end = (subst (λ from. IsBlankBetween text at from) (sym e) (blank_nothing text at here), t, blanks_before text token.to next tail end b h) in
    let split : new ++ tail ≡ tokens ++ (token ∷ tail) = ap (λ list. list ++ tail) n ∙ append_assoc tokens (token ∷ []) tail in
    subst (λ (list : List Token). CutsTokens text 0 list end) (sym split) (so_far (token ∷ tail) end more)

pub finish : (text : List ℕ) (tokens : List Token) (at : ℕ) → at ≡ length text → CutsSoFar text tokens at → AreTokens text tokens
finish text tokens at e so_far =
    let done : IsBlankBetween text at (length text) = subst (λ from. IsBlankBetween text from (length text)) (sym e) (blank_nothing text (length text) (omega arith)) in
    subst (λ (list : List Token). CutsTokens text 0 list None) (append-nil tokens) (so_far [] None done)

pub fails : (text : List ℕ) (tokens : List Token) (at : ℕ) (found : LexFault) → CutsSoFar text tokens at → at ≤ length text → HasFault at (drop at text) found → Explains text found
fails text tokens at (fault.BadByte place) so_far l h =
    (tokens ++ [], so_far [] (Some (fault.BadByte place)) (at, blank_nothing text at l, h))
fails text tokens at (fault.OpenText place) so_far l h =
    (tokens ++ [], so_far [] (Some (fault.OpenText place)) (at, blank_nothing text at l, h))
fails text tokens at (fault.NumberRange place) so_far l h =
    (tokens ++ [], so_far [] (Some (fault.NumberRange place)) (at, blank_nothing text at l, h))
fails text tokens at fault.Memory so_far l h = tt
