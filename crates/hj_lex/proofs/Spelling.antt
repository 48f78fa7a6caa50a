-- The tokens of a text that is written out piece by piece.
use Rattle.std.proofs.Common.{◌≡◌, ℕ, ◌+◌, ◌<◌, ◌≤◌, ◌-◌, true, List, [], ◌∷◌, ◌++◌, length, take, drop, refl, sym, ap, ◌∙◌, subst, arith, length-append, Option, None}
use Rattle.std.proofs.lemmas.List.{append-nil, drop-drop, drop_at, length-drop, take_at}
use Rattle.std.specs.List.{list_all, slice_range}
use Rattle.hj_lex.proofs.Fronts.{token_from}
use Rattle.hj_lex.specs.Fronts.{BeginsToken}
use Rattle.hj_lex.specs.Tokens.{CutsTokens, IsBlankBetween, IsToken, is_blank}
use Rattle.hj_lex.specs.declared.fault.LexFault.{LexFault}
use Rattle.hj_lex.specs.declared.token.Token.{Token}
use Rattle.hj_lex.specs.declared.token.TokenKind.{TokenKind}

-- the token of these bytes, behind so many blanks
abbrev pub token_behind : ℕ → ℕ → TokenKind → List ℕ → Token
token_behind at blanks kind word = record { from = at + blanks; to = at + blanks + length word; kind = kind }

blanks_here : (text blanks more : List ℕ) (at : ℕ) → at ≤ length text → drop at text ≡ blanks ++ more → list_all is_blank blanks ≡ true → IsBlankBetween text at (at + length blanks)
blanks_here text blanks more at l e b =
    let size : at + length blanks - at ≡ length blanks = omega arith in
    let slice : slice_range text at (at + length blanks) ≡ blanks =
    ap (λ n. take n (drop at text)) size ∙ ap (take (length blanks)) e ∙ take_at blanks more (length blanks) refl in
    (omega arith, omega (arith, l, ap length e, length-append blanks more, length-drop at text), ap (list_all is_blank) slice ∙ b)

-- blanks, a token, and what stands behind it
pub spells_token : (text blanks word rest : List ℕ) (at : ℕ) (kind : TokenKind) (tokens : List Token) (end : Option LexFault) → at ≤ length text → drop at text ≡ blanks ++ (word ++ rest) → list_all is_blank blanks ≡ true → 0 < length word → IsToken kind word rest → CutsTokens text (at + length blanks + length word) tokens end → CutsTokens text at (token_behind at (length blanks) kind word ∷ tokens) end
spells_token text blanks word rest at kind tokens end l e b some form tail =
    let from = at + length blanks in
    let here : drop from text ≡ word ++ rest =
    sym (drop-drop (length blanks) at text) ∙ ap (drop (length blanks)) e ∙ drop_at blanks (word ++ rest) (length blanks) refl in
    let begins : BeginsToken kind (drop from text) (length word) = record {
      some = some;
      within = omega (arith, ap length here, length-append word rest);
      form = subst (λ front. IsToken kind front (drop (length word) (drop from text))) (sym (ap (take (length word)) here ∙ take_at word rest (length word) refl)) (subst (λ more. IsToken kind word more) (sym (ap (drop (length word)) here ∙ drop_at word rest (length word) refl)) form);
    } in
    (blanks_here text blanks (word ++ rest) at l e b, token_from text (token_behind at (length blanks) kind word) (length word) refl begins, tail)

-- only blanks, to the end
pub spells_end : (text blanks : List ℕ) (at : ℕ) → at ≤ length text → drop at text ≡ blanks → list_all is_blank blanks ≡ true → CutsTokens text at [] None
spells_end text blanks at l e b =
    let end : at + length blanks ≡ length text = omega (arith, l, ap length e, length-drop at text) in
    subst (λ to. IsBlankBetween text at to) end (blanks_here text blanks [] at l (e ∙ sym (append-nil blanks)) b)
