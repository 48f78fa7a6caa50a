-- The text between quotes, with each doubled quote once.
use Rattle.std.proofs.Common.{◌≡◌, ℕ, ◌+◌, ◌<◌, ◌≤◌, Bool, true, false, cond, List, [], ◌∷◌, ◌++◌, length, drop, get_or, refl, sym, ap, ◌∙◌, arith, length-append, Option}
use Rattle.std.proofs.lemmas.List.{append_assoc, append-nil, append_cancel_right, drop-drop, drop_more, length-drop}
use Rattle.std.proofs.lemmas.Bool.{eqb-true}
use Rattle.hj_lex.proofs.Texts.{split_text, split_text-open}
use Rattle.hj_lex.specs.Tokens.{doubled, is_quote, quote, quoted}

-- what is left of a text from a place on, when its front was read
abbrev pub Left : List ℕ → List ℕ → ℕ → Type 0
Left word value at = (left : List ℕ) × (word ≡ quoted (value ++ left)) × (drop at word ≡ doubled left ++ quote ∷ [])

abbrev pub width : ℕ → ℕ
width byte = cond (is_quote byte) 2 1

more_at : (b : Bool) (word ys : List ℕ) (at y : ℕ) → is_quote y ≡ b → at < length word → drop at word ≡ cond b (quote ∷ quote ∷ doubled ys) (y ∷ doubled ys) ++ quote ∷ [] → (get_or word at 0 ≡ y) × (drop (at + cond b 2 1) word ≡ doubled ys ++ quote ∷ [])
more_at true word ys at y q l d =
    let first : get_or word at 0 ∷ drop (at + 1) word ≡ quote ∷ quote ∷ (doubled ys ++ quote ∷ []) = sym (drop_more word at 0 l) ∙ d in
    let head : get_or word at 0 ≡ quote = cc in
    (head ∙ sym (eqb-true y quote q), sym (drop-drop 2 at word) ∙ ap (drop 2) d)
more_at false word ys at y q l d =
    let first : get_or word at 0 ∷ drop (at + 1) word ≡ y ∷ (doubled ys ++ quote ∷ []) = sym (drop_more word at 0 l) ∙ d in
    let head : get_or word at 0 ≡ y = cc in
    (head, sym (drop-drop 1 at word) ∙ ap (drop 1) d)

left_at : (word value left : List ℕ) (at : ℕ) → at + 1 < length word → word ≡ quoted (value ++ left) → drop at word ≡ doubled left ++ quote ∷ [] → Left word (value ++ get_or word at 0 ∷ []) (at + width (get_or word at 0))
left_at word value [] at l e d = absurd (omega (arith, ap length d, length-drop at word))
left_at word value (y ∷ ys) at l e d =
    let m = more_at (is_quote y) word ys at y refl (omega arith) d in
    let x = get_or word at 0 in
    let split : value ++ y ∷ ys ≡ (value ++ x ∷ []) ++ ys = ap (λ b. value ++ b ∷ ys) (sym m.0) ∙ sym (append_assoc value (x ∷ []) ys) in
    (ys, e ∙ ap quoted split, ap (λ b. drop (at + width b) word) m.0 ∙ m.1)

pub left_more : (word value : List ℕ) (at : ℕ) → at + 1 < length word → Left word value at → Left word (value ++ get_or word at 0 ∷ []) (at + width (get_or word at 0))
left_more word value at l h = left_at word value h.0 at l h.1 h.2

pub left_within : (word value : List ℕ) (at : ℕ) → Left word value at → at < length word
left_within word value at h =
    omega (arith, ap length h.2, length-drop at word, length-append (doubled h.0) (quote ∷ []))

some_left : (b : Bool) (x : ℕ) (xs : List ℕ) → length (cond b (quote ∷ quote ∷ xs) (x ∷ xs)) ≡ 0 → ⊥
some_left true x xs h = omega (arith, h)
some_left false x xs h = omega (arith, h)

end_at : (word value left : List ℕ) (at : ℕ) → at ≤ length word → length word ≤ at + 1 → word ≡ quoted (value ++ left) → drop at word ≡ doubled left ++ quote ∷ [] → word ≡ quoted value
end_at word value [] at l f e d = e ∙ ap quoted (append-nil value)
end_at word value (y ∷ ys) at l f e d =
    absurd (some_left (is_quote y) y (doubled ys) (omega (arith, f, ap length d, length-drop at word, length-append (doubled (y ∷ ys)) (quote ∷ []))))

pub left_end : (word value : List ℕ) (at : ℕ) → at ≤ length word → length word ≤ at + 1 → Left word value at → word ≡ quoted value
left_end word value at l f h = end_at word value h.0 at l f h.1 h.2

pub same_doubled : (word value other : List ℕ) → word ≡ quoted value → word ≡ quoted other → doubled value ≡ doubled other
same_doubled word value other e f =
    append_cancel_right (doubled value) (doubled other) (quote ∷ []) (ap (drop 1) (sym e ∙ f))

-- a text stands for one value
pub same_value : (value other : List ℕ) → doubled value ≡ doubled other → value ≡ other
same_value value other e =
    ap (λ (p : List ℕ × Option (List ℕ)). p.0) (sym (split_text-open value) ∙ ap (λ d. split_text false (d ++ [])) e ∙ split_text-open other)
