-- Appending pieces to a text, one after another: what it has and what is still to come are the whole.
use Rattle.std.proofs.Common.{◌≡◌, ℕ, suc, ◌+◌, ◌<◌, ◌≤◌, Bool, true, false, cond, List, [], ◌∷◌, ◌++◌, length, get_or, drop, drop-cons, Some, refl, sym, ap, ◌∙◌, arith, append_assoc, append-nil}
use Rattle.std.specs.List.{flat_map, slice_get}
use Rattle.hj_lex.specs.Tokens.{doubled, is_quote, quote, quoted}
use Rattle.hj_query.proofs.Columns.{drop_get}

-- after one more
pub pieces_next : {X : Type 0} (f : X → List ℕ) (pieces : List X) (at : ℕ) (piece : X) (here next whole : List ℕ)
    → Some piece ≡ slice_get pieces at → next ≡ here ++ f piece → here ++ flat_map f (drop at pieces) ≡ whole
    → next ++ flat_map f (drop (at + 1) pieces) ≡ whole
pieces_next f pieces at piece here next whole found e h =
    ap (λ text. text ++ flat_map f (drop (at + 1) pieces)) e
    ∙ append_assoc here (f piece) (flat_map f (drop (at + 1) pieces))
    ∙ ap (λ rest. here ++ flat_map f rest) (sym (drop_get pieces at piece found))
    ∙ h

-- after one more, behind what stands between them
pub joined_next : {X : Type 0} (f : X → List ℕ) (between : List ℕ) (pieces : List X) (at : ℕ) (piece : X) (here middle next whole : List ℕ)
    → Some piece ≡ slice_get pieces at → middle ≡ here ++ between → next ≡ middle ++ f piece
    → here ++ flat_map (λ piece. between ++ f piece) (drop at pieces) ≡ whole
    → next ++ flat_map (λ piece. between ++ f piece) (drop (at + 1) pieces) ≡ whole
joined_next f between pieces at piece here middle next whole found d e h =
    pieces_next (λ piece. between ++ f piece) pieces at piece here next whole found
    (e ∙ ap (λ text. text ++ f piece) d ∙ append_assoc here between (f piece)) h

-- A text's bytes, each quote twice.

doubled_first : (byte : ℕ) (bytes : List ℕ) → doubled (byte ∷ bytes) ≡ doubled (byte ∷ []) ++ doubled bytes
doubled_first byte bytes = chosen (is_quote byte)
  where
    chosen : (b : Bool) → cond b (quote ∷ quote ∷ doubled bytes) (byte ∷ doubled bytes) ≡ cond b (quote ∷ quote ∷ []) (byte ∷ []) ++ doubled bytes
    chosen true = refl
    chosen false = refl

drop_all : (bytes : List ℕ) → drop (length bytes) bytes ≡ []
drop_all [] = refl
drop_all (byte ∷ bytes) = drop_all bytes

-- after one more byte
pub doubled_next : (bytes : List ℕ) (at : ℕ) (here next whole : List ℕ)
    → at < length bytes → next ≡ here ++ doubled (get_or bytes at 0 ∷ []) → here ++ doubled (drop at bytes) ≡ whole
    → next ++ doubled (drop (at + 1) bytes) ≡ whole
doubled_next bytes at here next whole within e h =
    let n : at + 1 ≡ suc at = omega arith in
    let byte = get_or bytes at 0 in
    ap (λ text. text ++ doubled (drop (at + 1) bytes)) e
    ∙ append_assoc here (doubled (byte ∷ [])) (doubled (drop (at + 1) bytes))
    ∙ ap (λ k. here ++ (doubled (byte ∷ []) ++ doubled (drop k bytes))) n
    ∙ ap (λ rest. here ++ rest) (sym (doubled_first byte (drop (suc at) bytes)))
    ∙ ap (λ rest. here ++ doubled rest) (sym (drop-cons bytes at 0 within))
    ∙ h

-- behind the last, with the quote that ends it
pub doubled_last : (bytes : List ℕ) (at : ℕ) (old here : List ℕ)
    → length bytes ≤ at → at ≤ length bytes → here ++ doubled (drop at bytes) ≡ (old ++ quote ∷ []) ++ doubled bytes
    → here ++ quote ∷ [] ≡ old ++ quoted bytes
doubled_last bytes at old here past within h =
    let n : length bytes ≡ at = omega arith in
    ap (λ text. text ++ quote ∷ [])
    (sym (append-nil here)
    ∙ ap (λ rest. here ++ doubled rest) (sym (drop_all bytes))
    ∙ ap (λ k. here ++ doubled (drop k bytes)) n
    ∙ h
    ∙ append_assoc old (quote ∷ []) (doubled bytes))
    ∙ append_assoc old (quote ∷ doubled bytes) (quote ∷ [])

-- four lines, one behind the other
pub four_lines : (text one two three end a first b second c third d fourth : List ℕ)
    → one ≡ text ++ a ++ first ++ end → two ≡ one ++ b ++ second ++ end → three ≡ two ++ c ++ third ++ end
    → three ++ d ++ fourth ++ end ≡ text ++ (a ++ first ++ end ++ b ++ second ++ end ++ c ++ third ++ end ++ d ++ fourth ++ end)
four_lines text one two three end a first b second c third d fourth e1 e2 e3 =
    let whole : three ++ d ++ fourth ++ end ≡ text ++ a ++ first ++ end ++ b ++ second ++ end ++ c ++ third ++ end ++ d ++ fourth ++ end = cc in
    whole ∙ simp append_assoc
