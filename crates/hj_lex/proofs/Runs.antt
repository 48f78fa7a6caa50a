-- The longest run of bytes that pass, from the front on.
use Rattle.std.proofs.Common.{◌≡◌, ◌++◌, ℕ, suc, ◌+◌, ◌≤◌, ◌-◌, Bool, true, false, cond, List, [], ◌∷◌, length, take, drop, refl, sym, ap, ◌∙◌, arith}
use Rattle.std.proofs.lemmas.Bool.{and_from, and_parts}
use Rattle.std.proofs.lemmas.List.Sums.{prefix_len-le-length}
use Rattle.std.proofs.lemmas.List.{length-drop, drop-drop}
use Rattle.std.specs.List.{list_all, prefix_len}
use Rattle.hj_lex.specs.Tokens.{begins, is_blank, IsBlankBetween}

one_more : (n : ℕ) → 1 + n ≡ suc n
one_more n = omega arith

run_step : (p : ℕ → Bool) (b : Bool) (x : ℕ) (xs : List ℕ) → p x ≡ b → list_all p (take (prefix_len p xs) xs) ≡ true → list_all p (take (cond b (1 + prefix_len p xs) 0) (x ∷ xs)) ≡ true
run_step p true x xs e h = rw one_more (and_from _ _ e h)
run_step p false x xs e h = refl

pub list_all-run : (p : ℕ → Bool) (xs : List ℕ) → list_all p (take (prefix_len p xs) xs) ≡ true
list_all-run p [] = refl
list_all-run p (x ∷ xs) = run_step p (p x) x xs refl (list_all-run p xs)

after_step : (p : ℕ → Bool) (b : Bool) (x : ℕ) (xs : List ℕ) → p x ≡ b → begins p (drop (prefix_len p xs) xs) ≡ false → begins p (drop (cond b (1 + prefix_len p xs) 0) (x ∷ xs)) ≡ false
after_step p true x xs e h = rw one_more h
after_step p false x xs e h = e

pub begins-after_run : (p : ℕ → Bool) (xs : List ℕ) → begins p (drop (prefix_len p xs) xs) ≡ false
begins-after_run p [] = refl
begins-after_run p (x ∷ xs) = after_step p (p x) x xs refl (begins-after_run p xs)

-- a run from a place on ends within the text
pub run_within : (p : ℕ → Bool) (text : List ℕ) (at count : ℕ) → at ≤ length text → count ≡ prefix_len p (drop at text) → at + count ≤ length text
run_within p text at count h e = omega (arith, e, prefix_len-le-length p (drop at text), length-drop at text)

-- the blanks from a place on
pub blank_between : (text : List ℕ) (at count : ℕ) → at ≤ length text → count ≡ prefix_len is_blank (drop at text) → IsBlankBetween text at (at + count)
blank_between text at count h e =
    let same : (at + count) - at ≡ prefix_len is_blank (drop at text) = omega (arith, e) in
    (omega arith, run_within is_blank text at count h e, rw same (list_all-run is_blank (drop at text)))

pub begins-after_run_at : (p : ℕ → Bool) (text : List ℕ) (at count : ℕ) → count ≡ prefix_len p (drop at text) → begins p (drop (at + count) text) ≡ false
begins-after_run_at p text at count e =
    let d : drop (at + count) text ≡ drop (prefix_len p (drop at text)) (drop at text) = ap (λ n. drop (at + n) text) e ∙ sym (drop-drop (prefix_len p (drop at text)) at text) in
    ap (begins p) d ∙ begins-after_run p (drop at text)

one_run : (p : ℕ → Bool) (x : ℕ) (xs : List ℕ) → p x ≡ true → prefix_len p (x ∷ xs) ≡ suc (prefix_len p xs)
one_run p x xs h = ap (λ b. cond b (1 + prefix_len p xs) 0) h ∙ one_more (prefix_len p xs)

-- how long a run is that something else ends
pub run_is : (p : ℕ → Bool) (xs ys : List ℕ) → list_all p xs ≡ true → begins p ys ≡ false → prefix_len p (xs ++ ys) ≡ length xs
run_is p [] [] h k = refl
run_is p [] (y ∷ ys) h k = ap (λ b. cond b (1 + prefix_len p ys) 0) k
run_is p (x ∷ xs) ys h k =
    let q : (p x ≡ true) × (list_all p xs ≡ true) = and_parts _ _ h in
    one_run p x (xs ++ ys) q.0 ∙ ap suc (run_is p xs ys q.1 k)
