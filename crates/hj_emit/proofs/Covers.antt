-- Bytes in parts which cover them: one of all passes a test where one of a part does.
use Rattle.std.proofs.Common.{◌≡◌, ℕ, ◌+◌, ◌-◌, ◌≤◌, Bool, true, false, ◌||◌, List, ◌++◌, length, take, drop, refl, sym, ap, ap₂, ◌∙◌, arith, length-drop, take-append-drop}
use Rattle.std.proofs.lemmas.List.{drop-take, take-take, take_all}
use Rattle.std.proofs.lemmas.List.Folds.{list_any-append}
use Rattle.std.specs.List.{list_any}

any_split : (p : ℕ → Bool) (bytes : List ℕ) (at : ℕ) → list_any p bytes ≡ (list_any p (take at bytes) || list_any p (drop at bytes))
any_split p bytes at = ap (list_any p) (sym (take-append-drop at bytes)) ∙ list_any-append p (take at bytes) (drop at bytes)

-- the first bytes are fewer of them, and some behind those
any_front : (p : ℕ → Bool) (bytes : List ℕ) (at more : ℕ) → list_any p (take (at + more) bytes) ≡ (list_any p (take at bytes) || list_any p (take more (drop at bytes)))
any_front p bytes at more =
    any_split p (take (at + more) bytes) at
    ∙ ap₂ (λ front back. list_any p front || list_any p back) (take-take at (at + more) bytes (omega arith)) (drop-take at more bytes)

-- what was looked at twice tells no more
twice : (a m b : Bool) → ((a || m) || (m || b)) ≡ (a || (m || b))
twice true m b = refl
twice false true b = refl
twice false false b = refl

last_moved : (a b c : Bool) → ((a || b) || c) ≡ ((a || c) || b)
last_moved true b c = refl
last_moved false true true = refl
last_moved false true false = refl
last_moved false false true = refl
last_moved false false false = refl

-- the first bytes and the last ones, of which some may be in both
pub covered : (p : ℕ → Bool) (bytes : List ℕ) (at behind n : ℕ) → behind ≤ at → behind + n ≡ length bytes
    → (list_any p (take at bytes) || list_any p (take n (drop behind bytes))) ≡ list_any p bytes
covered p bytes at behind n both long =
    let same : behind + (at - behind) ≡ at = omega arith in
    let last : take n (drop behind bytes) ≡ drop behind bytes = take_all n (drop behind bytes) (omega (arith, length-drop behind bytes)) in
    let back = any_split p (drop behind bytes) (at - behind) in
    ap₂ (λ a b. a || b) (ap (λ k. list_any p (take k bytes)) (sym same) ∙ any_front p bytes behind (at - behind)) (ap (list_any p) last ∙ back)
    ∙ twice (list_any p (take behind bytes)) (list_any p (take (at - behind) (drop behind bytes))) (list_any p (drop (at - behind) (drop behind bytes)))
    ∙ ap (λ b. list_any p (take behind bytes) || b) (sym back)
    ∙ sym (any_split p bytes behind)

-- one more part behind the first ones, of which the last ones `rest` tell
pub one_more_part : (p : ℕ → Bool) (bytes : List ℕ) (at more : ℕ) (rest : Bool)
    → ((list_any p (take at bytes) || rest) || list_any p (take more (drop at bytes))) ≡ (list_any p (take (at + more) bytes) || rest)
one_more_part p bytes at more rest =
    last_moved (list_any p (take at bytes)) rest (list_any p (take more (drop at bytes)))
    ∙ ap (λ b. b || rest) (sym (any_front p bytes at more))

-- the first and the last lanes of some bytes
pub ends_tell : (p : ℕ → Bool) (bytes lanes : List ℕ) (half : ℕ) → lanes ≡ take half bytes ++ take half (drop (length bytes - half) bytes) → half ≤ length bytes → length bytes ≤ half + half
    → list_any p lanes ≡ list_any p bytes
ends_tell p bytes lanes half is within both =
    ap (list_any p) is ∙ list_any-append p (take half bytes) (take half (drop (length bytes - half) bytes))
    ∙ covered p bytes half (length bytes - half) half (omega arith) (omega arith)
