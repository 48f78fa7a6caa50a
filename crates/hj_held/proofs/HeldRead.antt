-- What a read of a stream in memory takes.
use Rattle.std.proofs.Common.{◌≡◌, ℕ, ◌+◌, ◌-◌, List, ◌++◌, length, take, drop, sym, ap, ap₂, subst, ◌∙◌, arith, take-append-drop, length-drop}
use Rattle.std.proofs.lemmas.List.{drop-drop, take_all}
use Rattle.std.proofs.Math.Seq.{take-append_seam}

-- the bytes that came, as they stand in the buffer, and those that are left
pub came_in_front : (taken count : ℕ) (bytes seen copied kept : List ℕ) → seen ≡ bytes → copied ≡ take count (take (length seen - taken) (drop taken seen)) → length copied ≡ count
    → drop taken bytes ≡ take count (copied ++ kept) ++ drop (taken + count) bytes
came_in_front taken count bytes seen copied kept same is size =
    let front : take count (copied ++ kept) ≡ copied = subst (λ (n : ℕ). take n (copied ++ kept) ≡ copied) size (take-append_seam copied kept) in
    let rest : take (length seen - taken) (drop taken seen) ≡ drop taken seen = take_all (length seen - taken) (drop taken seen) (omega (arith, length-drop taken seen)) in
    let came : copied ≡ take count (drop taken bytes) = is ∙ ap (take count) rest ∙ ap (λ (xs : List ℕ). take count (drop taken xs)) same in
    sym (ap₂ (λ (xs ys : List ℕ). xs ++ ys) (front ∙ came) (sym (drop-drop count taken bytes)) ∙ take-append-drop count (drop taken bytes))
