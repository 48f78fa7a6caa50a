-- Lists that begin another.
use Rattle.std.proofs.Common.{◌≡◌, ℕ, List, [], sym, ◌∙◌, append-nil}
use Rattle.hj_base.specs.Journals.{IsPrefix}

-- a list begins itself
pub begins_itself : {X : Type 0} (xs : List X) → IsPrefix xs xs
begins_itself xs = record { rest = []; is = sym (append-nil xs) }

-- a text begins one that is the same
pub begins_all : (all whole : List ℕ) → whole ≡ all → IsPrefix all whole
begins_all all whole is = record { rest = []; is = is ∙ sym (append-nil all) }
