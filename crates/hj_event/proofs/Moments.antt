-- Facts of each moment of a list: of what came before it and of what is still to come.
use Rattle.std.proofs.Common.{◌≡◌, List, [], ◌∷◌, ◌++◌, append_assoc, append-nil, subst}

abbrev pub AtEach : {X : Type 0} → (List X → List X → Type 0) → List X → List X → Type 0
AtEach Q before [] = Q before []
AtEach Q before (x ∷ xs) = Q before (x ∷ xs) × AtEach Q (before ++ x ∷ []) xs

at_once : {X : Type 0} (Q : List X → List X → Type 0) (before behind : List X) → AtEach Q before behind → Q before behind
at_once Q before [] h = h
at_once Q before (x ∷ xs) h = h.0

AtEach-behind : {X : Type 0} (Q : List X → List X → Type 0) (before front behind : List X) → AtEach Q before (front ++ behind) → Q (before ++ front) behind
AtEach-behind Q before [] behind h = rw append-nil (at_once Q before behind h)
AtEach-behind Q before (x ∷ xs) behind h = rw append_assoc at (AtEach-behind Q (before ++ x ∷ []) xs behind h.1)

-- what holds at each moment holds where a list is cut in two
pub AtEach-cut : {X : Type 0} (Q : List X → List X → Type 0) (xs front behind : List X) → AtEach Q [] xs → xs ≡ front ++ behind → Q front behind
AtEach-cut Q xs front behind h e = AtEach-behind Q [] front behind (subst (λ ys. AtEach Q [] ys) e h)
