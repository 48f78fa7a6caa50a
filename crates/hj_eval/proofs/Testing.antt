-- A condition is the list of its parts, to which one is added.
use Rattle.std.proofs.Common.{◌≡◌, ◌&&◌, ◌++◌, Bool, true, false, List, [], ◌∷◌, refl, ap, ◌∙◌}
use Rattle.std.specs.List.{list_all}
use Rattle.std.proofs.lemmas.List.Folds.{list_all-append}

pushed : {A : Type 0} (test : A → Bool) (xs : List A) (x : A) → list_all test (xs ++ x ∷ []) ≡ (list_all test xs && test x)
pushed test xs x = list_all-append test xs (x ∷ []) ∙ ap (λ (b : Bool). list_all test xs && b) (alone (test x))
  where
    alone : (b : Bool) → (b && true) ≡ b
    alone true = refl
    alone false = refl

with_first : (a b c d : Bool) → ((a && d) && (b && c)) ≡ ((a && (b && c)) && d)
with_first false b c d = refl
with_first true true true true = refl
with_first true true true false = refl
with_first true true false true = refl
with_first true true false false = refl
with_first true false c true = refl
with_first true false c false = refl

with_second : (a b c d : Bool) → (a && ((b && d) && c)) ≡ ((a && (b && c)) && d)
with_second false b c d = refl
with_second true true true true = refl
with_second true true true false = refl
with_second true true false true = refl
with_second true true false false = refl
with_second true false c d = refl

pub first_more : {A : Type 0} (test : A → Bool) (old new : List A) (x : A) (b c d : Bool) → new ≡ old ++ x ∷ [] → test x ≡ d
    → (list_all test new && (b && c)) ≡ ((list_all test old && (b && c)) && d)
first_more {A} test old new x b c d is e =
    ap (λ (xs : List A). list_all test xs && (b && c)) is
    ∙ ap (λ (n : Bool). n && (b && c)) (pushed test old x)
    ∙ with_first (list_all test old) b c (test x)
    ∙ ap (λ (more : Bool). (list_all test old && (b && c)) && more) e

pub second_more : {A : Type 0} (test : A → Bool) (old new : List A) (x : A) (a c d : Bool) → new ≡ old ++ x ∷ [] → test x ≡ d
    → (a && (list_all test new && c)) ≡ ((a && (list_all test old && c)) && d)
second_more {A} test old new x a c d is e =
    ap (λ (xs : List A). a && (list_all test xs && c)) is
    ∙ ap (λ (n : Bool). a && (n && c)) (pushed test old x)
    ∙ with_second a (list_all test old) c (test x)
    ∙ ap (λ (more : Bool). (a && (list_all test old && c)) && more) e
