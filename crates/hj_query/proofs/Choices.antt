-- Outcomes that are known, and those that a choice decides.
use Rattle.std.proofs.Common.{◌≡◌, ◌⊎◌, inl, inr, Bool, true, false, refl, sym, ◌∙◌}
use Rattle.std.proofs.lemmas.Bool.{false≢true}
use Rattle.hj_query.proofs.Outcomes.{IsOne}

-- this one
pub one_is : {A : Type 0} (x : A) → IsOne (λ end. end ≡ x)
one_is x = record { value = x; gives = refl; only = λ other e. e }

-- one way where A holds, another where B does
abbrev pub Either : {O : Type 0} → Type 0 → (O → Type 0) → Type 0 → (O → Type 0) → O → Type 0
Either {O} A P B Q end = (A × P end) ⊎ (B × Q end)

pub one_either : {O : Type 0} (A : Type 0) (P : O → Type 0) (B : Type 0) (Q : O → Type 0) → A ⊎ B → (A → B → ⊥) → (A → IsOne P) → (B → IsOne Q) → IsOne (Either A P B Q)
one_either {O} A P B Q (inl a) apart p q = record { value = (p a).value; gives = inl (a, (p a).gives); only = only }
  where
    only : (other : O) → Either A P B Q other → other ≡ (p a).value
    only other (inl h) = (p a).only other h.1
    only other (inr h) = absurd (apart a h.0)
one_either {O} A P B Q (inr b) apart p q = record { value = (q b).value; gives = inr (b, (q b).gives); only = only }
  where
    only : (other : O) → Either A P B Q other → other ≡ (q b).value
    only other (inl h) = absurd (apart h.0 b)
    only other (inr h) = (q b).only other h.1

true_or_false : (b : Bool) → (b ≡ true) ⊎ (b ≡ false)
true_or_false true = inl refl
true_or_false false = inr refl

-- a test decides
pub one_test : {O : Type 0} (b : Bool) (P Q : O → Type 0) → IsOne P → IsOne Q → IsOne (Either (b ≡ true) P (b ≡ false) Q)
one_test b P Q p q = one_either (b ≡ true) P (b ≡ false) Q (true_or_false b) (λ t f. false≢true (sym f ∙ t)) (λ t. p) (λ f. q)
