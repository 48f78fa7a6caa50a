-- The order of marks: what comparing two of them tells, and the lesser of two.
use Rattle.std.proofs.Common.{◌≡◌, ℕ, ◌<◌, Bool, true, false, Some, None, Less, Equal, Greater, refl, ap, arith, ◌⊎◌, inl, inr, nat_lt}
use Rattle.std.specs.declared.option.Option.{Option}
use Rattle.std.proofs.lemmas.Bool.Decides.{nat_tests}
use Rattle.hj_msg.specs.Punctuation.{Mark as Meaning, up_to, all, lesser}
use Rattle.hj_collect.specs.Marks.{compared, is_same}

-- a is less than b
abbrev pub IsLess : Option Meaning → Option Meaning → Type 0
IsLess a b = (lesser a b ≡ a) × (is_same a b ≡ false)

-- ---- what comparing tells

pub less_by_cmp : (a b : Option Meaning) → Less ≡ compared a b → IsLess a b
less_by_cmp None None h = absurd (cc)
less_by_cmp None (Some (up_to b)) h = (refl, refl)
less_by_cmp None (Some all) h = (refl, refl)
less_by_cmp (Some (up_to a)) None h = absurd (cc)
less_by_cmp (Some all) None h = absurd (cc)
less_by_cmp (Some (up_to a)) (Some (up_to b)) h = (grind (arith, nat_tests, h), grind (arith, nat_tests, h))
less_by_cmp (Some (up_to a)) (Some all) h = (refl, refl)
less_by_cmp (Some all) (Some (up_to b)) h = absurd (cc)
less_by_cmp (Some all) (Some all) h = absurd (cc)

pub greater_by_cmp : (a b : Option Meaning) → Greater ≡ compared a b → IsLess b a
greater_by_cmp None None h = absurd (cc)
greater_by_cmp None (Some (up_to b)) h = absurd (cc)
greater_by_cmp None (Some all) h = absurd (cc)
greater_by_cmp (Some (up_to a)) None h = (refl, refl)
greater_by_cmp (Some all) None h = (refl, refl)
greater_by_cmp (Some (up_to a)) (Some (up_to b)) h = (grind (arith, nat_tests, h), grind (arith, nat_tests, h))
greater_by_cmp (Some (up_to a)) (Some all) h = absurd (cc)
greater_by_cmp (Some all) (Some (up_to b)) h = (refl, refl)
greater_by_cmp (Some all) (Some all) h = absurd (cc)

pub same_by_cmp : (a b : Option Meaning) → Equal ≡ compared a b → a ≡ b
same_by_cmp None None h = refl
same_by_cmp None (Some (up_to b)) h = absurd (cc)
same_by_cmp None (Some all) h = absurd (cc)
same_by_cmp (Some (up_to a)) None h = absurd (cc)
same_by_cmp (Some all) None h = absurd (cc)
same_by_cmp (Some (up_to a)) (Some (up_to b)) h = ap (λ n. Some (up_to n)) (grind (arith, nat_tests, h))
same_by_cmp (Some (up_to a)) (Some all) h = absurd (cc)
same_by_cmp (Some all) (Some (up_to b)) h = absurd (cc)
same_by_cmp (Some all) (Some all) h = refl

-- the same of numbers
pub less_number : (a b : ℕ) → a < b → IsLess (Some (up_to a)) (Some (up_to b))
less_number a b h = (grind (arith, nat_tests, h), grind (arith, nat_tests, h))

-- ---- sameness

pub same-self : (a : Option Meaning) → is_same a a ≡ true
same-self None = refl
same-self (Some (up_to a)) = grind (arith, nat_tests)
same-self (Some all) = refl

pub same-true : (a b : Option Meaning) → is_same a b ≡ true → a ≡ b
same-true None None h = refl
same-true None (Some b) h = absurd (cc)
same-true (Some (up_to a)) None h = absurd (cc)
same-true (Some all) None h = absurd (cc)
same-true (Some (up_to a)) (Some (up_to b)) h = ap (λ n. Some (up_to n)) (grind (arith, nat_tests, h))
same-true (Some (up_to a)) (Some all) h = absurd (cc)
same-true (Some all) (Some (up_to b)) h = absurd (cc)
same-true (Some all) (Some all) h = refl

pub same-flip : (a b : Option Meaning) → is_same a b ≡ is_same b a
same-flip None None = refl
same-flip None (Some (up_to b)) = refl
same-flip None (Some all) = refl
same-flip (Some (up_to a)) None = refl
same-flip (Some all) None = refl
same-flip (Some (up_to a)) (Some (up_to b)) = grind (arith, nat_tests)
same-flip (Some (up_to a)) (Some all) = refl
same-flip (Some all) (Some (up_to b)) = refl
same-flip (Some all) (Some all) = refl

-- ---- the lesser of two

pub lesser-self : (a : Option Meaning) → lesser a a ≡ a
lesser-self None = refl
lesser-self (Some (up_to a)) = ap (λ n. Some (up_to n)) (omega arith)
lesser-self (Some all) = refl

pub lesser-comm : (a b : Option Meaning) → lesser a b ≡ lesser b a
lesser-comm None None = refl
lesser-comm None (Some (up_to b)) = refl
lesser-comm None (Some all) = refl
lesser-comm (Some (up_to a)) None = refl
lesser-comm (Some all) None = refl
lesser-comm (Some (up_to a)) (Some (up_to b)) = ap (λ n. Some (up_to n)) (omega arith)
lesser-comm (Some (up_to a)) (Some all) = refl
lesser-comm (Some all) (Some (up_to b)) = refl
lesser-comm (Some all) (Some all) = refl

pub lesser-assoc : (a b c : Option Meaning) → lesser (lesser a b) c ≡ lesser a (lesser b c)
lesser-assoc None b c = refl
lesser-assoc (Some (up_to a)) None c = refl
lesser-assoc (Some all) None c = refl
lesser-assoc (Some (up_to a)) (Some (up_to b)) None = refl
lesser-assoc (Some (up_to a)) (Some all) None = refl
lesser-assoc (Some all) (Some (up_to b)) None = refl
lesser-assoc (Some all) (Some all) None = refl
lesser-assoc (Some (up_to a)) (Some (up_to b)) (Some (up_to c)) = ap (λ n. Some (up_to n)) (omega arith)
lesser-assoc (Some (up_to a)) (Some (up_to b)) (Some all) = refl
lesser-assoc (Some (up_to a)) (Some all) (Some (up_to c)) = refl
lesser-assoc (Some (up_to a)) (Some all) (Some all) = refl
lesser-assoc (Some all) (Some (up_to b)) (Some (up_to c)) = refl
lesser-assoc (Some all) (Some (up_to b)) (Some all) = refl
lesser-assoc (Some all) (Some all) (Some (up_to c)) = refl
lesser-assoc (Some all) (Some all) (Some all) = refl

pub lesser-either : (a b : Option Meaning) → (lesser a b ≡ a) ⊎ (lesser a b ≡ b)
lesser-either None b = inl refl
lesser-either (Some (up_to a)) None = inr refl
lesser-either (Some all) None = inr refl
lesser-either (Some (up_to a)) (Some (up_to b)) = by (nat_lt a b) refl
  where
    by : (less : Bool) → nat_lt a b ≡ less → (lesser (Some (up_to a)) (Some (up_to b)) ≡ Some (up_to a)) ⊎ (lesser (Some (up_to a)) (Some (up_to b)) ≡ Some (up_to b))
    by true h = inl (ap (λ n. Some (up_to n)) (grind (arith, nat_tests, h)))
    by false h = inr (ap (λ n. Some (up_to n)) (grind (arith, nat_tests, h)))
lesser-either (Some (up_to a)) (Some all) = inl refl
lesser-either (Some all) (Some mark) = inr refl
