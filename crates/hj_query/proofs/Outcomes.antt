-- Reading as a relation: what stands at a place has a value with what is left behind it, or a fault, and exactly one of these.
use Rattle.std.proofs.Common.{◌≡◌, ◌⊎◌, inl, inr, List, ap, refl, sym, ◌∙◌, subst}
use Rattle.hj_query.specs.declared.fault.QueryFault.{QueryFault}
use Rattle.hj_query.specs.Lexemes.{Lexeme}

pub data Outcome (A : Type 0) : Type 0 where
  read : A → List Lexeme → Outcome A
  fault : QueryFault → Outcome A

-- exactly one
pub record IsOne {A : Type 0} (Gives : A → Type 0) : Type 0 where
  pub value : A
  pub gives : Gives value
  pub only : (other : A) → Gives other → other ≡ value

-- the same, told in another way
pub one_by : {A : Type 0} (P Q : A → Type 0) → ((a : A) → P a → Q a) → ((a : A) → Q a → P a) → IsOne P → IsOne Q
one_by P Q to from one = record { value = one.value; gives = to one.value one.gives; only = λ other q. one.only other (from other q) }

-- one reading, and then another behind it
abbrev pub Then : {A B : Type 0} → (Outcome A → Type 0) → (A → List Lexeme → Outcome B → Type 0) → Outcome B → Type 0
Then {A} {B} First Second o =
    ((found : QueryFault) × First (fault found) × (o ≡ fault found))
    ⊎ ((a : A) × ((rest : List Lexeme) × First (read a rest) × Second a rest o))

pub read_fault : {A : Type 0} (a : A) (rest : List Lexeme) (found : QueryFault) → (let x : Outcome A = read a rest in x ≡ fault found) → ⊥
read_fault a rest found e = cc

pub read_same : {A : Type 0} (a b : A) (rest more : List Lexeme) → (let x : Outcome A = read a rest in x ≡ read b more) → (a ≡ b) × (rest ≡ more)
read_same a b rest more e = (cc, cc)

pub fault_same : {A : Type 0} (f g : QueryFault) → (let x : Outcome A = fault f in x ≡ fault g) → f ≡ g
fault_same f g e = cc

then_at : {A B : Type 0} (First : Outcome A → Type 0) (Second : A → List Lexeme → Outcome B → Type 0) (first : Outcome A)
    → First first → ((other : Outcome A) → First other → other ≡ first) → ((a : A) (rest : List Lexeme) → First (read a rest) → IsOne (Second a rest)) → IsOne (Then First Second)
then_at {A} {B} First Second (fault found) gives only more = record {
  value = fault found;
  gives = inl (found, gives, refl);
  only = λ other h. elim h [
    | inl stop ↦ stop.2 ∙ ap (λ (f : QueryFault). fault f) (fault_same stop.0 found (only (fault stop.0) stop.1))
    | inr goes ↦ absurd (read_fault goes.0 goes.1.0 found (only (read goes.0 goes.1.0) goes.1.1))
  ];
}
then_at {A} {B} First Second (read a rest) gives only more =
    let one : IsOne (Second a rest) = more a rest gives in
    record {
      value = one.value;
      gives = inr (a, (rest, gives, one.gives));
      only = λ other h. elim h [
        | inl stop ↦ absurd (read_fault a rest stop.0 (sym (only (fault stop.0) stop.1)))
        | inr goes ↦
            let same : (goes.0 ≡ a) × (goes.1.0 ≡ rest) = read_same goes.0 a goes.1.0 rest (only (read goes.0 goes.1.0) goes.1.1) in
            one.only other (subst (λ r. Second a r other) same.1 (subst (λ x. Second x goes.1.0 other) same.0 goes.1.2))
      ];
    }

pub one_then : {A B : Type 0} (First : Outcome A → Type 0) (Second : A → List Lexeme → Outcome B → Type 0)
    → IsOne First → ((a : A) (rest : List Lexeme) → First (read a rest) → IsOne (Second a rest)) → IsOne (Then First Second)
one_then First Second one more = then_at First Second one.value one.gives one.only more

-- two of them are the same
pub one_same : {A : Type 0} (P : A → Type 0) → IsOne P → (a b : A) → P a → P b → b ≡ a
one_same P one a b p q = one.only b q ∙ sym (one.only a p)
