-- Readings made of others: a token and what comes behind it, one reading behind another, and the choice by the first token.
use Rattle.std.proofs.Common.{◌≡◌, ◌⊎◌, inl, inr, ℕ, Bool, true, false, ◌&&◌, cond, List, [], ◌∷◌, refl, sym, ap, subst, ◌∙◌}
use Rattle.std.specs.Str.{bytes_eq}
use Rattle.std.proofs.lemmas.Bool.{false≢true}
use Rattle.std.proofs.lemmas.Slice.Eq.{bytes_eq-Decides}
use Rattle.hj_lex.specs.declared.token.TokenKind.{TokenKind}
use Rattle.hj_query.specs.declared.fault.QueryFault.{QueryFault}
use Rattle.hj_query.specs.Lexemes.{Lexeme, behind, next_is, IsNextToken}
use Rattle.hj_query.proofs.Lists.{bytes_same, kind_same}
use Rattle.hj_query.proofs.Outcomes.{IsOne, Outcome, Then, fault, one_by, one_then, read}
use Rattle.hj_query.proofs.TokenOutcomes.{next_same}

-- Ends.

-- a value, with nothing more read
abbrev pub Is : {A : Type 0} → A → List Lexeme → Outcome A → Type 0
Is a here (read value rest) = (value ≡ a) × (rest ≡ here)
Is a here (fault found) = ⊥

pub is_one : {A : Type 0} (a : A) (here : List Lexeme) → IsOne (Is a here)
is_one {A} a here = record { value = read a here; gives = (refl, refl); only = only }
  where
    only : (other : Outcome A) → Is a here other → other ≡ read a here
    only (read value rest) h = ap (λ (v : A). read v rest) h.0 ∙ ap (λ (r : List Lexeme). read a r) h.1
    only (fault found) h = absurd h

-- a fault
abbrev pub Faults : {A : Type 0} → QueryFault → Outcome A → Type 0
Faults first (read value rest) = ⊥
Faults first (fault found) = found ≡ first

pub faults_one : {A : Type 0} (first : QueryFault) → IsOne (Faults {A = A} first)
faults_one {A} first = record { value = fault first; gives = refl; only = only }
  where
    only : (other : Outcome A) → Faults first other → other ≡ fault first
    only (read value rest) h = absurd h
    only (fault found) h = ap (λ (f : QueryFault). fault f) h

-- a value if a test says so, and otherwise a fault
abbrev pub Passes : {A : Type 0} → Bool → A → List Lexeme → QueryFault → Outcome A → Type 0
Passes test a here first (read value rest) = (test ≡ true) × (value ≡ a) × (rest ≡ here)
Passes test a here first (fault found) = (test ≡ false) × (found ≡ first)

-- a test doesn't say both
pub true_false : (b : Bool) → b ≡ true → b ≡ false → ⊥
true_false b t f = false≢true (sym f ∙ t)

pub passes_one : {A : Type 0} (test : Bool) (a : A) (here : List Lexeme) (first : QueryFault) → IsOne (Passes test a here first)
passes_one {A} test a here first = decided test refl
  where
    decided : (b : Bool) → test ≡ b → IsOne (Passes test a here first)
    decided true e = one_by (Is a here) (Passes test a here first) to from (is_one a here)
      where
        to : (o : Outcome A) → Is a here o → Passes test a here first o
        to (read value rest) h = (e, h.0, h.1)
        to (fault found) h = absurd h

        from : (o : Outcome A) → Passes test a here first o → Is a here o
        from (read value rest) h = (h.1, h.2)
        from (fault found) h = true_false test e h.0
    decided false e = one_by (Faults first) (Passes test a here first) to from (faults_one first)
      where
        to : (o : Outcome A) → Faults first o → Passes test a here first o
        to (read value rest) h = absurd h
        to (fault found) h = (e, h)

        from : (o : Outcome A) → Passes test a here first o → Faults first o
        from (read value rest) h = absurd (true_false test h.0 e)
        from (fault found) h = h.1

-- One reading behind another.

abbrev pub Follows : {A B : Type 0} → (Outcome A → Type 0) → (A → List Lexeme → Outcome B → Type 0) → Outcome B → Type 0
Follows {A} {B} First Second (read b rest) = (a : A) × (next : List Lexeme) × First (read a next) × Second a next (read b rest)
Follows {A} {B} First Second (fault found) =
    First (fault found) ⊎ ((a : A) × (next : List Lexeme) × First (read a next) × Second a next (fault found))

module _ {A B : Type 0} (First : Outcome A → Type 0) (Second : A → List Lexeme → Outcome B → Type 0) where
  then_follows : (o : Outcome B) → Then First Second o → Follows First Second o
  then_follows (read b rest) (inl stop) = let e : (let o : Outcome B = read b rest in o ≡ fault stop.0) = stop.2 in absurd cc
  then_follows (read b rest) (inr more) = (more.0, more.1.0, more.1.1, more.1.2)
  then_follows (fault found) (inl stop) =
      let e : (let o : Outcome B = fault found in o ≡ fault stop.0) = stop.2 in
      let same : found ≡ stop.0 = cc in
      inl (subst (λ (f : QueryFault). First (fault f)) (sym same) stop.1)
  then_follows (fault found) (inr more) = inr (more.0, more.1.0, more.1.1, more.1.2)

  follows_then : (o : Outcome B) → Follows First Second o → Then First Second o
  follows_then (read b rest) more = inr (more.0, (more.1, more.2, more.3))
  follows_then (fault found) (inl first) = inl (found, first, refl)
  follows_then (fault found) (inr more) = inr (more.0, (more.1, more.2, more.3))

  pub follows_one : IsOne First → ((a : A) (next : List Lexeme) → First (read a next) → IsOne (Second a next)) → IsOne (Follows First Second)
  follows_one first second = one_by (Then First Second) (Follows First Second) then_follows follows_then (one_then First Second first second)

-- Behind a token that comes.

abbrev pub Behind : {A : Type 0} → TokenKind → List ℕ → List Lexeme → (List Lexeme → Outcome A → Type 0) → Outcome A → Type 0
Behind kind bytes here Next o = (next : List Lexeme) × IsNextToken kind bytes here next × Next next o

pub behind_one : {A : Type 0} (kind : TokenKind) (bytes : List ℕ) (here : List Lexeme) (Next : List Lexeme → Outcome A → Type 0) → next_is kind bytes here ≡ true
    → ((next : List Lexeme) → IsNextToken kind bytes here next → IsOne (Next next)) → IsOne (Behind kind bytes here Next)
behind_one kind bytes here Next e next =
    let n : IsNextToken kind bytes here (behind here) = record { found = e; left = refl } in
    let one = next (behind here) n in
    record { value = one.value; gives = (behind here, n, one.gives); only = λ other h. one.only other (subst (λ r. Next r other) h.1.left h.2) }

-- The choice by the first token.

unfoldable pub front : {I : Type 0} → (TokenKind → List ℕ → I) → I → List Lexeme → I
front choose otherwise [] = otherwise
front choose otherwise (next ∷ rest) = choose next.kind next.bytes

first_same : (kind : TokenKind) (bytes : List ℕ) (next : Lexeme) (rest : List Lexeme) → next_is kind bytes (next ∷ rest) ≡ true → (next.kind ≡ kind) × (next.bytes ≡ bytes)
unfolding next_is
first_same kind bytes next rest h =
    next_same kind next.kind bytes next.bytes (next ∷ rest) h (ap (λ b. b && bytes_eq next.bytes next.bytes) (kind_same next.kind) ∙ bytes_same next.bytes)

lacks_any : (kind : TokenKind) (bytes : List ℕ) → next_is kind bytes [] ≡ true → ⊥
unfolding next_is
lacks_any kind bytes h = false≢true h

pub front_is : {I : Type 0} (choose : TokenKind → List ℕ → I) (otherwise : I) (kind : TokenKind) (bytes : List ℕ) (here : List Lexeme) → next_is kind bytes here ≡ true
    → front choose otherwise here ≡ choose kind bytes
unfolding front
front_is choose otherwise kind bytes [] h = absurd (lacks_any kind bytes h)
front_is choose otherwise kind bytes (next ∷ rest) h =
    let p = first_same kind bytes next rest h in
    ap (λ k. choose k next.bytes) p.0 ∙ ap (choose kind) p.1

first_found : (next : Lexeme) (rest : List Lexeme) → next_is next.kind next.bytes (next ∷ rest) ≡ true
unfolding next_is
first_found next rest = ap (λ b. b && bytes_eq next.bytes next.bytes) (kind_same next.kind) ∙ bytes_same next.bytes

-- what holds of each choice that a token leads to
pub front_by : {I : Type 0} (choose : TokenKind → List ℕ → I) (otherwise : I) (Holds : I → List Lexeme → Type 0) → Holds otherwise []
    → ((kind : TokenKind) (bytes : List ℕ) (here : List Lexeme) → IsNextToken kind bytes here (behind here) → Holds (choose kind bytes) here)
    → (here : List Lexeme) → Holds (front choose otherwise here) here
unfolding front behind
front_by choose otherwise Holds none some [] = none
front_by choose otherwise Holds none some (next ∷ rest) = some next.kind next.bytes (next ∷ rest) (record { found = first_found next rest; left = refl })

same_bytes : (a b : List ℕ) → bytes_eq a b ≡ true → a ≡ b
same_bytes a b h = (bytes_eq-Decides a b).0 h

-- bytes that are tested for lead to their choice, or to another
pub tested : {I : Type 0} (Holds : I → List Lexeme → Type 0) (kind : TokenKind) (word bytes : List ℕ) (here : List Lexeme) (some other : I) → IsNextToken kind bytes here (behind here)
    → (next_is kind word here ≡ true → Holds some here) → Holds other here → Holds (cond (bytes_eq bytes word) some other) here
tested Holds kind word bytes here some other n found lacks = decided (bytes_eq bytes word) refl
  where
    decided : (b : Bool) → bytes_eq bytes word ≡ b → Holds (cond b some other) here
    decided true e = found (subst (λ w. next_is kind w here ≡ true) (same_bytes bytes word e) n.found)
    decided false e = lacks
