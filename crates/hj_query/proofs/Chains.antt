-- Chains: a first part, and further ones as long as a test on what comes next says so. A complete chain has exactly one outcome.
use Rattle.std.proofs.Common.{◌≡◌, ◌⊎◌, inl, inr, ℕ, zero, suc, ◌<◌, ◌≤◌, Bool, true, false, List, length, refl, subst, sym, ◌∙◌, arith}
use Rattle.std.proofs.lemmas.Bool.{false≢true}
use Rattle.hj_query.specs.declared.fault.QueryFault.{QueryFault}
use Rattle.hj_query.specs.Lexemes.{Lexeme}
use Rattle.hj_query.proofs.Outcomes.{IsOne, Outcome, Then, fault, one_by, one_then, read}

-- Whether a further part comes is said of a place by `goes`. From a state and a place each step reads a further part, with its separator.

-- some parts of a chain: what they come to, and what is left behind them
pub data IsChain {S : Type 0} (First : Outcome S → Type 0) (goes : List Lexeme → Bool) (Step : S → List Lexeme → Outcome S → Type 0) : S → List Lexeme → Type 0 where
  lone : (state : S) (rest : List Lexeme) → First (read state rest) → IsChain First goes Step state rest
  further : (front : S) (sign : List Lexeme) (state : S) (rest : List Lexeme) → IsChain First goes Step front sign
      → goes sign ≡ true → Step front sign (read state rest) → IsChain First goes Step state rest

-- all parts of a chain, or the fault of its first part, or that of a further one
abbrev pub ChainGives : {S : Type 0} → (Outcome S → Type 0) → (List Lexeme → Bool) → (S → List Lexeme → Outcome S → Type 0) → Outcome S → Type 0
ChainGives {S} First goes Step (read state rest) = IsChain First goes Step state rest × (goes rest ≡ false)
ChainGives {S} First goes Step (fault found) =
    First (fault found)
    ⊎ ((front : S) × ((sign : List Lexeme) × IsChain First goes Step front sign × (goes sign ≡ true) × Step front sign (fault found)))

-- how a chain goes on from a state
data GoesOn {S : Type 0} (goes : List Lexeme → Bool) (Step : S → List Lexeme → Outcome S → Type 0) (end : Outcome S) : S → List Lexeme → Type 0 where
  ends : (state : S) (here : List Lexeme) → goes here ≡ false → end ≡ read state here → GoesOn goes Step end state here
  stops : (state : S) (here : List Lexeme) (found : QueryFault) → goes here ≡ true → Step state here (fault found) → end ≡ fault found → GoesOn goes Step end state here
  steps : (state : S) (here : List Lexeme) (next : S) (rest : List Lexeme) → goes here ≡ true → Step state here (read next rest) → GoesOn goes Step end next rest
      → GoesOn goes Step end state here

abbrev GoesTo : {S : Type 0} → (List Lexeme → Bool) → (S → List Lexeme → Outcome S → Type 0) → S → List Lexeme → Outcome S → Type 0
GoesTo goes Step state here end = GoesOn goes Step end state here

true_false : (b : Bool) → b ≡ true → b ≡ false → ⊥
true_false b t f = false≢true (sym f ∙ t)

module _ {S : Type 0} (goes : List Lexeme → Bool) (Step : S → List Lexeme → Outcome S → Type 0) where
  at_end : (state : S) (here : List Lexeme) → goes here ≡ false → IsOne (GoesTo goes Step state here)
  at_end state here e = record { value = read state here; gives = ends state here e refl; only = λ other h. only other state here e h }
    where
      only : (other : Outcome S) (state : S) (here : List Lexeme) → goes here ≡ false → GoesOn goes Step other state here → other ≡ read state here
      only other state here e (ends s h f same) = same
      only other state here e (stops s h found f step same) = absurd (true_false _ f e)
      only other state here e (steps s h next rest f step more) = absurd (true_false _ f e)

  to_steps : (state : S) (here : List Lexeme) (end : Outcome S) → goes here ≡ true → Then (Step state here) (GoesTo goes Step) end → GoesOn goes Step end state here
  to_steps state here end e (inl stop) = stops state here stop.0 e stop.1 stop.2
  to_steps state here end e (inr more) = steps state here more.0 more.1.0 e more.1.1 more.1.2

  from_steps : (state : S) (here : List Lexeme) (end : Outcome S) → goes here ≡ true → GoesOn goes Step end state here → Then (Step state here) (GoesTo goes Step) end
  from_steps state here end e (ends s h f same) = absurd (true_false _ e f)
  from_steps state here end e (stops s h found f step same) = inl (found, step, same)
  from_steps state here end e (steps s h next rest f step more) = inr (next, (rest, step, more))

  -- A chain goes on from its first part.

  chain_on : (First : Outcome S → Type 0) (end : Outcome S) (state : S) (here : List Lexeme) → IsChain First goes Step state here → GoesOn goes Step end state here
      → ChainGives First goes Step end
  chain_on First end state here chain (ends s h e same) = subst (ChainGives First goes Step) (sym same) (chain, e)
  chain_on First end state here chain (stops s h found e step same) = subst (ChainGives First goes Step) (sym same) (inr (state, (here, chain, e, step)))
  chain_on First end state here chain (steps s h next rest e step more) = chain_on First end next rest (further state here next rest chain e step) more

  to_chain : (First : Outcome S → Type 0) (end : Outcome S) → Then First (GoesTo goes Step) end → ChainGives First goes Step end
  to_chain First end (inl stop) = subst (ChainGives First goes Step) (sym stop.2) (inl stop.1)
  to_chain First end (inr more) = chain_on First end more.0 more.1.0 (lone more.0 more.1.0 more.1.1) more.1.2

  back : (First : Outcome S → Type 0) (end : Outcome S) (state : S) (here : List Lexeme) → IsChain First goes Step state here → GoesOn goes Step end state here
      → Then First (GoesTo goes Step) end
  back First end state here (lone s rest first) g = inr (state, (here, first, g))
  back First end state here (further front sign s rest chain e step) g = back First end front sign chain (steps front sign state here e step g)

  from_chain : (First : Outcome S → Type 0) (end : Outcome S) → ChainGives First goes Step end → Then First (GoesTo goes Step) end
  from_chain First (read state rest) h = back First (read state rest) state rest h.0 (ends state rest h.1 refl)
  from_chain First (fault found) (inl first) = inl (found, first, refl)
  from_chain First (fault found) (inr h) = back First (fault found) h.0 h.1.0 h.1.1 (stops h.0 h.1.0 found h.1.2 h.1.3 refl)

  -- What a chain asks of its parts: each has one outcome, and each further one leaves less than there was. `Holds` is what else is known of places.
  module _ (Holds : List Lexeme → Type 0)
      (one : (state : S) (here : List Lexeme) → Holds here → goes here ≡ true → IsOne (Step state here))
      (shorter : (state : S) (here : List Lexeme) (next : S) (rest : List Lexeme) → Step state here (read next rest) → length rest < length here)
      (holds : (state : S) (here : List Lexeme) (next : S) (rest : List Lexeme) → Holds here → Step state here (read next rest) → Holds rest) where
    goes_at : (b : Bool) (state : S) (here : List Lexeme) → goes here ≡ b → Holds here
        → ((next : S) (rest : List Lexeme) → length rest < length here → Holds rest → IsOne (GoesTo goes Step next rest)) → IsOne (GoesTo goes Step state here)
    goes_at false state here e h more = at_end state here e
    goes_at true state here e h more =
        one_by (Then (Step state here) (GoesTo goes Step)) (GoesTo goes Step state here) (λ end t. to_steps state here end e t) (λ end g. from_steps state here end e g)
        (one_then (Step state here) (GoesTo goes Step) (one state here h e)
        (λ next rest step. more next rest (shorter state here next rest step) (holds state here next rest h step)))

    goes_one : (most : ℕ) (state : S) (here : List Lexeme) → length here ≤ most → Holds here → IsOne (GoesTo goes Step state here)
    goes_one zero state here le h = goes_at (goes here) state here refl h (λ next rest lt known. absurd (omega (arith, le, lt)))
    goes_one (suc most) state here le h = goes_at (goes here) state here refl h (λ next rest lt known. goes_one most next rest (omega (arith, le, lt)) known)

    pub chain_one : (First : Outcome S → Type 0) → IsOne First → ((state : S) (rest : List Lexeme) → First (read state rest) → Holds rest) → IsOne (ChainGives First goes Step)
    chain_one First first known =
        one_by (Then First (GoesTo goes Step)) (ChainGives First goes Step) (λ end t. to_chain First end t) (λ end c. from_chain First end c)
        (one_then First (GoesTo goes Step) first (λ state rest f. goes_one (length rest) state rest (omega arith) (known state rest f)))
