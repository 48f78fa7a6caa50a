-- Reading a sum, the longest that begins at a place.
use Rattle.std.proofs.Common.{◌≡◌, inl, inr, ◌<◌, Bool, true, false, ◌||◌, List, [], ◌∷◌, ◌++◌, length, codes, refl, sym, ap, subst, ◌∙◌, arith}
use Rattle.std.proofs.lemmas.Bool.{false≢true}
use Rattle.hj_base.specs.declared.numbers.Side.{Side}
use Rattle.hj_lex.specs.declared.token.TokenKind.TheVariants as kinds
use Rattle.hj_query.specs.declared.sum.Sum.{Sum}
use Rattle.hj_query.specs.declared.sum.Term.{Term}
use Rattle.hj_value.specs.declared.column.Column.{Column}
use Rattle.hj_query.specs.Faults.{FaultsSum, first_term, next_term}
use Rattle.hj_query.specs.Grammar.{EndsSum, IsSum, IsTerm, of_part, of_term, part_sign}
use Rattle.hj_query.specs.Lexemes.{Lexeme, behind, next_is, IsSign}
use Rattle.hj_query.proofs.Chains.{ChainGives, IsChain, chain_one, further, lone}
use Rattle.hj_query.proofs.Lists.{next_shorter}
use Rattle.hj_query.proofs.Outcomes.{IsOne, Outcome, fault, one_by, read}
use Rattle.hj_query.proofs.Sequences.{Follows, Is, follows_one, is_one}
use Rattle.hj_query.proofs.TermOutcomes.{TermGives, term_front, term_one, term_rest, term_shorter}
use Rattle.hj_query.proofs.TokenOutcomes.{AreSuited, next_other, suited_rest}

-- The sign of a further term.

-- a further term comes
abbrev pub goes : List Lexeme → Bool
goes here = next_is kinds.Sign (codes "+") here || next_is kinds.Sign (codes "-") here

-- whether it is added
abbrev SignGives : List Lexeme → Outcome Bool → Type 0
SignGives here (read plus next) = IsSign (part_sign plus) here next
SignGives here (fault found) = ⊥

same_plus : (plus other : Bool) (here next rest : List Lexeme) → IsSign (part_sign plus) here next → IsSign (part_sign other) here rest → other ≡ plus
same_plus true true here next rest s t = refl
same_plus true false here next rest s t = absurd (false≢true (sym (next_other _ _ (codes "-") here next s refl) ∙ t.found))
same_plus false true here next rest s t = absurd (false≢true (sym (next_other _ _ (codes "+") here next s refl) ∙ t.found))
same_plus false false here next rest s t = refl

sign_of : (plus : Bool) (here : List Lexeme) → next_is kinds.Sign (part_sign plus) here ≡ true → IsOne (SignGives here)
sign_of plus here e = let s : IsSign (part_sign plus) here (behind here) = record { found = e; left = refl } in
    record { value = read plus (behind here); gives = s; only = only s }
  where
    only : IsSign (part_sign plus) here (behind here) → (other : Outcome Bool) → SignGives here other → other ≡ read plus (behind here)
    only s (read more rest) t = ap (λ (r : List Lexeme). read more r) t.left ∙ ap (λ (b : Bool). read b (behind here)) (same_plus plus more here (behind here) rest s t)
    only s (fault found) t = absurd t

sign_one : (here : List Lexeme) → goes here ≡ true → IsOne (SignGives here)
sign_one here e = decided (next_is kinds.Sign (codes "+") here) refl e
  where
    decided : (b : Bool) → next_is kinds.Sign (codes "+") here ≡ b → (b || next_is kinds.Sign (codes "-") here) ≡ true → IsOne (SignGives here)
    decided true f g = sign_of true here f
    decided false f g = sign_of false here g

goes_on : (plus : Bool) (here next : List Lexeme) → IsSign (part_sign plus) here next → goes here ≡ true
goes_on true here next s = ap (λ b. b || next_is kinds.Sign (codes "-") here) s.found
goes_on false here next s = or_right (next_is kinds.Sign (codes "+") here) (next_is kinds.Sign (codes "-") here) s.found
  where
    or_right : (a b : Bool) → b ≡ true → (a || b) ≡ true
    or_right true b e = refl
    or_right false b e = e

ends : (here : List Lexeme) → goes here ≡ false → EndsSum here
ends here e = let p = both _ _ e in record { no_plus = p.0; no_minus = p.1 }
  where
    both : (a b : Bool) → (a || b) ≡ false → (a ≡ false) × (b ≡ false)
    both true b e = absurd (cc)
    both false b e = (refl, e)

stays : (here : List Lexeme) → EndsSum here → goes here ≡ false
stays here e = ap (λ b. b || next_is kinds.Sign (codes "-") here) e.no_plus ∙ e.no_minus

-- Sums as chains of terms.

abbrev alone : Term → Sum
alone term = record { first = term; rest = [] }

abbrev extended : Sum → Bool → Term → Sum
extended sum plus term = record { first = sum.first; rest = sum.rest ++ record { plus = plus; term = term } ∷ [] }

module _ (columns : Side → List Column) where
  abbrev FirstGives : List Lexeme → Outcome Sum → Type 0
  FirstGives here = Follows (TermGives columns here) (λ term rest. Is (alone term) rest)

  first_one : (here : List Lexeme) → AreSuited here → IsOne (FirstGives here)
  first_one here suited = follows_one (TermGives columns here) (λ term rest. Is (alone term) rest) (term_one columns here suited) (λ term rest t. is_one (alone term) rest)

  abbrev TermBehind : Sum → Bool → List Lexeme → Outcome Sum → Type 0
  TermBehind sum plus next = Follows (TermGives columns next) (λ term rest. Is (extended sum plus term) rest)

  abbrev StepGives : Sum → List Lexeme → Outcome Sum → Type 0
  StepGives sum here = Follows (SignGives here) (λ plus next. TermBehind sum plus next)

  step_one : (sum : Sum) (here : List Lexeme) → AreSuited here → goes here ≡ true → IsOne (StepGives sum here)
  step_one sum here suited e =
      follows_one (SignGives here) (λ plus next. TermBehind sum plus next) (sign_one here e) (λ plus next s.
      follows_one (TermGives columns next) (λ term rest. Is (extended sum plus term) rest) (term_one columns next (suited_rest _ _ here next s suited))
      (λ term rest t. is_one (extended sum plus term) rest))

  step_shorter : (sum : Sum) (here : List Lexeme) (more : Sum) (rest : List Lexeme) → StepGives sum here (read more rest) → length rest < length here
  step_shorter sum here more rest (plus, next, s, (term, end, t, (same, left))) =
      omega (arith, ap length left, next_shorter _ _ here next s, term_shorter columns next end term t)

  step_suited : (sum : Sum) (here : List Lexeme) (more : Sum) (rest : List Lexeme) → AreSuited here → StepGives sum here (read more rest) → AreSuited rest
  step_suited sum here more rest suited (plus, next, s, (term, end, t, (same, left))) =
      subst AreSuited (sym left) (term_rest columns next end term t (suited_rest _ _ here next s suited))

  -- a sum, or its first fault
  abbrev pub SumGives : List Lexeme → Outcome Sum → Type 0
  SumGives here (read sum rest) = IsSum columns here sum rest × EndsSum rest
  SumGives here (fault found) = FaultsSum columns here found

  abbrev SumChain : List Lexeme → Sum → List Lexeme → Type 0
  SumChain here sum rest = IsChain (FirstGives here) goes StepGives sum rest

  to_sum : (here : List Lexeme) (sum : Sum) (rest : List Lexeme) → SumChain here sum rest → IsSum columns here sum rest
  to_sum here sum rest (lone s r (term, next, t, (same, left))) = of_term term s r (subst (λ n. IsTerm columns here term n) (sym left) t) same
  to_sum here sum rest (further front sign s r chain e (plus, next, g, (term, end, t, (same, left)))) =
      of_part front plus term sign next s r (to_sum here front sign chain) g (subst (λ n. IsTerm columns next term n) (sym left) t) same

  from_sum : (here : List Lexeme) (sum : Sum) (rest : List Lexeme) → IsSum columns here sum rest → SumChain here sum rest
  from_sum here sum rest (of_term first s r t same) = lone s r (first, r, t, (same, refl))
  from_sum here sum rest (of_part front plus term sign next s r f g t same) =
      further front sign s r (from_sum here front sign f) (goes_on plus sign next g) (plus, next, g, (term, r, t, (same, refl)))

  to_gives : (here : List Lexeme) (o : Outcome Sum) → ChainGives (FirstGives here) goes StepGives o → SumGives here o
  to_gives here (read sum rest) (chain, e) = (to_sum here sum rest chain, ends rest e)
  to_gives here (fault found) (inl (inl t)) = first_term t
  to_gives here (fault found) (inl (inr (term, next, t, h))) = absurd h
  to_gives here (fault found) (inr (front, (sign, chain, e, inl h))) = absurd h
  to_gives here (fault found) (inr (front, (sign, chain, e, inr (plus, next, g, inl t)))) = next_term front plus sign next (to_sum here front sign chain) g t
  to_gives here (fault found) (inr (front, (sign, chain, e, inr (plus, next, g, inr (term, end, t, h))))) = absurd h

  from_gives : (here : List Lexeme) (o : Outcome Sum) → SumGives here o → ChainGives (FirstGives here) goes StepGives o
  from_gives here (read sum rest) (s, e) = (from_sum here sum rest s, stays rest e)
  from_gives here (fault found) (first_term t) = inl (inl t)
  from_gives here (fault found) (next_term front plus sign next s g t) =
      inr (front, (sign, from_sum here front sign s, goes_on plus sign next g, inr (plus, next, g, inl t)))

  first_suited : (here : List Lexeme) → AreSuited here → (sum : Sum) (rest : List Lexeme) → FirstGives here (read sum rest) → AreSuited rest
  first_suited here suited sum rest (term, next, t, (same, left)) = subst AreSuited (sym left) (term_rest columns here next term t suited)

  pub sum_one : (here : List Lexeme) → AreSuited here → IsOne (SumGives here)
  sum_one here suited =
      one_by (ChainGives (FirstGives here) goes StepGives) (SumGives here) (λ o c. to_gives here o c) (λ o s. from_gives here o s)
      (chain_one goes StepGives AreSuited step_one step_shorter step_suited (FirstGives here) (first_one here suited) (λ sum rest f. first_suited here suited sum rest f))

  -- what a sum leaves

  pub sum_rest : (here : List Lexeme) (sum : Sum) (rest : List Lexeme) → IsSum columns here sum rest → AreSuited here → AreSuited rest
  sum_rest here sum rest (of_term first s r t same) suited = term_rest columns here r first t suited
  sum_rest here sum rest (of_part front plus term sign next s r f g t same) suited =
      term_rest columns next r term t (suited_rest _ _ sign next g (sum_rest here front sign f suited))

  pub sum_shorter : (here : List Lexeme) (sum : Sum) (rest : List Lexeme) → IsSum columns here sum rest → length rest < length here
  sum_shorter here sum rest (of_term first s r t same) = term_shorter columns here r first t
  sum_shorter here sum rest (of_part front plus term sign next s r f g t same) =
      omega (arith, sum_shorter here front sign f, next_shorter _ _ sign next g, term_shorter columns next r term t)

  -- no `not` and no `(` begins a sum
  pub sum_front : (here : List Lexeme) (sum : Sum) (rest : List Lexeme) → IsSum columns here sum rest
      → (next_is kinds.Name (codes "not") here ≡ false) × (next_is kinds.Sign (codes "(") here ≡ false)
  sum_front here sum rest (of_term first s r t same) = term_front columns here r first t
  sum_front here sum rest (of_part front plus term sign next s r f g t same) = sum_front here front sign f
