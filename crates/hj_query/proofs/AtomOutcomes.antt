-- Reading a comparison or a distance, or its first fault.
use Rattle.std.proofs.Common.{◌≡◌, inl, inr, ℕ, ◌<◌, true, false, cond, List, length, codes, refl, sym, subst, arith}
use Rattle.std.specs.Str.{bytes_eq}
use Rattle.std.proofs.lemmas.Bool.{false_from_ne_true}
use Rattle.hj_base.specs.declared.numbers.Side.{Side}
use Rattle.hj_lex.specs.declared.token.TokenKind.{TokenKind}
use Rattle.hj_lex.specs.declared.token.TokenKind.TheVariants as kinds
use Rattle.hj_query.specs.declared.fault.QueryFault.TheVariants as faults
use Rattle.hj_query.specs.declared.fault.Wanted.TheVariants as wants
use Rattle.hj_query.specs.declared.pred.Op.{Op}
use Rattle.hj_query.specs.declared.pred.Op.TheVariants as ops
use Rattle.hj_query.specs.declared.pred.Pred.{Pred, Compare, Within}
use Rattle.hj_query.specs.declared.sum.Sum.{Sum}
use Rattle.hj_value.specs.declared.column.Column.{Column}
use Rattle.hj_query.specs.Faults.{FaultsAtom, LacksComparison, compared_types, distant_sum, distant_types, left_sum, no_comparison, no_distance, no_of, right_sum}
use Rattle.hj_query.specs.Grammar.{EndsSum, IsAtom, IsSum, can_compare, can_subtract, compared, distant, op_sign}
use Rattle.hj_query.specs.Lexemes.{Lexeme, behind, next_is, place, IsNextToken, IsSign, IsWord}
use Rattle.hj_query.proofs.Lists.{next_shorter}
use Rattle.hj_query.proofs.Outcomes.{IsOne, Outcome, fault, one_by, read}
use Rattle.hj_query.proofs.Sequences.{Behind, Faults, Follows, Passes, behind_one, faults_one, follows_one, front, front_by, front_is, passes_one, tested, true_false}
use Rattle.hj_query.proofs.SumOutcomes.{SumGives, sum_front, sum_one, sum_rest, sum_shorter}
use Rattle.hj_query.proofs.TokenOutcomes.{AreSuited, NumberGives, WordGives, next_other, next_other_kind, number_one, suited_rest, word_one}

-- What comes behind the first sum.

data Joint : Type 0 where
  by_op : Op → Joint
  by_within : Joint
  by_nothing : Joint

abbrev choose_joint : TokenKind → List ℕ → Joint
choose_joint kinds.Name bytes = cond (bytes_eq bytes (codes "within")) by_within by_nothing
choose_joint kinds.Number bytes = by_nothing
choose_joint kinds.Text bytes = by_nothing
choose_joint kinds.Sign bytes =
    cond (bytes_eq bytes (codes "=")) (by_op ops.Eq) (cond (bytes_eq bytes (codes "!=")) (by_op ops.Ne) (cond (bytes_eq bytes (codes "<")) (by_op ops.Lt)
    (cond (bytes_eq bytes (codes "<=")) (by_op ops.Le) (cond (bytes_eq bytes (codes ">")) (by_op ops.Gt) (cond (bytes_eq bytes (codes ">=")) (by_op ops.Ge) by_nothing)))))

abbrev joint_of : List Lexeme → Joint
joint_of here = front choose_joint by_nothing here

op_joins : (op : Op) (here : List Lexeme) → next_is kinds.Sign (op_sign op) here ≡ true → joint_of here ≡ by_op op
op_joins ops.Eq here h = front_is choose_joint by_nothing kinds.Sign (codes "=") here h
op_joins ops.Ne here h = front_is choose_joint by_nothing kinds.Sign (codes "!=") here h
op_joins ops.Lt here h = front_is choose_joint by_nothing kinds.Sign (codes "<") here h
op_joins ops.Le here h = front_is choose_joint by_nothing kinds.Sign (codes "<=") here h
op_joins ops.Gt here h = front_is choose_joint by_nothing kinds.Sign (codes ">") here h
op_joins ops.Ge here h = front_is choose_joint by_nothing kinds.Sign (codes ">=") here h

within_joins : (here : List Lexeme) → next_is kinds.Name (codes "within") here ≡ true → joint_of here ≡ by_within
within_joins here h = front_is choose_joint by_nothing kinds.Name (codes "within") here h

-- what a joint says of the tokens
abbrev Joins : Joint → List Lexeme → Type 0
Joins (by_op op) here = next_is kinds.Sign (op_sign op) here ≡ true
Joins by_within here = next_is kinds.Name (codes "within") here ≡ true
Joins by_nothing here = Unit {0}

op_tested : (op : Op) (bytes : List ℕ) (here : List Lexeme) (other : Joint) → IsNextToken kinds.Sign bytes here (behind here)
    → Joins other here
    → Joins (cond (bytes_eq bytes (op_sign op)) (by_op op) other) here
op_tested op bytes here other n j = tested Joins kinds.Sign (op_sign op) bytes here (by_op op) other n (λ h. h) j

joins : (here : List Lexeme) → Joins (joint_of here) here
joins = front_by choose_joint by_nothing Joins tt some
  where
    some : (kind : TokenKind) (bytes : List ℕ) (here : List Lexeme) → IsNextToken kind bytes here (behind here) → Joins (choose_joint kind bytes) here
    some kinds.Name bytes here n = tested Joins kinds.Name (codes "within") bytes here by_within by_nothing n (λ h. h) tt
    some kinds.Number bytes here n = tt
    some kinds.Text bytes here n = tt
    some kinds.Sign bytes here n =
        op_tested ops.Eq bytes here _ n (op_tested ops.Ne bytes here _ n (op_tested ops.Lt bytes here _ n
        (op_tested ops.Le bytes here _ n (op_tested ops.Gt bytes here _ n (op_tested ops.Ge bytes here by_nothing n tt)))))

lacks_joint : (here : List Lexeme) → joint_of here ≡ by_nothing → LacksComparison here
lacks_joint here e = record {
  no_op = λ op. false_from_ne_true _ (λ h. let f = op_joins op here h in absurd (cc));
  no_within = false_from_ne_true _ (λ h. let f = within_joins here h in absurd (cc));
}

lacking_joint : (here : List Lexeme) → LacksComparison here → joint_of here ≡ by_nothing
lacking_joint here l = decided (joint_of here) (joins here)
  where
    decided : (joint : Joint) → Joins joint here → joint ≡ by_nothing
    decided (by_op op) h = absurd (true_false _ h (l.no_op op))
    decided by_within h = absurd (true_false _ h l.no_within)
    decided by_nothing h = refl

-- A sum ends before a joint.

op_ends : (op : Op) (sign next : List Lexeme) → IsSign (op_sign op) sign next → EndsSum sign
op_ends op sign next s = record { no_plus = next_other _ _ (codes "+") sign next s (no_plus op); no_minus = next_other _ _ (codes "-") sign next s (no_minus op) }
  where
    no_plus : (op : Op) → bytes_eq (codes "+") (op_sign op) ≡ false
    no_plus ops.Eq = refl
    no_plus ops.Ne = refl
    no_plus ops.Lt = refl
    no_plus ops.Le = refl
    no_plus ops.Gt = refl
    no_plus ops.Ge = refl

    no_minus : (op : Op) → bytes_eq (codes "-") (op_sign op) ≡ false
    no_minus ops.Eq = refl
    no_minus ops.Ne = refl
    no_minus ops.Lt = refl
    no_minus ops.Le = refl
    no_minus ops.Gt = refl
    no_minus ops.Ge = refl

within_ends : (word next : List Lexeme) → IsWord (codes "within") word next → EndsSum word
within_ends word next w = record { no_plus = next_other_kind _ kinds.Sign _ (codes "+") word next w refl; no_minus = next_other_kind _ kinds.Sign _ (codes "-") word next w refl }

-- An atom by its joint.

module _ (columns : Side → List Column) where
  abbrev ComparedGives : List Lexeme → Op → Sum → List Lexeme → Outcome Pred → Type 0
  ComparedGives here op left next = Follows (SumGives columns next) (λ right rest. Passes (can_compare columns left right) (Compare op left right) rest (faults.Types (place here)))

  compared_one : (here : List Lexeme) (op : Op) (left : Sum) (next : List Lexeme) → AreSuited next → IsOne (ComparedGives here op left next)
  compared_one here op left next suited =
      follows_one (SumGives columns next) (λ right rest. Passes (can_compare columns left right) (Compare op left right) rest (faults.Types (place here)))
      (sum_one columns next suited) (λ right rest s. passes_one (can_compare columns left right) (Compare op left right) rest (faults.Types (place here)))

  -- the second sum of a distance
  abbrev SubtractedGives : List Lexeme → ℕ → Sum → List Lexeme → Outcome Pred → Type 0
  SubtractedGives here distance left next =
      Follows (SumGives columns next) (λ right rest. Passes (can_subtract columns left right) (Within distance left right) rest (faults.Types (place here)))

  subtracted_one : (here : List Lexeme) (distance : ℕ) (left : Sum) (next : List Lexeme) → AreSuited next → IsOne (SubtractedGives here distance left next)
  subtracted_one here distance left next suited =
      follows_one (SumGives columns next) (λ right rest. Passes (can_subtract columns left right) (Within distance left right) rest (faults.Types (place here)))
      (sum_one columns next suited) (λ right rest s. passes_one (can_subtract columns left right) (Within distance left right) rest (faults.Types (place here)))

  -- the word `of`, and the second sum
  abbrev OfGives : List Lexeme → ℕ → Sum → List Lexeme → Outcome Pred → Type 0
  OfGives here distance left of = Follows (WordGives (codes "of") wants.OfWord of) (λ token next. SubtractedGives here distance left next)

  of_one : (here : List Lexeme) (distance : ℕ) (left : Sum) (of : List Lexeme) → AreSuited of → IsOne (OfGives here distance left of)
  of_one here distance left of suited =
      follows_one (WordGives (codes "of") wants.OfWord of) (λ token next. SubtractedGives here distance left next) (word_one (codes "of") wants.OfWord of)
      (λ token next w. subtracted_one here distance left next (suited_rest _ _ of next w suited))

  abbrev DistanceGives : List Lexeme → Sum → List Lexeme → Outcome Pred → Type 0
  DistanceGives here left number = Follows (NumberGives wants.Number number) (λ distance of. OfGives here distance left of)

  distance_one : (here : List Lexeme) (left : Sum) (number : List Lexeme) → AreSuited number → IsOne (DistanceGives here left number)
  distance_one here left number suited =
      follows_one (NumberGives wants.Number number) (λ distance of. OfGives here distance left of) (number_one wants.Number number)
      (λ distance of n. of_one here distance left of (suited_rest _ _ number of n.found suited))

  abbrev JoinedGives : Joint → List Lexeme → Sum → List Lexeme → Outcome Pred → Type 0
  JoinedGives (by_op op) here left sign = Behind kinds.Sign (op_sign op) sign (λ next. ComparedGives here op left next)
  JoinedGives by_within here left sign = Behind kinds.Name (codes "within") sign (λ number. DistanceGives here left number)
  JoinedGives by_nothing here left sign = Faults (faults.Expected wants.Comparison (place sign))

  joined_one : (joint : Joint) (here : List Lexeme) (left : Sum) (sign : List Lexeme) → Joins joint sign → AreSuited sign → IsOne (JoinedGives joint here left sign)
  joined_one (by_op op) here left sign h suited =
      behind_one kinds.Sign (op_sign op) sign (λ next. ComparedGives here op left next) h (λ next s. compared_one here op left next (suited_rest _ _ sign next s suited))
  joined_one by_within here left sign h suited =
      behind_one kinds.Name (codes "within") sign (λ number. DistanceGives here left number) h (λ number w. distance_one here left number (suited_rest _ _ sign number w suited))
  joined_one by_nothing here left sign h suited = faults_one (faults.Expected wants.Comparison (place sign))

  abbrev SidesGives : List Lexeme → Outcome Pred → Type 0
  SidesGives here = Follows (SumGives columns here) (λ left sign. JoinedGives (joint_of sign) here left sign)

  sides_one : (here : List Lexeme) → AreSuited here → IsOne (SidesGives here)
  sides_one here suited =
      follows_one (SumGives columns here) (λ left sign. JoinedGives (joint_of sign) here left sign) (sum_one columns here suited)
      (λ left sign s. joined_one (joint_of sign) here left sign (joins sign) (sum_rest columns here left sign s.0 suited))

  -- an atom, or its first fault
  abbrev pub AtomGives : List Lexeme → Outcome Pred → Type 0
  AtomGives here (read pred rest) = IsAtom columns here pred rest
  AtomGives here (fault found) = FaultsAtom columns here found

  to_joined : (joint : Joint) (here : List Lexeme) (left : Sum) (sign : List Lexeme) → IsSum columns here left sign → EndsSum sign → joint_of sign ≡ joint → (o : Outcome Pred)
      → JoinedGives joint here left sign o → AtomGives here o
  to_joined (by_op op) here left sign l z e (read pred rest) (next, s, (right, end, (r, ends), (test, same, gone))) =
      compared op left right sign next l s (subst (λ n. IsSum columns next right n) (sym gone) r) (subst EndsSum (sym gone) ends) test same
  to_joined (by_op op) here left sign l z e (fault found) (next, s, inl r) = right_sum op left sign next l s r
  to_joined (by_op op) here left sign l z e (fault found) (next, s, inr (right, end, (r, ends), (test, same))) = compared_types op left right sign next end l s r ends test same
  to_joined by_within here left sign l z e (read pred rest) (number, w, (distance, of, n, (token, next, o, (right, end, (r, ends), (test, same, gone))))) =
      distant distance left right sign number of next l w n o (subst (λ n. IsSum columns next right n) (sym gone) r) (subst EndsSum (sym gone) ends) test same
  to_joined by_within here left sign l z e (fault found) (number, w, inl (lacks, same)) = no_distance left sign number l w lacks same
  to_joined by_within here left sign l z e (fault found) (number, w, inr (distance, of, n, inl (lacks, same))) = no_of distance left sign number of l w n lacks same
  to_joined by_within here left sign l z e (fault found) (number, w, inr (distance, of, n, inr (token, next, o, inl r))) = distant_sum distance left sign number of next l w n o r
  to_joined by_within here left sign l z e (fault found) (number, w, inr (distance, of, n, inr (token, next, o, inr (right, end, (r, ends), (test, same))))) =
      distant_types distance left right sign number of next end l w n o r ends test same
  to_joined by_nothing here left sign l z e (read pred rest) h = absurd h
  to_joined by_nothing here left sign l z e (fault found) same = no_comparison left sign l z (lacks_joint sign e) same

  to_atom : (here : List Lexeme) (o : Outcome Pred) → SidesGives here o → AtomGives here o
  to_atom here (read pred rest) (left, sign, (l, z), j) = to_joined (joint_of sign) here left sign l z refl (read pred rest) j
  to_atom here (fault found) (inl l) = left_sum l
  to_atom here (fault found) (inr (left, sign, (l, z), j)) = to_joined (joint_of sign) here left sign l z refl (fault found) j

  -- the joint of what was read
  joined : (joint : Joint) (here : List Lexeme) (left : Sum) (sign : List Lexeme) (o : Outcome Pred) → joint_of sign ≡ joint → JoinedGives joint here left sign o
      → JoinedGives (joint_of sign) here left sign o
  joined joint here left sign o e h = subst (λ (j : Joint). JoinedGives j here left sign o) (sym e) h

  from_atom : (here : List Lexeme) (o : Outcome Pred) → AtomGives here o → SidesGives here o
  from_atom here (read pred rest) (compared op left right sign next l s r ends test same) = (
    left,
    sign,
    (l, op_ends op sign next s),
    joined (by_op op) here left sign (read pred rest) (op_joins op sign s.found)
        (next, s, (right, rest, (r, ends), (test, same, refl))),
  )
  from_atom here (read pred rest) (distant distance left right word number of next l w n o r ends test same) = (
    left,
    word,
    (l, within_ends word number w),
    joined by_within here left word (read pred rest) (within_joins word w.found)
        (number, w, (distance, of, n, (tt, next, o, (right, rest, (r, ends), (test, same, refl))))),
  )
  from_atom here (fault found) (left_sum l) = inl l
  from_atom here (fault found) (no_comparison left sign l ends lacks same) = inr (left, sign, (l, ends), joined by_nothing here left sign (fault found) (lacking_joint sign lacks) same)
  from_atom here (fault found) (right_sum op left sign next l s r) =
      inr (left, sign, (l, op_ends op sign next s), joined (by_op op) here left sign (fault found) (op_joins op sign s.found) (next, s, inl r))
  from_atom here (fault found) (compared_types op left right sign next rest l s r ends test same) =
      inr (
        left,
        sign,
        (l, op_ends op sign next s),
        joined (by_op op) here left sign (fault found) (op_joins op sign s.found)
            (next, s, inr (right, rest, (r, ends), (test, same))),
      )
  from_atom here (fault found) (no_distance left word number l w lacks same) =
      inr (left, word, (l, within_ends word number w), joined by_within here left word (fault found) (within_joins word w.found) (number, w, inl (lacks, same)))
  from_atom here (fault found) (no_of distance left word number of l w n lacks same) =
      inr (
        left,
        word,
        (l, within_ends word number w),
        joined by_within here left word (fault found) (within_joins word w.found)
            (number, w, inr (distance, of, n, inl (lacks, same))),
      )
  from_atom here (fault found) (distant_sum distance left word number of next l w n o r) =
      inr (
        left,
        word,
        (l, within_ends word number w),
        joined by_within here left word (fault found) (within_joins word w.found)
            (number, w, inr (distance, of, n, inr (tt, next, o, inl r))),
      )
  from_atom here (fault found) (distant_types distance left right word number of next rest l w n o r ends test same) =
      inr (
        left,
        word,
        (l, within_ends word number w),
        joined by_within here left word (fault found) (within_joins word w.found)
            (number, w, inr (distance, of, n, inr (tt, next, o, inr (right, rest, (r, ends), (test, same))))),
      )

  pub atom_one : (here : List Lexeme) → AreSuited here → IsOne (AtomGives here)
  atom_one here suited = one_by (SidesGives here) (AtomGives here) (λ o h. to_atom here o h) (λ o h. from_atom here o h) (sides_one here suited)

  -- what an atom leaves

  pub atom_rest : (here rest : List Lexeme) (pred : Pred) → IsAtom columns here pred rest → AreSuited here → AreSuited rest
  atom_rest here rest pred (compared op left right sign next l s r ends test same) suited =
      sum_rest columns next right rest r (suited_rest _ _ sign next s (sum_rest columns here left sign l suited))
  atom_rest here rest pred (distant distance left right word number of next l w n o r ends test same) suited =
      sum_rest columns next right rest r (suited_rest _ _ of next o (suited_rest _ _ number of n.found (suited_rest _ _ word number w (sum_rest columns here left word l suited))))

  pub atom_shorter : (here rest : List Lexeme) (pred : Pred) → IsAtom columns here pred rest → length rest < length here
  atom_shorter here rest pred (compared op left right sign next l s r ends test same) =
      omega (arith, sum_shorter columns here left sign l, next_shorter _ _ sign next s, sum_shorter columns next right rest r)
  atom_shorter here rest pred (distant distance left right word number of next l w n o r ends test same) =
      omega (
        arith,
        sum_shorter columns here left word l,
        next_shorter _ _ word number w,
        next_shorter _ _ number of n.found,
        next_shorter _ _ of next o,
        sum_shorter columns next right rest r,
      )

  -- no `not` and no `(` begins an atom
  pub atom_front : (here rest : List Lexeme) (pred : Pred) → IsAtom columns here pred rest
      → (next_is kinds.Name (codes "not") here ≡ false) × (next_is kinds.Sign (codes "(") here ≡ false)
  atom_front here rest pred (compared op left right sign next l s r ends test same) = sum_front columns here left sign l
  atom_front here rest pred (distant distance left right word number of next l w n o r ends test same) = sum_front columns here left word l
