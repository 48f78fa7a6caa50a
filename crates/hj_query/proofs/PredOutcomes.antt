-- Reading conditions inside so many `not` and `(`: a tree without the places of its operands, or a first fault.
use Rattle.std.proofs.Common.{◌≡◌, ◌⊎◌, inl, inr, ℕ, zero, suc, ◌+◌, ◌<◌, ◌≤◌, Bool, true, cond, List, length, codes, refl, sym, ap, subst, ◌∙◌, arith}
use Rattle.std.specs.Str.{bytes_eq}
use Rattle.std.proofs.lemmas.Bool.{cases_lt, false_from_ne_true, false≢true}
use Rattle.hj_base.specs.declared.numbers.Side.{Side}
use Rattle.hj_lex.specs.declared.token.TokenKind.{TokenKind}
use Rattle.hj_lex.specs.declared.token.TokenKind.TheVariants as kinds
use Rattle.hj_query.specs.declared.fault.QueryFault.{QueryFault}
use Rattle.hj_query.specs.declared.fault.QueryFault.TheVariants as faults
use Rattle.hj_query.specs.declared.fault.Wanted.TheVariants as wants
use Rattle.hj_query.specs.declared.pred.Pred.{Pred}
use Rattle.hj_value.specs.declared.column.Column.{Column}
use Rattle.hj_query.specs.Faults.{EndsPred, FaultsConj, FaultsPred, FaultsUnary, deep_not, deep_parens, first_conj, first_unary, in_atom, in_not, in_parens, next_conj, next_unary, unclosed_parens}
use Rattle.hj_query.specs.Grammar.{IsAtom, IsConj, IsPred, IsUnary, most_depth, of_and, of_atom, of_conj, of_not, of_or, of_parens, of_unary}
use Rattle.hj_query.specs.Lexemes.{Lexeme, behind, next_is, place, IsNextToken, IsSign, IsWord, LacksSign, LacksWord}
use Rattle.hj_query.proofs.AtomOutcomes.{AtomGives, atom_front, atom_one, atom_rest, atom_shorter}
use Rattle.hj_query.proofs.Chains.{ChainGives, IsChain, chain_one, further, lone}
use Rattle.hj_query.proofs.Lists.{next_shorter}
use Rattle.hj_query.proofs.Outcomes.{IsOne, Outcome, fault, one_by, read}
use Rattle.hj_query.proofs.Sequences.{Behind, Faults, Follows, Is, behind_one, faults_one, follows_one, front, front_by, front_is, is_one, tested}
use Rattle.hj_query.proofs.Shapes.{Shape, and_node, and_shape, both, either, negated, not_node, not_shape, or_node, or_shape, shape}
use Rattle.hj_query.proofs.TokenOutcomes.{AreSuited, SignGives, next_other, next_other_kind, sign_one, suited_rest}

-- What is left behind a reading is shorter, and its tokens are ones of a text too.
abbrev Leaves : List Lexeme → List Lexeme → Type 0
Leaves here rest = (length rest < length here) × (AreSuited here → AreSuited rest)

next_leaves : (kind : TokenKind) (bytes : List ℕ) (here rest : List Lexeme) → IsNextToken kind bytes here rest → Leaves here rest
next_leaves kind bytes here rest n = (next_shorter kind bytes here rest n, λ suited. suited_rest kind bytes here rest n suited)

leaves_then : (here next rest : List Lexeme) → Leaves here next → Leaves next rest → Leaves here rest
leaves_then here next rest a b = (lt here next rest a.0 b.0, λ suited. b.1 (a.1 suited))
  where
    lt : (here next rest : List Lexeme) → length next < length here → length rest < length next → length rest < length here
    lt here next rest a b = omega arith

-- What an operand of `and` begins with.

data Choice : Type 0 where
  by_not : Choice
  by_parens : Choice
  by_atom : Choice

abbrev choose : TokenKind → List ℕ → Choice
choose kinds.Name bytes = cond (bytes_eq bytes (codes "not")) by_not by_atom
choose kinds.Number bytes = by_atom
choose kinds.Text bytes = by_atom
choose kinds.Sign bytes = cond (bytes_eq bytes (codes "(")) by_parens by_atom

abbrev choice_of : List Lexeme → Choice
choice_of here = front choose by_atom here

not_chosen : (here : List Lexeme) → next_is kinds.Name (codes "not") here ≡ true → choice_of here ≡ by_not
not_chosen here h = front_is choose by_atom kinds.Name (codes "not") here h

parens_chosen : (here : List Lexeme) → next_is kinds.Sign (codes "(") here ≡ true → choice_of here ≡ by_parens
parens_chosen here h = front_is choose by_atom kinds.Sign (codes "(") here h

-- what a choice says of the tokens
abbrev Chosen : Choice → List Lexeme → Type 0
Chosen by_not here = next_is kinds.Name (codes "not") here ≡ true
Chosen by_parens here = next_is kinds.Sign (codes "(") here ≡ true
Chosen by_atom here = Unit {0}

chosen : (here : List Lexeme) → Chosen (choice_of here) here
chosen = front_by choose by_atom Chosen tt some
  where
    some : (kind : TokenKind) (bytes : List ℕ) (here : List Lexeme) → IsNextToken kind bytes here (behind here)
        → Chosen (choose kind bytes) here
    some kinds.Name bytes here n = tested Chosen kinds.Name (codes "not") bytes here by_not by_atom n (λ h. h) tt
    some kinds.Number bytes here n = tt
    some kinds.Text bytes here n = tt
    some kinds.Sign bytes here n = tested Chosen kinds.Sign (codes "(") bytes here by_parens by_atom n (λ h. h) tt

-- an atom begins with neither of them
abbrev LacksBoth : List Lexeme → Type 0
LacksBoth here = LacksWord (codes "not") here × LacksSign (codes "(") here

lacks_both : (here : List Lexeme) → choice_of here ≡ by_atom → LacksBoth here
lacks_both here e =
    (false_from_ne_true _ (λ h. let f = not_chosen here h in absurd (cc)), false_from_ne_true _ (λ h. let f = parens_chosen here h in absurd (cc)))

atom_chosen : (here : List Lexeme) → LacksBoth here → choice_of here ≡ by_atom
atom_chosen here l = decided (choice_of here) (chosen here)
  where
    decided : (choice : Choice) → Chosen choice here → choice ≡ by_atom
    decided by_not h = absurd (false≢true (sym l.0 ∙ h))
    decided by_parens h = absurd (false≢true (sym l.1 ∙ h))
    decided by_atom h = refl

-- One deeper, or the fault that it is too deep.

abbrev Deeper : ℕ → List Lexeme → (Outcome Shape → Type 0) → Outcome Shape → Type 0
Deeper depth here Inside o = ((depth < most_depth) × Inside o) ⊎ ((most_depth ≤ depth) × Faults (faults.TooDeep (place here)) o)

-- it isn't both
deep_once : (depth : ℕ) → depth < most_depth → most_depth ≤ depth → ⊥
deep_once depth lt le = omega arith

deeper_one : (depth : ℕ) (here : List Lexeme) (Inside : Outcome Shape → Type 0) → IsOne Inside → IsOne (Deeper depth here Inside)
deeper_one depth here Inside inside = decided (cases_lt depth most_depth)
  where
    decided : (depth < most_depth) ⊎ (most_depth ≤ depth) → IsOne (Deeper depth here Inside)
    decided (inl lt) = one_by Inside (Deeper depth here Inside) (λ o h. inl (lt, h)) from inside
      where
        from : (o : Outcome Shape) → Deeper depth here Inside o → Inside o
        from o (inl (known, h)) = h
        from o (inr (le, h)) = absurd (deep_once depth lt le)
    decided (inr le) = one_by (Faults (faults.TooDeep (place here))) (Deeper depth here Inside) (λ o h. inr (le, h)) from (faults_one (faults.TooDeep (place here)))
      where
        from : (o : Outcome Shape) → Deeper depth here Inside o → Faults (faults.TooDeep (place here)) o
        from o (inl (lt, h)) = absurd (deep_once depth lt le)
        from o (inr (known, h)) = h

module _ (columns : Side → List Column) where
  mutual
    pub pred_leaves : (depth : ℕ) (here : List Lexeme) (pred : Pred) (rest : List Lexeme) → IsPred columns depth here pred rest → Leaves here rest
    pred_leaves depth here pred rest (of_conj d h p r c) = conj_leaves depth here pred rest c
    pred_leaves depth here pred rest (of_or d h word next r left right p l w c o) =
        leaves_then here word rest (pred_leaves depth here left word l) (leaves_then word next rest (next_leaves _ _ word next w) (conj_leaves depth next right rest c))

    conj_leaves : (depth : ℕ) (here : List Lexeme) (pred : Pred) (rest : List Lexeme) → IsConj columns depth here pred rest → Leaves here rest
    conj_leaves depth here pred rest (of_unary d h p r u) = unary_leaves depth here pred rest u
    conj_leaves depth here pred rest (of_and d h word next r left right p l w u a) =
        leaves_then here word rest (conj_leaves depth here left word l) (leaves_then word next rest (next_leaves _ _ word next w) (unary_leaves depth next right rest u))

    unary_leaves : (depth : ℕ) (here : List Lexeme) (pred : Pred) (rest : List Lexeme) → IsUnary columns depth here pred rest → Leaves here rest
    unary_leaves depth here pred rest (of_not d h next r inner p deep w u n) =
        leaves_then here next rest (next_leaves _ _ here next w) (unary_leaves (depth + 1) next inner rest u)
    unary_leaves depth here pred rest (of_parens d h next close r p deep s i z) =
        leaves_then here next rest (next_leaves _ _ here next s) (leaves_then next close rest (pred_leaves (depth + 1) next pred close i) (next_leaves _ _ close rest z))
    unary_leaves depth here pred rest (of_atom d h p r a) = (atom_shorter columns here rest pred a, λ suited. atom_rest columns here rest pred a suited)

  -- A condition of each kind by its tree, or its first fault.

  abbrev UnaryGives : ℕ → List Lexeme → Outcome Shape → Type 0
  UnaryGives depth here (read tree rest) = (pred : Pred) × (shape pred ≡ tree) × IsUnary columns depth here pred rest
  UnaryGives depth here (fault found) = FaultsUnary columns depth here found

  -- no further `and` comes
  abbrev ConjGives : ℕ → List Lexeme → Outcome Shape → Type 0
  ConjGives depth here (read tree rest) = (pred : Pred) × (shape pred ≡ tree) × IsConj columns depth here pred rest × LacksWord (codes "and") rest
  ConjGives depth here (fault found) = FaultsConj columns depth here found

  -- no further `and` and no `or` comes
  abbrev pub PredGives : ℕ → List Lexeme → Outcome Shape → Type 0
  PredGives depth here (read tree rest) = (pred : Pred) × (shape pred ≡ tree) × IsPred columns depth here pred rest × EndsPred rest
  PredGives depth here (fault found) = FaultsPred columns depth here found

  -- What a chain knows of its places.
  abbrev Within : ℕ → List Lexeme → Type 0
  Within most here = (length here < most) × AreSuited here

  within_left : (most : ℕ) (here rest : List Lexeme) → Leaves here rest → Within most here → Within most rest
  within_left most here rest l h = (lt most here rest l.0 h.0, l.1 h.1)
    where
      lt : (most : ℕ) (here rest : List Lexeme) → length rest < length here → length here < most → length rest < most
      lt most here rest a b = omega arith

  -- each operand in a list that is shorter than so many has one outcome
  abbrev UnariesAreOne : ℕ → Type 0
  UnariesAreOne most = (depth : ℕ) (here : List Lexeme) → Within most here → IsOne (UnaryGives depth here)

  -- Operands with `and` between them.

  abbrev and_goes : List Lexeme → Bool
  and_goes here = next_is kinds.Name (codes "and") here

  abbrev AndBehind : ℕ → Shape → List Lexeme → Outcome Shape → Type 0
  AndBehind depth tree next = Follows (UnaryGives depth next) (λ other rest. Is (both tree other) rest)

  abbrev AndGives : ℕ → Shape → List Lexeme → Outcome Shape → Type 0
  AndGives depth tree here = Behind kinds.Name (codes "and") here (λ next. AndBehind depth tree next)

  and_one : (most depth : ℕ) → UnariesAreOne most → (tree : Shape) (here : List Lexeme) → Within most here → and_goes here ≡ true → IsOne (AndGives depth tree here)
  and_one most depth unaries tree here h e =
      behind_one kinds.Name (codes "and") here (λ next. AndBehind depth tree next) e (λ next w.
      follows_one (UnaryGives depth next) (λ other rest. Is (both tree other) rest) (unaries depth next (within_left most here next (next_leaves _ _ here next w) h))
      (λ other rest u. is_one (both tree other) rest))

  and_leaves : (depth : ℕ) (tree : Shape) (here : List Lexeme) (more : Shape) (rest : List Lexeme) → AndGives depth tree here (read more rest) → Leaves here rest
  and_leaves depth tree here more rest (next, w, (other, end, (pred, same, u), (built, left))) =
      subst (Leaves here) (sym left) (leaves_then here next end (next_leaves _ _ here next w) (unary_leaves depth next pred end u))

  abbrev ConjChain : ℕ → List Lexeme → Shape → List Lexeme → Type 0
  ConjChain depth here tree rest = IsChain (UnaryGives depth here) and_goes (AndGives depth) tree rest

  abbrev ConjSeen : ℕ → List Lexeme → Shape → List Lexeme → Type 0
  ConjSeen depth here tree rest = (pred : Pred) × (shape pred ≡ tree) × IsConj columns depth here pred rest

  and_seen : (depth : ℕ) (here sign next end : List Lexeme) (front other : Shape) (right : Pred) → ConjSeen depth here front sign → IsWord (codes "and") sign next
      → shape right ≡ other → IsUnary columns depth next right end → ConjSeen depth here (both front other) end
  and_seen depth here sign next end front other right (left, same, l) w e u =
      let node = and_node left right in (
        node.0,
        and_shape left right node.0 node.1 ∙ ap (λ t. both t (shape right)) same ∙ ap (λ t. both front t) e,
        of_and depth here sign next end left right node.0 l w u node.1,
      )

  to_conj : (depth : ℕ) (here : List Lexeme) (tree : Shape) (rest : List Lexeme) → ConjChain depth here tree rest → ConjSeen depth here tree rest
  to_conj depth here tree rest (lone t r (pred, same, u)) = (pred, same, of_unary depth here pred r u)
  to_conj depth here tree rest (further front sign t r chain e (next, w, (other, end, (right, same, u), (built, left)))) =
      subst (λ k. ConjSeen depth here k r) (sym built)
      (subst (λ n. ConjSeen depth here (both front other) n) (sym left) (and_seen depth here sign next end front other right (to_conj depth here front sign chain) w same u))

  from_conj : (depth : ℕ) (here : List Lexeme) (pred : Pred) (rest : List Lexeme) → IsConj columns depth here pred rest → ConjChain depth here (shape pred) rest
  from_conj depth here pred rest (of_unary d h p r u) = lone (shape pred) rest (pred, refl, u)
  from_conj depth here pred rest (of_and d h word next r left right p l w u a) =
      further (shape left) word (shape pred) rest (from_conj depth here left word l) w.found
      (next, w, (shape right, rest, (right, refl, u), (and_shape left right pred a, refl)))

  to_conj_gives : (depth : ℕ) (here : List Lexeme) (o : Outcome Shape) → ChainGives (UnaryGives depth here) and_goes (AndGives depth) o → ConjGives depth here o
  to_conj_gives depth here (read tree rest) (chain, e) = let seen = to_conj depth here tree rest chain in (seen.0, seen.1, seen.2, e)
  to_conj_gives depth here (fault found) (inl u) = first_unary depth here found u
  to_conj_gives depth here (fault found) (inr (front, (sign, chain, e, (next, w, inl u)))) =
      let seen = to_conj depth here front sign chain in next_unary depth here sign next seen.0 found seen.2 w u
  to_conj_gives depth here (fault found) (inr (front, (sign, chain, e, (next, w, inr (other, end, u, h))))) = absurd h

  conj_faults : (depth : ℕ) (here : List Lexeme) (found : QueryFault) → FaultsConj columns depth here found → ChainGives (UnaryGives depth here) and_goes (AndGives depth) (fault found)
  conj_faults depth here found (first_unary d h f u) = inl u
  conj_faults depth here found (next_unary d h word next left f l w u) = inr (shape left, (word, from_conj depth here left word l, w.found, (next, w, inl u)))

  from_conj_gives : (depth : ℕ) (here : List Lexeme) (o : Outcome Shape) → ConjGives depth here o → ChainGives (UnaryGives depth here) and_goes (AndGives depth) o
  from_conj_gives depth here (read tree rest) (pred, same, c, e) = (subst (λ t. ConjChain depth here t rest) same (from_conj depth here pred rest c), e)
  from_conj_gives depth here (fault found) f = conj_faults depth here found f

  conj_one : (most depth : ℕ) → UnariesAreOne most → (here : List Lexeme) → Within most here → IsOne (ConjGives depth here)
  conj_one most depth unaries here h =
      one_by (ChainGives (UnaryGives depth here) and_goes (AndGives depth)) (ConjGives depth here) (λ o c. to_conj_gives depth here o c) (λ o c. from_conj_gives depth here o c)
      (chain_one and_goes (AndGives depth) (Within most) (λ tree place known e. and_one most depth unaries tree place known e)
      (λ tree place more rest step. (and_leaves depth tree place more rest step).0)
      (λ tree place more rest known step. within_left most place rest (and_leaves depth tree place more rest step) known)
      (UnaryGives depth here) (unaries depth here h)
      (λ tree rest u. within_left most here rest (unary_leaves depth here u.0 rest u.2) h))

  -- Operands with `or` between them.

  abbrev or_goes : List Lexeme → Bool
  or_goes here = next_is kinds.Name (codes "or") here

  abbrev OrBehind : ℕ → Shape → List Lexeme → Outcome Shape → Type 0
  OrBehind depth tree next = Follows (ConjGives depth next) (λ other rest. Is (either tree other) rest)

  abbrev OrGives : ℕ → Shape → List Lexeme → Outcome Shape → Type 0
  OrGives depth tree here = Behind kinds.Name (codes "or") here (λ next. OrBehind depth tree next)

  or_one : (most depth : ℕ) → UnariesAreOne most → (tree : Shape) (here : List Lexeme) → Within most here → or_goes here ≡ true → IsOne (OrGives depth tree here)
  or_one most depth unaries tree here h e =
      behind_one kinds.Name (codes "or") here (λ next. OrBehind depth tree next) e (λ next w.
      follows_one (ConjGives depth next) (λ other rest. Is (either tree other) rest) (conj_one most depth unaries next (within_left most here next (next_leaves _ _ here next w) h))
      (λ other rest c. is_one (either tree other) rest))

  or_leaves : (depth : ℕ) (tree : Shape) (here : List Lexeme) (more : Shape) (rest : List Lexeme) → OrGives depth tree here (read more rest) → Leaves here rest
  or_leaves depth tree here more rest (next, w, (other, end, (pred, same, c, lacks), (built, left))) =
      subst (Leaves here) (sym left) (leaves_then here next end (next_leaves _ _ here next w) (conj_leaves depth next pred end c))

  abbrev PredChain : ℕ → List Lexeme → Shape → List Lexeme → Type 0
  PredChain depth here tree rest = IsChain (ConjGives depth here) or_goes (OrGives depth) tree rest

  abbrev PredSeen : ℕ → List Lexeme → Shape → List Lexeme → Type 0
  PredSeen depth here tree rest = (pred : Pred) × (shape pred ≡ tree) × IsPred columns depth here pred rest × LacksWord (codes "and") rest

  or_seen : (depth : ℕ) (here sign next end : List Lexeme) (front other : Shape) (right : Pred) → PredSeen depth here front sign → IsWord (codes "or") sign next
      → shape right ≡ other → IsConj columns depth next right end → LacksWord (codes "and") end → PredSeen depth here (either front other) end
  or_seen depth here sign next end front other right (left, same, l, before) w e c lacks =
      let node = or_node left right in (
        node.0,
        or_shape left right node.0 node.1 ∙ ap (λ t. either t (shape right)) same ∙ ap (λ t. either front t) e,
        of_or depth here sign next end left right node.0 l w c node.1,
        lacks,
      )

  to_pred : (depth : ℕ) (here : List Lexeme) (tree : Shape) (rest : List Lexeme) → PredChain depth here tree rest → PredSeen depth here tree rest
  to_pred depth here tree rest (lone t r (pred, same, c, lacks)) = (pred, same, of_conj depth here pred r c, lacks)
  to_pred depth here tree rest (further front sign t r chain e (next, w, (other, end, (right, same, c, lacks), (built, left)))) =
      subst (λ k. PredSeen depth here k r) (sym built)
      (subst (λ n. PredSeen depth here (either front other) n) (sym left) (or_seen depth here sign next end front other right (to_pred depth here front sign chain) w same c lacks))

  -- no `and` stands before an `or`
  or_ends : (word next : List Lexeme) → IsWord (codes "or") word next → LacksWord (codes "and") word
  or_ends word next w = next_other _ _ (codes "and") word next w refl

  from_pred : (depth : ℕ) (here : List Lexeme) (pred : Pred) (rest : List Lexeme) → IsPred columns depth here pred rest → LacksWord (codes "and") rest
      → PredChain depth here (shape pred) rest
  from_pred depth here pred rest (of_conj d h p r c) lacks = lone (shape pred) rest (pred, refl, c, lacks)
  from_pred depth here pred rest (of_or d h word next r left right p l w c o) lacks =
      further (shape left) word (shape pred) rest (from_pred depth here left word l (or_ends word next w)) w.found
      (next, w, (shape right, rest, (right, refl, c, lacks), (or_shape left right pred o, refl)))

  to_pred_gives : (depth : ℕ) (here : List Lexeme) (o : Outcome Shape) → ChainGives (ConjGives depth here) or_goes (OrGives depth) o → PredGives depth here o
  to_pred_gives depth here (read tree rest) (chain, e) = let seen = to_pred depth here tree rest chain in (seen.0, seen.1, seen.2, record { no_and = seen.3; no_or = e })
  to_pred_gives depth here (fault found) (inl c) = first_conj depth here found c
  to_pred_gives depth here (fault found) (inr (front, (sign, chain, e, (next, w, inl c)))) =
      let seen = to_pred depth here front sign chain in next_conj depth here sign next seen.0 found seen.2 w c
  to_pred_gives depth here (fault found) (inr (front, (sign, chain, e, (next, w, inr (other, end, c, h))))) = absurd h

  pred_faults : (depth : ℕ) (here : List Lexeme) (found : QueryFault) → FaultsPred columns depth here found → ChainGives (ConjGives depth here) or_goes (OrGives depth) (fault found)
  pred_faults depth here found (first_conj d h f c) = inl c
  pred_faults depth here found (next_conj d h word next left f l w c) =
      inr (shape left, (word, from_pred depth here left word l (or_ends word next w), w.found, (next, w, inl c)))

  from_pred_gives : (depth : ℕ) (here : List Lexeme) (o : Outcome Shape) → PredGives depth here o → ChainGives (ConjGives depth here) or_goes (OrGives depth) o
  from_pred_gives depth here (read tree rest) (pred, same, p, e) = (subst (λ t. PredChain depth here t rest) same (from_pred depth here pred rest p e.no_and), e.no_or)
  from_pred_gives depth here (fault found) f = pred_faults depth here found f

  preds_one : (most depth : ℕ) → UnariesAreOne most → (here : List Lexeme) → Within most here → IsOne (PredGives depth here)
  preds_one most depth unaries here h =
      one_by (ChainGives (ConjGives depth here) or_goes (OrGives depth)) (PredGives depth here) (λ o c. to_pred_gives depth here o c) (λ o p. from_pred_gives depth here o p)
      (chain_one or_goes (OrGives depth) (Within most) (λ tree place known e. or_one most depth unaries tree place known e)
      (λ tree place more rest step. (or_leaves depth tree place more rest step).0)
      (λ tree place more rest known step. within_left most place rest (or_leaves depth tree place more rest step) known)
      (ConjGives depth here) (conj_one most depth unaries here h)
      (λ tree rest c. within_left most here rest (conj_leaves depth here c.0 rest c.2) h))

  -- An operand of `and` by its choice.

  abbrev NegatedGives : ℕ → List Lexeme → Outcome Shape → Type 0
  NegatedGives depth next = Follows (UnaryGives depth next) (λ tree rest. Is (negated tree) rest)

  abbrev ClosedGives : Shape → List Lexeme → Outcome Shape → Type 0
  ClosedGives tree close = Follows (SignGives (codes ")") wants.CloseParen close) (λ token rest. Is tree rest)

  abbrev EnclosedGives : ℕ → List Lexeme → Outcome Shape → Type 0
  EnclosedGives depth next = Follows (PredGives depth next) (λ tree close. ClosedGives tree close)

  abbrev ChosenGives : Choice → ℕ → List Lexeme → Outcome Shape → Type 0
  ChosenGives by_not depth here = Behind kinds.Name (codes "not") here (λ next. Deeper depth here (NegatedGives (depth + 1) next))
  ChosenGives by_parens depth here = Behind kinds.Sign (codes "(") here (λ next. Deeper depth here (EnclosedGives (depth + 1) next))
  ChosenGives by_atom depth here = Follows (AtomGives columns here) (λ pred rest. Is (shape pred) rest)

  negated_one : (most depth : ℕ) → UnariesAreOne most → (next : List Lexeme) → Within most next → IsOne (NegatedGives depth next)
  negated_one most depth unaries next h = follows_one (UnaryGives depth next) (λ tree rest. Is (negated tree) rest) (unaries depth next h) (λ tree rest u. is_one (negated tree) rest)

  enclosed_one : (most depth : ℕ) → UnariesAreOne most → (next : List Lexeme) → Within most next → IsOne (EnclosedGives depth next)
  enclosed_one most depth unaries next h =
      follows_one (PredGives depth next) (λ tree close. ClosedGives tree close) (preds_one most depth unaries next h) (λ tree close p.
      follows_one (SignGives (codes ")") wants.CloseParen close) (λ token rest. Is tree rest) (sign_one (codes ")") wants.CloseParen close) (λ token rest s. is_one tree rest))

  -- what stands behind the first of fewer than so many tokens
  within_next : (most : ℕ) (here next : List Lexeme) → Leaves here next → Within (suc most) here → Within most next
  within_next most here next l h = (lt most here next l.0 h.0, l.1 h.1)
    where
      lt : (most : ℕ) (here next : List Lexeme) → length next < length here → length here < suc most → length next < most
      lt most here next a b = omega arith

  chosen_one : (most : ℕ) → UnariesAreOne most → (choice : Choice) (depth : ℕ) (here : List Lexeme) → Chosen choice here → Within (suc most) here → IsOne (ChosenGives choice depth here)
  chosen_one most unaries by_not depth here e h =
      behind_one kinds.Name (codes "not") here (λ next. Deeper depth here (NegatedGives (depth + 1) next)) e (λ next w.
      deeper_one depth here (NegatedGives (depth + 1) next) (negated_one most (depth + 1) unaries next (within_next most here next (next_leaves _ _ here next w) h)))
  chosen_one most unaries by_parens depth here e h =
      behind_one kinds.Sign (codes "(") here (λ next. Deeper depth here (EnclosedGives (depth + 1) next)) e (λ next s.
      deeper_one depth here (EnclosedGives (depth + 1) next) (enclosed_one most (depth + 1) unaries next (within_next most here next (next_leaves _ _ here next s) h)))
  chosen_one most unaries by_atom depth here e h =
      follows_one (AtomGives columns here) (λ pred rest. Is (shape pred) rest) (atom_one columns here h.1) (λ pred rest a. is_one (shape pred) rest)

  not_given : (depth : ℕ) (here next rest : List Lexeme) (inner : Pred) → depth < most_depth → IsWord (codes "not") here next → IsUnary columns (depth + 1) next inner rest
      → (tree : Shape) → shape inner ≡ tree → UnaryGives depth here (read (negated tree) rest)
  not_given depth here next rest inner deep w u tree same =
      let node = not_node inner in
      (node.0, not_shape inner node.0 node.1 ∙ ap (λ t. negated t) same, of_not depth here next rest inner node.0 deep w u node.1)

  to_unary : (choice : Choice) (depth : ℕ) (here : List Lexeme) → choice_of here ≡ choice → (o : Outcome Shape) → ChosenGives choice depth here o → UnaryGives depth here o
  to_unary by_not depth here e (read tree rest) (next, w, inl (deep, (inner, end, (pred, same, u), (built, left)))) =
      subst (λ t. UnaryGives depth here (read t rest)) (sym built)
      (subst (λ n. UnaryGives depth here (read (negated inner) n)) (sym left) (not_given depth here next end pred deep w u inner same))
  to_unary by_not depth here e (read tree rest) (next, w, inr (deep, h)) = absurd h
  to_unary by_not depth here e (fault found) (next, w, inl (deep, inl u)) = in_not depth here next found deep w u
  to_unary by_not depth here e (fault found) (next, w, inl (deep, inr (tree, end, u, h))) = absurd h
  to_unary by_not depth here e (fault found) (next, w, inr (deep, same)) = deep_not depth here next found deep w same
  to_unary by_parens depth here e (read tree rest) (next, s, inl (deep, (inner, close, (pred, same, p, ends), (token, end, z, (built, left))))) =
      (pred, same ∙ sym built, of_parens depth here next close rest pred deep s p (subst (λ n. IsSign (codes ")") close n) (sym left) z))
  to_unary by_parens depth here e (read tree rest) (next, s, inr (deep, h)) = absurd h
  to_unary by_parens depth here e (fault found) (next, s, inl (deep, inl p)) = in_parens depth here next found deep s p
  to_unary by_parens depth here e (fault found) (next, s, inl (deep, inr (tree, close, (pred, same, p, ends), inl (lacks, wanted)))) =
      unclosed_parens depth here next close pred found deep s p ends lacks wanted
  to_unary by_parens depth here e (fault found) (next, s, inl (deep, inr (tree, close, p, inr (token, end, z, h)))) = absurd h
  to_unary by_parens depth here e (fault found) (next, s, inr (deep, same)) = deep_parens depth here next found deep s same
  to_unary by_atom depth here e (read tree rest) (pred, end, a, (same, left)) =
      (pred, sym same, of_atom depth here pred rest (subst (λ n. IsAtom columns here pred n) (sym left) a))
  to_unary by_atom depth here e (fault found) (inl a) = let l = lacks_both here e in in_atom depth here found l.0 l.1 a
  to_unary by_atom depth here e (fault found) (inr (pred, end, a, h)) = absurd h

  -- the choice of what was read
  by_choice : (choice : Choice) (depth : ℕ) (here : List Lexeme) (o : Outcome Shape) → choice_of here ≡ choice → ChosenGives choice depth here o
      → ChosenGives (choice_of here) depth here o
  by_choice choice depth here o e h = subst (λ (c : Choice). ChosenGives c depth here o) (sym e) h

  -- no `and` and no `or` stands before a `)`
  close_ends : (close rest : List Lexeme) → IsSign (codes ")") close rest → EndsPred close
  close_ends close rest z = record { no_and = next_other_kind _ kinds.Name _ (codes "and") close rest z refl; no_or = next_other_kind _ kinds.Name _ (codes "or") close rest z refl }

  from_read : (depth : ℕ) (here : List Lexeme) (pred : Pred) (rest : List Lexeme) → IsUnary columns depth here pred rest
      → ChosenGives (choice_of here) depth here (read (shape pred) rest)
  from_read depth here pred rest (of_not d h next r inner p deep w u n) =
      by_choice by_not depth here (read (shape pred) rest) (not_chosen here w.found) (next, w, inl (deep, (shape inner, rest, (inner, refl, u), (not_shape inner pred n, refl))))
  from_read depth here pred rest (of_parens d h next close r p deep s i z) =
      by_choice by_parens depth here (read (shape pred) rest) (parens_chosen here s.found)
      (next, s, inl (deep, (shape pred, close, (pred, refl, i, close_ends close rest z), (tt, rest, z, (refl, refl)))))
  from_read depth here pred rest (of_atom d h p r a) =
      by_choice by_atom depth here (read (shape pred) rest) (atom_chosen here (atom_front columns here rest pred a)) (pred, rest, a, (refl, refl))

  from_fault : (depth : ℕ) (here : List Lexeme) (found : QueryFault) → FaultsUnary columns depth here found → ChosenGives (choice_of here) depth here (fault found)
  from_fault depth here found (deep_not d h next f deep w same) = by_choice by_not depth here (fault found) (not_chosen here w.found) (next, w, inr (deep, same))
  from_fault depth here found (deep_parens d h next f deep s same) = by_choice by_parens depth here (fault found) (parens_chosen here s.found) (next, s, inr (deep, same))
  from_fault depth here found (in_not d h next f deep w u) = by_choice by_not depth here (fault found) (not_chosen here w.found) (next, w, inl (deep, inl u))
  from_fault depth here found (in_parens d h next f deep s p) = by_choice by_parens depth here (fault found) (parens_chosen here s.found) (next, s, inl (deep, inl p))
  from_fault depth here found (unclosed_parens d h next last pred f deep s p ends lacks wanted) =
      by_choice by_parens depth here (fault found) (parens_chosen here s.found)
      (next, s, inl (deep, inr (shape pred, last, (pred, refl, p, ends), inl (lacks, wanted))))
  from_fault depth here found (in_atom d h f w s a) = by_choice by_atom depth here (fault found) (atom_chosen here (w, s)) (inl a)

  from_unary : (depth : ℕ) (here : List Lexeme) (o : Outcome Shape) → UnaryGives depth here o → ChosenGives (choice_of here) depth here o
  from_unary depth here (read tree rest) (pred, same, u) = subst (λ t. ChosenGives (choice_of here) depth here (read t rest)) same (from_read depth here pred rest u)
  from_unary depth here (fault found) f = from_fault depth here found f

  unaries_one : (most : ℕ) → UnariesAreOne most
  unaries_one zero depth here h = absurd (omega (arith, h.0))
  unaries_one (suc most) depth here h =
      one_by (ChosenGives (choice_of here) depth here) (UnaryGives depth here) (λ o c. to_unary (choice_of here) depth here refl o c) (λ o u. from_unary depth here o u)
      (chosen_one most (λ inside next known. unaries_one most inside next known) (choice_of here) depth here (chosen here) h)

  pub pred_one : (depth : ℕ) (here : List Lexeme) → AreSuited here → IsOne (PredGives depth here)
  pred_one depth here suited = preds_one (suc (length here)) depth (unaries_one (suc (length here))) here (omega arith, suited)
