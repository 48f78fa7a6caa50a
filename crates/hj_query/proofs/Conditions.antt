-- The canonical text of conditions is read as them, inside at most as many `not` and `(`.
use Rattle.std.proofs.Common.{◌≡◌, ℕ, ◌+◌, ◌<◌, ◌≤◌, Bool, true, false, ◌||◌, List, [], ◌++◌, IsTrue, codes, refl, sym, ap, subst, ◌∙◌, arith}
use Rattle.std.proofs.lemmas.Bool.{false≢true}
use Rattle.hj_base.specs.declared.numbers.Side.{Side}
use Rattle.hj_value.specs.declared.column.Column.{Column}
use Rattle.hj_lex.specs.declared.token.TokenKind.TheVariants as kinds
use Rattle.hj_query.specs.Canonical.{enclosed_if, is_and, is_or, line_end, pred_text}
use Rattle.hj_query.specs.declared.pred.Pred.{Pred, Or', And', Not', Compare, Within}
use Rattle.hj_query.specs.Grammar.{AreSuited, EndsSum, IsAnd, IsCondition, IsConj, IsNot, IsOr, IsPred, IsUnary, most_depth, of_and, of_atom, of_conj, of_not, of_or, of_parens, of_pred, of_unary}
use Rattle.hj_query.specs.Lexemes.{Lexeme, next_is}
use Rattle.hj_query.proofs.Atoms.{AtomTold, EndsAtom, atom_told, between, close_ends, word_ends}
use Rattle.hj_query.proofs.Pieces.{Anything, Spelled, blank_behind, sign_spelled, spelled_as, spelled_then, word_spelled}
use Rattle.hj_query.proofs.Suited.{SuitedNext, next_suited}

abbrev PredSpelled : (Side → List Column) → ℕ → Pred → List ℕ → Type 0
PredSpelled columns depth pred text = Spelled EndsAtom (λ here rest. IsPred columns depth here pred rest) text

abbrev ConjSpelled : (Side → List Column) → ℕ → Pred → List ℕ → Type 0
ConjSpelled columns depth pred text = Spelled EndsAtom (λ here rest. IsConj columns depth here pred rest) text

abbrev UnarySpelled : (Side → List Column) → ℕ → Pred → List ℕ → Type 0
UnarySpelled columns depth pred text = Spelled EndsAtom (λ here rest. IsUnary columns depth here pred rest) text

pred_from_conj : (columns : Side → List Column) (depth : ℕ) (pred : Pred) (text : List ℕ) → ConjSpelled columns depth pred text → PredSpelled columns depth pred text
pred_from_conj columns depth pred text spelled = spelled_as text (λ more rest h. h) (λ more here rest h c. of_conj depth here pred rest c) spelled

conj_from_unary : (columns : Side → List Column) (depth : ℕ) (pred : Pred) (text : List ℕ) → UnarySpelled columns depth pred text → ConjSpelled columns depth pred text
conj_from_unary columns depth pred text spelled = spelled_as text (λ more rest h. h) (λ more here rest h u. of_unary depth here pred rest u) spelled

-- A condition's text as it stands, at this depth or a lower one.
record PredTold (columns : Side → List Column) (depth : ℕ) (pred : Pred) (rest : List Lexeme) : Type 0 where
  as_pred : (at : ℕ) → at ≤ depth → PredSpelled columns at pred (pred_text columns pred)
  as_conj : is_or pred ≡ false → (at : ℕ) → at ≤ depth → ConjSpelled columns at pred (pred_text columns pred)
  as_unary : (is_or pred || is_and pred) ≡ false → (at : ℕ) → at ≤ depth → UnarySpelled columns at pred (pred_text columns pred)
  others : AreSuited rest

-- and as an operand of `or`
record ConjTold (columns : Side → List Column) (depth : ℕ) (pred : Pred) (rest : List Lexeme) : Type 0 where
  told : PredTold columns depth pred rest
  operand : (at : ℕ) → at ≤ depth → ConjSpelled columns at pred (enclosed_if (is_or pred) (pred_text columns pred))

-- and as an operand of `and` or `not`
record UnaryTold (columns : Side → List Column) (depth : ℕ) (pred : Pred) (rest : List Lexeme) : Type 0 where
  told : PredTold columns depth pred rest
  operand : (at : ℕ) → at ≤ depth → UnarySpelled columns at pred (enclosed_if (is_or pred || is_and pred) (pred_text columns pred))

-- Parentheses.

true_false : {A : Type 0} → true ≡ false → A
true_false e = absurd (false≢true (sym e))

parens_spelled : (columns : Side → List Column) (depth : ℕ) (pred : Pred) (text : List ℕ) → depth < most_depth → PredSpelled columns (depth + 1) pred text
    → UnarySpelled columns depth pred (codes "(" ++ text ++ codes ")")
parens_spelled columns depth pred text lt spelled =
    let opened = spelled_then {Behind = Anything} (codes "(") text (sign_spelled 40 refl (λ next. refl)) spelled (λ more rest mid b s. tt) in
    let whole = spelled_then {Behind = EndsAtom} _ (codes ")") opened (sign_spelled 41 refl (λ next. refl)) (λ more rest mid b s. record { breaks = refl; ends = close_ends mid rest s }) in
    spelled_as {Behind = Anything} (codes "(" ++ text ++ codes ")") (λ more rest h. tt) (λ more here rest h s. of_parens depth here s.1.0 s.0 rest pred lt s.1.1 s.1.2 s.2) whole

-- with parentheses where they are needed
by_need : (P : List ℕ → Type 0) (needed : Bool) (text : List ℕ) → (needed ≡ false → P text) → P (codes "(" ++ text ++ codes ")") → P (enclosed_if needed text)
by_need P true text bare enclosed = enclosed
by_need P false text bare enclosed = bare refl

by_less : (P : List ℕ → Type 0) (needed other : Bool) (text : List ℕ) → (needed ≡ false → P text) → P (enclosed_if (needed || other) text) → P (enclosed_if needed text)
by_less P true other text bare enclosed = enclosed
by_less P false other text bare enclosed = bare refl

-- The nodes of the tree.

or_spelled : (columns : Side → List Column) (depth : ℕ) (left right pred : Pred) (first second : List ℕ) → IsOr left right pred → PredSpelled columns depth left first → ConjSpelled columns depth right second
    → PredSpelled columns depth pred (first ++ codes " or " ++ second)
or_spelled columns depth left right pred first second is l r =
    let front = spelled_then {Behind = EndsAtom} first _ l (between (codes "or") refl) (λ more rest mid b s. record { breaks = refl; ends = word_ends (codes "or") mid rest s }) in
    let whole = spelled_then {Behind = Anything} _ second front r (λ more rest mid b s. tt) in
    spelled_as (first ++ codes " or " ++ second) (λ more rest h. h) (λ more here rest h s. of_or depth here s.1.0 s.0 rest left right pred s.1.1 s.1.2 s.2 is) whole

and_spelled : (columns : Side → List Column) (depth : ℕ) (left right pred : Pred) (first second : List ℕ) → IsAnd left right pred → ConjSpelled columns depth left first → UnarySpelled columns depth right second
    → ConjSpelled columns depth pred (first ++ codes " and " ++ second)
and_spelled columns depth left right pred first second is l r =
    let front = spelled_then {Behind = EndsAtom} first _ l (between (codes "and") refl) (λ more rest mid b s. record { breaks = refl; ends = word_ends (codes "and") mid rest s }) in
    let whole = spelled_then {Behind = Anything} _ second front r (λ more rest mid b s. tt) in
    spelled_as (first ++ codes " and " ++ second) (λ more rest h. h) (λ more here rest h s. of_and depth here s.1.0 s.0 rest left right pred s.1.1 s.1.2 s.2 is) whole

not_spelled : (columns : Side → List Column) (depth : ℕ) (inner pred : Pred) (text : List ℕ) → depth < most_depth → IsNot inner pred → UnarySpelled columns (depth + 1) inner text
    → UnarySpelled columns depth pred (codes "not " ++ text)
not_spelled columns depth inner pred text lt is spelled =
    let whole = spelled_then {Behind = Anything} (codes "not ") text (word_spelled (codes "not") refl) spelled (λ more rest mid b s. tt) in
    spelled_as (codes "not " ++ text) (λ more rest h. h) (λ more here rest h s. of_not depth here s.0 rest inner pred lt s.1 s.2 is) whole

or_told : (columns : Side → List Column) (depth : ℕ) (left right pred : Pred) (rest : List Lexeme) → IsOr left right pred
    → ((at : ℕ) → at ≤ depth → PredSpelled columns at left (pred_text columns left))
    → ((at : ℕ) → at ≤ depth → ConjSpelled columns at right (enclosed_if (is_or right) (pred_text columns right)))
    → AreSuited rest → PredTold columns depth pred rest
or_told columns depth left right (Or' p first q second) rest is l r s = record {
  as_pred = λ at le.
      or_spelled columns at first second (Or' p first q second) (pred_text columns first) (enclosed_if (is_or second) (pred_text columns second)) (refl, refl)
      (subst (λ (x : Pred). PredSpelled columns at x (pred_text columns x)) (sym is.0) (l at le))
      (subst (λ (x : Pred). ConjSpelled columns at x (enclosed_if (is_or x) (pred_text columns x))) (sym is.1) (r at le));
  as_conj = λ e. true_false e;
  as_unary = λ e. true_false e;
  others = s;
}
or_told columns depth left right (And' p first q second) rest is l r s = absurd is
or_told columns depth left right (Not' p inner) rest is l r s = absurd is
or_told columns depth left right (Compare op first second) rest is l r s = absurd is
or_told columns depth left right (Within distance first second) rest is l r s = absurd is

and_told : (columns : Side → List Column) (depth : ℕ) (left right pred : Pred) (rest : List Lexeme) → IsAnd left right pred
    → ((at : ℕ) → at ≤ depth → ConjSpelled columns at left (enclosed_if (is_or left) (pred_text columns left)))
    → ((at : ℕ) → at ≤ depth → UnarySpelled columns at right (enclosed_if (is_or right || is_and right) (pred_text columns right)))
    → AreSuited rest → ConjTold columns depth pred rest
and_told columns depth left right (Or' p first q second) rest is l r s = absurd is
and_told columns depth left right (And' p first q second) rest is l r s =
    let spelled : (at : ℕ) → at ≤ depth → ConjSpelled columns at (And' p first q second) (pred_text columns (And' p first q second)) = λ at le.
    and_spelled columns at first second (And' p first q second) (enclosed_if (is_or first) (pred_text columns first)) (enclosed_if (is_or second || is_and second) (pred_text columns second)) (refl, refl)
    (subst (λ (x : Pred). ConjSpelled columns at x (enclosed_if (is_or x) (pred_text columns x))) (sym is.0) (l at le))
    (subst (λ (x : Pred). UnarySpelled columns at x (enclosed_if (is_or x || is_and x) (pred_text columns x))) (sym is.1) (r at le)) in
    record {
      told = record {
        as_pred = λ at le. pred_from_conj columns at (And' p first q second) (pred_text columns (And' p first q second)) (spelled at le);
        as_conj = λ e at le. spelled at le;
        as_unary = λ e. true_false e;
        others = s;
      };
      operand = spelled;
    }
and_told columns depth left right (Not' p inner) rest is l r s = absurd is
and_told columns depth left right (Compare op first second) rest is l r s = absurd is
and_told columns depth left right (Within distance first second) rest is l r s = absurd is

-- what is told as an operand of `not` is told of the whole
unary_whole : (columns : Side → List Column) (depth : ℕ) (pred : Pred) (rest : List Lexeme) → is_or pred ≡ false → is_and pred ≡ false
    → ((at : ℕ) → at ≤ depth → UnarySpelled columns at pred (pred_text columns pred)) → AreSuited rest → UnaryTold columns depth pred rest
unary_whole columns depth pred rest no_or no_and spelled s = record {
  told = record {
    as_pred = λ at le. pred_from_conj columns at pred (pred_text columns pred) (conj_from_unary columns at pred (pred_text columns pred) (spelled at le));
    as_conj = λ e at le. conj_from_unary columns at pred (pred_text columns pred) (spelled at le);
    as_unary = λ e at le. spelled at le;
    others = s;
  };
  operand = λ at le. subst (λ needed. UnarySpelled columns at pred (enclosed_if needed (pred_text columns pred))) (sym (ap (λ b. b || is_and pred) no_or ∙ no_and)) (spelled at le);
}

not_told : (columns : Side → List Column) (depth : ℕ) (inner pred : Pred) (rest : List Lexeme) → depth < most_depth → IsNot inner pred → UnaryTold columns (depth + 1) inner rest → UnaryTold columns depth pred rest
not_told columns depth inner (Or' p first q second) rest lt is told = absurd is
not_told columns depth inner (And' p first q second) rest lt is told = absurd is
not_told columns depth inner (Not' p operand) rest lt is told =
    unary_whole columns depth (Not' p operand) rest refl refl
    (λ at le. not_spelled columns at operand (Not' p operand) (enclosed_if (is_or operand || is_and operand) (pred_text columns operand)) (omega arith) refl
    (subst (λ (x : Pred). UnarySpelled columns (at + 1) x (enclosed_if (is_or x || is_and x) (pred_text columns x))) (sym is) (told.operand (at + 1) (omega arith))))
    told.told.others
not_told columns depth inner (Compare op first second) rest lt is told = absurd is
not_told columns depth inner (Within distance first second) rest lt is told = absurd is

parens_told : (columns : Side → List Column) (depth : ℕ) (pred : Pred) (close rest : List Lexeme) → depth < most_depth → PredTold columns (depth + 1) pred close → AreSuited rest → UnaryTold columns depth pred rest
parens_told columns depth pred close rest lt inner s = record {
  told = record {
    as_pred = λ at le. inner.as_pred at (omega arith);
    as_conj = λ e at le. inner.as_conj e at (omega arith);
    as_unary = λ e at le. inner.as_unary e at (omega arith);
    others = s;
  };
  operand = λ at le. by_need (UnarySpelled columns at pred) (is_or pred || is_and pred) (pred_text columns pred)
      (λ e. inner.as_unary e at (omega arith))
      (parens_spelled columns at pred (pred_text columns pred) (omega arith) (inner.as_pred (at + 1) (omega arith)));
}

conj_of_unary : (columns : Side → List Column) (depth : ℕ) (pred : Pred) (rest : List Lexeme) → UnaryTold columns depth pred rest → ConjTold columns depth pred rest
conj_of_unary columns depth pred rest unary = record {
  told = unary.told;
  operand = λ at le. by_less (ConjSpelled columns at pred) (is_or pred) (is_and pred) (pred_text columns pred)
      (λ e. unary.told.as_conj e at le)
      (conj_from_unary columns at pred (enclosed_if (is_or pred || is_and pred) (pred_text columns pred)) (unary.operand at le));
}

mutual
  pred_told : (columns : Side → List Column) (depth : ℕ) (here : List Lexeme) (pred : Pred) (rest : List Lexeme) → IsPred columns depth here pred rest → AreSuited here → PredTold columns depth pred rest
  pred_told columns _ _ _ _ (of_conj depth here pred rest c) s = (conj_told columns depth here pred rest c s).told
  pred_told columns _ _ _ _ (of_or depth here word next rest left right pred l is_or_word r is) s =
      let first : PredTold columns depth left word = pred_told columns depth here left word l s in
      let behind_word : SuitedNext kinds.Name (codes "or") next = next_suited kinds.Name (codes "or") word next first.others is_or_word in
      let second : ConjTold columns depth right rest = conj_told columns depth next right rest r behind_word.others in
      or_told columns depth left right pred rest is first.as_pred second.operand second.told.others

  conj_told : (columns : Side → List Column) (depth : ℕ) (here : List Lexeme) (pred : Pred) (rest : List Lexeme) → IsConj columns depth here pred rest → AreSuited here → ConjTold columns depth pred rest
  conj_told columns _ _ _ _ (of_unary depth here pred rest u) s = conj_of_unary columns depth pred rest (unary_told columns depth here pred rest u s)
  conj_told columns _ _ _ _ (of_and depth here word next rest left right pred l is_and_word r is) s =
      let first : ConjTold columns depth left word = conj_told columns depth here left word l s in
      let behind_word : SuitedNext kinds.Name (codes "and") next = next_suited kinds.Name (codes "and") word next first.told.others is_and_word in
      let second : UnaryTold columns depth right rest = unary_told columns depth next right rest r behind_word.others in
      and_told columns depth left right pred rest is first.operand second.operand second.told.others

  unary_told : (columns : Side → List Column) (depth : ℕ) (here : List Lexeme) (pred : Pred) (rest : List Lexeme) → IsUnary columns depth here pred rest → AreSuited here → UnaryTold columns depth pred rest
  unary_told columns _ _ _ _ (of_not depth here next rest inner pred lt is_not_word u is) s =
      let behind_word : SuitedNext kinds.Name (codes "not") next = next_suited kinds.Name (codes "not") here next s is_not_word in
      not_told columns depth inner pred rest lt is (unary_told columns (depth + 1) next inner rest u behind_word.others)
  unary_told columns _ _ _ _ (of_parens depth here next close rest pred lt is_open p is_close) s =
      let behind_open : SuitedNext kinds.Sign (codes "(") next = next_suited kinds.Sign (codes "(") here next s is_open in
      let inner : PredTold columns (depth + 1) pred close = pred_told columns (depth + 1) next pred close p behind_open.others in
      let behind_close : SuitedNext kinds.Sign (codes ")") rest = next_suited kinds.Sign (codes ")") close rest inner.others is_close in
      parens_told columns depth pred close rest lt inner behind_close.others
  unary_told columns _ _ _ _ (of_atom depth here pred rest a) s =
      let atom : AtomTold columns pred rest = atom_told columns here pred rest s a in
      unary_whole columns depth pred rest atom.no_or atom.no_and
      (λ at le. spelled_as (pred_text columns pred) (λ more rest h. h) (λ more here rest h a. of_atom at here pred rest a) atom.spelled) atom.others

-- The line of the condition, up to the end.

-- the end of the text
pub record IsLast (more : List ℕ) (rest : List Lexeme) : Type 0 where
  pub ends : EndsSum rest
  pub last : IsTrue (next_is kinds.Sign [] rest)

abbrev pub condition_line : (Side → List Column) → Pred → List ℕ
condition_line columns pred = codes "on " ++ pred_text columns pred ++ line_end

pub condition_spelled : (columns : Side → List Column) (here : List Lexeme) (pred : Pred) → AreSuited here → IsCondition columns here pred
    → Spelled IsLast (λ here rest. IsCondition columns here pred) (condition_line columns pred)
condition_spelled columns here pred s (of_pred first last is_on p is_last) =
    let behind_on : SuitedNext kinds.Name (codes "on") first = next_suited kinds.Name (codes "on") here first s is_on in
    let told : PredTold columns 0 pred last = pred_told columns 0 first pred last p behind_on.others in
    let whole = spelled_then {Behind = Anything} (codes "on ") (pred_text columns pred) (word_spelled (codes "on") refl) (told.as_pred 0 (omega arith)) (λ more rest mid b s. tt) in
    let line = blank_behind {Behind = EndsAtom} {More = IsLast} 10 _ refl (λ more rest h. record { breaks = refl; ends = h.ends }) whole in
    spelled_as {Behind = IsLast} (condition_line columns pred) (λ more rest h. h) (λ more here rest h s. of_pred s.0 rest s.1 s.2 h.last) line
