-- Reading a term: it is a column, a number or a text, or it has a first fault.
use Rattle.std.proofs.Common.{◌≡◌, inl, inr, ℕ, ◌<◌, true, false, cond, List, length, Option, Some, None, pos, neg_ℤ, codes, refl, sym, ap, subst, ◌∙◌, arith}
use Rattle.std.specs.Str.{bytes_eq}
use Rattle.std.proofs.lemmas.Bool.{false_from_ne_true}
use Rattle.hj_base.specs.declared.numbers.Side.{Side}
use Rattle.hj_base.specs.declared.numbers.Side.TheVariants as sides
use Rattle.hj_lex.proofs.Values.{same_doubled, same_value}
use Rattle.hj_lex.specs.Tokens.{quoted}
use Rattle.hj_lex.specs.declared.token.TokenKind.{TokenKind}
use Rattle.hj_lex.specs.declared.token.TokenKind.TheVariants as kinds
use Rattle.hj_query.specs.declared.fault.QueryFault.TheVariants as faults
use Rattle.hj_query.specs.declared.fault.Wanted.TheVariants as wants
use Rattle.hj_query.specs.declared.sum.Term.{Term}
use Rattle.hj_query.specs.declared.sum.Term.TheVariants as terms
use Rattle.hj_value.specs.declared.column.Column.{Column}
use Rattle.hj_query.specs.Faults.{FaultsTerm, LacksTerm, no_column_name, no_digits, no_dot, no_term, unknown}
use Rattle.hj_query.specs.Grammar.{IsTerm, of_column, of_negative, of_number, of_text, place_of_name, side_word}
use Rattle.hj_query.specs.Lexemes.{Lexeme, behind, next_has, next_is, place, IsNextToken, IsNumber, IsText, IsWord}
use Rattle.hj_query.proofs.Lists.{next_shorter, is_has}
use Rattle.hj_query.proofs.Outcomes.{IsOne, Outcome, fault, one_by, read}
use Rattle.hj_query.proofs.Sequences.{Behind, Faults, Follows, Is, behind_one, faults_one, follows_one, front, front_by, front_is, is_one, tested, true_false}
use Rattle.hj_query.proofs.TokenOutcomes.{AreSuited, NameGives, NumberGives, SignGives, has_bytes, name_one, next_other, next_other_kind, next_same, number_one, sign_one, suited_next, suited_rest}

-- What a term begins with.

pub data Begin : Type 0 where
  by_side : Side → Begin
  by_number : Begin
  by_minus : Begin
  by_text : Begin
  by_nothing : Begin

abbrev choose_begin : TokenKind → List ℕ → Begin
choose_begin kinds.Name bytes = cond (bytes_eq bytes (codes "l")) (by_side sides.Left) (cond (bytes_eq bytes (codes "r")) (by_side sides.Right) by_nothing)
choose_begin kinds.Number bytes = by_number
choose_begin kinds.Text bytes = by_text
choose_begin kinds.Sign bytes = cond (bytes_eq bytes (codes "-")) by_minus by_nothing

abbrev begin_of : List Lexeme → Begin
begin_of here = front choose_begin by_nothing here

side_begins : (side : Side) (here : List Lexeme) → next_is kinds.Name (side_word side) here ≡ true → begin_of here ≡ by_side side
side_begins sides.Left here h = front_is choose_begin by_nothing kinds.Name (codes "l") here h
side_begins sides.Right here h = front_is choose_begin by_nothing kinds.Name (codes "r") here h

number_begins : (here : List Lexeme) → next_has kinds.Number here ≡ true → begin_of here ≡ by_number
number_begins here h = let p = has_bytes kinds.Number here h in front_is choose_begin by_nothing kinds.Number p.0 here p.1.found

minus_begins : (here : List Lexeme) → next_is kinds.Sign (codes "-") here ≡ true → begin_of here ≡ by_minus
minus_begins here h = front_is choose_begin by_nothing kinds.Sign (codes "-") here h

text_begins : (here : List Lexeme) → next_has kinds.Text here ≡ true → begin_of here ≡ by_text
text_begins here h = let p = has_bytes kinds.Text here h in front_is choose_begin by_nothing kinds.Text p.0 here p.1.found

-- what a begin says of the tokens
abbrev Begins : Begin → List Lexeme → Type 0
Begins (by_side side) here = next_is kinds.Name (side_word side) here ≡ true
Begins by_number here = next_has kinds.Number here ≡ true
Begins by_minus here = next_is kinds.Sign (codes "-") here ≡ true
Begins by_text here = next_has kinds.Text here ≡ true
Begins by_nothing here = Unit {0}

begins : (here : List Lexeme) → Begins (begin_of here) here
begins = front_by choose_begin by_nothing Begins tt some
  where
    some : (kind : TokenKind) (bytes : List ℕ) (here : List Lexeme) → IsNextToken kind bytes here (behind here) → Begins (choose_begin kind bytes) here
    some kinds.Name bytes here n =
        tested Begins kinds.Name (codes "l") bytes here (by_side sides.Left) _ n (λ h. h) (tested Begins kinds.Name (codes "r") bytes here (by_side sides.Right) by_nothing n (λ h. h) tt)
    some kinds.Number bytes here n = is_has kinds.Number bytes here n.found
    some kinds.Text bytes here n = is_has kinds.Text bytes here n.found
    some kinds.Sign bytes here n = tested Begins kinds.Sign (codes "-") bytes here by_minus by_nothing n (λ h. h) tt

begin_found : (begin : Begin) (here : List Lexeme) → begin_of here ≡ begin → Begins begin here
begin_found begin here e = subst (λ (b : Begin). Begins b here) e (begins here)

lacks_term : (here : List Lexeme) → begin_of here ≡ by_nothing → LacksTerm here
lacks_term here e = record {
  no_side = λ side. false_from_ne_true _ (λ h. let f = side_begins side here h in absurd (cc));
  no_number = false_from_ne_true _ (λ h. let f = number_begins here h in absurd (cc));
  no_minus = false_from_ne_true _ (λ h. let f = minus_begins here h in absurd (cc));
  no_text = false_from_ne_true _ (λ h. let f = text_begins here h in absurd (cc));
}

lacking_term : (here : List Lexeme) → LacksTerm here → begin_of here ≡ by_nothing
lacking_term here l = decided (begin_of here) (begins here)
  where
    decided : (begin : Begin) → Begins begin here → begin ≡ by_nothing
    decided (by_side side) h = absurd (true_false _ h (l.no_side side))
    decided by_number h = absurd (true_false _ h l.no_number)
    decided by_minus h = absurd (true_false _ h l.no_minus)
    decided by_text h = absurd (true_false _ h l.no_text)
    decided by_nothing h = refl

-- A term by its begin.

module _ (columns : Side → List Column) where
  -- the column with a name
  abbrev ColumnGives : Side → List ℕ → List Lexeme → List Lexeme → Outcome Term → Type 0
  ColumnGives side bytes name here (read term rest) = (at : ℕ) × (place_of_name bytes (columns side) ≡ Some at) × (term ≡ terms.Column side at) × (rest ≡ here)
  ColumnGives side bytes name here (fault found) = (place_of_name bytes (columns side) ≡ None) × (found ≡ faults.UnknownColumn (place name))

  column_decided : (side : Side) (bytes : List ℕ) (name here : List Lexeme) (at : Option ℕ) → place_of_name bytes (columns side) ≡ at → IsOne (ColumnGives side bytes name here)
  column_decided side bytes name here None e =
      one_by (Faults (faults.UnknownColumn (place name))) (ColumnGives side bytes name here) to from (faults_one (faults.UnknownColumn (place name)))
    where
      to : (o : Outcome Term) → Faults (faults.UnknownColumn (place name)) o → ColumnGives side bytes name here o
      to (read term rest) h = absurd h
      to (fault found) h = (e, h)

      from : (o : Outcome Term) → ColumnGives side bytes name here o → Faults (faults.UnknownColumn (place name)) o
      from (read term rest) h = let f : place_of_name bytes (columns side) ≡ Some h.0 = h.1 in absurd (cc)
      from (fault found) h = h.1
  column_decided side bytes name here (Some at) e = one_by (Is (terms.Column side at) here) (ColumnGives side bytes name here) to from (is_one (terms.Column side at) here)
    where
      to : (o : Outcome Term) → Is (terms.Column side at) here o → ColumnGives side bytes name here o
      to (read term rest) h = (at, e, h.0, h.1)
      to (fault found) h = absurd h

      from : (o : Outcome Term) → ColumnGives side bytes name here o → Is (terms.Column side at) here o
      from (read term rest) h =
          let f : place_of_name bytes (columns side) ≡ Some h.0 = h.1 in
          let same : h.0 ≡ at = cc in
          (h.2 ∙ ap (λ (k : ℕ). terms.Column side k) same, h.3)
      from (fault found) h = let f : place_of_name bytes (columns side) ≡ None = h.0 in absurd (cc)

  column_one : (side : Side) (bytes : List ℕ) (name here : List Lexeme) → IsOne (ColumnGives side bytes name here)
  column_one side bytes name here = column_decided side bytes name here (place_of_name bytes (columns side)) refl

  -- the name of a column, behind a dot
  abbrev NamedGives : Side → List Lexeme → Outcome Term → Type 0
  NamedGives side name = Follows (NameGives wants.ColumnName name) (λ bytes here. ColumnGives side bytes name here)

  abbrev DottedGives : Side → List Lexeme → Outcome Term → Type 0
  DottedGives side dot = Follows (SignGives (codes ".") wants.Dot dot) (λ token name. NamedGives side name)

  dotted_one : (side : Side) (dot : List Lexeme) → IsOne (DottedGives side dot)
  dotted_one side dot =
      follows_one (SignGives (codes ".") wants.Dot dot) (λ token name. NamedGives side name) (sign_one (codes ".") wants.Dot dot)
      (λ token name s. follows_one (NameGives wants.ColumnName name) (λ bytes here. ColumnGives side bytes name here) (name_one wants.ColumnName name)
      (λ bytes here n. column_one side bytes name here))

-- a number, and what it stands for
abbrev SignedGives : (ℕ → Term) → List Lexeme → Outcome Term → Type 0
SignedGives signed here = Follows (NumberGives wants.Number here) (λ value rest. Is (signed value) rest)

signed_one : (signed : ℕ → Term) (here : List Lexeme) → IsOne (SignedGives signed here)
signed_one signed here =
    follows_one (NumberGives wants.Number here) (λ value rest. Is (signed value) rest) (number_one wants.Number here) (λ value rest n. is_one (signed value) rest)

-- a text
abbrev QuotedGives : List Lexeme → Outcome Term → Type 0
QuotedGives here (read term rest) = (value : List ℕ) × IsText value here rest × (term ≡ terms.Text value)
QuotedGives here (fault found) = ⊥

same_text : (value other : List ℕ) (here rest more : List Lexeme) → IsText value here rest → IsText other here more → other ≡ value
same_text value other here rest more t u =
    let same : quoted other ≡ quoted value = (next_same kinds.Text kinds.Text (quoted value) (quoted other) here t.found u.found).1 in
    same_value other value (same_doubled (quoted other) other value refl same)

text_found : (bytes value : List ℕ) (here : List Lexeme) → bytes ≡ quoted value → IsNextToken kinds.Text bytes here (behind here) → IsText value here (behind here)
text_found bytes value here e n = subst (λ b. IsNextToken kinds.Text b here (behind here)) e n

quoted_one : (here : List Lexeme) → next_has kinds.Text here ≡ true → AreSuited here → IsOne (QuotedGives here)
quoted_one here h suited =
    let p = has_bytes kinds.Text here h in
    let s = suited_next kinds.Text p.0 here (behind here) p.1 suited in
    let t = text_found p.0 s.0 here s.1 p.1 in
    record { value = read (terms.Text s.0) (behind here); gives = (s.0, t, refl); only = only s.0 t }
  where
    only : (value : List ℕ) → IsText value here (behind here) → (other : Outcome Term) → QuotedGives here other → other ≡ read (terms.Text value) (behind here)
    only value t (read term rest) u =
        ap (λ (r : List Lexeme). read term r) u.1.left
        ∙ ap (λ (a : Term). read a (behind here)) (u.2 ∙ ap (λ (v : List ℕ). terms.Text v) (same_text value u.0 here (behind here) rest t u.1))
    only value t (fault found) u = absurd u

not_side : (side : Side) → bytes_eq (codes "not") (side_word side) ≡ false
not_side sides.Left = refl
not_side sides.Right = refl

module _ (columns : Side → List Column) where
  abbrev BegunGives : Begin → List Lexeme → Outcome Term → Type 0
  BegunGives (by_side side) here = Behind kinds.Name (side_word side) here (λ dot. DottedGives columns side dot)
  BegunGives by_number here = SignedGives (λ value. terms.Number (pos value)) here
  BegunGives by_minus here = Behind kinds.Sign (codes "-") here (λ digits. SignedGives (λ value. terms.Number (neg_ℤ (pos value))) digits)
  BegunGives by_text here = QuotedGives here
  BegunGives by_nothing here = Faults (faults.Expected wants.Term (place here))

  begun_one : (begin : Begin) (here : List Lexeme) → Begins begin here → AreSuited here → IsOne (BegunGives begin here)
  begun_one (by_side side) here h suited = behind_one kinds.Name (side_word side) here (λ dot. DottedGives columns side dot) h (λ dot n. dotted_one columns side dot)
  begun_one by_number here h suited = signed_one (λ value. terms.Number (pos value)) here
  begun_one by_minus here h suited =
      behind_one kinds.Sign (codes "-") here (λ digits. SignedGives (λ value. terms.Number (neg_ℤ (pos value))) digits) h
      (λ digits n. signed_one (λ value. terms.Number (neg_ℤ (pos value))) digits)
  begun_one by_text here h suited = quoted_one here h suited
  begun_one by_nothing here h suited = faults_one (faults.Expected wants.Term (place here))

  -- a term, or its first fault
  abbrev pub TermGives : List Lexeme → Outcome Term → Type 0
  TermGives here (read term rest) = IsTerm columns here term rest
  TermGives here (fault found) = FaultsTerm columns here found

  to_term : (begin : Begin) (here : List Lexeme) → begin_of here ≡ begin → (o : Outcome Term) → BegunGives begin here o → TermGives here o
  to_term (by_side side) here e (read term rest) (dot, w, (token, name, s, (bytes, next, n, (at, known, same, left)))) =
      of_column side at bytes dot name w s (subst (λ r. IsWord bytes name r) (sym left) n) known same
  to_term (by_side side) here e (fault found) (dot, w, inl (lacks, same)) = no_dot side dot w lacks same
  to_term (by_side side) here e (fault found) (dot, w, inr (token, name, s, inl (lacks, same))) = no_column_name side dot name w s lacks same
  to_term (by_side side) here e (fault found) (dot, w, inr (token, name, s, inr (bytes, next, n, (known, same)))) = unknown side bytes dot name next w s n known same
  to_term by_number here e (read term rest) (value, next, n, (same, left)) = of_number value (subst (λ r. IsNumber value here r) (sym left) n) same
  to_term by_number here e (fault found) (inl (lacks, same)) = absurd (true_false _ (begin_found by_number here e) lacks)
  to_term by_number here e (fault found) (inr (value, next, n, h)) = absurd h
  to_term by_minus here e (read term rest) (digits, m, (value, next, n, (same, left))) = of_negative value digits m (subst (λ r. IsNumber value digits r) (sym left) n) same
  to_term by_minus here e (fault found) (digits, m, inl (lacks, same)) = no_digits digits m lacks same
  to_term by_minus here e (fault found) (digits, m, inr (value, next, n, h)) = absurd h
  to_term by_text here e (read term rest) (value, t, same) = of_text value t same
  to_term by_text here e (fault found) h = absurd h
  to_term by_nothing here e (read term rest) h = absurd h
  to_term by_nothing here e (fault found) h = no_term (lacks_term here e) h

  -- the begin of what was read
  begun : (begin : Begin) (here : List Lexeme) (o : Outcome Term) → begin_of here ≡ begin → BegunGives begin here o → BegunGives (begin_of here) here o
  begun begin here o e h = subst (λ (b : Begin). BegunGives b here o) (sym e) h

  from_term : (here : List Lexeme) (o : Outcome Term) → TermGives here o → BegunGives (begin_of here) here o
  from_term here (read term rest) (of_column side at bytes dot name w s n known same) =
      begun (by_side side) here (read term rest) (side_begins side here w.found) (dot, w, (tt, name, s, (bytes, rest, n, (at, known, same, refl))))
  from_term here (read term rest) (of_number value n same) = begun by_number here (read term rest) (number_begins here (is_has _ _ here n.found.found)) (value, rest, n, (same, refl))
  from_term here (read term rest) (of_negative value digits m n same) =
      begun by_minus here (read term rest) (minus_begins here m.found) (digits, m, (value, rest, n, (same, refl)))
  from_term here (read term rest) (of_text value t same) = begun by_text here (read term rest) (text_begins here (is_has _ _ here t.found)) (value, t, same)
  from_term here (fault found) (no_term lacks same) = begun by_nothing here (fault found) (lacking_term here lacks) same
  from_term here (fault found) (no_dot side dot w lacks same) = begun (by_side side) here (fault found) (side_begins side here w.found) (dot, w, inl (lacks, same))
  from_term here (fault found) (no_column_name side dot name w s lacks same) =
      begun (by_side side) here (fault found) (side_begins side here w.found) (dot, w, inr (tt, name, s, inl (lacks, same)))
  from_term here (fault found) (unknown side bytes dot name rest w s n known same) =
      begun (by_side side) here (fault found) (side_begins side here w.found) (dot, w, inr (tt, name, s, inr (bytes, rest, n, (known, same))))
  from_term here (fault found) (no_digits digits m lacks same) = begun by_minus here (fault found) (minus_begins here m.found) (digits, m, inl (lacks, same))

  pub term_one : (here : List Lexeme) → AreSuited here → IsOne (TermGives here)
  term_one here suited =
      one_by (BegunGives (begin_of here) here) (TermGives here) (λ o h. to_term (begin_of here) here refl o h) (λ o h. from_term here o h)
      (begun_one (begin_of here) here (begins here) suited)

  -- what a term leaves

  pub term_rest : (here rest : List Lexeme) (term : Term) → IsTerm columns here term rest → AreSuited here → AreSuited rest
  term_rest here rest term (of_column side at bytes dot name w s n known same) suited =
      suited_rest _ _ name rest n (suited_rest _ _ dot name s (suited_rest _ _ here dot w suited))
  term_rest here rest term (of_number value n same) suited = suited_rest _ _ here rest n.found suited
  term_rest here rest term (of_negative value digits m n same) suited = suited_rest _ _ digits rest n.found (suited_rest _ _ here digits m suited)
  term_rest here rest term (of_text value t same) suited = suited_rest _ _ here rest t suited

  pub term_shorter : (here rest : List Lexeme) (term : Term) → IsTerm columns here term rest → length rest < length here
  term_shorter here rest term (of_column side at bytes dot name w s n known same) =
      omega (arith, next_shorter _ _ here dot w, next_shorter _ _ dot name s, next_shorter _ _ name rest n)
  term_shorter here rest term (of_number value n same) = next_shorter _ _ here rest n.found
  term_shorter here rest term (of_negative value digits m n same) = omega (arith, next_shorter _ _ here digits m, next_shorter _ _ digits rest n.found)
  term_shorter here rest term (of_text value t same) = next_shorter _ _ here rest t

  -- no `not` and no `(` begins a term
  pub term_front : (here rest : List Lexeme) (term : Term) → IsTerm columns here term rest → (next_is kinds.Name (codes "not") here ≡ false) × (next_is kinds.Sign (codes "(") here ≡ false)
  term_front here rest term (of_column side at bytes dot name w s n known same) =
      (next_other _ _ (codes "not") here dot w (not_side side), next_other_kind _ kinds.Sign _ (codes "(") here dot w refl)
  term_front here rest term (of_number value n same) =
      (next_other_kind _ kinds.Name _ (codes "not") here rest n.found refl, next_other_kind _ kinds.Sign _ (codes "(") here rest n.found refl)
  term_front here rest term (of_negative value digits m n same) =
      (next_other_kind _ kinds.Name _ (codes "not") here digits m refl, next_other _ _ (codes "(") here digits m refl)
  term_front here rest term (of_text value t same) =
      (next_other_kind _ kinds.Name _ (codes "not") here rest t refl, next_other_kind _ kinds.Sign _ (codes "(") here rest t refl)
